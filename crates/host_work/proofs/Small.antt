-- Evacuations of a small machine's blocks, as they went.
use Rattle.std.proofs.Common.{ℕ, List, [], ◌∷◌, ◌++◌, replicate, refl, arith, Option, None, Some}
use Rattle.evac_model.specs.declared.evacuation.EvacCause.{EvacCause}
use Rattle.evac_model.specs.declared.evacuation.MoveLease.{MoveLease}
use Rattle.evacuate.specs.declared.stage.Attempt.{Attempt}
use Rattle.evacuate.specs.Evacuating.{Evacuating}
use Rattle.evacuate.specs.Examples.{frame_no, page_no, lease_of, page_0, found_busy}
use Rattle.evacuate.specs.Tale.{nothing_tried, IsRound, WasBusy, WasFound}
use Rattle.host_work.specs.Evacuated.{end_by, WasEvacuated}
use Rattle.host_work.specs.Examples.{plugged_machine, isolate, undo, attempt, pinned, pinned_in_1, no_target, busy, unmovable}
use Rattle.host_work.specs.Requests.{block_no}

-- an evacuation that stands at its end
abbrev pub ended : (block : ℕ) → (round : ℕ) → Option MoveLease → (words : List (List ℕ)) → Option EvacCause → Evacuating
ended block round first words cause =
    record { sizes = plugged_machine; block = block_no block; stage = end_by cause; round = round; busy = first; words = words }

abbrev pub no_words : List (List ℕ)
no_words = replicate 4 (replicate 5 0)

-- page 0 was found busy by the same word in each round
abbrev pub five_words : List (List ℕ)
five_words = replicate 5 20485 ∷ replicate 3 (replicate 5 0)

-- ---- emptied

-- nothing was out
pub empty : (block : ℕ) → WasEvacuated plugged_machine (block_no block) None (isolate block ∷ [])
empty block = record {
  evacuation = ended block 0 None no_words None;
  tale = nothing_tried;
  sizes = refl;
  block = refl;
  ended = refl;
  goes_by = record {
    frames = omega arith;
    places = (refl, (refl, (refl, (refl, tt))));
    few = omega arith;
    counted = refl;
    rounds = tt;
    in_order = tt;
    busy_before = tt;
    stands = tt;
  };
  made = refl;
}

-- page 0 was moved
abbrev pub moved : WasEvacuated plugged_machine (block_no 3) None (isolate 3 ∷ attempt 20)
moved = record {
  evacuation = ended 3 0 None no_words None;
  tale = record { rounds = []; attempts = record { lease = page_0; found = None } ∷ [] };
  sizes = refl;
  block = refl;
  ended = refl;
  goes_by = record {
    frames = omega arith;
    places = (refl, (refl, (refl, (refl, tt))));
    few = omega arith;
    counted = refl;
    rounds = tt;
    in_order = (refl, tt);
    busy_before = tt;
    stands = (refl, tt);
  };
  made = refl;
}

-- ---- failed

-- page 0 was found pinned
abbrev pub pinned_found : WasEvacuated plugged_machine (block_no 3) (Some pinned) (isolate 3 ∷ (attempt 0 ++ undo 3 ∷ []))
pinned_found = record {
  evacuation = ended 3 0 None no_words (Some pinned);
  tale = record { rounds = []; attempts = record { lease = page_0; found = Some 1073762324 } ∷ [] };
  sizes = refl;
  block = refl;
  ended = refl;
  goes_by = record {
    frames = omega arith;
    places = (refl, (refl, (refl, (refl, tt))));
    few = omega arith;
    counted = refl;
    rounds = tt;
    in_order = (refl, tt);
    busy_before = tt;
    stands = record {
      in_block = refl;
      found = record { target = frame_no 0; told = (2, omega arith, refl); pinned = refl; before = []; newest = refl; at_once = tt };
    };
  };
  made = refl;
}

-- the same in block 1
pub pinned_in_block_1 : WasEvacuated plugged_machine (block_no 1) (Some pinned_in_1) (isolate 1 ∷ (attempt 0 ++ undo 1 ∷ []))
pinned_in_block_1 = record {
  evacuation = ended 1 0 None no_words (Some pinned_in_1);
  tale = record { rounds = []; attempts = record { lease = lease_of 12 0 0; found = Some 1073754132 } ∷ [] };
  sizes = refl;
  block = refl;
  ended = refl;
  goes_by = record {
    frames = omega arith;
    places = (refl, (refl, (refl, (refl, tt))));
    few = omega arith;
    counted = refl;
    rounds = tt;
    in_order = (refl, tt);
    busy_before = tt;
    stands = record {
      in_block = refl;
      found = record { target = frame_no 0; told = (2, omega arith, refl); pinned = refl; before = []; newest = refl; at_once = tt };
    };
  };
  made = refl;
}

-- there was no target for page 0
pub without_target : WasEvacuated plugged_machine (block_no 3) (Some no_target) (isolate 3 ∷ undo 3 ∷ [])
without_target = record {
  evacuation = ended 3 0 None no_words (Some no_target);
  tale = nothing_tried;
  sizes = refl;
  block = refl;
  ended = refl;
  goes_by = record {
    frames = omega arith;
    places = (refl, (refl, (refl, (refl, tt))));
    few = omega arith;
    counted = refl;
    rounds = tt;
    in_order = tt;
    busy_before = tt;
    stands = record { in_block = refl; found = record { after = None; told = (1, omega arith, refl); at_once = tt } };
  };
  made = refl;
}

-- the isolation was refused
abbrev pub refused : WasEvacuated plugged_machine (block_no 2) (Some unmovable) []
refused = record {
  evacuation = ended 2 0 None no_words (Some unmovable);
  tale = nothing_tried;
  sizes = refl;
  block = refl;
  ended = refl;
  goes_by = record {
    frames = omega arith;
    places = (refl, (refl, (refl, (refl, tt))));
    few = omega arith;
    counted = refl;
    rounds = tt;
    in_order = tt;
    busy_before = tt;
    stands = record { in_block = refl; found = record { told = (0, omega arith, refl) } };
  };
  made = refl;
}

-- a round in which page 0 was busy
abbrev pub busy_round : List Attempt
busy_round = found_busy 20485 ∷ []

pub found_again : WasFound busy_round (frame_no 20) (page_no 0) 20485
found_again = record { target = frame_no 0; there = (0, omega arith, refl) }

pub busy_again : WasBusy busy_round (frame_no 20) (page_no 0)
busy_again = (20485, found_again)

pub one_round : IsRound plugged_machine (block_no 3) busy_round
one_round = record { in_order = (refl, tt); moved_or_busy = (refl, tt); one_busy = refl }

abbrev pub busy_in_five : WasEvacuated plugged_machine (block_no 3) (Some busy) (isolate 3 ∷ (attempt 0 ++ (attempt 0 ++ (attempt 0 ++ (attempt 0 ++ (attempt 0 ++ undo 3 ∷ []))))))
busy_in_five = record {
  evacuation = ended 3 4 (Some page_0) five_words (Some busy);
  tale = record { rounds = busy_round ∷ busy_round ∷ busy_round ∷ busy_round ∷ []; attempts = busy_round };
  sizes = refl;
  block = refl;
  ended = refl;
  goes_by = record {
    frames = omega arith;
    places = (refl, (refl, (refl, (refl, tt))));
    few = omega arith;
    counted = refl;
    rounds = (one_round, (one_round, (one_round, (one_round, tt))));
    in_order = (refl, tt);
    busy_before = ((busy_again, tt), ((busy_again, tt), ((busy_again, tt), ((busy_again, tt), tt))));
    stands = record {
      in_block = refl;
      found = record {
        target = frame_no 0;
        first = refl;
        five = refl;
        found = (found_again, refl, (found_again, refl, (found_again, refl, (found_again, refl, (found_again, refl, tt)))));
        round_over = (refl, tt);
      };
    };
  };
  made = refl;
}
