-- Evacuations of a small machine's block, worked out by hand.
use Rattle.std.specs.Prelude.{◌≡◌, ℕ, true, false, List, [], ◌∷◌, ◌++◌, replicate, None, Some}
use Rattle.evac_model.specs.declared.names.BlockNo.{BlockNo}
use Rattle.evac_model.specs.declared.names.FrameNo.{FrameNo}
use Rattle.evac_model.specs.declared.names.PageNo.{PageNo}
use Rattle.evac_model.specs.declared.evacuation.MoveLease.{MoveLease}
use Rattle.evac_model.specs.declared.evacuation.EvacCause.{EvacCause}
use Rattle.evac_model.specs.declared.evacuation.EvacCause.TheVariants as cause
use Rattle.evac_model.specs.Examples.{small}
use Rattle.evacuate.specs.declared.action.EvacAction.{EvacAction}
use Rattle.evacuate.specs.declared.action.EvacAction.TheVariants.{Isolate, Lease, Move, GiveBack, Undo, Emptied, Failed}
use Rattle.evacuate.specs.declared.seen.EvacSeen.{EvacSeen}
use Rattle.evacuate.specs.declared.seen.EvacSeen.TheVariants.{Start, Isolated, Refused, Leased, NoneLeft, NoTarget, Moved, Found, Done}
use Rattle.evacuate.specs.declared.stage.Attempt.{Attempt}
use Rattle.evacuate.specs.declared.stage.Stage.TheVariants as stage
use Rattle.evacuate.specs.Found.{is_busy, is_pinned}
use Rattle.evacuate.specs.Tale.{Tale, Exchange, IsRound}
use Rattle.evacuate.specs.Causes.{AreFound, IsCauseMet}
use Rattle.evacuate.specs.Evacuating.{Evacuating, action_of, evacuation_after}
use Rattle.evacuate.specs.UnderWay.{log_at}

-- block 3, with the frames 20 to 23, before its evacuation
abbrev pub block_3 : BlockNo
block_3 = record { 0 = 3 }

abbrev pub before_evacuation : Evacuating
before_evacuation = record { sizes = small; block = block_3; stage = stage.Isolating; round = 0; busy = None; words = replicate 4 (replicate 5 0) }

-- the actions that these answers get, one after another
abbrev pub actions_told : Evacuating → List EvacSeen → List EvacAction
actions_told st [] = []
actions_told st (told ∷ more) = action_of (evacuation_after st told) ∷ actions_told (evacuation_after st told) more

abbrev pub actions : List EvacSeen → List EvacAction
actions told = actions_told before_evacuation told

abbrev pub frame_no : ℕ → FrameNo
frame_no frame = record { 0 = frame }

abbrev pub page_no : ℕ → PageNo
page_no page = record { 0 = page }

abbrev pub lease_of : (from page target : ℕ) → MoveLease
lease_of from page target = record { from = frame_no from; page = page_no page; target = frame_no target }

-- page 0 lies in frame 20 and may move to frame 0; page 5 in frame 22, to frame 1
abbrev pub page_0 : MoveLease
page_0 = lease_of 20 0 0

abbrev pub page_5 : MoveLease
page_5 = lease_of 22 5 1

abbrev pub lease_behind : ℕ → EvacAction
lease_behind frame = Lease block_3 (Some (frame_no frame))

abbrev pub give_back : ℕ → EvacAction
give_back frame = GiveBack (frame_no frame)

-- a round in which page 0 was busy, with that word
abbrev pub busy_round : ℕ → List EvacSeen
busy_round word = Leased page_0 ∷ Found word ∷ Done ∷ NoneLeft ∷ []

abbrev pub busy_actions : List EvacAction
busy_actions = Move page_0 ∷ give_back 0 ∷ lease_behind 20 ∷ []

-- and behind them the next round begins
abbrev pub repeated : List EvacAction
repeated = busy_actions ++ Lease block_3 None ∷ []

abbrev pub found_busy : ℕ → Attempt
found_busy word = record { lease = page_0; found = Some word }

-- page 0 was busy in a round, and moved in the next one
abbrev pub moved_later : Tale
moved_later = record { rounds = (found_busy 20485 ∷ []) ∷ []; attempts = record { lease = page_0; found = None } ∷ [] }

-- page 5 was busy behind page 0
abbrev pub both_busy : ℕ → List Attempt
both_busy word = record { lease = page_5; found = Some 1 } ∷ found_busy word ∷ []

-- both pages were busy in each of five rounds
abbrev pub five_rounds : Tale
five_rounds = record { rounds = both_busy 1 ∷ both_busy 16388 ∷ both_busy 0 ∷ both_busy 20485 ∷ []; attempts = both_busy 20487 }

abbrev pub IsMetAfterFive : EvacCause → Type 0
IsMetAfterFive why = IsCauseMet small block_3 five_rounds (log_at block_3 five_rounds (stage.Failed why)) why

abbrev pub exchange : EvacAction → EvacSeen → Exchange
exchange asked told = record { asked = asked; told = told }

pub record WordsOfFrame20 : Type 0 where
  pub taken : is_busy 20485 20 ≡ true
  pub unmapped : is_busy 0 20 ≡ true
  pub elsewhere : is_busy 16388 20 ≡ true
  pub movable : is_busy 20484 20 ≡ false
  pub with_a_pin : is_busy 1073762324 20 ≡ false
  pub pinned : is_pinned 1073762324 20 ≡ true
  pub without_pins : is_pinned 20484 20 ≡ false
  pub pinned_and_taken : is_pinned 1073762325 20 ≡ false
  pub unmovable : is_pinned 1073762332 20 ≡ false
  pub pinned_elsewhere : is_pinned 1073762324 21 ≡ false

pub record EvacuationsOfSmall : Type 0 where
  pub nothing_out : actions (Start ∷ Isolated ∷ NoneLeft ∷ []) ≡ Isolate block_3 ∷ Lease block_3 None ∷ Emptied ∷ []
  pub both_moved :
      actions (Start ∷ Isolated ∷ Leased page_0 ∷ Moved ∷ Done ∷ Leased page_5 ∷ Moved ∷ Done ∷ NoneLeft ∷ [])
      ≡ Isolate block_3 ∷ Lease block_3 None ∷ Move page_0 ∷ give_back 20 ∷ lease_behind 20 ∷ Move page_5
      ∷ give_back 22 ∷ lease_behind 22 ∷ Emptied ∷ []
  pub unmovable :
      actions (Start ∷ Refused (frame_no 21) (page_no 7) ∷ [])
      ≡ Isolate block_3 ∷ Failed (cause.Unmovable (frame_no 21) (page_no 7)) ∷ []
  pub pinned :
      actions (Start ∷ Isolated ∷ Leased page_0 ∷ Found 1073762324 ∷ Done ∷ Done ∷ [])
      ≡ Isolate block_3 ∷ Lease block_3 None ∷ Move page_0 ∷ give_back 0 ∷ Undo block_3
      ∷ Failed (cause.Pinned (frame_no 20) (page_no 0) 1073762324) ∷ []
  pub no_target :
      actions (Start ∷ Isolated ∷ Leased page_0 ∷ Moved ∷ Done ∷ NoTarget (frame_no 22) (page_no 5) 3 ∷ Done ∷ [])
      ≡ Isolate block_3 ∷ Lease block_3 None ∷ Move page_0 ∷ give_back 20 ∷ lease_behind 20 ∷ Undo block_3
      ∷ Failed (cause.NoTarget (frame_no 22) (page_no 5) 3) ∷ []
  pub five_busy_rounds :
      actions (Start ∷ Isolated ∷ (busy_round 20485 ++ busy_round 0 ++ busy_round 16388 ++ busy_round 1 ++ busy_round 20487 ++ Done ∷ []))
      ≡ Isolate block_3 ∷ Lease block_3 None
      ∷ (repeated ++ repeated ++ repeated ++ repeated ++ busy_actions ++ Undo block_3
      ∷ Failed (cause.Busy (frame_no 20) (page_no 0) (20485 ∷ 0 ∷ 16388 ∷ 1 ∷ 20487 ∷ [])) ∷ [])
  pub freed_meanwhile :
      actions (Start ∷ Isolated ∷ (busy_round 20485 ++ NoneLeft ∷ []))
      ≡ Isolate block_3 ∷ Lease block_3 None ∷ (repeated ++ Emptied ∷ [])
  pub unanswered :
      actions (Moved ∷ Refused (frame_no 19) (page_no 7) ∷ Isolated ∷ Leased (lease_of 19 0 0) ∷ Leased page_5 ∷ Found 20484 ∷ Done ∷ [])
      ≡ Isolate block_3 ∷ Isolate block_3 ∷ Lease block_3 None ∷ Lease block_3 None ∷ Move page_5 ∷ give_back 1
      ∷ lease_behind 22 ∷ []
  pub falling :
      actions (Start ∷ Isolated ∷ Leased page_5 ∷ Moved ∷ Done ∷ Leased page_0 ∷ [])
      ≡ Isolate block_3 ∷ Lease block_3 None ∷ Move page_5 ∷ give_back 22 ∷ lease_behind 22 ∷ lease_behind 22 ∷ []

pub record TalesOfSmall : Type 0 where
  pub moved_later :
      log_at block_3 moved_later stage.Emptied
      ≡ exchange (Isolate block_3) Isolated
      ∷ exchange (Lease block_3 None) (Leased page_0) ∷ exchange (Move page_0) (Found 20485) ∷ exchange (give_back 0) Done
      ∷ exchange (lease_behind 20) NoneLeft
      ∷ exchange (Lease block_3 None) (Leased page_0) ∷ exchange (Move page_0) Moved ∷ exchange (give_back 20) Done
      ∷ exchange (lease_behind 20) NoneLeft ∷ []
  pub busy_in_five_rounds : IsMetAfterFive (cause.Busy (frame_no 20) (page_no 0) (20485 ∷ 0 ∷ 16388 ∷ 1 ∷ 20487 ∷ []))
  pub words_of_other_rounds : ¬ IsMetAfterFive (cause.Busy (frame_no 20) (page_no 0) (0 ∷ 20485 ∷ 16388 ∷ 1 ∷ 20487 ∷ []))
  pub not_the_first_busy_page : ¬ IsMetAfterFive (cause.Busy (frame_no 22) (page_no 5) (1 ∷ 1 ∷ 1 ∷ 1 ∷ 1 ∷ []))
  pub frame_of_another_block : ¬ IsMetAfterFive (cause.Busy (frame_no 24) (page_no 0) (20485 ∷ 0 ∷ 16388 ∷ 1 ∷ 20487 ∷ []))
  pub four_rounds_are_not_five :
      ¬ AreFound (frame_no 20) (page_no 0) ((found_busy 1 ∷ []) ∷ (found_busy 1 ∷ []) ∷ (found_busy 1 ∷ []) ∷ (found_busy 1 ∷ []) ∷ []) (1 ∷ 1 ∷ 1 ∷ 1 ∷ 1 ∷ [])
  pub a_free_page_is_not_busy : ¬ AreFound (frame_no 20) (page_no 0) ((found_busy 20484 ∷ []) ∷ []) (20484 ∷ [])
  pub a_round_without_busy_pages_is_none_of_them : ¬ IsRound small block_3 (record { lease = page_0; found = None } ∷ [])
