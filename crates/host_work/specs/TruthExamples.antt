-- Evacuations of a small machine of which all that they were told is true, and some of which it isn't, worked out by hand.
use Rattle.std.specs.Prelude.{◌≡◌, ℕ, List, [], ◌∷◌, ◌++◌, length, map, replicate, slice_get, None, Some}
use Rattle.evac_model.specs.declared.call.Call.TheVariants.{Pin, Unpin}
use Rattle.evac_model.specs.declared.entry.Entry.{Entry}
use Rattle.evac_model.specs.declared.evacuation.EvacCause.{EvacCause}
use Rattle.evac_model.specs.declared.evacuation.EvacCause.TheVariants as cause
use Rattle.evac_model.specs.declared.names.Kind.{Kind}
use Rattle.evac_model.specs.declared.names.Kind.TheVariants.{Movable, Unmovable}
use Rattle.evac_model.specs.declared.reply.Reply.TheVariants.{Done}
use Rattle.evac_model.specs.declared.scenario.StartPage.{StartPage}
use Rattle.evac_model.specs.declared.space.SpaceAction.{SpaceAction}
use Rattle.evac_model.specs.declared.space.SpaceAction.TheVariants.{MoveLease, Return}
use Rattle.evac_model.specs.PairingExamples.{entry, start_page, full, full_start}
use Rattle.evac_model.specs.SpaceJournal.{space_at_start}
use Rattle.evac_model.specs.State.{start_state}
use Rattle.evacuate.specs.declared.stage.Attempt.{Attempt}
use Rattle.evacuate.specs.Examples.{frame_no, page_no, lease_of, found_busy}
use Rattle.host_work.specs.Examples.{plugged_machine, isolate, undo, offline, online, attempt, pinned, no_target, busy, unmovable}
use Rattle.host_work.specs.FoundWords.{AreWordsOf}
use Rattle.host_work.specs.Requests.{block_no}
use Rattle.host_work.specs.Truth.{SpaceRun, Finds, IsCauseTrue, AreTrueRounds, EndedThere, by_truth}

-- page 0 lies in frame 20, of block 3, and page 7, of that kind, in frame 16, of block 2
abbrev pub start_with : Kind → List StartPage
start_with kind = start_page 0 20 Movable ∷ start_page 7 16 kind ∷ []

-- the frame space began with that, and this is its journal
abbrev pub run_with : Kind → List SpaceAction → SpaceRun
run_with kind journal = record { sizes = plugged_machine; online = Unmovable; start = space_at_start plugged_machine (start_with kind); journal = journal }

-- owner 1 pins page 0, and takes the pin away
abbrev pub pin_and_unpin : List Entry
pin_and_unpin = entry 0 1 0 0 Pin Done ∷ entry 1 1 1 0 Unpin Done ∷ []

-- what those entries say of a word, whichever take found it
abbrev pub word_of_calls : Finds
word_of_calls = AreWordsOf plugged_machine (start_state 2 (start_with Unmovable)) pin_and_unpin

-- whatever the first take found, and nothing else
abbrev pub first_take : Finds
first_take number page word = number ≡ 0

-- each take found the word at its place, for page 0
abbrev pub found_by : (words : List ℕ) → Finds
found_by words number page word = (page ≡ page_no 0) × (slice_get words number ≡ Some word)

-- ---- what was done

-- block 3 couldn't be emptied, since page 0 was pinned
abbrev pub one_attempt : List SpaceAction
one_attempt = isolate 3 ∷ (attempt 0 ++ undo 3 ∷ [])

-- or since it was busy in each of five rounds
abbrev pub five_attempts : List SpaceAction
five_attempts = isolate 3 ∷ (attempt 0 ++ (attempt 0 ++ (attempt 0 ++ (attempt 0 ++ (attempt 0 ++ undo 3 ∷ [])))))

-- or since there was no target, and nothing was leased
abbrev pub not_leased : List SpaceAction
not_leased = isolate 3 ∷ undo 3 ∷ []

-- block 3 was emptied, and page 0 moved to frame 0
abbrev pub block_3_emptied : List SpaceAction
block_3_emptied = isolate 3 ∷ (attempt 20 ++ offline 3 ∷ [])

-- the evacuation of block 3 was all that the frame space saw, and the cause is true of it
abbrev pub IsTrueBy : List SpaceAction → EvacCause → Type 0
IsTrueBy journal cause = IsCauseTrue (run_with Unmovable journal) word_of_calls [] (block_no 3) journal cause

-- behind that of block 3 block 2 couldn't be isolated, with a page 7 of that kind, and block 3 was put online again
abbrev pub run_of_two : Kind → SpaceRun
run_of_two kind = run_with kind (block_3_emptied ++ online 3 ∷ [])

-- a machine of two frames that are both out: block 0 has frame 1 alone, with page 1
abbrev pub full_actions : List SpaceAction
full_actions = isolate 0 ∷ undo 0 ∷ []

abbrev pub full_run : SpaceRun
full_run = record { sizes = full; online = Movable; start = space_at_start full full_start; journal = full_actions }

-- ---- causes

-- there was no target for page 1 behind so many actions
abbrev pub no_target_in_full : ℕ → EvacCause
no_target_in_full at = cause.NoTarget (frame_no 1) (page_no 1) at

-- page 0 was pinned in that frame, by that word
abbrev pub pinned_by : (frame word : ℕ) → EvacCause
pinned_by frame word = cause.Pinned (frame_no frame) (page_no 0) word

-- page 0 was busy, by those words
abbrev pub busy_by : List ℕ → EvacCause
busy_by words = cause.Busy (frame_no 20) (page_no 0) words

-- taken, and with bound 0, as the words of `busy` are; the same with bound 1, which the pin made; and with bound 2, which the
-- unpin made, the last call
abbrev pub taken_at_first : ℕ
taken_at_first = 20485

abbrev pub taken_behind_pin : ℕ
taken_behind_pin = 1073762309

abbrev pub taken_behind_all : ℕ
taken_behind_all = 2147504133

-- that of `pinned`, which has a pin and bound 1
abbrev pub pinned_behind_pin : ℕ
pinned_behind_pin = 1073762324

-- with bound 0 and a pin
abbrev pub pinned_at_first : ℕ
pinned_at_first = 20500

-- the same in frame 21
abbrev pub pinned_in_21 : ℕ
pinned_in_21 = 1073763348

-- ---- attempts

-- five words, taken all, with the bounds 0 to 2
abbrev pub five_words : List ℕ
five_words = taken_at_first ∷ taken_at_first ∷ taken_behind_pin ∷ taken_behind_pin ∷ taken_behind_all ∷ []

abbrev pub newest_first : List ℕ
newest_first = taken_behind_all ∷ taken_behind_pin ∷ taken_behind_pin ∷ taken_at_first ∷ taken_at_first ∷ []

-- the take of the third round found the word with bound 1
abbrev pub another_in_the_third : List ℕ
another_in_the_third = taken_behind_all ∷ taken_behind_pin ∷ taken_at_first ∷ taken_at_first ∷ taken_at_first ∷ []

-- page 0 was busy in each round, by those words
abbrev pub rounds_with : (words : List ℕ) → List (List Attempt)
rounds_with words = map (λ word. found_busy word ∷ []) words

-- a page was moved out of frame 20
abbrev pub round_moving : (page : ℕ) → List (List Attempt)
round_moving page = (record { lease = lease_of 20 page 0; found = None } ∷ []) ∷ []

-- page 0 was busy in a round, in that frame
abbrev pub busy_in : (frame word : ℕ) → List (List Attempt)
busy_in frame word = (record { lease = lease_of frame 0 0; found = Some word } ∷ []) ∷ []

-- block 3 was emptied of two pages: page 0 moved from frame 20 to frame 0, and then page 5 from frame 22 to frame 1
abbrev pub two_moves : List SpaceAction
two_moves = isolate 3 ∷ MoveLease (frame_no 0) (page_no 0) ∷ Return 0 (frame_no 20) ∷ MoveLease (frame_no 1) (page_no 5) ∷ Return 0 (frame_no 22) ∷ offline 3 ∷ []

abbrev pub run_of_two_pages : SpaceRun
run_of_two_pages =
    record (run_with Unmovable two_moves) { start = space_at_start plugged_machine (start_page 0 20 Movable ∷ start_page 5 22 Movable ∷ []) }

abbrev pub moved_0 : Attempt
moved_0 = record { lease = lease_of 20 0 0; found = None }

abbrev pub moved_5 : Attempt
moved_5 = record { lease = lease_of 22 5 1; found = None }

-- those attempts are a round of it, the newest first
abbrev pub AreRoundOfTwo : List Attempt → Type 0
AreRoundOfTwo attempts = AreTrueRounds run_of_two_pages (found_by []) [] (block_no 3) two_moves (length two_moves) (attempts ∷ [])

-- the second of two evacuations, each with one lease, made those rounds
abbrev pub AreMadeBySecond : List (List Attempt) → Type 0
AreMadeBySecond rounds = AreTrueRounds (run_with Unmovable (one_attempt ++ one_attempt)) word_of_calls one_attempt (block_no 3) one_attempt (length (one_attempt ++ one_attempt)) rounds

-- the evacuation of block 3, which was all that the frame space saw, made those rounds
abbrev pub AreMadeBy : Finds → List SpaceAction → List (List Attempt) → Type 0
AreMadeBy finds journal rounds = AreTrueRounds (run_with Unmovable journal) finds [] (block_no 3) journal (length journal) rounds

pub record EvacuationsOfSmall : Type 0 where
  pub pinned_page : by_truth (run_with Unmovable one_attempt) word_of_calls [] (block_no 3) (Some pinned) one_attempt
  pub five_busy_rounds : by_truth (run_with Unmovable five_attempts) word_of_calls [] (block_no 3) (Some busy) five_attempts
  -- page 0 was moved, and no take found a word of it
  pub emptied_block : by_truth (run_with Unmovable block_3_emptied) (found_by []) [] (block_no 3) None (isolate 3 ∷ attempt 20)
  pub unmovable_behind_an_emptied_block : by_truth (run_of_two Unmovable) word_of_calls block_3_emptied (block_no 2) (Some unmovable) []
  pub no_target_left : by_truth full_run word_of_calls [] (block_no 0) (Some (no_target_in_full 1)) full_actions
  -- a taken word that no later call of the page used, a pin that no call had made, and a word of another page
  pub no_call_behind_it : ¬ word_of_calls 0 (page_no 0) taken_behind_all
  pub pin_of_no_call : ¬ word_of_calls 0 (page_no 0) pinned_at_first
  pub word_of_another_page : ¬ word_of_calls 0 (page_no 1) pinned_behind_pin
  pub pinned_by_no_call : ¬ IsTrueBy one_attempt (pinned_by 20 pinned_at_first)
  -- the page was never out in that frame
  pub in_another_frame : ¬ IsTrueBy one_attempt (pinned_by 21 pinned_in_21)
  pub in_another_block : ¬ IsCauseTrue (run_with Unmovable one_attempt) word_of_calls [] (block_no 2) one_attempt pinned
  pub four_words : ¬ IsTrueBy five_attempts (busy_by (replicate 4 taken_at_first))
  pub falling_bounds : ¬ IsTrueBy five_attempts (busy_by (taken_behind_pin ∷ replicate 4 taken_at_first))
  pub busy_for_no_call : ¬ IsTrueBy five_attempts (busy_by (replicate 4 taken_at_first ++ taken_behind_all ∷ []))
  -- the page was a movable one, which doesn't keep its block from being isolated
  pub movable_page : ¬ IsCauseTrue (run_of_two Movable) word_of_calls block_3_emptied (block_no 2) [] unmovable
  -- frame 0 was free
  pub with_a_free_frame : ¬ IsTrueBy not_leased no_target
  pub before_the_isolation : ¬ IsCauseTrue full_run word_of_calls [] (block_no 0) full_actions (no_target_in_full 0)
  pub behind_the_undo : ¬ IsCauseTrue full_run word_of_calls [] (block_no 0) full_actions (no_target_in_full 2)
  pub past_the_journal : ¬ IsCauseTrue full_run word_of_calls [] (block_no 0) full_actions (no_target_in_full 3)
  -- the place is one of the evacuation before
  pub in_an_earlier_evacuation : ¬ IsCauseTrue (run_with Unmovable (one_attempt ++ not_leased)) word_of_calls one_attempt (block_no 3) not_leased no_target
  -- no target was leased for the page, so that no take found a word for it
  pub without_an_attempt : ¬ IsTrueBy not_leased pinned
  -- one attempt finds one word
  pub five_words_of_one_attempt : ¬ IsTrueBy one_attempt busy
  -- the first evacuation found the word, and the second has the next take
  pub found_in_the_first_evacuation : IsCauseTrue (run_with Unmovable (one_attempt ++ one_attempt)) first_take [] (block_no 3) one_attempt pinned
  pub not_found_in_the_second : ¬ IsCauseTrue (run_with Unmovable (one_attempt ++ one_attempt)) first_take one_attempt (block_no 3) one_attempt pinned
  -- each round has the word of its own take
  pub words_of_five_takes : AreMadeBy (found_by five_words) five_attempts (rounds_with newest_first)
  pub word_of_no_take : ¬ AreMadeBy (found_by five_words) five_attempts (rounds_with another_in_the_third)
  pub one_lease_in_two_rounds : ¬ AreMadeBy word_of_calls one_attempt (rounds_with (replicate 2 taken_at_first))
  pub lease_for_another_page : ¬ AreMadeBy word_of_calls one_attempt (round_moving 1)
  -- the page was never out in that frame
  pub attempt_in_another_frame : ¬ AreMadeBy word_of_calls one_attempt (busy_in 21 taken_at_first)
  -- the word of the first round has a bound above that of the second one's
  pub rounds_with_falling_bounds : ¬ AreMadeBy word_of_calls five_attempts (rounds_with (taken_at_first ∷ taken_behind_pin ∷ []))
  pub two_pages_in_a_round : AreRoundOfTwo (moved_5 ∷ moved_0 ∷ [])
  pub the_other_order : ¬ AreRoundOfTwo (moved_0 ∷ moved_5 ∷ [])
  -- of the two leases the first is of the evacuation before
  pub of_the_second_evacuation : AreMadeBySecond (rounds_with (taken_at_first ∷ []))
  pub over_two_evacuations : ¬ AreMadeBySecond (rounds_with (replicate 2 taken_at_first))
  -- inside its own attempt an evacuation holds a target itself: that no frame is free there is no cause
  pub inside_its_own_attempt : ¬ EndedThere (run_with Unmovable one_attempt) [] (block_no 3) one_attempt (Some (cause.NoTarget (frame_no 20) (page_no 0) 2))
