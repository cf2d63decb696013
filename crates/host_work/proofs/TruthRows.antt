-- The rows of a small machine's evacuations, true ones and others.
use Rattle.std.proofs.Common.{refl, arith}
use Rattle.host_work.specs.TruthExamples.{EvacuationsOfSmall}
use Rattle.host_work.proofs.Small.{pinned_found, busy_in_five, refused}
use Rattle.host_work.proofs.TruthSmall.{was_pinned, was_busy, was_unmovable, without_target_in_full, had_no_target, no_call_behind, pin_of_none, another_page, pinned_by_none, another_frame, another_block, four, falling, busy_for_none, was_movable, frame_was_free, not_begun, was_undone, past_all, too_early, not_tried, one_word, first_found, second_not_found}
use Rattle.host_work.proofs.TriedSmall.{pinned_made, busy_made, emptied, by_five_takes, by_no_take, not_in_two_rounds, not_for_page_1, not_in_frame_21, not_falling, two_made, not_turned_round, by_second, not_over_two, not_inside}

pub evacuations_of_small : EvacuationsOfSmall
evacuations_of_small = record {
  pinned_page = record { told = pinned_found; attempts = pinned_made; cause_holds = was_pinned; ended = tt };
  five_busy_rounds = record { told = busy_in_five; attempts = busy_made; cause_holds = was_busy; ended = tt };
  emptied_block = emptied;
  unmovable_behind_an_emptied_block = record { told = refused; attempts = (0, omega arith, tt); cause_holds = was_unmovable; ended = tt };
  no_target_left = record { told = without_target_in_full; attempts = (0, omega arith, tt); cause_holds = had_no_target; ended = refl };
  no_call_behind_it = no_call_behind;
  pin_of_no_call = pin_of_none;
  word_of_another_page = another_page;
  pinned_by_no_call = pinned_by_none;
  in_another_frame = another_frame;
  in_another_block = another_block;
  four_words = four;
  falling_bounds = falling;
  busy_for_no_call = busy_for_none;
  movable_page = was_movable;
  with_a_free_frame = frame_was_free;
  before_the_isolation = not_begun;
  behind_the_undo = was_undone;
  past_the_journal = past_all;
  in_an_earlier_evacuation = too_early;
  without_an_attempt = not_tried;
  five_words_of_one_attempt = one_word;
  found_in_the_first_evacuation = first_found;
  not_found_in_the_second = second_not_found;
  words_of_five_takes = by_five_takes;
  word_of_no_take = by_no_take;
  one_lease_in_two_rounds = not_in_two_rounds;
  lease_for_another_page = not_for_page_1;
  attempt_in_another_frame = not_in_frame_21;
  rounds_with_falling_bounds = not_falling;
  two_pages_in_a_round = two_made;
  the_other_order = not_turned_round;
  of_the_second_evacuation = by_second;
  over_two_evacuations = not_over_two;
  inside_its_own_attempt = not_inside;
}
