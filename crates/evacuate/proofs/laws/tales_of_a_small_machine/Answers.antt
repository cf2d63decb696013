use Rattle.std.proofs.Common.{◌≡◌, ℕ, zero, suc, ◌<◌, true, false, Some, get_or, refl, ap, arith}
use Rattle.std.specs.Option.{unwrap_or}
use Rattle.evac_model.specs.declared.names.FrameNo.{FrameNo}
use Rattle.evacuate.specs.declared.stage.Attempt.{Attempt}
use Rattle.evacuate.specs.Tale.{WasFound}
use Rattle.evacuate.specs.Examples.{frame_no, page_no, page_0, page_5, found_busy, both_busy}
use Rattle.evacuate.proofs.laws.tales_of_a_small_machine.Goals as goal

at_page_0 : (word : ℕ) → WasFound (both_busy word) (frame_no 20) (page_no 0) word
at_page_0 word = record { target = record { 0 = 0 }; there = (1, omega arith, refl) }

abbrev busy_with : FrameNo → ℕ → Attempt
busy_with target word = record { lease = record { from = frame_no 20; page = page_no 0; target = target }; found = Some word }

abbrev word_in : Attempt → ℕ
word_in a = unwrap_or a.found 0

-- the word found in another round
other_word : (target : FrameNo) (i : ℕ) → i < 2 → get_or (both_busy 0) i (busy_with target 20485) ≡ busy_with target 20485 → ⊥
other_word target zero lt e = let frames : page_5.from.0 ≡ page_0.from.0 = ap (λ (a : Attempt). a.lease.from.0) e in absurd (omega arith)
other_word target (suc zero) lt e = let words : word_in (found_busy 0) ≡ word_in (found_busy 20485) = ap word_in e in absurd (omega arith)
other_word target (suc (suc i)) lt e = absurd (omega arith)

pub returns : goal.returns
returns c = record {
  moved_later = refl;
  busy_in_five_rounds = record {
    in_block = refl;
    found = record {
      target = record { 0 = 0 };
      first = refl;
      five = refl;
      found = (at_page_0 20487, refl, (at_page_0 1, refl, (at_page_0 16388, refl, (at_page_0 0, refl, (at_page_0 20485, refl, tt)))));
      round_over = (refl, (refl, tt));
    };
  };
  words_of_other_rounds = λ h. let round = h.found.found.2.2.2.0 in other_word round.target round.there.0 round.there.1 round.there.2;
  not_the_first_busy_page = λ h. let first = h.found.first in cc;
  frame_of_another_block = λ h. let never : false ≡ true = h.in_block in cc;
  four_rounds_are_not_five = λ h. h.2.2.2.2;
  a_free_page_is_not_busy = λ h. let never : false ≡ true = h.1 in cc;
  a_round_without_busy_pages_is_none_of_them = λ h. let never : false ≡ true = h.one_busy in cc;
}
