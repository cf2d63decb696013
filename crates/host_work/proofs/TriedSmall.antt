-- Attempts of a small machine's evacuations that were made, and some that weren't.
use Rattle.std.proofs.Common.{◌≡◌, ℕ, zero, suc, ◌+◌, ◌<◌, ◌≤◌, List, [], ◌∷◌, ◌++◌, length, replicate, refl, sym, ap, ◌∙◌, subst, arith, inl, inr, ◌⊎◌, None, Some, Option}
use Rattle.std.proofs.lemmas.Option.{same_Some}
use Rattle.std.specs.List.{AllByRecursion}
use Rattle.std.specs.Prelude.{slice_get, ⊤}
use Rattle.evac_model.specs.declared.evacuation.EvacCause.TheVariants.{NoTarget}
use Rattle.evac_model.specs.declared.names.FrameNo.{FrameNo}
use Rattle.evac_model.specs.declared.names.Kind.TheVariants.{Unmovable}
use Rattle.evac_model.specs.declared.names.PageNo.{PageNo}
use Rattle.evac_model.specs.declared.space.SpaceAction.{SpaceAction}
use Rattle.evac_model.specs.declared.space.SpaceAction.TheVariants.{MoveLease, Return}
use Rattle.evac_words.specs.Word.{bound_of}
use Rattle.evacuate.specs.Examples.{frame_no, page_no, page_0}
use Rattle.host_work.specs.Examples.{isolate, undo, offline, attempt}
use Rattle.host_work.specs.Requests.{block_no}
use Rattle.host_work.specs.Truth.{SpaceRun, driver_did, take_number_at, Finds, WasTriedAt, AreNotAbove, AreTrueRounds, EndedThere, by_truth}
use Rattle.host_work.specs.TruthExamples.{run_with, word_of_calls, found_by, one_attempt, five_attempts, block_3_emptied, taken_at_first, taken_behind_pin, pinned_behind_pin, five_words, newest_first, another_in_the_third, rounds_with, round_moving, busy_in, two_moves, moved_0, moved_5, AreRoundOfTwo, AreMadeBySecond, AreMadeBy}
use Rattle.host_work.proofs.Small.{moved}
use Rattle.host_work.proofs.TruthSmall.{pinned_word, taken_word, five_run, tried_in_five, tried_first, leased_once, not_out_in_21}

-- ---- five rounds

-- the number of the take for each
number_in_five : (n : ℕ) → n < 5 → take_number_at five_run (suc (n + n)) ≡ n
number_in_five zero l = refl
number_in_five (suc zero) l = refl
number_in_five (suc (suc zero)) l = refl
number_in_five (suc (suc (suc zero))) l = refl
number_in_five (suc (suc (suc (suc zero)))) l = refl
number_in_five (suc (suc (suc (suc (suc n))))) l = absurd (omega (arith, l))

-- none of the words has a bound above that of this one
abbrev AreBelow : (words : List ℕ) (word : ℕ) → Type 0
AreBelow words word = AllByRecursion (λ old. bound_of old ≤ bound_of word) words

not_above : (words : List ℕ) (word : ℕ) → AreBelow words word → AreNotAbove (rounds_with words) (page_no 0) word
not_above [] word h = tt
not_above (old ∷ words) word h = (
  (λ other same found. subst (λ (w : ℕ). bound_of w ≤ bound_of word) (same_Some old other found) h.0, tt),
  not_above words word h.1,
)

-- each word, the newest first, was found by its take, and has a bound not below those of the older ones
abbrev AreFoundInTurn : Finds → (words : List ℕ) → Type 0
AreFoundInTurn finds [] = ⊤
AreFoundInTurn finds (word ∷ words) = finds (length words) (page_no 0) word × AreBelow words word × AreFoundInTurn finds words

made_in_five : (finds : Finds) (words : List ℕ) (end : ℕ) → length words ≤ 5 → length words + length words ≤ end → AreFoundInTurn finds words → AreTrueRounds five_run finds [] (block_no 3) five_attempts end (rounds_with words)
made_in_five finds [] end few inside h = tt
made_in_five finds (word ∷ words) end few inside h =
    let n = length words in
    let low : n < 5 = omega (arith, few) in (
      suc (n + n),
      (
        suc (n + n),
        omega (arith, inside),
        record {
          tried = tried_in_five n low;
          word = λ other found. record {
            found = subst (λ (w : ℕ). finds (take_number_at five_run (suc (n + n))) (page_no 0) w) (same_Some word other found)
                (subst (λ (m : ℕ). finds m (page_no 0) word) (sym (number_in_five n low)) h.0);
            late = subst (λ (w : ℕ). AreNotAbove (rounds_with words) (page_no 0) w) (same_Some word other found) (not_above words word h.1);
          };
        },
        omega arith,
      ),
      made_in_five finds words (suc (n + n)) (omega (arith, few)) (omega arith) h.2,
    )

pub busy_made : AreMadeBy word_of_calls five_attempts (rounds_with (replicate 5 taken_at_first))
busy_made =
    let none : bound_of taken_at_first ≤ bound_of taken_at_first = omega arith in
    made_in_five word_of_calls (replicate 5 taken_at_first) (length five_attempts) (omega arith) (omega arith) (
      taken_word,
      (none, (none, (none, (none, tt)))),
      (taken_word, (none, (none, (none, tt))), (taken_word, (none, (none, tt)), (taken_word, (none, tt), (taken_word, tt, tt)))),
    )

pub by_five_takes : AreMadeBy (found_by five_words) five_attempts (rounds_with newest_first)
by_five_takes =
    made_in_five (found_by five_words) newest_first (length five_attempts) (omega arith) (omega arith) (
      (refl, refl),
      (omega arith, (omega arith, (omega arith, (omega arith, tt)))),
      (
        (refl, refl),
        (omega arith, (omega arith, (omega arith, tt))),
        ((refl, refl), (omega arith, (omega arith, tt)), ((refl, refl), (omega arith, tt), ((refl, refl), tt, tt))),
      ),
    )

-- the targets were leased at the odd places
odd_place : (place : ℕ) (target : FrameNo) (page : PageNo) → slice_get five_attempts place ≡ Some (MoveLease target page) → (n : ℕ) × (place ≡ suc (n + n)) × (n < 5)
odd_place zero target page is = absurd (cc)
odd_place (suc zero) target page is = (0, refl, omega arith)
odd_place (suc (suc zero)) target page is = absurd (cc)
odd_place (suc (suc (suc zero))) target page is = (1, refl, omega arith)
odd_place (suc (suc (suc (suc zero)))) target page is = absurd (cc)
odd_place (suc (suc (suc (suc (suc zero))))) target page is = (2, refl, omega arith)
odd_place (suc (suc (suc (suc (suc (suc zero)))))) target page is = absurd (cc)
odd_place (suc (suc (suc (suc (suc (suc (suc zero))))))) target page is = (3, refl, omega arith)
odd_place (suc (suc (suc (suc (suc (suc (suc (suc zero)))))))) target page is = absurd (cc)
odd_place (suc (suc (suc (suc (suc (suc (suc (suc (suc zero))))))))) target page is = (4, refl, omega arith)
odd_place (suc (suc (suc (suc (suc (suc (suc (suc (suc (suc zero)))))))))) target page is = absurd (cc)
odd_place (suc (suc (suc (suc (suc (suc (suc (suc (suc (suc (suc zero))))))))))) target page is = absurd (cc)
odd_place (suc (suc (suc (suc (suc (suc (suc (suc (suc (suc (suc (suc n)))))))))))) target page is = absurd (cc)

-- the take of the third round is the third, and found another word
pub by_no_take : ¬ AreMadeBy (found_by five_words) five_attempts (rounds_with another_in_the_third)
by_no_take h =
    let fifth = h.1 in
    let fourth = h.2.1 in
    let third = h.2.2.1 in
    let second = h.2.2.2.1 in
    let first = h.2.2.2.2.1 in
    let odd_5 = odd_place fifth.0 (frame_no 0) (page_no 0) fifth.2.tried.leased in
    let odd_4 = odd_place fourth.0 (frame_no 0) (page_no 0) fourth.2.tried.leased in
    let odd_3 = odd_place third.0 (frame_no 0) (page_no 0) third.2.tried.leased in
    let odd_2 = odd_place second.0 (frame_no 0) (page_no 0) second.2.tried.leased in
    let odd_1 = odd_place first.0 (frame_no 0) (page_no 0) first.2.tried.leased in
    let at : third.0 ≡ 5 =
    omega (
      arith,
      odd_5.1,
      odd_5.2,
      odd_4.1,
      odd_4.2,
      odd_3.1,
      odd_3.2,
      odd_2.1,
      odd_2.2,
      odd_1.1,
      odd_1.2,
      fifth.1,
      fifth.3,
      fourth.1,
      fourth.3,
      third.1,
      third.3,
      second.1,
      second.3,
      first.1,
      first.3,
    ) in
    let found = third.2.word taken_at_first refl in
    let word : Some taken_behind_pin ≡ Some taken_at_first = subst (λ (p : ℕ). slice_get five_words (take_number_at five_run p) ≡ Some taken_at_first) at found.found.1 in
    let same : 1073762309 ≡ 20485 = same_Some 1073762309 20485 word in
    absurd (omega (arith, same))

-- ---- one attempt

pub pinned_made : AreMadeBy word_of_calls one_attempt ((record { lease = page_0; found = Some pinned_behind_pin } ∷ []) ∷ [])
pinned_made = (
  1,
  (
    1,
    omega arith,
    record {
      tried = tried_first [];
      word = λ other found. record { found = subst (λ (w : ℕ). word_of_calls 0 (page_no 0) w) (same_Some pinned_behind_pin other found) pinned_word; late = tt };
    },
    omega arith,
  ),
  tt,
)

-- page 0 was moved, whatever was found
pub emptied : by_truth (run_with Unmovable block_3_emptied) (found_by []) [] (block_no 3) None (isolate 3 ∷ attempt 20)
emptied = record {
  told = moved;
  attempts = (
    1,
    (
      1,
      omega arith,
      record {
        tried = record {
          was_out = record { inside = omega arith; part = isolate 3 ∷ []; rest = attempt 20; parts = refl; done = refl; isolated = refl; out = refl };
          more = Return 0 (frame_no 20) ∷ [];
          next = refl;
          leased = refl;
        };
        word = λ word found. absurd (cc);
      },
      omega arith,
    ),
    tt,
  );
  cause_holds = tt;
  ended = tt;
}

-- ---- what wasn't made

pub not_in_two_rounds : ¬ AreMadeBy word_of_calls one_attempt (rounds_with (replicate 2 taken_at_first))
not_in_two_rounds h =
    let second = h.1 in
    let first = h.2.1 in
    let late : second.0 ≡ 1 = leased_once second.0 (frame_no 0) (page_no 0) second.2.tried.leased in
    let early : first.0 ≡ 1 = leased_once first.0 (frame_no 0) (page_no 0) first.2.tried.leased in
    absurd (omega (arith, late, early, first.1, second.3))

-- the page for which a target was leased
abbrev page_in : Option SpaceAction → ℕ
page_in (Some (MoveLease target page)) = page.0
page_in other = 7

pub not_for_page_1 : ¬ AreMadeBy word_of_calls one_attempt (round_moving 1)
not_for_page_1 h =
    let only = h.1 in
    let at : only.0 ≡ 1 = leased_once only.0 (frame_no 0) (page_no 1) only.2.tried.leased in
    let page : 0 ≡ 1 = ap page_in (subst (λ (p : ℕ). slice_get one_attempt p ≡ Some (MoveLease (frame_no 0) (page_no 1))) at only.2.tried.leased) in
    absurd (omega (arith, page))

-- two evacuations, each with one lease
abbrev two_run : SpaceRun
two_run = run_with Unmovable (one_attempt ++ one_attempt)

leased_in_two : (place : ℕ) (target : FrameNo) (page : PageNo) → slice_get (one_attempt ++ one_attempt) place ≡ Some (MoveLease target page) → (place ≡ 1) ⊎ (place ≡ 5)
leased_in_two zero target page is = absurd (cc)
leased_in_two (suc zero) target page is = inl refl
leased_in_two (suc (suc zero)) target page is = absurd (cc)
leased_in_two (suc (suc (suc zero))) target page is = absurd (cc)
leased_in_two (suc (suc (suc (suc zero)))) target page is = absurd (cc)
leased_in_two (suc (suc (suc (suc (suc zero))))) target page is = inr refl
leased_in_two (suc (suc (suc (suc (suc (suc zero)))))) target page is = absurd (cc)
leased_in_two (suc (suc (suc (suc (suc (suc (suc zero))))))) target page is = absurd (cc)
leased_in_two (suc (suc (suc (suc (suc (suc (suc (suc n)))))))) target page is = absurd (cc)

-- the second one's lies behind all that the first did
in_second : (place : ℕ) → WasTriedAt two_run one_attempt (block_no 3) one_attempt (frame_no 20) (page_no 0) (frame_no 0) place → place ≡ 5
in_second place h = elim (leased_in_two place (frame_no 0) (page_no 0) h.leased) [
  | inl first ↦ let did : 1 ≡ suc (suc (suc (suc (length h.was_out.part)))) = ap (λ (l : List SpaceAction). length l) (subst (λ (p : ℕ). driver_did two_run p ≡ one_attempt ++ h.was_out.part) first h.was_out.done) in absurd (omega (arith, did))
  | inr second ↦ second
]

pub by_second : AreMadeBySecond (rounds_with (taken_at_first ∷ []))
by_second = (
  5,
  (
    5,
    omega arith,
    record {
      tried = record {
        was_out = record { inside = omega arith; part = isolate 3 ∷ []; rest = attempt 0 ++ undo 3 ∷ []; parts = refl; done = refl; isolated = refl; out = refl };
        more = Return 0 (frame_no 0) ∷ undo 3 ∷ [];
        next = refl;
        leased = refl;
      };
      word = λ other found. record { found = subst (λ (w : ℕ). word_of_calls 0 (page_no 0) w) (same_Some taken_at_first other found) taken_word; late = tt };
    },
    omega arith,
  ),
  tt,
)

pub not_over_two : ¬ AreMadeBySecond (rounds_with (replicate 2 taken_at_first))
not_over_two h =
    let second = h.1 in
    let first = h.2.1 in
    absurd (omega (arith, in_second second.0 second.2.tried, in_second first.0 first.2.tried, first.1, second.3))

pub not_in_frame_21 : ¬ AreMadeBy word_of_calls one_attempt (busy_in 21 taken_at_first)
not_in_frame_21 h =
    let at = h.1.2.tried.was_out in
    let out : None ≡ Some _ = sym (not_out_in_21 h.1.0 at.inside) ∙ at.out in
    cc

pub not_falling : ¬ AreMadeBy word_of_calls five_attempts (rounds_with (taken_at_first ∷ taken_behind_pin ∷ []))
not_falling h =
    let late = (h.1.2.word taken_at_first refl).late in
    let low : 1 ≤ 0 = late.0.0 taken_behind_pin refl refl in
    absurd (omega (arith, low))

pub not_inside : ¬ EndedThere (run_with Unmovable one_attempt) [] (block_no 3) one_attempt (Some (NoTarget (frame_no 20) (page_no 0) 2))
not_inside did = let long : 3 ≡ 4 = ap (λ (l : List SpaceAction). length l) did in absurd (omega (arith, long))

-- ---- two pages

pub two_made : AreRoundOfTwo (moved_5 ∷ moved_0 ∷ [])
two_made = (
  1,
  (
    3,
    omega arith,
    record {
      tried = record {
        was_out = record {
          inside = omega arith;
          part = isolate 3 ∷ MoveLease (frame_no 0) (page_no 0) ∷ Return 0 (frame_no 20) ∷ [];
          rest = MoveLease (frame_no 1) (page_no 5) ∷ Return 0 (frame_no 22) ∷ offline 3 ∷ [];
          parts = refl;
          done = refl;
          isolated = refl;
          out = refl;
        };
        more = Return 0 (frame_no 22) ∷ offline 3 ∷ [];
        next = refl;
        leased = refl;
      };
      word = λ word found. absurd (cc);
    },
    (
      1,
      omega arith,
      record {
        tried = record {
          was_out = record {
            inside = omega arith;
            part = isolate 3 ∷ [];
            rest = MoveLease (frame_no 0) (page_no 0) ∷ Return 0 (frame_no 20) ∷ MoveLease (frame_no 1) (page_no 5) ∷ Return 0 (frame_no 22) ∷ offline 3 ∷ [];
            parts = refl;
            done = refl;
            isolated = refl;
            out = refl;
          };
          more = Return 0 (frame_no 20) ∷ MoveLease (frame_no 1) (page_no 5) ∷ Return 0 (frame_no 22) ∷ offline 3 ∷ [];
          next = refl;
          leased = refl;
        };
        word = λ word found. absurd (cc);
      },
      omega arith,
    ),
  ),
  tt,
)

-- the lease for page 0 is the second action, that for page 5 the fourth
leased_for : (place : ℕ) (target : FrameNo) (page : PageNo) → slice_get two_moves place ≡ Some (MoveLease target page) → ((place ≡ 1) × (0 ≡ page.0)) ⊎ ((place ≡ 3) × (5 ≡ page.0))
leased_for zero target page is = absurd (cc)
leased_for (suc zero) target page is = inl (refl, ap page_in is)
leased_for (suc (suc zero)) target page is = absurd (cc)
leased_for (suc (suc (suc zero))) target page is = inr (refl, ap page_in is)
leased_for (suc (suc (suc (suc zero)))) target page is = absurd (cc)
leased_for (suc (suc (suc (suc (suc zero))))) target page is = absurd (cc)
leased_for (suc (suc (suc (suc (suc (suc n)))))) target page is = absurd (cc)

pub not_turned_round : ¬ AreRoundOfTwo (moved_0 ∷ moved_5 ∷ [])
not_turned_round h =
    let late = h.1 in
    let early = late.3 in
    elim (leased_for late.0 (frame_no 0) (page_no 0) late.2.tried.leased) [
      | inl first ↦ elim (leased_for early.0 (frame_no 1) (page_no 5) early.2.tried.leased) [
        | inl wrong ↦ absurd (omega (arith, wrong.1))
        | inr third ↦ absurd (omega (arith, first.0, third.0, early.1))
      ]
      | inr wrong ↦ absurd (omega (arith, wrong.1))
    ]
