-- A hand-over rearranges the views.
use Rattle.std.proofs.Common.{◌≡◌, ℕ, ◌+◌, ◌≢◌, List, [], ◌∷◌, length, get_or, sym, refl, ap, ◌∙◌, ⊎_elim, arith, Option, Some, None}
use Rattle.std.specs.Prelude.{is_some}
use Rattle.std.proofs.lemmas.Option.{none-some}
use Rattle.evac_words.specs.Word.{bit_of}
use Rattle.core_state.specs.declared.hand.HandFrame.{HandFrame}
use Rattle.core_state.specs.declared.opening.Opening.{Opening}
use Rattle.core_state.specs.declared.view.View.{View}
use Rattle.core_state.specs.Views.{Has, holds_page, right_to, hand_frame, times_in_hand, times_unmarked, scans, keeps_journal}
use Rattle.core_state.specs.Parts.{uses_of}
use Rattle.core_state.specs.Frames.{Frames}
use Rattle.core_state.specs.HandOvers.{IsAtRest, MayHandOver, hand_without, hand_with, views_after_hand_over}
use Rattle.core_state.specs.Rearranged.{SomeView, HasStored, HadBefore, Rearranged}
use Rattle.core_state.proofs.Lists.{two_members_le_sum_by}
use Rattle.core_state.proofs.HandParts.{is_handed, length-without, length-with, left_giver, came, stayed, was_there}
use Rattle.core_state.proofs.Rearranging.{some_here, had_at_rest, two_alike, each_of_two, entry_of_two, two_rearranged}

-- how often a frame is in a hand, by what stands at its place
times_at : (m : Option HandFrame) (v : View) (f : ℕ) → hand_frame v f ≡ m → times_in_hand f v ≡ bit_of (is_some m)
times_at m v f is = ap (λ (x : Option HandFrame). bit_of (is_some x)) is

-- the view of a seat at rest with another hand
had_with_hand : (o : Opening) (views : List View) (i : ℕ) (v : View) (hand : List (Option HandFrame)) → Has views i v → IsAtRest o v → length hand ≡ o.frames
    → ((f : ℕ) (x : HandFrame) → get_or hand f None ≡ Some x → SomeView views (λ w. HasStored w f x.stores)) → HadBefore o views (record v { hand = hand })
had_with_hand o views i v hand has rests long stored =
    had_at_rest o views (record v { hand = hand })
    (record { seated = record { cells = rests.seated.cells; hand = long; image = rests.seated.image }; holds_none = rests.holds_none; all_marked = rests.all_marked })
    (λ some. some_here views i v has _ (record { left = some; caller = λ c. c }))
    (λ n all. all i v has)
    (λ c is. some_here views i v has _ is)
    (λ c is. some_here views i v has _ is)
    stored
    (λ s is. some_here views i v has _ is)

module _ (o : Opening) (words : List ℕ) (views : List View) (from to : ℕ) (giver receiver : View) (first n : ℕ) (at_giver : Has views from giver) (at_receiver : Has views to receiver) (apart : from ≢ to) (k : Frames o words views) (may : MayHandOver o giver receiver first n) where
  abbrev giver_after : View
  giver_after = record giver { hand = hand_without giver.hand first n }

  abbrev receiver_after : View
  receiver_after = record receiver { hand = hand_with receiver.hand giver.hand first n }

  abbrev both : List View
  both = giver ∷ receiver ∷ []

  of_giver : (f : ℕ) (x : HandFrame) → hand_frame giver f ≡ Some x → SomeView both (λ w. HasStored w f x.stores)
  of_giver f x is = some_here both 0 giver refl (λ w. HasStored w f x.stores) (x, is, refl)

  of_receiver : (f : ℕ) (x : HandFrame) → hand_frame receiver f ≡ Some x → SomeView both (λ w. HasStored w f x.stores)
  of_receiver f x is = some_here both 1 receiver refl (λ w. HasStored w f x.stores) (x, is, refl)

  in_both_hands : (f : ℕ) → times_in_hand f giver_after + times_in_hand f receiver_after ≡ times_in_hand f giver + times_in_hand f receiver
  in_both_hands f = ⊎_elim
      (λ q. let low = q.0 in let high = q.1 in let inside = may.in_range in
      let once = k.each_once f (omega arith) in
      let two = two_members_le_sum_by (λ v. times_in_hand f v) views from to giver receiver apart at_giver at_receiver in
      let had : times_in_hand f giver ≡ 1 = ap bit_of (may.in_hand f low high) in
      let gone = times_at None giver_after f (left_giver o giver receiver first n may f low high) in
      let new = times_at (hand_frame giver f) receiver_after f (came o giver receiver first n may f low high) in
      omega arith)
      (λ q. let a = times_at (hand_frame giver f) giver_after f (stayed o giver receiver first n may f q) in
      let b = times_at (hand_frame receiver f) receiver_after f (was_there o giver receiver first n may f q) in
      omega arith)
      (is_handed first n f)

  two : Rearranged o both (giver_after ∷ receiver_after ∷ [])
  two = record {
    entries = λ e h. entry_of_two _ giver receiver e
        (λ j at. record { seat = 0; view = giver_after; place = j; has = refl; at = at })
        (λ j at. record { seat = 1; view = receiver_after; place = j; has = refl; at = at }) h;
    no_new_entry = λ e h. entry_of_two _ giver_after receiver_after e
        (λ j at. record { seat = 0; view = giver; place = j; has = refl; at = at })
        (λ j at. record { seat = 1; view = receiver; place = j; has = refl; at = at }) h;
    holders = λ page. two_alike (λ v. holds_page page v.held) giver receiver giver_after receiver_after refl;
    movers = λ page. two_alike (λ v. right_to page v) giver receiver giver_after receiver_after refl;
    uses = λ t. two_alike (λ v. uses_of t v) giver receiver giver_after receiver_after refl;
    left = two_alike (λ v. v.left) giver receiver giver_after receiver_after refl;
    in_hands = λ f. two_alike (λ v. times_in_hand f v) giver receiver giver_after receiver_after (in_both_hands f);
    unmarked = λ f. two_alike (λ v. times_unmarked f v) giver receiver giver_after receiver_after refl;
    scanners = (let a = two_alike scans giver receiver giver_after receiver_after refl in omega arith);
    journals = (let a = two_alike keeps_journal giver receiver giver_after receiver_after refl in omega arith);
    each = each_of_two (λ v. HadBefore o both v) giver_after receiver_after
        (had_with_hand o both 0 giver (hand_without giver.hand first n) refl may.giver_rests (length-without o giver receiver first n may ∙ may.giver_rests.seated.hand) (λ f x is. ⊎_elim
        (λ q. absurd (none-some x (sym (left_giver o giver receiver first n may f q.0 q.1) ∙ is)))
        (λ q. of_giver f x (sym (stayed o giver receiver first n may f q) ∙ is))
        (is_handed first n f)))
        (had_with_hand o both 1 receiver (hand_with receiver.hand giver.hand first n) refl may.receiver_rests (length-with o giver receiver first n may ∙ may.receiver_rests.seated.hand) (λ f x is. ⊎_elim
        (λ q. of_giver f x (sym (came o giver receiver first n may f q.0 q.1) ∙ is))
        (λ q. of_receiver f x (sym (was_there o giver receiver first n may f q) ∙ is))
        (is_handed first n f)));
  }

  pub handed_over : Rearranged o views (views_after_hand_over views from to giver receiver first n)
  handed_over = two_rearranged o giver receiver giver_after receiver_after two views from to at_giver at_receiver apart
