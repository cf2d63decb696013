-- A seat at rest can be split, and a seat at rest can be joined into another.
use Rattle.std.proofs.Common.{◌≡◌, ℕ, zero, suc, ◌+◌, ◌-◌, ◌<◌, ◌≤◌, ◌≢◌, ◌⊎◌, ◌||◌, not, cond, Bool, true, false, List, [], ◌∷◌, length, get_or, sym, refl, ap, ◌∙◌, inl, inr, ⊎_elim, arith, Option, Some, None, IsSome}
use Rattle.std.specs.Prelude.{is_some}
use Rattle.std.proofs.lemmas.Grind.{common_steps}
use mathlib.Core.Logic.{dite}
use native.Mathlib.Decide.{dec_le}
use Rattle.evac_words.specs.Word.{bit_of}
use Rattle.core_state.specs.declared.hand.HandFrame.{HandFrame}
use Rattle.core_state.specs.declared.held.Held.{Held}
use Rattle.core_state.specs.declared.opening.Opening.{Opening}
use Rattle.core_state.specs.declared.view.View.{View}
use Rattle.core_state.specs.Views.{Has, IsSeated, right_to, hand_frame, times_in_hand, times_in_hands}
use Rattle.core_state.specs.Sound.{Sound}
use Rattle.core_state.specs.HandOvers.{IsAtRest}
use Rattle.core_state.specs.SeatMoves.{Splits, Joins}
use Rattle.core_state.specs.SeatParts.{frames_where, rights_where, kept_part, given_part, frame_of_both, hand_of_both, rights_of_both, joined_view}
use Rattle.core_state.proofs.Lists.{two_members_le_sum_by}

-- ---- a split

length-frames_where : (pick : ℕ → Bool) (xs : List (Option HandFrame)) → length (frames_where pick xs) ≡ length xs
length-frames_where pick [] = refl
length-frames_where pick (x ∷ xs) = ap suc (length-frames_where (λ i. pick (suc i)) xs)

frame_where : (pick : ℕ → Bool) (xs : List (Option HandFrame)) (f : ℕ) → get_or (frames_where pick xs) f None ≡ cond (pick f) (get_or xs f None) None
frame_where pick [] f = grind (arith, common_steps)
frame_where pick (x ∷ xs) zero = refl
frame_where pick (x ∷ xs) (suc f) = frame_where (λ i. pick (suc i)) xs f

right_where : (pick : ℕ → Bool) (xs : List Bool) (page : ℕ) → get_or (rights_where pick xs) page false ≡ cond (pick page) (get_or xs page false) false
right_where pick [] page = grind (arith, common_steps)
right_where pick (x ∷ xs) zero = grind (arith, common_steps)
right_where pick (x ∷ xs) (suc page) = right_where (λ i. pick (suc i)) xs page

-- what is picked and what isn't make up the whole
both_frames : (b : Bool) (m : Option HandFrame) → bit_of (is_some (cond (not b) m None)) + bit_of (is_some (cond b m None)) ≡ bit_of (is_some m)
both_frames b m = grind (arith, common_steps)

both_rights : (b x : Bool) → bit_of (cond (not b) x false) + bit_of (cond b x false) ≡ bit_of x
both_rights b x = grind (arith, common_steps)

-- a frame that was picked was there
was_some : (b : Bool) (m : Option HandFrame) (x : HandFrame) → cond b m None ≡ Some x → m ≡ Some x
was_some b m x e = grind (arith, common_steps)

pub seats_can_be_split : (o : Opening) (v : View) (caller : Option ℕ) (tickets : ℕ) (frames pages : ℕ → Bool) → IsAtRest o v → tickets ≤ v.left → (0 < tickets → IsSome caller)
    → Splits o v (kept_part v tickets frames pages) (given_part v caller tickets frames pages)
seats_can_be_split o v caller tickets frames pages rests few number = record {
  rests = rests;
  kept_rests = record { seated = record { cells = rests.seated.cells; hand = length-frames_where (λ i. not (frames i)) v.hand ∙ rests.seated.hand; image = rests.seated.image }; holds_none = rests.holds_none; all_marked = rests.all_marked };
  given_rests = record { seated = record { cells = rests.seated.cells; hand = length-frames_where frames v.hand ∙ rests.seated.hand; image = tt }; holds_none = refl; all_marked = refl };
  entries = refl;
  no_entries = refl;
  noticed = refl;
  no_notices = refl;
  caller = refl;
  given_caller = number;
  left = omega arith;
  seen = refl;
  given_seen = refl;
  rights = λ page.
      let a = ap bit_of (right_where (λ i. not (pages i)) v.mover page) in
      let b = ap bit_of (right_where pages v.mover page) in
      let c = both_rights (pages page) (get_or v.mover page false) in
      omega arith;
  in_hand = λ f.
      let a = ap (λ (m : Option HandFrame). bit_of (is_some m)) (frame_where (λ i. not (frames i)) v.hand f) in
      let b = ap (λ (m : Option HandFrame). bit_of (is_some m)) (frame_where frames v.hand f) in
      let c = both_frames (frames f) (hand_frame v f) in
      omega arith;
  stored = λ f x is. (x, was_some (not (frames f)) (hand_frame v f) x (sym (frame_where (λ i. not (frames i)) v.hand f) ∙ is), refl);
  given_stored = λ f x is. (x, was_some (frames f) (hand_frame v f) x (sym (frame_where frames v.hand f) ∙ is), refl);
  scan = inl (refl, refl);
  journal = omega arith;
}

-- ---- a join

length-hand_of_both : (xs ys : List (Option HandFrame)) → length xs ≡ length ys → length (hand_of_both xs ys) ≡ length xs
length-hand_of_both [] ys e = sym e
length-hand_of_both (x ∷ xs) [] e = refl
length-hand_of_both (x ∷ xs) (y ∷ ys) e = ap suc (length-hand_of_both xs ys (omega arith))

frame_in_both : (xs ys : List (Option HandFrame)) (f : ℕ) → get_or (hand_of_both xs ys) f None ≡ frame_of_both (get_or xs f None) (get_or ys f None)
frame_in_both [] ys f = refl
frame_in_both (x ∷ xs) [] f = grind (arith, common_steps)
frame_in_both (x ∷ xs) (y ∷ ys) zero = refl
frame_in_both (x ∷ xs) (y ∷ ys) (suc f) = frame_in_both xs ys f

right_in_both : (xs ys : List Bool) (page : ℕ) → get_or (rights_of_both xs ys) page false ≡ (get_or xs page false || get_or ys page false)
right_in_both [] ys page = refl
right_in_both (x ∷ xs) [] page = grind (arith, common_steps)
right_in_both (x ∷ xs) (y ∷ ys) zero = refl
right_in_both (x ∷ xs) (y ∷ ys) (suc page) = right_in_both xs ys page

-- where not both are there, one count is the sum
one_frame : (m n : Option HandFrame) → bit_of (is_some m) + bit_of (is_some n) ≤ 1 → bit_of (is_some (frame_of_both m n)) ≡ bit_of (is_some m) + bit_of (is_some n)
one_frame m n few = grind (arith, common_steps)

one_right : (b c : Bool) → bit_of b + bit_of c ≤ 1 → bit_of (b || c) ≡ bit_of b + bit_of c
one_right b c few = grind (arith, common_steps)

from_both : (m n : Option HandFrame) (x : HandFrame) → frame_of_both m n ≡ Some x → (m ≡ Some x) ⊎ (n ≡ Some x)
from_both m n x e = grind (arith, common_steps)

pub seats_can_be_joined : (o : Opening) (words : List ℕ) (views : List View) (seat gone : ℕ) (v w : View) → Sound o words views → Has views seat v → Has views gone w → seat ≢ gone → IsSeated o v → IsAtRest o w → ((h : Held) → v.held ≡ Some h → right_to h.page.0 w ≡ 0)
    → Joins o v w (joined_view v w)
seats_can_be_joined o words views seat gone v w s at_v at_w apart seated rests no_right = record {
  rests = rests;
  seated = record { cells = seated.cells; hand = length-hand_of_both v.hand w.hand (seated.hand ∙ sym rests.seated.hand) ∙ seated.hand; image = seated.image };
  held = refl;
  no_right = no_right;
  unmarked = refl;
  entries = refl;
  by_right = refl;
  last = refl;
  by_ticket = refl;
  caller = refl;
  left = refl;
  seen = refl;
  rights = λ page.
      let two = two_members_le_sum_by (λ x. right_to page x) views seat gone v w apart at_v at_w in
      let one = s.turn.one_mover page in
      let a = ap bit_of (right_in_both v.mover w.mover page) in
      let b = one_right (get_or v.mover page false) (get_or w.mover page false) (omega arith) in
      omega arith;
  in_hand = λ f.
      let two = two_members_le_sum_by (λ x. times_in_hand f x) views seat gone v w apart at_v at_w in
      let a = ap (λ (m : Option HandFrame). bit_of (is_some m)) (frame_in_both v.hand w.hand f) in
      let b = one_frame (hand_frame v f) (hand_frame w f) (once f two) in
      omega arith;
  stored = λ f x is. ⊎_elim
      (λ q. inl (x, q, refl))
      (λ q. inr (x, q, refl))
      (from_both (hand_frame v f) (hand_frame w f) x (sym (frame_in_both v.hand w.hand f) ∙ is));
  scan = refl;
  journal = omega arith;
} where
  once : (f : ℕ) → times_in_hand f v + times_in_hand f w ≤ times_in_hands f views → times_in_hand f v + times_in_hand f w ≤ 1
  once f two = dite (dec_le o.frames f)
      (λ high. let a = s.frames.no_other f high in omega arith)
      (λ low. let a = s.frames.each_once f (omega arith) in omega arith)
