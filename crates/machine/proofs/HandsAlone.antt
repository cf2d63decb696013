-- What hand-overs of frames leave of the views: all but the hands of two seats, behind one of them and behind those of the
-- blocks of a list.
use Rattle.std.proofs.Common.{◌≡◌, ◌≢◌, ℕ, ◌+◌, ◌<◌, List, [], ◌∷◌, length, length-set, set, sym, ap, ◌∙◌, subst, arith, Option}
use mathlib.Core.Logic.{dite}
use native.Mathlib.Decide.{ℕ_discrete}
use Rattle.evac_model.specs.Geometry.{first_frame}
use Rattle.core_state.specs.declared.hand.HandFrame.{HandFrame}
use Rattle.core_state.specs.declared.snapshot.Snapshot.{Snapshot}
use Rattle.core_state.specs.declared.view.View.{View}
use Rattle.core_state.specs.HandOvers.{hand_without, hand_with, views_after_hand_over}
use Rattle.core_state.specs.Views.{view_of}
use Rattle.machine.specs.Made.{handed_frames, handed_blocks}
use Rattle.machine.specs.World.{Setting}
use Rattle.machine.proofs.HandedFrames.{giver_after, receiver_after, other_after}

-- ---- one view

-- all but the hand is as it was
abbrev pub IsButHand : (before after : View) → Type 0
IsButHand before after = after ≡ record before { hand = after.hand }

but_hand : (before after : View) (hand : List (Option HandFrame)) → after ≡ record before { hand = hand } → IsButHand before after
but_hand before after hand is = is ∙ ap (λ (v : View). record before { hand = v.hand }) (sym is)

pub same_but_hand : (before after : View) → after ≡ before → IsButHand before after
same_but_hand before after is = but_hand before after before.hand is

-- and again
but_hand_again : (before between after : View) → IsButHand before between → IsButHand between after → IsButHand before after
but_hand_again before between after first then = then ∙ ap (λ (v : View). record v { hand = after.hand }) first

-- ---- a hand-over

abbrev pub handed_views : List View → (from to first n : ℕ) → List View
handed_views views from to first n = views_after_hand_over views from to (view_of views from) (view_of views to) first n

length-handed : (views : List View) (from to first n : ℕ) → length (handed_views views from to first n) ≡ length views
length-handed views from to first n =
    let given : View = record (view_of views from) { hand = hand_without (view_of views from).hand first n } in
    let got : View = record (view_of views to) { hand = hand_with (view_of views to).hand (view_of views from).hand first n } in
    length-set (set views from given) to got ∙ length-set views from given

module _ (views : List View) (from to : ℕ) (apart : from ≢ to) (from_lt : from < length views) (to_lt : to < length views) (first n : ℕ) where
  abbrev later : List View
  later = handed_views views from to first n

  hands_alone : (seat : ℕ) → IsButHand (view_of views seat) (view_of later seat)
  hands_alone seat = dite (ℕ_discrete seat from)
      (λ e. subst (λ (i : ℕ). IsButHand (view_of views i) (view_of later i)) (sym e)
      (but_hand (view_of views from) (view_of later from) (hand_without (view_of views from).hand first n) (giver_after views from to apart from_lt to_lt first n)))
      (λ not_from. dite (ℕ_discrete seat to)
      (λ e. subst (λ (i : ℕ). IsButHand (view_of views i) (view_of later i)) (sym e)
      (but_hand (view_of views to) (view_of later to) (hand_with (view_of views to).hand (view_of views from).hand first n) (receiver_after views from to apart from_lt to_lt first n)))
      (λ not_to. same_but_hand (view_of views seat) (view_of later seat) (other_after views from to apart from_lt to_lt first n seat not_from not_to)))

-- where `P` holds of the views, it does behind a hand-over of frames from the one seat to the other
abbrev pub HandsOver : Setting → (List View → Type 0) → (from to : ℕ) → Type 0
HandsOver c P from to = (views : List View) → length views ≡ c.owners + 4 → P views → (first n : ℕ) → P (handed_views views from to first n)

module _ (c : Setting) (from to : ℕ) (apart : from ≢ to) (from_in : from < c.owners + 4) (to_in : to < c.owners + 4) (v : View) where
  pub other_stays : (other : ℕ) → other ≢ from → other ≢ to → HandsOver c (λ (l : List View). view_of l other ≡ v) from to
  other_stays other not_from not_to = λ views long same first n.
      other_after views from to apart (omega arith) (omega arith) first n other not_from not_to ∙ same

  pub hand_alone : (seat : ℕ) → HandsOver c (λ (l : List View). IsButHand v (view_of l seat)) from to
  hand_alone seat = λ views long but first n.
      but_hand_again v (view_of views seat) (view_of (handed_views views from to first n) seat) but (hands_alone views from to apart (omega arith) (omega arith) first n seat)

-- it does behind those of the blocks of a list, too
pub holds_behind : (c : Setting) (P : List View → Type 0) (x : Snapshot) (from to : ℕ) (blocks : List ℕ) → HandsOver c P from to → length x.views ≡ c.owners + 4 → P x.views
    → (length (handed_blocks c.sizes x from to blocks).views ≡ c.owners + 4) × P (handed_blocks c.sizes x from to blocks).views
holds_behind c P x from to [] hands long p = (long, p)
holds_behind c P x from to (block ∷ more) hands long p =
    holds_behind c P (handed_frames x from to (first_frame c.sizes block) c.sizes.block) from to more hands
    (length-handed x.views from to (first_frame c.sizes block) c.sizes.block ∙ long)
    (hands x.views long p (first_frame c.sizes block) c.sizes.block)
