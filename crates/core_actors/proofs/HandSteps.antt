-- The frame that an owner has in hand after each kind of action.
use Rattle.std.proofs.Common.{◌≡◌, ◌≢◌, ℕ, ◌+◌, ◌<◌, ◌≤◌, List, length, length-set, get_or, get_or-set_same, get_or-set_other, set, refl, sym, ap, ◌∙◌, subst, arith, Option, Some, None, IsSomeAnd}
use Rattle.std.proofs.lemmas.List.{set-get_or}
use mathlib.Core.Logic.{dite}
use native.Mathlib.Decide.{ℕ_discrete}
use Rattle.evac_model.specs.declared.names.FrameNo.{FrameNo}
use Rattle.core_state.specs.declared.hand.HandFrame.{HandFrame}
use Rattle.core_state.specs.declared.view.View.{View}
use Rattle.core_state.specs.Views.{hand_frame}
use Rattle.core_state.specs.Steps.{with_hand_store}
use Rattle.core_actors.specs.Fits.{IsZeroed, HasInHand}

-- ---- a hand with one frame at most

module _ (v w : View) where
  -- the hand is the same
  pub has_same : (m : Option FrameNo) (P Q : HandFrame → Type 0) → w.hand ≡ v.hand → ((f : FrameNo) (x : HandFrame) → m ≡ Some f → P x → Q x) → HasInHand v m P → HasInHand w m Q
  has_same None P Q same more none = λ frame. ap (λ (l : List (Option HandFrame)). get_or l frame None) same ∙ none frame
  has_same (Some f) P Q same more some = (
    λ frame ne. ap (λ (l : List (Option HandFrame)). get_or l frame None) same ∙ some.0 frame ne,
    more_of (hand_frame v f.0) (hand_frame w f.0) (ap (λ (l : List (Option HandFrame)). get_or l f.0 None) (sym same)) (some.1),
  )
    where
      some_of : (x : Option HandFrame) → IsSomeAnd x P → IsSomeAnd x Q
      some_of None h = h
      some_of (Some x) h = more f x refl h

      more_of : (x y : Option HandFrame) → x ≡ y → IsSomeAnd x P → IsSomeAnd y Q
      more_of x y e h = subst (λ (z : Option HandFrame). IsSomeAnd z Q) e (some_of x h)

  -- one place is set, and nothing else was there
  module _ (f : FrameNo) (y : Option HandFrame) (is : w.hand ≡ set v.hand f.0 y) (lt : f.0 < length v.hand) (others : (frame : ℕ) → frame ≢ f.0 → hand_frame v frame ≡ None) where
    at_others : (frame : ℕ) → frame ≢ f.0 → hand_frame w frame ≡ None
    at_others frame ne = ap (λ (l : List (Option HandFrame)). get_or l frame None) is ∙ (get_or-set_other v.hand f.0 frame y None ne ∙ others frame ne)

    at_it : hand_frame w f.0 ≡ y
    at_it = ap (λ (l : List (Option HandFrame)). get_or l f.0 None) is ∙ get_or-set_same v.hand f.0 y None lt

    pub has_set : (P : HandFrame → Type 0) → IsSomeAnd y P → HasInHand w (Some f) P
    has_set P some = (at_others, subst (λ (z : Option HandFrame). IsSomeAnd z P) (sym at_it) some)

    pub has_set_none : (P : HandFrame → Type 0) → y ≡ None → HasInHand w None P
    has_set_none P e = λ frame. dite (ℕ_discrete frame f.0) (λ here. ap (λ (i : ℕ). hand_frame w i) here ∙ (at_it ∙ e)) (λ ne. at_others frame ne)

-- a store in the held page's frame, which isn't in hand, leaves an empty hand as it is
pub store_elsewhere : (v : View) (f cell value : ℕ) → hand_frame v f ≡ None → set v.hand f (with_hand_store (hand_frame v f) cell value) ≡ v.hand
store_elsewhere v f cell value none =
    ap (λ (m : Option HandFrame). set v.hand f (with_hand_store m cell value)) none
    ∙ (ap (λ (m : Option HandFrame). set v.hand f m) (sym none) ∙ set-get_or v.hand f None)

-- ---- zeros

module _ (size : ℕ) where
  -- the hand is the same, and of its frame is known as much or less
  pub hand_as : (v w : View) (m : Option FrameNo) (before after : ℕ) → w.hand ≡ v.hand → after ≤ before → HasInHand v m (IsZeroed size before) → HasInHand w m (IsZeroed size after)
  hand_as v w m before after same le h =
      has_same v w m (IsZeroed size before) (IsZeroed size after) same (λ f x e p. record { sized = p.sized; are_zero = λ cell low early. p.are_zero cell low (omega arith) }) h

  pub zero_more : (cell : ℕ) (m : Option HandFrame) → cell < size → IsSomeAnd m (IsZeroed size cell) → IsSomeAnd (with_hand_store m cell 0) (IsZeroed size (cell + 1))
  zero_more cell None lt h = h
  zero_more cell (Some x) lt h = record {
    sized = length-set x.stores cell (Some 0) ∙ h.sized;
    are_zero = λ i low early. dite (ℕ_discrete i cell)
        (λ here. let a = h.sized in ap (λ (j : ℕ). get_or (set x.stores cell (Some 0)) j None) here ∙ get_or-set_same x.stores cell (Some 0) None (omega arith))
        (λ ne. get_or-set_other x.stores cell i (Some 0) None ne ∙ h.are_zero i low (omega arith));
  }
