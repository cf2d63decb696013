-- `Seats` is kept by each step on a mapping.
use Rattle.std.proofs.Common.{◌≡◌, ◌⊎◌, ℕ, zero, suc, List, [], ◌∷◌, length, length-set, get_or, set, sym, refl, ap, ◌∙◌, subst, inl, inr, ⊎_elim, Option, Some, None}
use Rattle.std.proofs.lemmas.List.{length-replicate}
use Rattle.std.proofs.lemmas.Option.{same_Some, none-some}
use Rattle.evac_words.specs.Word.{frame_of}
use Rattle.core_state.specs.declared.hand.HandFrame.{HandFrame}
use Rattle.core_state.specs.declared.held.Held.{Held}
use Rattle.core_state.specs.declared.keeper.Keeper.{Keeper}
use Rattle.core_state.specs.declared.opening.Opening.{Opening}
use Rattle.core_state.specs.declared.step.MoveStep.{MoveStep}
use Rattle.core_state.specs.declared.step.MoveStep.TheVariants.{Moving, Remap, Map, Unmap}
use Rattle.core_state.specs.declared.view.View.{View}
use Rattle.core_state.specs.Views.{Has}
use Rattle.core_state.specs.Seats.{IsHeldRoom, IsSeat, Seats}
use Rattle.core_state.specs.MoveSteps.{let_out, MayBegin, MayRemap, MayMap, MayUnmap, InHand, held_after_begin, held_after_remap, hand_after_remap, held_after_map, held_after_unmap, hand_after_unmap, AllowedMove, view_after_move}
use Rattle.core_state.proofs.Holding.{for_some}
use Rattle.core_state.proofs.SeatSteps.{seated_seat, seats-set, seat-kept}
use Rattle.core_moves.specs.Moved.{views_after_move}
use Rattle.core_moves.proofs.Moves.{begun, remapped, mapped, unmapped}

-- what stands at a place, once something was put at one
from_set : {A : Type 0} (l : List (Option A)) (i f : ℕ) (m : Option A) (x : A) → get_or (set l i m) f None ≡ Some x → (m ≡ Some x) ⊎ (get_or l f None ≡ Some x)
from_set [] i f m x e = inr e
from_set (y ∷ l) zero zero m x e = inl e
from_set (y ∷ l) zero (suc f) m x e = inr e
from_set (y ∷ l) (suc i) zero m x e = inr e
from_set (y ∷ l) (suc i) (suc f) m x e = from_set l i f m x e

-- each frame in the hand has so many places
abbrev AreSized : ℕ → List (Option HandFrame) → Type 0
AreSized n hand = (f : ℕ) (x : HandFrame) → get_or hand f None ≡ Some x → length x.stores ≡ n

sized-set : (n : ℕ) (hand : List (Option HandFrame)) (i : ℕ) (m : Option HandFrame) → AreSized n hand → ((x : HandFrame) → m ≡ Some x → length x.stores ≡ n) → AreSized n (set hand i m)
sized-set n hand i m old new f x is = ⊎_elim (λ e. new x e) (λ e. old f x e) (from_set hand i f m x is)

module _ (k : Keeper) (o : Opening) (views : List View) (seat : ℕ) (v : View) (at : Has views seat v) (s : Seats o views) where
  sized-without : (hand : List (Option HandFrame)) (f : ℕ) → AreSized o.cells hand → AreSized o.cells (set hand f None)
  sized-without hand f old = sized-set o.cells hand f None old (λ x e. absurd (none-some x e))

  sized-let_out : (hand : List (Option HandFrame)) (f : ℕ) (h : Held) → v.cells ≡ o.cells → AreSized o.cells hand → AreSized o.cells (set hand f (Some (let_out k v.cells h)))
  sized-let_out hand f h size old = sized-set o.cells hand f (Some (let_out k v.cells h)) old
      (λ x e. ap (λ (y : HandFrame). length y.stores) (sym (same_Some (let_out k v.cells h) x e)) ∙ length-replicate v.cells None ∙ size)

  -- the view holds a page with its places, and has this hand
  changed : (w : View) (g : Held) (hand : List (Option HandFrame)) → IsSeat o v → w.cells ≡ v.cells → w.scan ≡ v.scan → w.actions ≡ v.actions
      → w.held ≡ Some g → length g.loads ≡ o.cells → length g.stores ≡ o.cells → w.hand ≡ hand → length hand ≡ length v.hand → AreSized o.cells hand → Seats o (set views seat w)
  changed w g hand is cells scan actions held loads stores now long sized = seats-set o views s seat v at w
      (seat-kept o v w is cells (ap (λ (l : List (Option HandFrame)). length l) now ∙ long) scan
      (λ h e. subst (λ (y : Held). IsHeldRoom o.cells y) (same_Some g h (sym held ∙ e)) (record { loads = loads; stores = stores }))
      (λ f x e. sized f x (sym (ap (λ (l : List (Option HandFrame)). get_or l f None) now) ∙ e))) actions

  seats-step : (step : MoveStep) → AllowedMove k o v step → Seats o (views_after_move k views seat v step)
  seats-step Moving may = let q = for_some v.held (MayBegin v) may.1 in let is = seated_seat o v (s.each seat v at) may.0 in
      changed (view_after_move k v Moving) (begun v q.0) v.hand is refl refl refl (ap (λ (m : Option Held). held_after_begin v m) q.1)
      (length-replicate v.cells None ∙ may.0.cells) (is.held q.0 q.1).stores refl refl is.in_hand
  seats-step (Remap frame) may = let q = for_some v.held (λ h. InHand v frame.0 (MayRemap k o h)) may.1 in let is = seated_seat o v (s.each seat v at) may.0 in
      changed (view_after_move k v (Remap frame)) (remapped q.0 frame.0) (set (set v.hand frame.0 None) (frame_of (q.0).word) (Some (let_out k v.cells q.0))) is refl refl refl
      (ap (λ (m : Option Held). held_after_remap m frame.0) q.1) (is.held q.0 q.1).loads (is.held q.0 q.1).stores
      (ap (λ (m : Option Held). hand_after_remap k v m frame.0) q.1)
      (length-set (set v.hand frame.0 None) (frame_of (q.0).word) (Some (let_out k v.cells q.0)) ∙ length-set v.hand frame.0 None)
      (sized-let_out (set v.hand frame.0 None) (frame_of (q.0).word) q.0 may.0.cells (sized-without v.hand frame.0 is.in_hand))
  seats-step (Map frame kind) may = let q = for_some v.held (λ h. InHand v frame.0 (λ x. MayMap k o h x kind)) may.1 in let is = seated_seat o v (s.each seat v at) may.0 in
      changed (view_after_move k v (Map frame kind)) (mapped v q.0 frame.0 kind) (set v.hand frame.0 None) is refl refl refl
      (ap (λ (m : Option Held). held_after_map v m frame.0 kind) q.1) (length-replicate v.cells None ∙ may.0.cells) (length-replicate v.cells None ∙ may.0.cells)
      refl (length-set v.hand frame.0 None) (sized-without v.hand frame.0 is.in_hand)
  seats-step Unmap may = let q = for_some v.held MayUnmap may.1 in let is = seated_seat o v (s.each seat v at) may.0 in
      changed (view_after_move k v Unmap) (unmapped v q.0) (set v.hand (frame_of (q.0).word) (Some (let_out k v.cells q.0))) is refl refl refl
      (ap (λ (m : Option Held). held_after_unmap v m) q.1) (length-replicate v.cells None ∙ may.0.cells) (length-replicate v.cells None ∙ may.0.cells)
      (ap (λ (m : Option Held). hand_after_unmap k v m) q.1)
      (length-set v.hand (frame_of (q.0).word) (Some (let_out k v.cells q.0)))
      (sized-let_out v.hand (frame_of (q.0).word) q.0 may.0.cells is.in_hand)

pub moves_keep_seats : (k : Keeper) (o : Opening) (views : List View) (seat : ℕ) (v : View) (step : MoveStep) → Has views seat v → Seats o views → AllowedMove k o v step → Seats o (views_after_move k views seat v step)
moves_keep_seats k o views seat v step at s may = seats-step k o views seat v at s step may
