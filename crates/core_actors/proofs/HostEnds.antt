-- A host that has ended: it did what the lines of its commands say, and its driver has nothing left. Its driver draws no ticket at any
-- place.
use Rattle.std.proofs.Common.{◌≡◌, ℕ, zero, suc, true, false, List, [], ◌∷◌, ◌++◌, drop, reverse, append-nil, slice_get, refl, sym, ap, ◌∙◌, subst, Option, None, Some, inl, inr}
use Rattle.std.specs.Prelude.{IsSomeAnd}
use Rattle.std.proofs.lemmas.Bool.{false≢true}
use Rattle.evac_model.specs.declared.device_journal.DeviceAction.{DeviceAction}
use Rattle.evac_model.specs.declared.evacuation.MoveLease.{MoveLease}
use Rattle.evac_model.specs.declared.host.HostCommand.{HostCommand}
use Rattle.evac_model.specs.declared.host.HostRun.{HostRun}
use Rattle.evac_model.specs.declared.space.SpaceAction.{SpaceAction}
use Rattle.evac_model.specs.declared.tried.Tried.{Tried}
use Rattle.evac_model.specs.DeviceAnswer.{device_at_start}
use Rattle.evac_model.specs.Geometry.{Sizes}
use Rattle.evac_model.specs.Numbers.{is_in}
use Rattle.evac_model.specs.Pairing.{actions_of}
use Rattle.core_state.specs.declared.held.Held.{Held}
use Rattle.core_state.specs.declared.opening.Opening.{Opening}
use Rattle.core_state.specs.declared.view.View.{View}
use Rattle.core_state.specs.Steps.{MayLetGo}
use Rattle.core_state.specs.Views.{view_of}
use Rattle.evacuate.specs.Evacuating.{Evacuating}
use Rattle.evacuate.specs.Tale.{Tale}
use Rattle.host_work.specs.Commands.{AreDoneBy}
use Rattle.host_work.specs.Requests.{AreTakenAway}
use Rattle.machine.specs.World.{Setting, World, HasFrame, device_now, is_held}
use Rattle.core_actors.specs.declared.host_place.HostPlace.{HostPlace}
use Rattle.core_actors.specs.declared.host_place.HostPlace.TheVariants as places
use Rattle.core_actors.specs.declared.host_place.MovePlace.{MovePlace}
use Rattle.core_actors.specs.declared.host_place.MovePlace.TheVariants.{Taking, Beginning, Loading, Storing, Marking, Remapping, Releasing}
use Rattle.core_actors.specs.Hosts.{HostState, away, has_none, host_ended, command_blocks}
use Rattle.core_actors.specs.HostSeat.{for_page_in, IsThatFrame, IsHeldToMove, IsCopying, Rests, IsMovingAt, IsViewAt, HostSeat}
use Rattle.core_actors.specs.HostSpace.{IsPlacedAt}
use Rattle.core_actors.specs.HostDid.{taken_away, IsDoingAt}
use Rattle.core_actors.specs.HostFound.{truth}
use Rattle.core_actors.specs.HostKept.{HostKept}

-- ---- no command is under way

no_item : (xs : List ℕ) (n x : ℕ) → xs ≡ [] → ¬ (slice_get xs n ≡ Some x)
no_item [] zero x e is = absurd (cc)
no_item [] (suc n) x e is = absurd (cc)
no_item (y ∷ ys) n x e is = absurd (cc)

module _ (c : Setting) (w : World) (s : Sizes) (number : ℕ) (e : Evacuating) (blocks : List ℕ) (waiting : ℕ) (tried : List Tried) where
  abbrev host_at : List HostCommand → HostPlace → HostState
  host_at left place = record { sizes = s; left = left; number = number; place = place; evacuation = e; blocks = blocks; waiting = waiting; tried = tried }

  at_asking : (t : Tale) (done : List SpaceAction) (sent : List DeviceAction) (left : List HostCommand) (place : HostPlace)
      → IsPlacedAt c w (host_at left place) t place → IsDoingAt c w w done sent (host_at left place) t place → has_none left ≡ true → (left ≡ []) × (place ≡ places.Asking)
  at_asking t done sent (x ∷ xs) place p d ended = absurd (false≢true ended)
  at_asking t done sent [] places.Asking p d ended = (refl, refl)
  at_asking t done sent [] places.Evacuating p d ended = absurd (no_item blocks _ _ p.0.blocks p.0.block)
  at_asking t done sent [] (places.Moving lease at) p d ended = absurd (no_item blocks _ _ p.0.blocks p.0.block)
  at_asking t done sent [] places.TakingAway p d ended = absurd (no_item blocks _ _ p.0.blocks p.0.block)
  at_asking t done sent [] (places.Zeroing frame cell) p d ended = absurd (no_item blocks _ _ p.0.blocks p.0.block)
  at_asking t done sent [] (places.MarkingZeros frame) p d ended = absurd (no_item blocks _ _ p.blocks p.block)
  at_asking t done sent [] (places.PuttingOnline result) p d ended = absurd d.whole

module _ (c : Setting) (w : World) (runs : List HostRun) (h : HostState) (k : HostKept c w runs h) (ended : host_ended h ≡ true) where
  -- it stands before a command that isn't there
  pub ended_asking : (h.left ≡ []) × (h.place ≡ places.Asking)
  ended_asking = at_asking c w h.sizes h.number h.evacuation h.blocks h.waiting h.tried k.tale k.did.done k.did.sent h.left h.place k.space.place k.did.doing ended

  none_waits : (h.waiting ≡ 0) × (h.blocks ≡ [])
  none_waits =
      let p = subst (λ (x : HostPlace). IsPlacedAt c w h k.tale x) ended_asking.1 k.space.place in
      (p.0, p.1 ∙ ap (λ (l : List HostCommand). command_blocks c.sizes (device_now c w).plugged l) ended_asking.0)

  pub none_away : away h ≡ []
  none_away = ap (λ (n : ℕ). drop n h.blocks) none_waits.0 ∙ none_waits.1

  pub ended_blocks : (block : ℕ) → is_held c w block ≡ false
  ended_blocks block = k.space.held block ∙ ap (λ (l : List ℕ). is_in block l) none_away

  pub ended_hands : (frame : ℕ) → ¬ HasFrame w 0 frame
  ended_hands frame has = elim (k.seat.hand frame has) [
    | inl of ↦ false≢true (sym (ended_blocks of.block) ∙ of.held)
    | inr that ↦ absurd (subst (λ (x : HostPlace). IsThatFrame (for_page_in h x) frame) ended_asking.1 that)
  ]

  pub ended_rests : Rests (view_of w.snapshot.views 0)
  ended_rests = subst (λ (x : HostPlace). IsViewAt c.opening (view_of w.snapshot.views 0) x) ended_asking.1 k.seat.view

  -- ---- what its commands did

  took_none : (done : List SpaceAction) (blocks : List ℕ) (emptying : List SpaceAction) → blocks ≡ [] → AreTakenAway (truth c w) done blocks emptying → emptying ≡ []
  took_none done [] emptying none taken = taken
  took_none done (b ∷ bs) emptying none taken = absurd (cc)

  pub ended_did : AreDoneBy (truth c w) [] c.sizes (device_at_start c.sizes) runs (actions_of 0 w.space) w.device
  ended_did =
      let d = (subst (λ (x : HostPlace). IsDoingAt c w w k.did.done k.did.sent h k.tale x) ended_asking.1 k.did.doing).0 in
      let none : d.emptying ≡ [] = took_none k.did.done (taken_away h) d.emptying (ap (λ (l : List ℕ). reverse l) none_away) d.taken in
      let made : actions_of 0 w.space ≡ k.did.done = d.made ∙ (ap (λ (l : List SpaceAction). k.did.done ++ (l ++ [])) none ∙ append-nil k.did.done) in
      subst (λ (l : List DeviceAction). AreDoneBy (truth c w) [] c.sizes (device_at_start c.sizes) runs (actions_of 0 w.space) l) (sym d.nothing_sent)
      (subst (λ (l : List SpaceAction). AreDoneBy (truth c w) [] c.sizes (device_at_start c.sizes) runs l k.did.sent) (sym made) k.did.ended)

-- ---- the driver draws no ticket

abbrev NoTicket : Held → Type 0
NoTicket x = x.ticket ≡ None

in_some : (P : Held → Type 0) → ((x : Held) → P x → NoTicket x) → (held : Option Held) → IsSomeAnd held P → (x : Held) (t : ℕ) → held ≡ Some x → ¬ (x.ticket ≡ Some t)
in_some P f None p x t is drawn = absurd (cc)
in_some P f (Some y) p x t is drawn =
    let same : y ≡ x = cc in
    let none : y.ticket ≡ None = f y p in
    let at : y.ticket ≡ Some t = ap (λ (z : Held). z.ticket) same ∙ drawn in
    absurd (cc)

in_none : (held : Option Held) → held ≡ None → (x : Held) (t : ℕ) → held ≡ Some x → ¬ (x.ticket ≡ Some t)
in_none held none x t is drawn = let both : None ≡ Some x = sym none ∙ is in absurd (cc)

module _ (o : Opening) (v : View) (lease : MoveLease) where
  draws_none_copying : (n : ℕ) → IsCopying o v lease n → (x : Held) (t : ℕ) → v.held ≡ Some x → ¬ (x.ticket ≡ Some t)
  draws_none_copying n copying = in_some _ (λ x p. p.0.undrawn) v.held copying

  draws_none_moving : (at : MovePlace) → IsMovingAt o v lease at → (x : Held) (t : ℕ) → v.held ≡ Some x → ¬ (x.ticket ≡ Some t)
  draws_none_moving Taking m = in_none v.held m.0
  draws_none_moving Beginning m = in_some (IsHeldToMove o.cells lease 0) (λ x p. p.undrawn) v.held m.1
  draws_none_moving (Loading cell) m = draws_none_copying cell m.2
  draws_none_moving (Storing cell value) m = draws_none_copying cell m.3
  draws_none_moving Marking m = draws_none_copying o.cells m.1
  draws_none_moving Remapping m = draws_none_copying o.cells m.1
  draws_none_moving (Releasing word) m = in_some (MayLetGo o v) (λ x p. p.undrawn) v.held m.1

draws_none_at : (o : Opening) (v : View) (place : HostPlace) → IsViewAt o v place → (x : Held) (t : ℕ) → v.held ≡ Some x → ¬ (x.ticket ≡ Some t)
draws_none_at o v places.Asking p = in_none v.held p.0
draws_none_at o v places.Evacuating p = in_none v.held p.0
draws_none_at o v (places.Moving lease at) p = draws_none_moving o v lease at p
draws_none_at o v places.TakingAway p = in_none v.held p.0
draws_none_at o v (places.Zeroing frame cell) p = in_none v.held p.0
draws_none_at o v (places.MarkingZeros frame) p = in_none v.held p.0
draws_none_at o v (places.PuttingOnline result) p = in_none v.held p.0

pub draws_none : (c : Setting) (w : World) (h : HostState) → HostSeat c w h → (x : Held) (t : ℕ) → (view_of w.snapshot.views 0).held ≡ Some x → ¬ (x.ticket ≡ Some t)
draws_none c w h k = draws_none_at c.opening (view_of w.snapshot.views 0) h.place k.view
