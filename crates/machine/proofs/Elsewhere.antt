-- What an action leaves of others: the views of all other owners, and what their frames are out for; of who keeps the
-- free frames and the unplugged ones it changes hands alone, of the driver, too, where it is no step, and where an owner
-- makes it, the driver has what it had.
use Rattle.std.proofs.Common.{◌≡◌, ◌≢◌, ℕ, ◌+◌, ◌<◌, ◌≤◌, ◌&&◌, List, length, get_or-set_other, set, refl, sym, ap, ◌∙◌, subst, arith, Option, Some, None}
use Rattle.std.specs.Prelude.{⊤}
use Rattle.evac_model.specs.declared.device.Response.{Response}
use Rattle.evac_model.specs.declared.names.BlockNo.{BlockNo}
use Rattle.evac_model.specs.declared.names.FrameNo.{FrameNo}
use Rattle.evac_model.specs.declared.names.Kind.{Kind}
use Rattle.evac_model.specs.declared.names.Kind.TheVariants.{Movable}
use Rattle.evac_model.specs.declared.names.PageNo.{PageNo}
use Rattle.evac_model.specs.declared.space.SpaceAction.TheVariants as space
use Rattle.evac_model.specs.DeviceAnswer.{request_in}
use Rattle.evac_model.specs.Geometry.{first_frame}
use Rattle.evac_model.specs.DeviceJournal.{answer_to}
use Rattle.evac_model.specs.HostCommands.{plugged_by, blocks_of}
use Rattle.evac_model.specs.Numbers.{is_in}
use Rattle.evac_model.specs.SpaceJournal.{Leased, out_for, lease_of}
use Rattle.core_state.specs.declared.keeper.Keeper.TheVariants.{OneOwner}
use Rattle.core_state.specs.declared.view.View.{View}
use Rattle.core_state.specs.MoveSteps.{view_after_move}
use Rattle.core_state.specs.Steps.{view_after}
use Rattle.core_state.specs.Stepped.{word_found}
use Rattle.core_state.specs.Views.{view_of, spent}
use Rattle.space.specs.Refusals.{first_unmovable, next_out}
use Rattle.machine.specs.declared.action.Action.{Action}
use Rattle.machine.specs.declared.action.Action.TheVariants as actions
use Rattle.machine.specs.declared.action.BlockCall.{BlockCall}
use Rattle.machine.specs.declared.action.BlockCall.TheVariants.{Isolate, Target, Undo, Offline, Online}
use Rattle.machine.specs.declared.action.DeviceCall.TheVariants.{Request, Config}
use Rattle.machine.specs.declared.action.SpaceCall.TheVariants.{Lease, Return}
use Rattle.machine.specs.Consistent.{IsSetting, IsConsistent}
use Rattle.machine.specs.Made.{handed_blocks, lease_made, isolate_made, target_made, block_made, unplugged_by, request_made, made}
use Rattle.machine.specs.MayMake.{MayLease, MayTarget, MayAskForBlock, MayMake}
use Rattle.machine.specs.World.{Setting, World, free_seat, unplugged_seat, IsOwnerSeat, IsActorSeat, HasFrame, space_now, device_now, calls_now, is_held}
use Rattle.machine.proofs.HandsAlone.{IsButHand, same_but_hand, HandsOver, other_stays, hand_alone, holds_behind}
use Rattle.machine.proofs.LeasesKept.{lease_out, lease_offline}
use Rattle.machine.proofs.NotesKept.{noted_out}
use Rattle.machine.proofs.ReturnsKept.{return_out, return_offline, return_elsewhere}
use Rattle.machine.proofs.SpaceNow.{lease_is_free}
use Rattle.machine.proofs.TargetsKept.{target_out}

-- ---- the seats

owner_not_free : (c : Setting) (seat : ℕ) → IsOwnerSeat c seat → seat ≢ free_seat c
owner_not_free c seat owner = let high = owner.1 in omega arith

pub owner_not_driver : (c : Setting) (seat : ℕ) → IsOwnerSeat c seat → seat ≢ 0
owner_not_driver c seat owner = let low = owner.0 in omega arith

-- the driver alone asks for a block
asks_as_driver : (c : Setting) (seat : ℕ) (w : World) (call : BlockCall) → MayAskForBlock c seat w call → seat ≡ 0
asks_as_driver c seat w (Isolate block) may = may.driver
asks_as_driver c seat w (Target block after) may = may.driver
asks_as_driver c seat w (Undo block) may = may.driver
asks_as_driver c seat w (Offline block) may = may.driver
asks_as_driver c seat w (Online block) may = may.driver

-- an action that is no step on words or mappings
abbrev pub IsNoStep : Action → Type 0
IsNoStep (actions.Step step) = ⊥
IsNoStep (actions.Move step) = ⊥
IsNoStep (actions.Space call) = ⊤
IsNoStep (actions.Block call) = ⊤
IsNoStep (actions.Device call) = ⊤
IsNoStep actions.Ended = ⊤

-- ---- the views

-- `P` holds of the views behind any action where it does behind a step, and behind hand-overs
module _ (c : Setting) (w : World) (P : List View → Type 0) (seats : length w.snapshot.views ≡ c.owners + 4) (same : P w.snapshot.views) where
  lease_cases : (seat : ℕ) (page : PageNo) (kind : Kind) (l : Option Leased) → HandsOver c P (free_seat c) seat → P (lease_made c seat w page kind l).world.snapshot.views
  lease_cases seat page kind None hands = same
  lease_cases seat page kind (Some l) hands = hands w.snapshot.views seats same l.frame 1

  isolate_cases : (block : BlockNo) (unmovable : Option (FrameNo × PageNo)) → P (isolate_made w block unmovable).world.snapshot.views
  isolate_cases block None = same
  isolate_cases block (Some at) = same

  target_cases : (next : Option (FrameNo × PageNo)) (l : Option Leased) → HandsOver c P (free_seat c) 0 → P (target_made c w next l).world.snapshot.views
  target_cases None l hands = same
  target_cases (Some at) None hands = same
  target_cases (Some at) (Some l) hands = hands w.snapshot.views seats same l.frame 1

  block_cases : (call : BlockCall) → HandsOver c P (free_seat c) 0 → HandsOver c P 0 (free_seat c) → P (block_made c w call).world.snapshot.views
  block_cases (Isolate block) takes gives = isolate_cases block (first_unmovable c.sizes (space_now c w) block.0)
  block_cases (Target block after) takes gives = target_cases (next_out c.sizes (space_now c w) block.0 after) (lease_of c.sizes c.online (space_now c w) 0 Movable) takes
  block_cases (Undo block) takes gives = same
  block_cases (Offline block) takes gives = takes w.snapshot.views seats same (first_frame c.sizes block.0) c.sizes.block
  block_cases (Online block) takes gives = gives w.snapshot.views seats same (first_frame c.sizes block.0) c.sizes.block

  request_cases : (bytes : List ℕ) (response : Response) → HandsOver c P (unplugged_seat c) 0 → HandsOver c P 0 (unplugged_seat c) → P (request_made c w bytes response).world.snapshot.views
  request_cases bytes response takes gives =
      let more : List ℕ = blocks_of (plugged_by c.sizes (request_in bytes) response) in
      let gone : List ℕ = unplugged_by c.sizes (device_now c w).plugged (request_in bytes) response in
      let plugged = holds_behind c P w.snapshot (unplugged_seat c) 0 more takes seats same in
      (holds_behind c P (handed_blocks c.sizes w.snapshot (unplugged_seat c) 0 more) 0 (unplugged_seat c) gone gives plugged.0 plugged.1).1

  views_cases : (seat : ℕ) (action : Action) → MayMake c seat w action
      → (¬ IsNoStep action → IsActorSeat c seat → (v : View) → P (set w.snapshot.views seat v))
      → (IsActorSeat c seat → HandsOver c P (free_seat c) seat × HandsOver c P seat (free_seat c))
      → (seat ≡ 0 → HandsOver c P (unplugged_seat c) 0 × HandsOver c P 0 (unplugged_seat c))
      → P (made c seat w action).world.snapshot.views
  views_cases seat (actions.Step step) may stepped asks driver = stepped (λ no. no) may.actor (view_after OneOwner (view_of w.snapshot.views seat) step (word_found c.opening w.snapshot.words (view_of w.snapshot.views seat) step))
  views_cases seat (actions.Move step) may stepped asks driver = stepped (λ no. no) may.actor (view_after_move OneOwner (view_of w.snapshot.views seat) step)
  views_cases seat (actions.Space (Lease page kind)) may stepped asks driver = lease_cases seat page kind (lease_of c.sizes c.online (space_now c w) seat kind) (asks may.owner.1).0
  views_cases seat (actions.Space (Return frame)) may stepped asks driver = (asks may.actor).1 w.snapshot.views seats same frame.0 1
  views_cases seat (actions.Block call) may stepped asks driver =
      let is : seat ≡ 0 = asks_as_driver c seat w call may in
      let hands = asks (let low : seat ≤ c.owners = omega arith in low) in
      block_cases call
      (subst (λ (k : ℕ). HandsOver c P (free_seat c) k) is hands.0)
      (subst (λ (k : ℕ). HandsOver c P k (free_seat c)) is hands.1)
  views_cases seat (actions.Device (Request bytes)) may stepped asks driver =
      let hands = driver may.driver in
      request_cases bytes (answer_to c.sizes (device_now c w) (calls_now c w) bytes) hands.0 hands.1
  views_cases seat (actions.Device Config) may stepped asks driver = same
  views_cases seat actions.Ended may stepped asks driver = same

-- a seat that the action isn't of, and that keeps neither the free frames nor the unplugged ones
view_stays : (c : Setting) (seat : ℕ) (w : World) (action : Action) → IsConsistent c w → MayMake c seat w action → (other : ℕ) → other ≢ seat → other ≢ free_seat c → other ≢ unplugged_seat c
    → view_of (made c seat w action).world.snapshot.views other ≡ view_of w.snapshot.views other
view_stays c seat w action kept may other not_seat not_free not_unplugged =
    let v : View = view_of w.snapshot.views other in
    views_cases c w (λ (l : List View). view_of l other ≡ v) kept.seats refl seat action may
    (λ steps actor u. get_or-set_other w.snapshot.views seat other u spent not_seat)
    (λ actor.
    let low : seat ≤ c.owners = actor in (
      other_stays c (free_seat c) seat (λ e. omega arith) (omega arith) (omega arith) v other not_free not_seat,
      other_stays c seat (free_seat c) (λ e. omega arith) (omega arith) (omega arith) v other not_seat not_free,
    ))
    (λ is.
    let not_driver : other ≢ 0 = λ e. not_seat (e ∙ sym is) in (
      other_stays c (unplugged_seat c) 0 (λ e. omega arith) (omega arith) (omega arith) v other not_unplugged not_driver,
      other_stays c 0 (unplugged_seat c) (λ e. omega arith) (omega arith) (omega arith) v other not_driver not_unplugged,
    ))

pub other_owner : (c : Setting) (seat : ℕ) (w : World) (action : Action) → IsSetting c → IsConsistent c w → MayMake c seat w action → (k : ℕ) → IsOwnerSeat c k → k ≢ seat
    → view_of (made c seat w action).world.snapshot.views k ≡ view_of w.snapshot.views k
other_owner c seat w action set kept may k owner ne = view_stays c seat w action kept may k ne (owner_not_free c k owner) (let high = owner.1 in omega arith)

pub driver_stays : (c : Setting) (seat : ℕ) (w : World) (action : Action) → IsSetting c → IsConsistent c w → MayMake c seat w action → IsOwnerSeat c seat
    → view_of (made c seat w action).world.snapshot.views 0 ≡ view_of w.snapshot.views 0
driver_stays c seat w action set kept may owner = view_stays c seat w action kept may 0 (let low = owner.0 in omega arith) (omega arith) (omega arith)

-- a seat that makes no step
hand_changes : (c : Setting) (seat : ℕ) (w : World) (action : Action) → IsConsistent c w → MayMake c seat w action → (k : ℕ) → (¬ IsNoStep action → IsActorSeat c seat → k ≢ seat)
    → view_of (made c seat w action).world.snapshot.views k ≡ record (view_of w.snapshot.views k) { hand = (view_of (made c seat w action).world.snapshot.views k).hand }
hand_changes c seat w action kept may k still =
    let v : View = view_of w.snapshot.views k in
    views_cases c w (λ (l : List View). IsButHand v (view_of l k)) kept.seats refl seat action may
    (λ steps actor u. same_but_hand v (view_of (set w.snapshot.views seat u) k) (get_or-set_other w.snapshot.views seat k u spent (still steps actor)))
    (λ actor.
    let low : seat ≤ c.owners = actor in (
      hand_alone c (free_seat c) seat (λ e. omega arith) (omega arith) (omega arith) v k,
      hand_alone c seat (free_seat c) (λ e. omega arith) (omega arith) (omega arith) v k,
    ))
    (λ is. (
      hand_alone c (unplugged_seat c) 0 (λ e. omega arith) (omega arith) (omega arith) v k,
      hand_alone c 0 (unplugged_seat c) (λ e. omega arith) (omega arith) (omega arith) v k,
    ))

pub keeper_changes_hand : (c : Setting) (seat : ℕ) (w : World) (action : Action) → IsSetting c → IsConsistent c w → MayMake c seat w action → (k : ℕ) → c.owners < k → k < c.owners + 4
    → view_of (made c seat w action).world.snapshot.views k ≡ record (view_of w.snapshot.views k) { hand = (view_of (made c seat w action).world.snapshot.views k).hand }
keeper_changes_hand c seat w action set kept may k low high = hand_changes c seat w action kept may k (λ steps actor e. let acts : seat ≤ c.owners = actor in omega arith)

pub driver_changes_hand : (c : Setting) (seat : ℕ) (w : World) (action : Action) → IsSetting c → IsConsistent c w → MayMake c seat w action → IsNoStep action → seat ≡ 0
    → view_of (made c seat w action).world.snapshot.views 0 ≡ record (view_of w.snapshot.views 0) { hand = (view_of (made c seat w action).world.snapshot.views 0).hand }
driver_changes_hand c seat w action set kept may no_step is = hand_changes c seat w action kept may 0 (λ steps. absurd (steps no_step))

-- ---- the frames of other owners

lease_out_else : (c : Setting) (seat : ℕ) (w : World) (page : PageNo) (kind : Kind) (l : Option Leased) → IsSetting c → IsConsistent c w → MayLease c seat w page → lease_of c.sizes c.online (space_now c w) seat kind ≡ l
    → (frame : ℕ) → out_for (space_now c w) frame ≢ None → out_for (space_now c (lease_made c seat w page kind l).world) frame ≡ out_for (space_now c w) frame
lease_out_else c seat w page kind None set kept may e frame out = refl
lease_out_else c seat w page kind (Some l) set kept may e frame out =
    lease_out c seat w page kind l set kept may e frame
    (λ same. out (ap (λ (f : ℕ). out_for (space_now c w) f) same ∙ (lease_is_free c w set kept seat kind l e).not_out))

target_out_else : (c : Setting) (w : World) (block : BlockNo) (after : Option FrameNo) (next : Option (FrameNo × PageNo)) (l : Option Leased) → IsSetting c → IsConsistent c w → MayTarget c 0 w block
    → next_out c.sizes (space_now c w) block.0 after ≡ next → lease_of c.sizes c.online (space_now c w) 0 Movable ≡ l
    → (frame : ℕ) → out_for (space_now c w) frame ≢ None → out_for (space_now c (target_made c w next l).world) frame ≡ out_for (space_now c w) frame
target_out_else c w block after None l set kept may is e frame out = refl
target_out_else c w block after (Some at) None set kept may is e frame out = refl
target_out_else c w block after (Some at) (Some l) set kept may is e frame out =
    target_out c w block after at l set kept may is e frame
    (λ same. out (ap (λ (f : ℕ). out_for (space_now c w) f) same ∙ (lease_is_free c w set kept 0 Movable l e).not_out))

isolate_out_else : (c : Setting) (w : World) (block : BlockNo) (unmovable : Option (FrameNo × PageNo)) (frame : ℕ)
    → out_for (space_now c (isolate_made w block unmovable).world) frame ≡ out_for (space_now c w) frame
isolate_out_else c w block None frame = noted_out c w (space.Isolate block) (λ f. refl) frame
isolate_out_else c w block (Some at) frame = refl

pub other_out : (c : Setting) (seat : ℕ) (w : World) (action : Action) → IsSetting c → IsConsistent c w → MayMake c seat w action → (k frame : ℕ) → IsOwnerSeat c k → k ≢ seat → HasFrame w k frame
    → out_for (space_now c (made c seat w action).world) frame ≡ out_for (space_now c w) frame
other_out c seat w (actions.Step step) set kept may k frame owner ne has = refl
other_out c seat w (actions.Move step) set kept may k frame owner ne has = refl
other_out c seat w (actions.Space (Lease page kind)) set kept may k frame owner ne has =
    lease_out_else c seat w page kind (lease_of c.sizes c.online (space_now c w) seat kind) set kept may refl frame (kept.in_hand k frame owner has)
other_out c seat w (actions.Space (Return given)) set kept may k frame owner ne has =
    return_out c seat w given set kept may frame (λ e. return_elsewhere c seat w given set kept may k owner ne (subst (λ (f : ℕ). HasFrame w k f) e has))
other_out c seat w (actions.Block (Isolate block)) set kept may k frame owner ne has = isolate_out_else c w block (first_unmovable c.sizes (space_now c w) block.0) frame
other_out c seat w (actions.Block (Target block after)) set kept may k frame owner ne has =
    target_out_else c w block after (next_out c.sizes (space_now c w) block.0 after) (lease_of c.sizes c.online (space_now c w) 0 Movable) set kept
    (subst (λ (n : ℕ). MayTarget c n w block) may.driver may) refl refl frame (kept.in_hand k frame owner has)
other_out c seat w (actions.Block (Undo block)) set kept may k frame owner ne has = noted_out c w (space.Undo block) (λ f. refl) frame
other_out c seat w (actions.Block (Offline block)) set kept may k frame owner ne has = noted_out c w (space.Offline block) (λ f. refl) frame
other_out c seat w (actions.Block (Online block)) set kept may k frame owner ne has = noted_out c w (space.Online block) (λ f. refl) frame
other_out c seat w (actions.Device (Request bytes)) set kept may k frame owner ne has = refl
other_out c seat w (actions.Device Config) set kept may k frame owner ne has = refl
other_out c seat w actions.Ended set kept may k frame owner ne has = refl

-- ---- the blocks that the driver holds

-- the same blocks are offline, and the device is the same
held_again : (c : Setting) (w : World) (offline : List ℕ) → offline ≡ (space_now c w).offline → (b : ℕ) → (is_in b offline && is_in b (device_now c w).plugged) ≡ is_held c w b
held_again c w offline same b = ap (λ (l : List ℕ). is_in b l && is_in b (device_now c w).plugged) same

lease_held : (c : Setting) (seat : ℕ) (w : World) (page : PageNo) (kind : Kind) (l : Option Leased) → IsSetting c → IsConsistent c w → MayLease c seat w page → lease_of c.sizes c.online (space_now c w) seat kind ≡ l
    → (b : ℕ) → is_held c (lease_made c seat w page kind l).world b ≡ is_held c w b
lease_held c seat w page kind None set kept may e b = refl
lease_held c seat w page kind (Some l) set kept may e b =
    held_again c w (space_now c (lease_made c seat w page kind (Some l)).world).offline (lease_offline c seat w page kind l set kept may e) b

pub held_stays : (c : Setting) (seat : ℕ) (w : World) (action : Action) → IsSetting c → IsConsistent c w → MayMake c seat w action → IsOwnerSeat c seat → (b : ℕ)
    → is_held c (made c seat w action).world b ≡ is_held c w b
held_stays c seat w (actions.Step step) set kept may owner b = refl
held_stays c seat w (actions.Move step) set kept may owner b = refl
held_stays c seat w (actions.Space (Lease page kind)) set kept may owner b =
    lease_held c seat w page kind (lease_of c.sizes c.online (space_now c w) seat kind) set kept may refl b
held_stays c seat w (actions.Space (Return frame)) set kept may owner b =
    held_again c w (space_now c (made c seat w (actions.Space (Return frame))).world).offline (return_offline c seat w frame set kept may) b
held_stays c seat w (actions.Block call) set kept may owner b = absurd (owner_not_driver c seat owner (asks_as_driver c seat w call may))
held_stays c seat w (actions.Device (Request bytes)) set kept may owner b = absurd (owner_not_driver c seat owner may.driver)
held_stays c seat w (actions.Device Config) set kept may owner b = refl
held_stays c seat w actions.Ended set kept may owner b = refl
