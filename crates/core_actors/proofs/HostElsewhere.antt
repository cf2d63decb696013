-- What an owner's action leaves of the host: all that holds of it between its actions.
use Rattle.std.proofs.Common.{◌≡◌, ◌≢◌, ⊎_elim, inl, inr, ℕ, Bool, true, ◌||◌, ◌&&◌, ◌==◌, List, [], refl, sym, ap, ◌∙◌, subst, arith, Option, Some, None}
use Rattle.std.specs.Prelude.{IsSome}
use Rattle.std.proofs.lemmas.Bool.{false≢true, or_right, eq-eqb}
use Rattle.std.proofs.lemmas.Option.{none-some}
use Rattle.evac_model.specs.declared.device_journal.DeviceAction.{DeviceAction}
use Rattle.evac_model.specs.declared.host.HostResult.{HostResult}
use Rattle.evac_model.specs.declared.host.HostRun.{HostRun}
use Rattle.evac_model.specs.declared.names.FrameNo.{FrameNo}
use Rattle.evac_model.specs.declared.names.Kind.{Kind}
use Rattle.evac_model.specs.declared.names.PageNo.{PageNo}
use Rattle.evac_model.specs.declared.space.SpaceAction.{SpaceAction}
use Rattle.evac_model.specs.declared.space.SpaceAction.TheVariants as space
use Rattle.evac_model.specs.Numbers.{is_in}
use Rattle.evac_model.specs.Pairing.{actions_of}
use Rattle.evac_model.specs.SpaceJournal.{SpaceState, Out, Leased, out_for, is_frame_of, is_frame_in, lease_of, after_lease, IsEmptied}
use Rattle.evac_words.specs.Word.{bit_of}
use Rattle.core_state.specs.declared.view.View.{View}
use Rattle.core_state.specs.Views.{view_of, hand_frame}
use Rattle.core_state.proofs.Frames.{one_owner}
use Rattle.core_state.proofs.Rooms.{seat_has}
use Rattle.evacuate.specs.declared.stage.Stage.{Stage}
use Rattle.evacuate.specs.declared.stage.Stage.TheVariants.{Isolating, Leasing, Moving, Returning, Undoing, Emptied, Failed}
use Rattle.evacuate.specs.Evacuating.{Evacuating}
use Rattle.evacuate.specs.Tale.{Tale}
use Rattle.space.proofs.BlockFrames.{frame_in_from}
use Rattle.space.proofs.Journals.{space_after-append}
use Rattle.machine.specs.declared.action.Action.{Action}
use Rattle.machine.specs.declared.action.Action.TheVariants as actions
use Rattle.machine.specs.declared.action.BlockCall.{BlockCall}
use Rattle.machine.specs.declared.action.BlockCall.TheVariants.{Isolate, Target, Undo, Offline, Online}
use Rattle.machine.specs.declared.action.DeviceCall.TheVariants.{Request, Config}
use Rattle.machine.specs.declared.action.SpaceCall.TheVariants.{Lease, Return}
use Rattle.machine.specs.Consistent.{IsSetting, IsConsistent}
use Rattle.machine.specs.Made.{lease_made, return_made, made}
use Rattle.machine.specs.MayMake.{MayLease, MayReturn, MayAskForBlock, MayMake}
use Rattle.machine.specs.World.{Setting, World, IsOwnerSeat, HasFrame, space_now, device_at, is_held}
use Rattle.space.proofs.SpacesBehind.{still_out}
use Rattle.machine.proofs.CellsKept.{cells_kept}
use Rattle.machine.proofs.Elsewhere.{owner_not_driver, driver_stays, held_stays}
use Rattle.machine.proofs.LeasesKept.{lease_out, lease_offline}
use Rattle.machine.proofs.Quiet.{actor_there}
use Rattle.machine.proofs.ReturnsKept.{return_out, return_offline}
use Rattle.machine.proofs.SpaceNow.{lease_is_free}
use Rattle.core_actors.specs.declared.host_place.HostPlace.{HostPlace}
use Rattle.core_actors.specs.declared.host_place.HostPlace.TheVariants as places
use Rattle.core_actors.specs.HostDid.{taken_away, HasTaken, IsPutting, IsDoingAt, HostDid}
use Rattle.core_actors.specs.HostFound.{IsTruePlace, HostFound, evacuation_did}
use Rattle.core_actors.specs.HostKept.{HostKept}
use Rattle.core_actors.specs.HostSeat.{ForPage, for_page, HasForPage, IsOfHeldBlock, IsViewAt, IsDriver, HostSeat}
use Rattle.core_actors.specs.HostSpace.{has_isolated, is_emptying, is_isolated_by, AreOutByTale, IsSpaceAt, AreCommandBlocks, IsEmptying, IsZeroing, IsPlacedAt, HostSpace}
use Rattle.core_actors.specs.Hosts.{HostState, command_blocks}
use Rattle.evac_model.proofs.Pushes.{other_push}
use Rattle.core_actors.proofs.HostDoesLists.{AreUntold, taken_still}
use Rattle.core_actors.proofs.HostGrows.{owner_adds, told_still, move_still}
use Rattle.core_actors.proofs.HostHasTakes.{takes_elsewhere}
use Rattle.core_actors.proofs.HostTruths.{Adds, did_true_of}

-- ---- what the frame space is left

-- The driver made nothing there. The same blocks are isolated and offline. What is out in an isolated block was out before, for the
-- same page; and what is in the driver's hand and out is out as before.
record SpaceLeft (c : Setting) (w x : World) : Type 0 where
  own : actions_of 0 x.space ≡ actions_of 0 w.space
  isolated : (space_now c x).isolated ≡ (space_now c w).isolated
  offline : (space_now c x).offline ≡ (space_now c w).offline
  out : (frame : ℕ) (o : Out) → is_frame_in c.sizes (space_now c w).isolated frame ≡ true → out_for (space_now c x) frame ≡ Some o → out_for (space_now c w) frame ≡ Some o
  driver : (frame : ℕ) → HasFrame w 0 frame → out_for (space_now c w) frame ≢ None → out_for (space_now c x) frame ≡ out_for (space_now c w) frame

-- the same journal
nothing_left : (c : Setting) (w x : World) → x.space ≡ w.space → SpaceLeft c w x
nothing_left c w x same =
    let now : space_now c x ≡ space_now c w = ap (λ (j : List SpaceAction). space_now c (record w { space = j })) same in
    record {
      own = ap (λ (j : List SpaceAction). actions_of 0 j) same;
      isolated = ap (λ (st : SpaceState). st.isolated) now;
      offline = ap (λ (st : SpaceState). st.offline) now;
      out = λ frame o on is. ap (λ (st : SpaceState). out_for st frame) (sym now) ∙ is;
      driver = λ frame has out. ap (λ (st : SpaceState). out_for st frame) now;
    }

-- ---- a lease

lease_isolates : (st : SpaceState) (l : Option Leased) (page : ℕ) (kind : Kind) → (after_lease st l page kind).isolated ≡ st.isolated
lease_isolates st None page kind = refl
lease_isolates st (Some l) page kind = refl

-- the frame of a lease was free, and in no isolated block
lease_left : (c : Setting) (seat : ℕ) (w : World) (page : PageNo) (kind : Kind) (l : Option Leased) → IsSetting c → IsConsistent c w → IsOwnerSeat c seat → MayLease c seat w page → lease_of c.sizes c.online (space_now c w) seat kind ≡ l
    → SpaceLeft c w (lease_made c seat w page kind l).world
lease_left c seat w page kind None set kept owner may e = nothing_left c w w refl
lease_left c seat w page kind (Some l) set kept owner may e =
    let a : SpaceAction = space.Lease seat (record { 0 = l.frame }) page kind in
    let free = lease_is_free c w set kept seat kind l e in
    record {
      own = other_push 0 w.space a (owner_not_driver c seat owner);
      isolated = ap (λ (st : SpaceState). st.isolated) (space_after-append c.sizes c.online c.space w.space a) ∙ lease_isolates (space_now c w) (lease_of c.sizes c.online (space_now c w) seat kind) page.0 kind;
      offline = lease_offline c seat w page kind l set kept may e;
      out = λ frame o on is.
          sym (lease_out c seat w page kind l set kept may e frame (λ same. false≢true (sym free.not_isolated ∙ (ap (λ (f : ℕ). is_frame_in c.sizes (space_now c w).isolated f) (sym same) ∙ on)))) ∙ is;
      driver = λ frame has out. lease_out c seat w page kind l set kept may e frame (λ same. out (ap (λ (f : ℕ). out_for (space_now c w) f) same ∙ free.not_out));
    }

-- ---- a return

-- the frame is in no hand but its giver's
not_drivers : (c : Setting) (seat : ℕ) (w : World) (frame : ℕ) → IsConsistent c w → IsOwnerSeat c seat → HasFrame w seat frame → ¬ HasFrame w 0 frame
not_drivers c seat w frame kept owner has mine =
    let k = kept.sound in
    let theirs = ap (λ (b : Bool). bit_of b) has in
    let here = ap (λ (b : Bool). bit_of b) mine in
    one_owner c.opening w.snapshot.words w.snapshot.views k.shaped k.turn k.frames seat 0 (view_of w.snapshot.views seat) (view_of w.snapshot.views 0) frame (owner_not_driver c seat owner)
    (seat_has w.snapshot.views seat (actor_there c w seat kept owner.1)) (seat_has w.snapshot.views 0 (actor_there c w 0 kept (omega arith)))
    (inl (omega arith)) (inl (omega arith))

return_left : (c : Setting) (seat : ℕ) (w : World) (given : FrameNo) → IsSetting c → IsConsistent c w → IsOwnerSeat c seat → MayReturn c seat w given → SpaceLeft c w (return_made c seat w given).world
return_left c seat w given set kept owner may =
    let a : SpaceAction = space.Return seat given in
    let now = space_after-append c.sizes c.online c.space w.space a in
    record {
      own = other_push 0 w.space a (owner_not_driver c seat owner);
      isolated = ap (λ (st : SpaceState). st.isolated) now;
      offline = return_offline c seat w given set kept may;
      out = λ frame o on is. still_out (space_now c w).out given.0 frame o (ap (λ (st : SpaceState). out_for st frame) (sym now) ∙ is);
      driver = λ frame has out. return_out c seat w given set kept may frame (λ same. not_drivers c seat w given.0 kept owner may.has (subst (λ (f : ℕ). HasFrame w 0 f) same has));
    }

-- ---- any action

not_of_blocks : (c : Setting) (seat : ℕ) (w : World) (call : BlockCall) → MayAskForBlock c seat w call → ¬ IsOwnerSeat c seat
not_of_blocks c seat w (Isolate block) may owner = owner_not_driver c seat owner may.driver
not_of_blocks c seat w (Target block after) may owner = owner_not_driver c seat owner may.driver
not_of_blocks c seat w (Undo block) may owner = owner_not_driver c seat owner may.driver
not_of_blocks c seat w (Offline block) may owner = owner_not_driver c seat owner may.driver
not_of_blocks c seat w (Online block) may owner = owner_not_driver c seat owner may.driver

-- the frame space and the device behind an owner's action
action_left : (c : Setting) (seat : ℕ) (w : World) (action : Action) → IsSetting c → IsConsistent c w → IsOwnerSeat c seat → MayMake c seat w action → SpaceLeft c w (made c seat w action).world × ((made c seat w action).world.device ≡ w.device)
action_left c seat w (actions.Step step) set kept owner may = (nothing_left c w (made c seat w (actions.Step step)).world refl, refl)
action_left c seat w (actions.Move step) set kept owner may = (nothing_left c w (made c seat w (actions.Move step)).world refl, refl)
action_left c seat w (actions.Space (Lease page kind)) set kept owner may =
    let l : Option Leased = lease_of c.sizes c.online (space_now c w) seat kind in (lease_left c seat w page kind l set kept owner may refl, lease_device l)
  where
    lease_device : (l : Option Leased) → (lease_made c seat w page kind l).world.device ≡ w.device
    lease_device None = refl
    lease_device (Some l) = refl
action_left c seat w (actions.Space (Return frame)) set kept owner may = (return_left c seat w frame set kept owner may, refl)
action_left c seat w (actions.Block call) set kept owner may = absurd (not_of_blocks c seat w call may owner)
action_left c seat w (actions.Device (Request bytes)) set kept owner may = absurd (owner_not_driver c seat owner may.driver)
action_left c seat w (actions.Device Config) set kept owner may = (nothing_left c w w refl, refl)
action_left c seat w actions.Ended set kept owner may = (nothing_left c w w refl, refl)

-- all that it leaves: the driver's view, the blocks that the driver holds, the device and the frame space
record Left (c : Setting) (w x : World) : Type 0 where
  view : view_of x.snapshot.views 0 ≡ view_of w.snapshot.views 0
  held : (block : ℕ) → is_held c x block ≡ is_held c w block
  device : x.device ≡ w.device
  space : SpaceLeft c w x

-- ---- the driver's seat

module _ (c : Setting) (w x : World) (l : Left c w x) where
  has_still : (frame : ℕ) → HasFrame w 0 frame → HasFrame x 0 frame
  has_still frame = subst (λ (v : View). IsSome (hand_frame v frame)) (sym l.view)

  had : (frame : ℕ) → HasFrame x 0 frame → HasFrame w 0 frame
  had frame = subst (λ (v : View). IsSome (hand_frame v frame)) l.view

  for_page_still : (p : Option ForPage) → HasForPage c w p → HasForPage c x p
  for_page_still None has = tt
  for_page_still (Some p) has = record {
    in_hand = has_still p.frame has.in_hand;
    out = l.space.driver p.frame has.in_hand (λ none. none-some _ (sym none ∙ has.out)) ∙ has.out;
  }

  of_block_still : (frame : ℕ) → IsOfHeldBlock c w frame → IsOfHeldBlock c x frame
  of_block_still frame of = record { block = of.block; held = l.held of.block ∙ of.held; in_block = of.in_block }

  seat_still : (h : HostState) → HostSeat c w h → HostSeat c x h
  seat_still h seat = record {
    driver = subst (λ (v : View). IsDriver c.opening v) (sym l.view) seat.driver;
    view = subst (λ (v : View). IsViewAt c.opening v h.place) (sym l.view) seat.view;
    has = for_page_still (for_page h) seat.has;
    hand = λ frame some. ⊎_elim (λ of. inl (of_block_still frame of)) (λ that. inr that) (seat.hand frame (had frame some));
  }

  -- ---- the block that is being emptied

  module _ (e : Evacuating) (t : Tale) (same : e.sizes ≡ c.sizes) where
    abbrev IsIsolated : Type 0
    IsIsolated = is_in e.block.0 (space_now c w).isolated ≡ true

    was_out : IsIsolated → (frame : ℕ) (o : Out) → is_frame_of e.sizes e.block.0 frame ≡ true → out_for (space_now c x) frame ≡ Some o → out_for (space_now c w) frame ≡ Some o
    was_out on frame o its is = l.space.out frame o (frame_in_from c.sizes (space_now c w).isolated e.block.0 frame on (subst (λ s. is_frame_of s e.block.0 frame ≡ true) same its)) is

    by_tale_still : IsIsolated → AreOutByTale (space_now c w) e t → AreOutByTale (space_now c x) e t
    by_tale_still on by frame o its is = by frame o its (was_out on frame o its is)

    emptied_still : IsIsolated → IsEmptied e.sizes (space_now c w) e.block.0 → IsEmptied e.sizes (space_now c x) e.block.0
    emptied_still on none frame its = by_out (out_for (space_now c x) frame) refl
      where
        by_out : (o : Option Out) → out_for (space_now c x) frame ≡ o → out_for (space_now c x) frame ≡ None
        by_out None is = is
        by_out (Some o) is = absurd (none-some o (sym (none frame its) ∙ was_out on frame o its is))

    space_still : (stage : Stage) → (has_isolated stage ≡ true → IsIsolated) → IsSpaceAt (space_now c w) e t stage → IsSpaceAt (space_now c x) e t stage
    space_still Isolating on at = tt
    space_still (Leasing after) on at = by_tale_still (on refl) at
    space_still (Moving lease) on at = by_tale_still (on refl) at
    space_still (Returning attempt) on at = by_tale_still (on refl) at
    space_still (Undoing cause) on at = tt
    space_still Emptied on at = emptied_still (on refl) at
    space_still (Failed cause) on at = tt

  -- ---- the places of a command

  module _ (h : HostState) (t : Tale) where
    blocks_still : AreCommandBlocks c w h → AreCommandBlocks c x h
    blocks_still blocks = subst (λ (j : List DeviceAction). h.blocks ≡ command_blocks c.sizes (device_at c.sizes j).plugged h.left) (sym l.device) blocks

    emptying_still : (has_isolated h.evacuation.stage ≡ true → is_in h.evacuation.block.0 (space_now c w).isolated ≡ true) → IsEmptying c w h t → IsEmptying c x h t
    emptying_still on p = record {
      blocks = blocks_still p.blocks;
      some_wait = p.some_wait;
      block = p.block;
      sizes = p.sizes;
      goes_by = p.goes_by;
      space = space_still h.evacuation t p.sizes h.evacuation.stage on p.space;
    }

    zeroing_still : (frame : FrameNo) → IsZeroing c w h frame → IsZeroing c x h frame
    zeroing_still frame p = record { blocks = blocks_still p.blocks; block = p.block; in_block = p.in_block }

    placed_still : (place : HostPlace) → (is_emptying place ≡ true → has_isolated h.evacuation.stage ≡ true → is_in h.evacuation.block.0 (space_now c w).isolated ≡ true) → IsPlacedAt c w h t place → IsPlacedAt c x h t place
    placed_still places.Asking on p = (p.0, blocks_still p.1)
    placed_still places.Evacuating on p = (emptying_still (on refl) p.0, p.1)
    placed_still (places.Moving lease at) on p = (emptying_still (on refl) p.0, p.1, p.2)
    placed_still places.TakingAway on p = (emptying_still (on refl) p.0, p.1)
    placed_still (places.Zeroing frame cell) on p = (zeroing_still frame p.0, p.1)
    placed_still (places.MarkingZeros frame) on p = zeroing_still frame p
    placed_still (places.PuttingOnline result) on p = p

    space_left : HostSpace c w h t → HostSpace c x h t
    space_left s = record {
      sizes = s.sizes;
      commands = s.commands;
      waiting = s.waiting;
      managed = s.managed;
      distinct = s.distinct;
      held = λ block. l.held block ∙ s.held block;
      isolated = λ block. ap (λ (blocks : List ℕ). is_in block blocks) l.space.isolated ∙ (s.isolated block ∙ ap (λ (blocks : List ℕ). is_in block blocks || is_isolated_by h block) (sym l.space.offline));
      place = placed_still h.place isolated_now s.place;
    }
      where
        its_own : (t u : Bool) (b : ℕ) → t ≡ true → u ≡ true → (t && (u && b == b)) ≡ true
        its_own t u b e f = ap (λ (y : Bool). y && (u && b == b)) e ∙ (ap (λ (y : Bool). y && b == b) f ∙ eq-eqb b b refl)

        isolated_now : is_emptying h.place ≡ true → has_isolated h.evacuation.stage ≡ true → is_in h.evacuation.block.0 (space_now c w).isolated ≡ true
        isolated_now emptying isolated =
            let b : ℕ = h.evacuation.block.0 in
            s.isolated b ∙ or_right (is_in b (space_now c w).offline) (is_isolated_by h b) (its_own (is_emptying h.place) (has_isolated h.evacuation.stage) b emptying isolated)

    -- ---- what the evacuation was told

    module _ (adds : Adds c w x) where
      told_left : (place : HostPlace) → IsTruePlace c w h t place → IsTruePlace c x h t place
      told_left places.Asking is = tt
      told_left places.Evacuating is = told_still c w x adds l.space.own h.evacuation t is
      told_left (places.Moving lease at) is = (told_still c w x adds l.space.own h.evacuation t is.0, move_still c w x adds l.space.own t lease at is.1)
      told_left places.TakingAway is = told_still c w x adds l.space.own h.evacuation t is
      told_left (places.Zeroing frame cell) is = tt
      told_left (places.MarkingZeros frame) is = tt
      told_left (places.PuttingOnline result) is = tt

      found_left : HostFound c w h t → HostFound c x h t
      found_left found = record { place = told_left h.place found.place }

    -- ---- what the host did, as any world has it

    module _ (y : World) (done : List SpaceAction) (sent : List DeviceAction) where
      taken_left : (blocks : List ℕ) (since : List SpaceAction) → HasTaken c y w done sent blocks since → HasTaken c y x done sent blocks since
      taken_left blocks since p = taken_still c y w x done sent blocks since p l.space.own l.device

      putting_left : (result : HostResult) → IsPutting c y w done sent h result → IsPutting c y x done sent h result
      putting_left result p = record {
        before = p.before;
        put = p.put;
        mine = p.mine;
        made = l.space.own ∙ p.made;
        sent_now = l.device ∙ p.sent_now;
        whole = p.whole;
      }

      doing_left : (place : HostPlace) → IsDoingAt c y w done sent h t place → IsDoingAt c y x done sent h t place
      doing_left places.Asking d = (taken_left (taken_away h) [] d.0, d.1)
      doing_left places.Evacuating d = (taken_left (taken_away h) (evacuation_did h.evacuation t) d.0, d.1)
      doing_left (places.Moving lease at) d = (taken_left (taken_away h) (evacuation_did h.evacuation t) d.0, d.1)
      doing_left places.TakingAway d = (taken_left (taken_away h) (evacuation_did h.evacuation t) d.0, d.1)
      doing_left (places.Zeroing frame cell) d = (taken_left (taken_away h) [] d.0, d.1)
      doing_left (places.MarkingZeros frame) d = (taken_left (taken_away h) [] d.0, d.1)
      doing_left (places.PuttingOnline result) d = putting_left result d

    did_left : (y : World) (runs : List HostRun) → HostDid c y w runs h t → HostDid c y x runs h t
    did_left y runs did = record {
      done = did.done;
      sent = did.sent;
      ended = did.ended;
      numbers = did.numbers;
      doing = doing_left y did.done did.sent h.place did.doing;
      no_notices = subst AreUntold (sym l.device) did.no_notices;
    }

pub host_stays : (c : Setting) (w : World) (runs : List HostRun) (h : HostState) (seat : ℕ) (action : Action) → IsSetting c → IsConsistent c w → IsOwnerSeat c seat → MayMake c seat w action → HostKept c w runs h → HostKept c (made c seat w action).world runs h
host_stays c w runs h seat action set kept owner may host =
    let x : World = (made c seat w action).world in
    let left = action_left c seat w action set kept owner may in
    let l : Left c w x = record { view = driver_stays c seat w action set kept may owner; held = held_stays c seat w action set kept may owner; device = left.1; space = left.0 } in
    let adds : Adds c w x = owner_adds c seat w action set kept owner may in
    record {
      tale = host.tale;
      pages = host.pages;
      cells = cells_kept c seat w action set kept may host.cells;
      seat = seat_still c w x l h host.seat;
      space = space_left c w x l h host.tale host.space;
      found = found_left c w x l h host.tale adds host.found;
      takes = takes_elsewhere w x h (ap (λ (v : View). v.noticed.by_right) l.view) l.space.own host.takes;
      did = did_true_of c w x x runs h host.tale adds (did_left c w x l h host.tale w runs host.did);
    }
