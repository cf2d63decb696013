-- The driver's seat may make the next action of a host.
use Rattle.std.proofs.Common.{◌≡◌, ◌≢◌, ℕ, ◌-◌, ◌<◌, ◌&&◌, ◌||◌, ◌==◌, Bool, true, false, List, [], ◌∷◌, drop, get_or, refl, sym, ap, ◌∙◌, subst, arith, Option, None, Some, IsSome, is_some, inl, inr}
use Rattle.std.specs.Prelude.{IsSomeAnd}
use Rattle.std.specs.List.{AllByRecursion, count_by}
use Rattle.std.proofs.Math.Bool.{and-false, or-true}
use Rattle.std.proofs.lemmas.Bool.{false≢true, eq-eqb}
use Rattle.std.proofs.lemmas.List.{get_or-replicate}
use Rattle.evac_model.specs.declared.evacuation.MoveLease.{MoveLease}
use Rattle.evac_model.specs.declared.host.HostCommand.{HostCommand}
use Rattle.evac_model.specs.declared.host.HostCommand.TheVariants as commands
use Rattle.evac_model.specs.declared.host.HostRun.{HostRun}
use Rattle.evac_model.specs.declared.names.FrameNo.{FrameNo}
use Rattle.evac_model.specs.declared.names.Kind.{Kind}
use Rattle.evac_model.specs.declared.names.Kind.TheVariants.{Movable}
use Rattle.evac_model.specs.declared.names.PageNo.{PageNo}
use Rattle.evac_model.specs.DeviceAnswer.{request_in, unplugged_blocks}
use Rattle.evac_model.specs.Geometry.{Sizes}
use Rattle.evac_model.specs.Numbers.{is_in}
use Rattle.evac_model.specs.Page.{kind_of}
use Rattle.evac_model.specs.SpaceJournal.{Out, out_for, IsEmptied}
use Rattle.core_state.specs.declared.hand.HandFrame.{HandFrame}
use Rattle.core_state.specs.declared.held.Held.{Held}
use Rattle.core_state.specs.declared.keeper.Keeper.TheVariants.{OneOwner}
use Rattle.core_state.specs.declared.view.View.{View}
use Rattle.core_state.specs.HandOvers.{IsAtRest}
use Rattle.core_state.specs.MoveSteps.{MayBegin, MayRemap, InHand, or_known}
use Rattle.core_state.specs.Steps.{held_page, held_word}
use Rattle.core_state.specs.Views.{view_of, hand_frame, times_in_hand, Owns}
use Rattle.core_state.specs.Words.{kind_in}
use Rattle.evac_words.specs.Word.{mapped_bit, unmovable_bit, bit_of}
use Rattle.evacuate.specs.declared.stage.Stage.{Stage}
use Rattle.evacuate.specs.declared.stage.Stage.TheVariants as stages
use Rattle.evacuate.specs.Evacuating as evacuating
use Rattle.mem_device.proofs.Hands.{plugged_apart}
use Rattle.machine.specs.Consistent.{IsSetting, IsConsistent}
use Rattle.machine.specs.declared.action.Action.TheVariants as actions
use Rattle.machine.specs.MayMake.{MayMake}
use Rattle.machine.specs.World.{Setting, World, space_now, device_now, is_held}
use Rattle.machine.proofs.OutPages.{out_pages}
use Rattle.core_actors.specs.declared.host_place.HostPlace.{HostPlace}
use Rattle.core_actors.specs.declared.host_place.HostPlace.TheVariants as places
use Rattle.core_actors.specs.declared.host_place.MovePlace.{MovePlace}
use Rattle.core_actors.specs.declared.host_place.MovePlace.TheVariants.{Taking, Beginning, Loading, Storing, Marking, Remapping, Releasing}
use Rattle.core_actors.specs.Hosts.{HostState, away, command_blocks, has_none, host_ended, device_call, evac_action, move_action, first_of, action_at, action_for, host_action}
use Rattle.core_actors.specs.HostSeat.{frame_moving, for_page_at, for_page_in, HasForPage, IsInHandFor, IsHeldToMove, AreCopied, Rests, IsMovingAt, IsViewAt}
use Rattle.core_actors.specs.HostSpace.{has_isolated, is_emptying, is_isolated_by, IsSpaceAt, AreCommandBlocks, IsEmptying, IsWaiting, IsZeroing, IsPlacedAt, IsShort}
use Rattle.core_actors.specs.HostKept.{HostKept}
use Rattle.core_actors.proofs.HostBegins.{named_plugged}
use Rattle.core_actors.proofs.HostLists.{got_in, got_in_rest, got_not_behind, first_in}

-- ---- plain facts

some_with : {A : Type 0} (P Q : A → Type 0) → ((x : A) → P x → Q x) → (m : Option A) → IsSomeAnd m P → IsSomeAnd m Q
some_with P Q f None p = p
some_with P Q f (Some x) p = f x p

in_hand_once : (v : View) (frame : ℕ) → IsSome (hand_frame v frame) → 0 < times_in_hand frame v
in_hand_once v frame has = by_frame (hand_frame v frame) has
  where
    by_frame : (m : Option HandFrame) → IsSome m → 0 < bit_of (is_some m)
    by_frame None has = absurd (false≢true has)
    by_frame (Some x) has = omega arith

owns : (v : View) (frame : ℕ) → IsSome (hand_frame v frame) → Owns v frame
owns v frame has = inl (in_hand_once v frame has)

not_out : (m : Option Out) (x : Out) → m ≡ Some x → m ≢ None
not_out m x is none = let both : Some x ≡ None = sym is ∙ none in absurd (cc)

-- a page that can be moved is movable
movable_kind : (n : ℕ) → unmovable_bit n ≡ 0 → kind_in n ≡ Movable
movable_kind n e = ap (λ (b : Bool). kind_of b) (eq-eqb (unmovable_bit n) 0 e)

module _ (c : Setting) (w : World) (runs : List HostRun) (h : HostState) (set : IsSetting c) (kept : IsConsistent c w) (k : HostKept c w runs h) where
  abbrev v : View
  v = view_of w.snapshot.views 0

  at_rest : Rests v → IsAtRest c.opening v
  at_rest r = record { seated = k.seat.driver.seated; holds_none = r.0; all_marked = r.1 }

  right_there : (page : ℕ) → page < c.sizes.pages → page < c.opening.pages
  right_there page low = let same = set.pages in omega arith

  -- ---- the block that is being emptied

  module _ (e : IsEmptying c w h k.tale) where
    abbrev b : ℕ
    b = h.evacuation.block.0

    in_blocks : is_in b h.blocks ≡ true
    in_blocks = got_in h.blocks (h.waiting - 1) b e.block

    below : b < c.sizes.managed
    below = k.space.managed b in_blocks

    not_away : is_in b (away h) ≡ false
    not_away = got_not_behind h.blocks (h.waiting - 1) h.waiting b k.space.distinct e.block (let some = e.some_wait in omega arith)

    plugged_in : (left : List HostCommand) → is_in b (command_blocks c.sizes (device_now c w).plugged left) ≡ true → is_in b (device_now c w).plugged ≡ true
    plugged_in [] has = absurd (false≢true has)
    plugged_in (commands.Request bytes ∷ cs) has = named_plugged c.sizes (device_now c w).plugged (request_in bytes) b has
    plugged_in (commands.Config ∷ cs) has = absurd (false≢true has)

    is_plugged : is_in b (device_now c w).plugged ≡ true
    is_plugged = plugged_in h.left (ap (λ (l : List ℕ). is_in b l) (sym e.blocks) ∙ in_blocks)

    not_offline : is_in b (space_now c w).offline ≡ false
    not_offline = kept.offline b ∙ both (is_in b (unplugged_blocks c.sizes (device_now c w).plugged)) (is_held c w b) (plugged_apart c.sizes (device_now c w).plugged b is_plugged) (k.space.held b ∙ not_away)
      where
        both : (x y : Bool) → x ≡ false → y ≡ false → (x || y) ≡ false
        both x y p q = ap (λ (z : Bool). z || y) p ∙ q

    isolated_by : (place : HostPlace) (stage : Stage) → h.place ≡ place → h.evacuation.stage ≡ stage → is_isolated_by h b ≡ (is_emptying place && (has_isolated stage && b == b))
    isolated_by place stage at is =
        ap (λ (x : HostPlace). is_emptying x && (has_isolated h.evacuation.stage && b == b)) at
        ∙ ap (λ (x : Stage). is_emptying place && (has_isolated x && b == b)) is

    itself : (b == b) ≡ true
    itself = eq-eqb b b refl

    isolated_now : (place : HostPlace) (stage : Stage) → h.place ≡ place → h.evacuation.stage ≡ stage → is_emptying place ≡ true → has_isolated stage ≡ true → is_in b (space_now c w).isolated ≡ true
    isolated_now place stage at is empties isolates =
        k.space.isolated b
        ∙ (ap (λ (x : Bool). is_in b (space_now c w).offline || x)
        (isolated_by place stage at is ∙ (ap (λ (x : Bool). x && (has_isolated stage && b == b)) empties ∙ (ap (λ (x : Bool). x && b == b) isolates ∙ itself)))
        ∙ or-true (is_in b (space_now c w).offline))

    not_isolated : h.evacuation.stage ≡ stages.Isolating → is_in b (space_now c w).isolated ≡ false
    not_isolated is =
        k.space.isolated b
        ∙ (ap (λ (x : Bool). x || is_isolated_by h b) not_offline
        ∙ (isolated_by h.place stages.Isolating refl is ∙ and-false (is_emptying h.place)))

    -- ---- what its evacuation asks for

    may_ask : (stage : Stage) → h.place ≡ places.Evacuating → h.evacuation.stage ≡ stage → IsWaiting stage → Rests v → HasForPage c w (for_page_at stage) → MayMake c 0 w (evac_action (evacuating.action_at h.evacuation.block stage))
    may_ask stages.Isolating at is waits rests has = record { driver = refl; managed = below; there = not_isolated is }
    may_ask (stages.Leasing after) at is waits rests has = record { driver = refl; rests = at_rest rests; isolated = isolated_now places.Evacuating (stages.Leasing after) at is refl refl }
    may_ask (stages.Moving lease) at is waits rests has = absurd waits
    may_ask (stages.Returning attempt) at is waits rests has = record { actor = omega arith; rests = at_rest rests; has = has.in_hand; out = not_out _ _ has.out }
    may_ask (stages.Undoing cause) at is waits rests has = record { driver = refl; isolated = isolated_now places.Evacuating (stages.Undoing cause) at is refl refl; there = not_offline }
    may_ask stages.Emptied at is waits rests has = absurd waits
    may_ask (stages.Failed cause) at is waits rests has = absurd waits

    may_take : h.place ≡ places.TakingAway → h.evacuation.stage ≡ stages.Emptied → Rests v → IsEmptied c.sizes (space_now c w) b
    may_take at is rests = subst (λ (s : Sizes). IsEmptied s (space_now c w) b) e.sizes (subst (λ (x : Stage). IsSpaceAt (space_now c w) h.evacuation k.tale x) is e.space)

  -- ---- the steps of a move

  module _ (lease : MoveLease) where
    page_low : (frame : ℕ) → out_for (space_now c w) frame ≡ Some (record { page = lease.page.0; kind = Movable }) → lease.page.0 < c.opening.pages
    page_low frame out = right_there lease.page.0 (out_pages c w set k.pages kept frame (record { page = lease.page.0; kind = Movable }) out)

    copied_all : (x : Held) (y : HandFrame) → IsHeldToMove c.opening.cells lease 1 x → AreCopied c.opening.cells x y → MayRemap OneOwner c.opening x y
    copied_all x y p copied = record {
      moving = p.moving_now;
      copied = λ cell low.
          let all = copied cell low in
          let none : get_or x.stores cell None ≡ None = ap (λ (l : List (Option ℕ)). get_or l cell None) p.stores ∙ get_or-replicate c.opening.cells cell None None low in
          (all.0, ap (λ (m : Option ℕ). or_known m (get_or x.loads cell None)) none ∙ all.1, all.2);
      aimed = tt;
    }

    may_step : (at : MovePlace) → IsMovingAt c.opening v lease at → IsInHandFor c w (record { frame = (frame_moving lease at).0; page = lease.page.0 }) → MayMake c 0 w (move_action lease at)
    may_step Taking m has = record {
      actor = omega arith;
      allowed = record { seated = k.seat.driver.seated; holds_none = m.0; in_range = page_low lease.target.0 has.out; leave = inr (k.seat.driver.rights lease.page.0 (page_low lease.target.0 has.out)) };
    }
    may_step Beginning m has = record {
      actor = omega arith;
      allowed = (
        k.seat.driver.seated,
        some_with (IsHeldToMove c.opening.cells lease 0) (MayBegin v)
            (λ x p. record { right = k.seat.driver.rights x.page.0 (subst (λ (page : PageNo). page.0 < c.opening.pages) (sym p.page) (page_low lease.target.0 has.out)); mapped = p.mapped; movable = p.movable; no_pins = p.no_pins }) v.held m.1,
      );
      out = tt;
    }
    may_step (Loading cell) m has = record {
      actor = omega arith;
      allowed = record { in_range = m.1; mapped = some_with _ (λ x. mapped_bit x.word ≡ 1) (λ x p. p.0.mapped) v.held m.2 };
    }
    may_step (Storing cell value) m has = record { actor = omega arith; allowed = record { in_range = m.1; fits = m.2; own = owns v lease.target.0 has.in_hand } }
    may_step Marking m has = record { actor = omega arith; allowed = owns v lease.target.0 has.in_hand }
    may_step Remapping m has = record {
      actor = omega arith;
      allowed = (
        k.seat.driver.seated,
        some_with _ (λ x. InHand v lease.target.0 (MayRemap OneOwner c.opening x))
            (λ x p. (ap (λ (l : List FrameNo). count_by (λ y. y.0 == lease.target.0) l) m.0, some_with (AreCopied c.opening.cells x) (MayRemap OneOwner c.opening x) (λ y q. copied_all x y p.0 q) (hand_frame v lease.target.0) p.1)) v.held m.1,
      );
      out = remap_out v.held m.1;
    }
      where
        remap_out : (held : Option Held) → IsSomeAnd held (λ x. IsHeldToMove c.opening.cells lease 1 x × IsSomeAnd (hand_frame v lease.target.0) (AreCopied c.opening.cells x))
            → out_for (space_now c w) lease.target.0 ≡ Some (record { page = held_page held; kind = kind_in (held_word held) })
        remap_out None p = absurd p
        remap_out (Some x) p =
            has.out
            ∙ (ap (λ (n : ℕ). Some (record { page = n; kind = Movable })) (ap (λ (page : PageNo). page.0) (sym p.0.page))
            ∙ ap (λ (kind : Kind). Some (record { page = x.page.0; kind = kind })) (sym (movable_kind x.word p.0.movable)))
    may_step (Releasing word) m has = record { actor = omega arith; allowed = m }

  -- ---- any place

  may_ask_device : (command : HostCommand) (cs : List HostCommand) → h.left ≡ command ∷ cs → (h.waiting ≡ 0) × AreCommandBlocks c w h → Rests v → MayMake c 0 w (actions.Device (device_call command))
  may_ask_device (commands.Request bytes) cs is p rests = record {
    driver = refl;
    rests = at_rest rests;
    short = (subst (λ (l : List HostCommand). AllByRecursion IsShort l) is k.space.commands).0;
    held = λ block has.
        k.space.held block
        ∙ (ap (λ (n : ℕ). is_in block (drop n h.blocks)) p.0
        ∙ (ap (λ (l : List ℕ). is_in block l) (p.1 ∙ ap (λ (l : List HostCommand). command_blocks c.sizes (device_now c w).plugged l) is)
        ∙ has));
  }
  may_ask_device commands.Config cs is p rests = tt

  zeroed_in_hand : (frame : FrameNo) → IsZeroing c w h frame → Owns v frame.0
  zeroed_in_hand frame z = owns v frame.0 (kept.driver h.evacuation.block.0 frame.0 (k.space.held h.evacuation.block.0 ∙ got_in_rest h.blocks h.waiting h.evacuation.block.0 z.block) z.in_block)

  may_at : (command : HostCommand) (cs : List HostCommand) (place : HostPlace) → h.left ≡ command ∷ cs → h.place ≡ place → IsViewAt c.opening v place → HasForPage c w (for_page_in h place) → IsPlacedAt c w h k.tale place
      → MayMake c 0 w (action_at command h place)
  may_at command cs places.Asking is at rests has p = may_ask_device command cs is p rests
  may_at command cs places.Evacuating is at rests has p = may_ask p.0 h.evacuation.stage at refl p.1 rests has
  may_at command cs (places.Moving lease step) is at m has p = may_step lease step m has
  may_at command cs places.TakingAway is at rests has p = record {
    driver = refl;
    rests = at_rest rests;
    isolated = isolated_now p.0 places.TakingAway stages.Emptied at p.1 refl refl;
    there = not_offline p.0;
    emptied = may_take p.0 at p.1 rests;
  }
  may_at command cs (places.Zeroing frame cell) is at m has p = record {
    actor = omega arith;
    allowed = record { in_range = let low = p.1 in let same = set.cells in omega arith; fits = omega arith; own = zeroed_in_hand frame p.0 };
  }
  may_at command cs (places.MarkingZeros frame) is at m has p = record { actor = omega arith; allowed = zeroed_in_hand frame p }
  may_at command cs (places.PuttingOnline result) is at rests has p =
      record { driver = refl; rests = at_rest rests; held = k.space.held (first_of (away h)) ∙ first_in h.blocks h.waiting p }

  may_for : (left : List HostCommand) → has_none left ≡ false → h.left ≡ left → MayMake c 0 w (action_for left h)
  may_for [] going is = absurd (false≢true (sym going))
  may_for (command ∷ cs) going is = may_at command cs h.place is refl k.seat.view k.seat.has k.space.place

pub host_may_make : (c : Setting) (w : World) (runs : List HostRun) (h : HostState) → IsSetting c → IsConsistent c w → HostKept c w runs h → host_ended h ≡ false → MayMake c 0 w (host_action h)
host_may_make c w runs h set kept k going = may_for c w runs h set kept k h.left going refl
