-- What is made where an evacuation asks for an action, and what an evacuation did with one answer more.
use Rattle.std.proofs.Common.{◌≡◌, List, [], ◌∷◌, ◌++◌, append-nil, refl, sym, ap, ◌∙◌, Option, Some, None}
use Rattle.std.proofs.lemmas.List.Concat.{flat_map-append}
use Rattle.evac_model.specs.declared.names.BlockNo.{BlockNo}
use Rattle.evac_model.specs.declared.names.FrameNo.{FrameNo}
use Rattle.evac_model.specs.declared.names.Kind.TheVariants.{Movable}
use Rattle.evac_model.specs.declared.names.PageNo.{PageNo}
use Rattle.evac_model.specs.declared.space.SpaceAction.{SpaceAction}
use Rattle.evac_model.specs.declared.space.SpaceAction.TheVariants as space
use Rattle.evac_model.specs.Pairing.{actions_of}
use Rattle.evac_model.specs.SpaceJournal.{Leased, lease_of}
use Rattle.evac_model.proofs.Pushes.{own_push}
use Rattle.evacuate.specs.declared.action.EvacAction.{EvacAction}
use Rattle.evacuate.specs.declared.action.EvacAction.TheVariants as evac
use Rattle.evacuate.specs.declared.seen.EvacSeen.{EvacSeen}
use Rattle.evacuate.specs.Evacuating.{Evacuating, action_of}
use Rattle.evacuate.specs.Tale.{Exchange, Tale}
use Rattle.evacuate.specs.UnderWay.{log_of, tale_after, GoesOnBy}
use Rattle.host_work.specs.Evacuated.{space_action, space_actions}
use Rattle.machine.specs.Made.{Made, isolate_made, target_made, made}
use Rattle.machine.specs.World.{Setting, World, space_now}
use Rattle.space.specs.Refusals.{first_unmovable, next_out}
use Rattle.core_actors.specs.HostFound.{evacuation_did}
use Rattle.core_actors.specs.HostHears.{seen_in}
use Rattle.core_actors.specs.Hosts.{evac_action}

-- the driver made the action of what was asked and told, if there is one, and the device wasn't asked
abbrev pub Makes : World → EvacAction → Made → Type 0
Makes w asked m = (actions_of 0 m.world.space ≡ actions_of 0 w.space ++ space_action asked (seen_in asked m.heard)) × (m.world.device ≡ w.device)

nothing_more : (w : World) → actions_of 0 w.space ≡ actions_of 0 w.space ++ []
nothing_more w = sym (append-nil (actions_of 0 w.space))

isolates : (w : World) (b : BlockNo) (unmovable : Option (FrameNo × PageNo)) → Makes w (evac.Isolate b) (isolate_made w b unmovable)
isolates w b None = (own_push 0 w.space (space.Isolate b) refl, refl)
isolates w b (Some at) = (nothing_more w, refl)

leases : (c : Setting) (w : World) (b : BlockNo) (frame : Option FrameNo) (next : Option (FrameNo × PageNo)) (l : Option Leased) → Makes w (evac.Lease b frame) (target_made c w next l)
leases c w b frame None l = (nothing_more w, refl)
leases c w b frame (Some at) None = (nothing_more w, refl)
leases c w b frame (Some at) (Some l) = (own_push 0 w.space (space.MoveLease (record { 0 = l.frame }) at.1) refl, refl)

pub makes : (c : Setting) (w : World) (asked : EvacAction) → Makes w asked (made c 0 w (evac_action asked))
makes c w (evac.Isolate b) = isolates w b (first_unmovable c.sizes (space_now c w) b.0)
makes c w (evac.Lease b frame) = leases c w b frame (next_out c.sizes (space_now c w) b.0 frame) (lease_of c.sizes c.online (space_now c w) 0 Movable)
makes c w (evac.Move lease) = (nothing_more w, refl)
makes c w (evac.GiveBack frame) = (own_push 0 w.space (space.Return 0 frame) refl, refl)
makes c w (evac.Undo b) = (own_push 0 w.space (space.Undo b) refl, refl)
makes c w evac.Emptied = (nothing_more w, refl)
makes c w (evac.Failed why) = (nothing_more w, refl)

-- behind an answer, an evacuation did what it had done, and the action of that answer
pub did_more : (e after : Evacuating) (t : Tale) (what : EvacSeen) → GoesOnBy e after t what → evacuation_did e t ++ space_action (action_of e) what ≡ evacuation_did after (tale_after e t what)
did_more e after t what goes =
    let one : Exchange = record { asked = action_of e; told = what } in
    sym (ap (λ (l : List Exchange). space_actions l) goes.log
    ∙ (flat_map-append (λ (y : Exchange). space_action y.asked y.told) (log_of e t) (one ∷ [])
    ∙ ap (λ (l : List SpaceAction). evacuation_did e t ++ l) (append-nil (space_action (action_of e) what))))
