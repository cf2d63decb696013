use Rattle.std.proofs.Common.{◌≡◌, ◌<◌, ℕ, length, refl, ap, ◌∙◌, subst}
use Rattle.evac_model.specs.declared.names.BlockNo.{BlockNo}
use Rattle.evacuate.specs.declared.action.EvacAction.{EvacAction}
use Rattle.machine.specs.declared.action.Action.TheVariants as actions
use Rattle.machine.specs.declared.action.BlockCall.TheVariants.{Offline, Online}
use Rattle.core_actors.specs.declared.host_place.HostPlace.{HostPlace}
use Rattle.core_actors.specs.declared.host_place.HostPlace.TheVariants as places
use Rattle.core_actors.specs.HostInside.{HostView, IsPlaceInside, host_state}
use Rattle.core_actors.specs.Hosts.{host_action, evac_action, first_of, away}
use Rattle.core_actors.proofs.BlockLists.{first_here}
use Rattle.core_actors.proofs.HostInsides.{is_going, action_here}
use Rattle.core_actors.proofs.host.Host.action.Goals as goal

pub returns-in-Evacuating : goal.returns-in-Evacuating
returns-in-Evacuating c =
    let going = is_going c.self.inside c.len.result c.self.invariant c.len.ensures c.if-self-len.false in
    let is = c.evac_action.ensures ∙ ap (λ (x : EvacAction). evac_action x) c.action.ensures in
    is ∙ (action_here (host_state c.self.inside) places.Evacuating _ going c.in-Evacuating.is (λ _. refl) ∙ ap (λ (x : HostView). host_action x.state) c.self.view_is)

pub returns-in-Moving : goal.returns-in-Moving
returns-in-Moving c =
    let going = is_going c.self.inside c.len.result c.self.invariant c.len.ensures c.if-self-len.false in
    c.move_action.ensures
    ∙ (action_here (host_state c.self.inside) (places.Moving c.in-Moving.lease c.in-Moving.at) _ going c.in-Moving.is (λ _. refl) ∙ ap (λ (x : HostView). host_action x.state) c.self.view_is)

pub returns-in-TakingAway : goal.returns-in-TakingAway
returns-in-TakingAway c =
    let going = is_going c.self.inside c.len.result c.self.invariant c.len.ensures c.if-self-len.false in
    ap (λ (b : BlockNo). actions.Block (Offline b)) c.block.ensures.block
    ∙ (action_here (host_state c.self.inside) places.TakingAway _ going c.in-TakingAway.is (λ _. refl) ∙ ap (λ (x : HostView). host_action x.state) c.self.view_is)

pub returns-in-Zeroing : goal.returns-in-Zeroing
returns-in-Zeroing c =
    let going = is_going c.self.inside c.len.result c.self.invariant c.len.ensures c.if-self-len.false in
    action_here (host_state c.self.inside) (places.Zeroing c.in-Zeroing.frame c.in-Zeroing.cell) _ going c.in-Zeroing.is (λ _. refl) ∙ ap (λ (x : HostView). host_action x.state) c.self.view_is

pub returns-in-MarkingZeros : goal.returns-in-MarkingZeros
returns-in-MarkingZeros c =
    let going = is_going c.self.inside c.len.result c.self.invariant c.len.ensures c.if-self-len.false in
    action_here (host_state c.self.inside) (places.MarkingZeros c.in-MarkingZeros.frame) _ going c.in-MarkingZeros.is (λ _. refl) ∙ ap (λ (x : HostView). host_action x.state) c.self.view_is

pub returns-in-PuttingOnline : goal.returns-in-PuttingOnline
returns-in-PuttingOnline c =
    let going = is_going c.self.inside c.len.result c.self.invariant c.len.ensures c.if-self-len.false in
    let lt : c.self.inside.waiting < length c.self.inside.blocks.items =
    subst (λ (p : HostPlace). IsPlaceInside c.self.inside.geometry c.self.inside.blocks.items c.self.inside.waiting p) c.in-PuttingOnline.is c.self.invariant.place in
    let first : c.index.result.now ≡ first_of (away (host_state c.self.inside)) = c.index.ensures ∙ first_here c.self.inside.blocks.items c.self.inside.waiting c.index.result.now lt in
    ap (λ (b : ℕ). actions.Block (Online (record { 0 = b }))) first
    ∙ (action_here (host_state c.self.inside) (places.PuttingOnline c.in-PuttingOnline.result) _ going c.in-PuttingOnline.is (λ _. refl) ∙ ap (λ (x : HostView). host_action x.state) c.self.view_is)
