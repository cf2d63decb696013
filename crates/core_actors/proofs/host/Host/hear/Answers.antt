use Rattle.std.proofs.Common.{◌≡◌, ◌+◌, List, ◌∷◌, drop, refl, ap, ◌∙◌}
use Rattle.evac_model.specs.declared.host.HostCommand.{HostCommand}
use Rattle.evac_model.specs.declared.host.HostResult.{HostResult}
use Rattle.evacuate.specs.declared.action.EvacAction.{EvacAction}
use Rattle.evacuate.specs.declared.seen.EvacSeen.{EvacSeen}
use Rattle.evacuate.specs.Evacuating.{action_of}
use Rattle.core_actors.specs.declared.host_place.HostPlace.TheVariants as places
use Rattle.core_actors.specs.HostInside.{host_state}
use Rattle.core_actors.specs.Hosts.{has_none}
use Rattle.core_actors.specs.HostHears.{HostHeard, goes_on, answered, result_in, with_result, seen_in, told, moved, taken_on, zeroed_on, marked_on}
use Rattle.core_actors.proofs.HostInsides.{is_going, hears_state, hears_line, hears_sizes, asks_state, asks_line, result_anywhere}
use Rattle.core_actors.proofs.host.Host.hear.Goals as goal

pub hear_answer-requires-clause-going : goal.hear_answer-requires-clause-going
hear_answer-requires-clause-going c = is_going c.self.inside c.len.result c.self.invariant c.len.ensures c.if-self-len.false

pub tell-requires-clause-going : goal.tell-requires-clause-going
tell-requires-clause-going c = is_going c.self.inside c.len.result c.self.invariant c.len.ensures c.if-self-len.false

pub hear_step-requires-clause-going : goal.hear_step-requires-clause-going
hear_step-requires-clause-going c = is_going c.self.inside c.len.result c.self.invariant c.len.ensures c.if-self-len.false

pub take_result-requires-in-PuttingOnline-clause-going : goal.take_result-requires-in-PuttingOnline-clause-going
take_result-requires-in-PuttingOnline-clause-going c = is_going c.self.inside c.len.result c.self.invariant c.len.ensures c.if-self-len.false

pub take_result-requires-clause-going : goal.take_result-requires-clause-going
take_result-requires-clause-going c = ap (λ (l : List HostCommand). has_none l) c.hear_answer.ensures.left ∙ is_going c.self.inside c.len.result c.self.invariant c.len.ensures c.if-self-len.false

pub returns-in-Asking-clause-state : goal.returns-in-Asking-clause-state
returns-in-Asking-clause-state c =
    let by : (d : HostCommand) (cs : List HostCommand) → drop c.self.inside.at c.self.inside.commands ≡ d ∷ cs → c.hear_answer.new.self.state ≡ answered (host_state c.self.inside) d (result_in c.args.heard.now) =
    λ d cs e. c.hear_answer.ensures.state d cs e ∙ ap (λ (x : HostResult). answered (host_state c.self.inside) d x) c.result_in-given.ensures in
    asks_state c.args.plugged.now.plugged c.self.inside c.args.self.now c.args.heard.now c.self.invariant c.self.view_is c.len.result c.len.ensures c.if-self-len.false c.hear_answer.new.self.state c.in-Asking.is by c.result_in-given.result c.take_result.new.self.state c.result_in-given.ensures c.take_result.ensures.state

pub returns-in-Asking-clause-sizes : goal.returns-in-Asking-clause-sizes
returns-in-Asking-clause-sizes c =
    let by : (d : HostCommand) (cs : List HostCommand) → drop c.self.inside.at c.self.inside.commands ≡ d ∷ cs → c.hear_answer.new.self.state ≡ answered (host_state c.self.inside) d (result_in c.args.heard.now) =
    λ d cs e. c.hear_answer.ensures.state d cs e ∙ ap (λ (x : HostResult). answered (host_state c.self.inside) d x) c.result_in-given.ensures in
    let state = asks_state c.args.plugged.now.plugged c.self.inside c.args.self.now c.args.heard.now c.self.invariant c.self.view_is c.len.result c.len.ensures c.if-self-len.false c.hear_answer.new.self.state c.in-Asking.is by c.result_in-given.result c.take_result.new.self.state c.result_in-given.ensures c.take_result.ensures.state in
    hears_sizes c.args.plugged.now.plugged c.self.inside c.args.self.now c.args.heard.now c.self.invariant c.self.view_is c.len.result c.len.ensures c.if-self-len.false c.take_result.new.self.state state

pub returns-in-Asking-clause-line : goal.returns-in-Asking-clause-line
returns-in-Asking-clause-line c =
    let by : (d : HostCommand) (cs : List HostCommand) → drop c.self.inside.at c.self.inside.commands ≡ d ∷ cs → c.hear_answer.new.self.state ≡ answered (host_state c.self.inside) d (result_in c.args.heard.now) =
    λ d cs e. c.hear_answer.ensures.state d cs e ∙ ap (λ (x : HostResult). answered (host_state c.self.inside) d x) c.result_in-given.ensures in
    asks_line c.args.plugged.now.plugged c.self.inside c.args.self.now c.args.heard.now c.self.invariant c.self.view_is c.len.result c.len.ensures c.if-self-len.false c.hear_answer.new.self.state c.in-Asking.is by c.result_in-given.result c.take_result.new.self.line c.result_in-given.ensures c.take_result.ensures.line

pub returns-in-Evacuating-clause-state : goal.returns-in-Evacuating-clause-state
returns-in-Evacuating-clause-state c =
    let what : c.seen_in-what.result ≡ seen_in (action_of c.self.inside.evacuation) c.args.heard.now = c.seen_in-what.ensures ∙ ap (λ (x : EvacAction). seen_in x c.args.heard.now) c.action.ensures in
    hears_state c.args.plugged.now.plugged c.self.inside c.args.self.now c.args.heard.now c.self.invariant c.self.view_is c.len.result c.len.ensures c.if-self-len.false places.Evacuating (told c.args.plugged.now.plugged (host_state c.self.inside) (seen_in (action_of c.self.inside.evacuation) c.args.heard.now)) c.tell.new.self.state c.in-Evacuating.is (λ _. refl) (c.tell.ensures.state ∙ ap (λ (x : EvacSeen). (told c.args.plugged.now.plugged (host_state c.self.inside) x).state) what)

pub returns-in-Evacuating-clause-sizes : goal.returns-in-Evacuating-clause-sizes
returns-in-Evacuating-clause-sizes c =
    let what : c.seen_in-what.result ≡ seen_in (action_of c.self.inside.evacuation) c.args.heard.now = c.seen_in-what.ensures ∙ ap (λ (x : EvacAction). seen_in x c.args.heard.now) c.action.ensures in
    let state = hears_state c.args.plugged.now.plugged c.self.inside c.args.self.now c.args.heard.now c.self.invariant c.self.view_is c.len.result c.len.ensures c.if-self-len.false places.Evacuating (told c.args.plugged.now.plugged (host_state c.self.inside) (seen_in (action_of c.self.inside.evacuation) c.args.heard.now)) c.tell.new.self.state c.in-Evacuating.is (λ _. refl) (c.tell.ensures.state ∙ ap (λ (x : EvacSeen). (told c.args.plugged.now.plugged (host_state c.self.inside) x).state) what) in
    hears_sizes c.args.plugged.now.plugged c.self.inside c.args.self.now c.args.heard.now c.self.invariant c.self.view_is c.len.result c.len.ensures c.if-self-len.false c.tell.new.self.state state

pub returns-in-Evacuating-clause-line : goal.returns-in-Evacuating-clause-line
returns-in-Evacuating-clause-line c =
    let what : c.seen_in-what.result ≡ seen_in (action_of c.self.inside.evacuation) c.args.heard.now = c.seen_in-what.ensures ∙ ap (λ (x : EvacAction). seen_in x c.args.heard.now) c.action.ensures in
    hears_line c.args.plugged.now.plugged c.self.inside c.args.self.now c.args.heard.now c.self.invariant c.self.view_is c.len.result c.len.ensures c.if-self-len.false places.Evacuating (told c.args.plugged.now.plugged (host_state c.self.inside) (seen_in (action_of c.self.inside.evacuation) c.args.heard.now)) c.tell.new.self.line c.in-Evacuating.is (λ _. refl) (c.tell.ensures.line ∙ ap (λ (x : EvacSeen). (told c.args.plugged.now.plugged (host_state c.self.inside) x).line) what)

pub returns-in-Moving-clause-state : goal.returns-in-Moving-clause-state
returns-in-Moving-clause-state c =
    hears_state c.args.plugged.now.plugged c.self.inside c.args.self.now c.args.heard.now c.self.invariant c.self.view_is c.len.result c.len.ensures c.if-self-len.false (places.Moving c.in-Moving.lease c.in-Moving.at) (moved c.args.plugged.now.plugged (host_state c.self.inside) c.in-Moving.lease c.in-Moving.at c.args.heard.now) c.hear_step.new.self.state c.in-Moving.is (λ _. refl) c.hear_step.ensures.state

pub returns-in-Moving-clause-sizes : goal.returns-in-Moving-clause-sizes
returns-in-Moving-clause-sizes c =
    let state = hears_state c.args.plugged.now.plugged c.self.inside c.args.self.now c.args.heard.now c.self.invariant c.self.view_is c.len.result c.len.ensures c.if-self-len.false (places.Moving c.in-Moving.lease c.in-Moving.at) (moved c.args.plugged.now.plugged (host_state c.self.inside) c.in-Moving.lease c.in-Moving.at c.args.heard.now) c.hear_step.new.self.state c.in-Moving.is (λ _. refl) c.hear_step.ensures.state in
    hears_sizes c.args.plugged.now.plugged c.self.inside c.args.self.now c.args.heard.now c.self.invariant c.self.view_is c.len.result c.len.ensures c.if-self-len.false c.hear_step.new.self.state state

pub returns-in-Moving-clause-line : goal.returns-in-Moving-clause-line
returns-in-Moving-clause-line c =
    hears_line c.args.plugged.now.plugged c.self.inside c.args.self.now c.args.heard.now c.self.invariant c.self.view_is c.len.result c.len.ensures c.if-self-len.false (places.Moving c.in-Moving.lease c.in-Moving.at) (moved c.args.plugged.now.plugged (host_state c.self.inside) c.in-Moving.lease c.in-Moving.at c.args.heard.now) c.hear_step.new.self.line c.in-Moving.is (λ _. refl) c.hear_step.ensures.line

pub returns-in-TakingAway-clause-state : goal.returns-in-TakingAway-clause-state
returns-in-TakingAway-clause-state c =
    hears_state c.args.plugged.now.plugged c.self.inside c.args.self.now c.args.heard.now c.self.invariant c.self.view_is c.len.result c.len.ensures c.if-self-len.false places.TakingAway (goes_on (taken_on (host_state c.self.inside))) c.begin_zeros.new.self.state c.in-TakingAway.is (λ _. refl) c.begin_zeros.ensures.state

pub returns-in-Zeroing-clause-state : goal.returns-in-Zeroing-clause-state
returns-in-Zeroing-clause-state c =
    hears_state c.args.plugged.now.plugged c.self.inside c.args.self.now c.args.heard.now c.self.invariant c.self.view_is c.len.result c.len.ensures c.if-self-len.false (places.Zeroing c.in-Zeroing.frame c.in-Zeroing.cell) (goes_on (record (host_state c.self.inside) { place = zeroed_on (host_state c.self.inside) c.in-Zeroing.frame c.in-Zeroing.cell })) c.hear_zero.new.self.state c.in-Zeroing.is (λ _. refl) c.hear_zero.ensures.state

pub returns-in-MarkingZeros-clause-state : goal.returns-in-MarkingZeros-clause-state
returns-in-MarkingZeros-clause-state c =
    hears_state c.args.plugged.now.plugged c.self.inside c.args.self.now c.args.heard.now c.self.invariant c.self.view_is c.len.result c.len.ensures c.if-self-len.false (places.MarkingZeros c.in-MarkingZeros.frame) (goes_on (marked_on (host_state c.self.inside) c.in-MarkingZeros.frame)) c.hear_mark.new.self.state c.in-MarkingZeros.is (λ _. refl) c.hear_mark.ensures.state

pub returns-in-PuttingOnline-clause-state : goal.returns-in-PuttingOnline-clause-state
returns-in-PuttingOnline-clause-state c =
    hears_state c.args.plugged.now.plugged c.self.inside c.args.self.now c.args.heard.now c.self.invariant c.self.view_is c.len.result c.len.ensures c.if-self-len.false (places.PuttingOnline c.in-PuttingOnline.result) (with_result c.args.plugged.now.plugged (record (host_state c.self.inside) { waiting = c.self.inside.waiting + 1 }) c.in-PuttingOnline.result) c.take_result-in-PuttingOnline.new.self.state c.in-PuttingOnline.is (λ _. refl) (c.take_result-in-PuttingOnline.ensures.state ∙ ap (λ (x : HostHeard). x.state) (result_anywhere c.args.plugged.now.plugged (record (host_state c.self.inside) { waiting = c.self.inside.waiting + 1 }) places.Asking c.in-PuttingOnline.result))

pub returns-in-PuttingOnline-clause-sizes : goal.returns-in-PuttingOnline-clause-sizes
returns-in-PuttingOnline-clause-sizes c =
    let state = hears_state c.args.plugged.now.plugged c.self.inside c.args.self.now c.args.heard.now c.self.invariant c.self.view_is c.len.result c.len.ensures c.if-self-len.false (places.PuttingOnline c.in-PuttingOnline.result) (with_result c.args.plugged.now.plugged (record (host_state c.self.inside) { waiting = c.self.inside.waiting + 1 }) c.in-PuttingOnline.result) c.take_result-in-PuttingOnline.new.self.state c.in-PuttingOnline.is (λ _. refl) (c.take_result-in-PuttingOnline.ensures.state ∙ ap (λ (x : HostHeard). x.state) (result_anywhere c.args.plugged.now.plugged (record (host_state c.self.inside) { waiting = c.self.inside.waiting + 1 }) places.Asking c.in-PuttingOnline.result)) in
    hears_sizes c.args.plugged.now.plugged c.self.inside c.args.self.now c.args.heard.now c.self.invariant c.self.view_is c.len.result c.len.ensures c.if-self-len.false c.take_result-in-PuttingOnline.new.self.state state

pub returns-in-PuttingOnline-clause-line : goal.returns-in-PuttingOnline-clause-line
returns-in-PuttingOnline-clause-line c =
    hears_line c.args.plugged.now.plugged c.self.inside c.args.self.now c.args.heard.now c.self.invariant c.self.view_is c.len.result c.len.ensures c.if-self-len.false (places.PuttingOnline c.in-PuttingOnline.result) (with_result c.args.plugged.now.plugged (record (host_state c.self.inside) { waiting = c.self.inside.waiting + 1 }) c.in-PuttingOnline.result) c.take_result-in-PuttingOnline.new.self.line c.in-PuttingOnline.is (λ _. refl) (c.take_result-in-PuttingOnline.ensures.line ∙ ap (λ (x : HostHeard). x.line) (result_anywhere c.args.plugged.now.plugged (record (host_state c.self.inside) { waiting = c.self.inside.waiting + 1 }) places.Asking c.in-PuttingOnline.result))
