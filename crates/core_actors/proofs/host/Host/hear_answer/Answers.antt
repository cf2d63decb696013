use Rattle.std.proofs.Common.{◌≡◌, ℕ, List, ◌∷◌, drop, get_or, sym, ap, ◌∙◌, arith}
use Rattle.std.specs.List.{range_with_len}
use Rattle.evac_model.specs.declared.host.HostCommand.{HostCommand}
use Rattle.evac_model.specs.declared.host.HostCommand.TheVariants as commands
use Rattle.evac_model.specs.DeviceAnswer.{request_in}
use Rattle.evac_model.specs.HostCommands.{blocks_of, plugged_by}
use Rattle.core_actors.specs.declared.host_place.HostPlace.TheVariants as places
use Rattle.core_actors.specs.HostInside.{HostView, host_state}
use Rattle.core_actors.specs.HostHears.{answered}
use Rattle.core_actors.proofs.BlockLists.{head_here}
use Rattle.core_actors.proofs.HostInsides.{acked, asks_anywhere}
use Rattle.core_actors.proofs.host.Host.hear_answer.Goals as goal

pub invariant_of-self : goal.invariant_of-self
invariant_of-self c =
    let asking : c.self.inside.place ≡ places.Asking = ap (λ (x : HostView). x.state.place) c.self.view_is ∙ c.requires.asking in
    let capacity = c.put_range.ensures.capacity ∙ c.clear.ensures.capacity in
    record {
      at = c.self.invariant.at;
      waiting = omega arith;
      managed = c.put_range.ensures.below c.self.inside.geometry.managed c.plugged_by-count.ensures.inside;
      roomy = let le = c.self.invariant.roomy in omega arith;
      evacuation = c.self.invariant.evacuation;
      place = asks_anywhere c.self.inside.geometry _ _ c.self.inside.place asking;
    }

pub returns-in-Ack-clause-state : goal.returns-in-Ack-clause-state
returns-in-Ack-clause-state c = λ c' cs e.
    let left : drop c.self.inside.at c.self.inside.commands ≡ c' ∷ cs = ap (λ (x : HostView). x.state.left) c.self.view_is ∙ e in
    let here : get_or c.self.inside.commands c.self.inside.at c.index-as_slice-self.result ≡ c' = head_here c.self.inside.commands c.self.inside.at c' c.index-as_slice-self.result cs left in
    let read : c.index-as_slice-self.result ≡ get_or c.self.inside.commands c.self.inside.at c.index-as_slice-self.result =
    c.index-as_slice-self.is ∙ ap (λ (xs : List HostCommand). get_or xs c.self.inside.at c.index-as_slice-self.result) c.as_slice.ensures in
    let command : c' ≡ commands.Request c.in-Request.bytes = sym here ∙ (sym read ∙ c.in-Request.is) in
    let range : c.put_range.new.blocks.items ≡ blocks_of (plugged_by c.self.inside.geometry (request_in c.in-Request.bytes) c.in-Answered.response) =
    c.put_range.ensures.items
    ∙ (ap (λ (n : ℕ). range_with_len n c.plugged_by-count.result.1) c.plugged_by-count.ensures.first
    ∙ (ap (λ (n : ℕ). range_with_len (plugged_by c.self.inside.geometry (request_in c.as_slice-in-Ack.result.now) c.in-Answered.response).first n) c.plugged_by-count.ensures.count
    ∙ ap (λ (bytes : List ℕ). blocks_of (plugged_by c.self.inside.geometry (request_in bytes) c.in-Answered.response)) c.as_slice-in-Ack.ensures.bytes)) in
    acked (host_state c.self.inside) c' c.args.given.now c.in-Request.bytes c.in-Answered.response c.in-Ack.state c.put_range.new.blocks.items command c.in-Answered.is c.in-Ack.is range
    ∙ ap (λ (x : HostView). answered x.state c' c.args.given.now) c.self.view_is
