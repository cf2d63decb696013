use Rattle.std.proofs.Common.{◌≡◌, ℕ, suc, ◌-◌, slice_index_or, sym, ap, ◌∙◌, arith}
use Rattle.std.proofs.lemmas.List.{get_or_read}
use Rattle.evacuate.specs.Evacuating.{Evacuating, evacuation_at_start}
use Rattle.host_work.specs.Requests.{block_no}
use Rattle.core_actors.specs.declared.host_place.HostPlace.TheVariants as places
use Rattle.core_actors.specs.HostInside.{HostView, host_state}
use Rattle.core_actors.specs.Hosts.{next_block}
use Rattle.core_actors.proofs.HostInsides.{next_some}
use Rattle.core_actors.proofs.host.Host.begin_block.Goals as goal

pub returns-clause-state : goal.returns-clause-state
returns-clause-state c =
    let some : c.self.inside.waiting ≡ suc (c.self.inside.waiting - 1) = let ne = c.if-self-eq0.false in omega arith in
    let within = c.self.invariant.waiting in
    let read : c.index.result.now ≡ slice_index_or c.self.inside.blocks.items (c.self.inside.waiting - 1) 0 =
    get_or_read c.self.inside.blocks.items (c.self.inside.waiting - 1) c.index.result.now (omega arith) c.index.ensures 0 in
    let evacuation : c.new-self-inside.result ≡ evacuation_at_start c.self.inside.geometry (block_no (slice_index_or c.self.inside.blocks.items (c.self.inside.waiting - 1) 0)) =
    c.new-self-inside.ensures.start ∙ ap (λ (b : ℕ). evacuation_at_start c.self.inside.geometry (block_no b)) read in
    ap (λ (e : Evacuating). record (host_state c.self.inside) { place = places.Evacuating; evacuation = e }) evacuation
    ∙ (sym (next_some (host_state c.self.inside) (c.self.inside.waiting - 1) some) ∙ ap (λ (x : HostView). next_block x.state) c.self.view_is)
