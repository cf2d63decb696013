use Rattle.std.proofs.Common.{◌∙◌, ◌≡◌, sym, ap, subst, length, ℕ, List, arith}
use Rattle.evac_model.specs.Counts.{WhereTold}
use Rattle.evac_model.specs.Geometry.{Sizes}
use Rattle.dma_listeners.specs.Listening.{blocks_below}
use Rattle.dma_listeners.proofs.Joins.{below_blocks, refused_back}
use Rattle.dma_listeners.proofs.registry.Registry.join.Goals as goal

pub returns-in-Err-clause-not_joined : goal.returns-in-Err-clause-not_joined
returns-in-Err-clause-not_joined g c =
    let plugged = c.args.plugged.now.plugged in
    let blocks_are : c.device_blocks-blocks.result ≡ c.args.plugged.now.sizes.managed = c.device_blocks-blocks.ensures.size ∙ ap (λ (s : Sizes). s.managed) c.geometry.ensures.sizes in
    let same = below_blocks c.args.plugged.now.sizes.managed c.in-Err.b.0 plugged c.geometry.ensures.rising (omega (arith, blocks_are, c.in-Err.ensures.block.0)) in (
      c.in-Err.b.0,
      record {
        block = c.in-Err.ensures.block.1;
        told = c.write_refused_join.ensures;
        refused = refused_back g.L.Listener.mapped g.L.Listener.refusals g.L.Listener.limit g.L.Listener.room (blocks_below plugged c.in-Err.b.0) c.args.l c.populate_blocks.new.listener c.discard_blocks.new.listener c.requires.empty c.in-Err.ensures.some c.discard_blocks.ensures c.in-Err.ensures.cause;
        exact = subst (λ (xs : List ℕ). WhereTold (g.L.Listener.limit c.args.l) (λ most. length xs ≡ most)) (sym same) c.in-Err.ensures.exceeds;
      },
    )
