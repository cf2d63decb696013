use Rattle.std.proofs.Common.{List, ℕ, Bool, ◌+◌, ◌∙◌, ap, arith, ◌||◌}
use Rattle.std.proofs.lemmas.List.{with_items_is}
use Rattle.evac_model.specs.Numbers.{numbers_where, is_between}
use Rattle.block_map.specs.Blocks.{Blocks}
use Rattle.block_map.specs.Bits.{has_bit}
use Rattle.block_map.proofs.Maps.{count_more_few, value_with}
use Rattle.block_map.proofs.map.BlockMap.set.Goals as goal

pub overflow_add-self : goal.overflow_add-self
overflow_add-self c =
    let few = count_more_few c.self.inside.geometry c.self.inside.words.items c.deref_mut.result.now c.set_bits-added.new.words c.self.inside.count c.set_bits-added.result c.self.invariant c.deref_mut.ensures.value (c.set_bits-added.ensures.changed c.self.inside.geometry.managed (omega (arith, ap (λ (v : Blocks). v.sizes.managed) c.self.view_is))) in
    omega (arith, few)

pub returns-clause-plugged : goal.returns-clause-plugged
returns-clause-plugged c =
    let after = c.set_bits-added.new.words in
    ap (λ (ws : List ℕ). numbers_where (has_bit ws) c.self.inside.geometry.managed) (with_items_is c.self.inside.words after (omega (arith, c.set_bits-added.auto.words, c.deref_mut.ensures.len)))
    ∙ value_with c.self.inside.geometry (has_bit c.self.inside.words.items) c.args.self.now c.self.view_is (has_bit after) c.args.first.0 c.args.n c.requires (λ k. c.set_bits-added.ensures.bits k ∙ ap (λ (t : Bool). t || is_between c.args.first.0 (c.args.first.0 + c.args.n) k) (ap (λ (ws : List ℕ). has_bit ws k) c.deref_mut.ensures.value))
