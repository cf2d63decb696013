use Rattle.std.proofs.Common.{List, ℕ, Bool, ◌+◌, ◌∙◌, ap, arith, ◌&&◌, not}
use Rattle.std.proofs.lemmas.List.{with_items_is}
use Rattle.evac_model.specs.Numbers.{numbers_where, is_between}
use Rattle.block_map.specs.Bits.{has_bit}
use Rattle.block_map.proofs.Maps.{value_without}
use Rattle.block_map.proofs.map.BlockMap.clear.Goals as goal

pub returns-clause-plugged : goal.returns-clause-plugged
returns-clause-plugged c =
    let after = c.clear_bits-removed.new.words in
    ap (λ (ws : List ℕ). numbers_where (has_bit ws) c.self.inside.geometry.managed) (with_items_is c.self.inside.words after (omega (arith, c.clear_bits-removed.auto.words, c.deref_mut.ensures.len)))
    ∙ value_without c.self.inside.geometry (has_bit c.self.inside.words.items) c.args.self.now c.self.view_is (has_bit after) c.args.first.0 c.args.n (λ k. c.clear_bits-removed.ensures.bits k ∙ ap (λ (t : Bool). t && not (is_between c.args.first.0 (c.args.first.0 + c.args.n) k)) (ap (λ (ws : List ℕ). has_bit ws k) c.deref_mut.ensures.value))
