use Rattle.std.proofs.Common.{List, ℕ, ◌∙◌, ap, arith, subst, sym}
use Rattle.std.specs.List.{range_with_len}
use Rattle.std.proofs.lemmas.List.{with_items_is}
use Rattle.evac_model.specs.Numbers.{numbers_where}
use Rattle.block_map.specs.Bits.{has_bit}
use Rattle.block_map.specs.MapInside.{IsKept}
use Rattle.block_map.proofs.Maps.{start_plugged, start_count}
use Rattle.block_map.proofs.map.BlockMap.new.Goals as goal

pub invariant_of-result : goal.invariant_of-result
invariant_of-result c =
    let after = c.set_bits-count.new.words in
    let zeros = c.deref_mut.ensures.value ∙ c.in_ok-words.ensures.items_if_clones_equal (λ y e. e) in
    subst (λ (ws : List ℕ). IsKept c.args.g ws c.set_bits-count.result)
    (sym (with_items_is c.in_ok-words.words after (omega (arith, c.set_bits-count.auto.words, c.deref_mut.ensures.len))))
    (record {
      within = c.device_blocks.ensures.within;
      room = omega (arith, c.set_bits-count.auto.words, c.deref_mut.ensures.len, c.in_ok-words.ensures.len, c.device_blocks.ensures.size);
      counted = start_count c.deref_mut.result.now after _ c.args.g.managed c.set_bits-count.result zeros (c.set_bits-count.ensures.changed c.args.g.managed (omega (arith, c.plugged_at_start.ensures.size, c.plugged_at_start.ensures.most)));
    })

pub returns-clause-plugged : goal.returns-clause-plugged
returns-clause-plugged c =
    let after = c.set_bits-count.new.words in
    let zeros = c.deref_mut.ensures.value ∙ c.in_ok-words.ensures.items_if_clones_equal (λ y e. e) in
    ap (λ (ws : List ℕ). numbers_where (has_bit ws) c.args.g.managed) (with_items_is c.in_ok-words.words after (omega (arith, c.set_bits-count.auto.words, c.deref_mut.ensures.len)))
    ∙ start_plugged c.deref_mut.result.now after _ c.plugged_at_start.result c.args.g.managed zeros (omega (arith, c.plugged_at_start.ensures.size, c.plugged_at_start.ensures.most)) c.set_bits-count.ensures.bits
    ∙ ap (range_with_len 0) c.plugged_at_start.ensures.size
