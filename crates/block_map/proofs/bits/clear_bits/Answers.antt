use Rattle.std.proofs.Common.{sym, ◌∙◌, arith}
use Rattle.block_map.specs.Bits.{has_bit}
use Rattle.evac_model.proofs.Ranges.{without_more, without_same}
use Rattle.evac_model.proofs.Numbers.{length-numbers_where_more}
use Rattle.block_map.proofs.bits.clear_bits.Goals as goal
use Rattle.block_map.proofs.bits.clear_bits.Goals.{then-bit, else-bit}

pub loop-b-preserved : goal.loop-b-preserved
loop-b-preserved c =
    let old = has_bit c.args.words.now in
    let before = has_bit c.loop-b.words in
    elim c.if-bit.branch [
      | then-bit w ↦
          rw (w.words-is, w.changed-is) (record {
            few = omega arith;
            bits = without_more old before (has_bit w.clear_bit.new.words) c.args.first c.loop-b.b (omega arith) c.loop-b.invariant.bits w.clear_bit.ensures.here w.clear_bit.ensures.others;
            changed = λ m h. omega (arith, length-numbers_where_more (has_bit w.clear_bit.new.words) before m c.loop-b.b (omega arith) w.clear_bit.ensures.here (sym c.bit.ensures ∙ w.if-bit.true) (λ k ne. sym (w.clear_bit.ensures.others k ne)), c.loop-b.invariant.changed m h);
          })
      | else-bit w ↦
          rw (w.words-is, w.changed-is) (record {
            few = omega arith;
            bits = without_same old before c.args.first c.loop-b.b (omega arith) c.loop-b.invariant.bits (sym c.bit.ensures ∙ w.if-bit.false);
            changed = c.loop-b.invariant.changed;
          })
    ]
