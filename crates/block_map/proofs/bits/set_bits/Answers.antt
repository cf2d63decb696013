use Rattle.std.proofs.Common.{sym, ◌∙◌, arith}
use Rattle.block_map.specs.Bits.{has_bit}
use Rattle.evac_model.proofs.Ranges.{with_more, with_same}
use Rattle.evac_model.proofs.Numbers.{length-numbers_where_more}
use Rattle.block_map.proofs.bits.set_bits.Goals as goal
use Rattle.block_map.proofs.bits.set_bits.Goals.{then-not-bit, else-not-bit}

pub loop-b-preserved : goal.loop-b-preserved
loop-b-preserved c =
    let old = has_bit c.args.words.now in
    let before = has_bit c.loop-b.words in
    elim c.if-not-bit.branch [
      | then-not-bit w ↦
          rw (w.words-is, w.changed-is) (record {
            few = omega arith;
            bits = with_more old before (has_bit w.set_bit.new.words) c.args.first c.loop-b.b (omega arith) c.loop-b.invariant.bits w.set_bit.ensures.here w.set_bit.ensures.others;
            changed = λ m h. omega (arith, length-numbers_where_more before (has_bit w.set_bit.new.words) m c.loop-b.b (omega arith) (sym c.bit.ensures ∙ w.if-not-bit.true) w.set_bit.ensures.here w.set_bit.ensures.others, c.loop-b.invariant.changed m h);
          })
      | else-not-bit w ↦
          rw (w.words-is, w.changed-is) (record {
            few = omega arith;
            bits = with_same old before c.args.first c.loop-b.b (omega arith) c.loop-b.invariant.bits (sym c.bit.ensures ∙ w.if-not-bit.false);
            changed = c.loop-b.invariant.changed;
          })
    ]
