use Rattle.std.proofs.Common.{◌≡◌, ◌+◌, ◌≤◌, ◌||◌, ℕ, length}
use Rattle.evac_model.specs.Numbers.{numbers_where, is_between}
use Rattle.block_map.specs.Bits.{has_bit}
use Rattle.block_map.proofs.bits.set_bits.Given as goal

abbrev pub invariant-loop-b : goal.invariant-loop-b
invariant-loop-b l = record {
  few : l.changed + l.first ≤ l.b;
  bits : (k : ℕ) → has_bit l.words k ≡ (has_bit l.initial.words k || is_between l.first l.b k);
  changed : (m : ℕ) → l.last ≤ m → length (numbers_where (has_bit l.words) m) ≡ length (numbers_where (has_bit l.initial.words) m) + l.changed;
}
