use Rattle.std.proofs.Common.{◌≡◌, ℕ, ◌||◌, ◌&&◌, nat_lt}
use Rattle.evac_model.specs.Numbers.{is_in, IsRisingBelow}
use Rattle.mem_device.proofs.hand_kind.add_all.Given as goal

abbrev pub invariant-loop-b : goal.invariant-loop-b
invariant-loop-b l = record {
  sizes : l.map.sizes ≡ l.initial.map.sizes;
  rising : IsRisingBelow l.map.sizes.managed l.map.plugged;
  has : (k : ℕ) → is_in k l.map.plugged ≡ (is_in k l.initial.map.plugged || (is_in k l.more.plugged && nat_lt k l.b));
}
