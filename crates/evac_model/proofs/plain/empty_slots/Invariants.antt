use Rattle.std.proofs.Common.{◌≡◌, length}
use Rattle.std.specs.List.{AllByRecursion}
use Rattle.evac_model.specs.Slots.{IsEmptySlot}
use Rattle.evac_model.proofs.plain.empty_slots.Given as goal

abbrev pub invariant-loop-page : goal.invariant-loop-page
invariant-loop-page l = record {
  count : length l.slots.items ≡ l._page;
  each : AllByRecursion (IsEmptySlot l.cells) l.slots.items;
}
