use Rattle.std.proofs.Common.{◌≡◌, ◌+◌, ◌++◌, length}
use Rattle.std.specs.List.{AllByRecursion}
use Rattle.evac_model.specs.Scenarios.{IsOwnerCall}
use Rattle.replay.specs.Runs.{owners_from}
use Rattle.replay.proofs.replay.owners.Given as goal

abbrev pub invariant-loop-script : goal.invariant-loop-script
invariant-loop-script l = record {
  number : l.number + length l.script-iterator.rest.items ≡ length l.fn.scripts.items;
  seats : l.seats.items ++ owners_from l.g.cells (l.number + 1) l.script-iterator.rest.items ≡ owners_from l.g.cells 1 l.fn.scripts.items;
  calls : AllByRecursion (λ script. AllByRecursion (IsOwnerCall l.g) script) l.script-iterator.rest.items;
}
