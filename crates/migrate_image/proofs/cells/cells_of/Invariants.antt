use Rattle.std.proofs.Common.{◌≡◌, ◌-◌, []}
use Rattle.migrate_image.specs.Reading.{cells_at}
use Rattle.migrate_image.proofs.cells.cells_of.Given as goal

abbrev pub invariant-loop : goal.invariant-loop
invariant-loop l = cells_at l.cells.items (l.count - l.counter) l.rest ≡ cells_at [] l.count l.bytes
