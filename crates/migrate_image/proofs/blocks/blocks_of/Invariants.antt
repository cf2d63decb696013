use Rattle.std.proofs.Common.{◌≡◌, ◌-◌, []}
use Rattle.migrate_image.specs.Reading.{blocks_at}
use Rattle.migrate_image.proofs.blocks.blocks_of.Given as goal

abbrev pub invariant-loop : goal.invariant-loop
invariant-loop l = blocks_at l.bound l.plugged.items l.least (l.count - l.counter) l.rest ≡ blocks_at l.bound [] 0 l.count l.bytes
