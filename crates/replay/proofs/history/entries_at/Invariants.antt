use Rattle.std.proofs.Common.{◌≡◌, ◌++◌}
use Rattle.replay.proofs.Places.{at_all}
use Rattle.replay.proofs.history.entries_at.Given as goal

abbrev pub invariant-loop-place : goal.invariant-loop-place
invariant-loop-place l = l.entries ++ at_all l.place-iterator.rest.items ≡ at_all l.fn.places.items
