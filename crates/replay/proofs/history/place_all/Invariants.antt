use Rattle.std.proofs.Common.{◌≡◌}
use Rattle.replay.specs.Entries.{all_placed}
use Rattle.replay.proofs.history.place_all.Given as goal

abbrev pub invariant-loop-view : goal.invariant-loop-view
invariant-loop-view l = all_placed l.places l.view-iterator.rest.items ≡ all_placed l.fn.places l.fn.views.items
