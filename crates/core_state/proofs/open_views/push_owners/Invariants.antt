use Rattle.std.proofs.Common.{◌≡◌, ◌++◌, take}
use Rattle.core_state.specs.CoreOpens.{owner_views}
use Rattle.core_state.proofs.open_views.push_owners.Given as goal

abbrev pub invariant-loop-i : goal.invariant-loop-i
invariant-loop-i l = l.views.items ≡ l.fn.views.items ++ owner_views l.g 1 (take l.i l.budgets)
