use Rattle.std.proofs.Common.{◌≡◌}
use Rattle.replay.specs.Runs.{shown_below}
use Rattle.replay.proofs.pages.final_pages.Given as goal

abbrev pub invariant-loop-page : goal.invariant-loop-page
invariant-loop-page l = l.pages.items ≡ shown_below l.o l.words l.page
