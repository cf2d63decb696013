use Rattle.std.proofs.Common.{◌≡◌, ◌+◌, ◌-◌}
use Rattle.std.specs.List.{range_with_len}
use Rattle.buddy.specs.Choice.{choice_of_order, first_choice}
use Rattle.buddy.proofs.runs.choose.Given as goal

abbrev pub invariant-loop-wanted : goal.invariant-loop-wanted
invariant-loop-wanted l =
    first_choice (choice_of_order l.boot_frames l.boot l.managed l.takes) (range_with_len l.order 10)
    ≡ first_choice (choice_of_order l.boot_frames l.boot l.managed l.takes) (range_with_len l.wanted (10 + l.order - l.wanted))
