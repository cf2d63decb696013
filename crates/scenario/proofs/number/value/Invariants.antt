use Rattle.std.proofs.Common.{◌≡◌, drop}
use Rattle.scenario.specs.Numbers.{value_after}
use Rattle.scenario.proofs.number.value.Given as goal

-- what is left says, behind the number so far, what the digits say
abbrev pub invariant-loop-digit : goal.invariant-loop-digit
invariant-loop-digit l = value_after l.value (drop l.digit-index l.digits) ≡ value_after 0 l.digits
