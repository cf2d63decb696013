use Rattle.std.proofs.Common.{◌≡◌, ◌-◌, ◌≤◌, length}
use Rattle.scenario.specs.Words.{words_left}
use Rattle.scenario.specs.Reading.{values_of}
use Rattle.scenario.proofs.Values.{with_front}
use Rattle.scenario.proofs.call_line.values_of.Given as goal

-- the values so far, and those that are left
abbrev pub invariant-loop-rest : goal.invariant-loop-rest
invariant-loop-rest l = record {
  within : length l.values ≤ 8;
  read : with_front l.values (values_of (8 - length l.values) (words_left l.rest)) ≡ values_of 8 (words_left l.fn.rest);
}

abbrev pub decreases-loop-rest : goal.decreases-loop-rest
decreases-loop-rest l = length (words_left l.rest)
