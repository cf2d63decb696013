use Rattle.std.proofs.Common.{◌≡◌, length, map}
use Rattle.scenario.specs.Words.{words_left}
use Rattle.scenario.specs.Reading.{turn_in, turns_of}
use Rattle.scenario.proofs.TurnLists.{with_front}
use Rattle.scenario.proofs.turn_line.turns_of.Given as goal

-- the turns so far, and those that are left
abbrev pub invariant-loop-rest : goal.invariant-loop-rest
invariant-loop-rest l = with_front (map turn_in l.turns.items) (turns_of (words_left l.rest)) ≡ turns_of (words_left l.fn.rest)

abbrev pub decreases-loop-rest : goal.decreases-loop-rest
decreases-loop-rest l = length (words_left l.rest)
