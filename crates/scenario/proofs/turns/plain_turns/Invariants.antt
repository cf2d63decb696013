use Rattle.std.proofs.Common.{◌≡◌, ◌++◌, drop, map}
use Rattle.std.specs.List.{AllByRecursion}
use Rattle.evac_model.specs.Turns.{IsTurn}
use Rattle.scenario.specs.Judging.{plain_turn}
use Rattle.scenario.proofs.turns.plain_turns.Given as goal

-- the turns so far are in their ranges, and those and the rest are all
abbrev pub invariant-loop-turn : goal.invariant-loop-turn
invariant-loop-turn l = record {
  fit : AllByRecursion IsTurn l.plain.items;
  whole : l.plain.items ++ map plain_turn (drop l.turn-index l.turns) ≡ map plain_turn l.turns;
}
