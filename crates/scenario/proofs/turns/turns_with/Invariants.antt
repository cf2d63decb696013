use Rattle.std.proofs.Common.{◌≡◌, ◌≤◌, ◌+◌, ◌^◌, drop}
use Rattle.evac_model.specs.Turns.{turn_count}
use Rattle.scenario.proofs.turns.turns_with.Given as goal

-- the turns so far and the rest are all
abbrev pub invariant-loop-turn : goal.invariant-loop-turn
invariant-loop-turn l = record {
  whole : l.total + turn_count (drop l.turn-index l.turns) ≡ l.fn.others + turn_count l.turns;
  few : l.total ≤ 2 ^ 24;
}
