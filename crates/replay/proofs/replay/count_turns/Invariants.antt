use Rattle.std.proofs.Common.{◌≡◌, ◌+◌, drop}
use Rattle.evac_model.specs.Turns.{turn_count}
use Rattle.replay.proofs.replay.count_turns.Given as goal

abbrev pub invariant-loop-turn : goal.invariant-loop-turn
invariant-loop-turn l = l.count + turn_count (drop l.turn-index l.turns) ≡ turn_count l.turns
