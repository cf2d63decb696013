use Rattle.scenario.proofs.TurnLists.{bad_turn}
use Rattle.scenario.proofs.turns.plain_turns.Goals as goal

pub returns-in_default : goal.returns-in_default
returns-in_default c = bad_turn c.args.turns.now c.loop-turn.turn-index _ c.loop-turn-test.true c.in_default.ensures
