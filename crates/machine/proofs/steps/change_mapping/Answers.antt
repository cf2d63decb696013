use Rattle.machine.proofs.Quiet.{actor_there}
use Rattle.machine.proofs.MovesKept.{machine_moved}
use Rattle.machine.proofs.steps.change_mapping.Goals as goal

pub step_move-requires-clause-seat : goal.step_move-requires-clause-seat
step_move-requires-clause-seat c = actor_there _ _ c.args.seat c.requires.is.consistent c.requires.may.actor

pub returns-clause-is : goal.returns-clause-is
returns-clause-is c = machine_moved c.args.parts.now _ c.args.seat c.args.step c.step_move.ensures.opening c.step_move.ensures.snapshot c.requires.is c.requires.may
