use Rattle.machine.proofs.ActionsKept.{action_kept}
use Rattle.machine.proofs.laws.actions_keep_consistency.Goals as goal

pub returns : goal.returns
returns c = action_kept
