use Rattle.replay.specs.Runs.{running_at_start}
use Rattle.replay.proofs.ActionsLeft.{turns_keep}
use Rattle.replay.proofs.MachineKept.{starts_are_kept, turns_are_kept}
use Rattle.replay.proofs.laws.takes_go_with_leases.Goals as goal

pub returns : goal.returns
returns c = λ s turns runnable.
    (turns_keep s (λ m actor k. turns_are_kept s m actor runnable k) (running_at_start s) turns (starts_are_kept s runnable)).host.kept.takes
