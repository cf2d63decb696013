use Rattle.machine.proofs.SpaceNow.{mapped_is_plugged}
use Rattle.replay.specs.Running.{after_turns}
use Rattle.replay.specs.Runs.{setting, running_at_start}
use Rattle.replay.proofs.Acting.{setting_fits}
use Rattle.replay.proofs.ActionsLeft.{turns_keep}
use Rattle.replay.proofs.MachineKept.{starts_are_kept, turns_are_kept}
use Rattle.replay.proofs.laws.no_mapped_page_is_unplugged.Goals as goal

pub returns : goal.returns
returns c = λ s turns page runnable low on.
    let kept = turns_keep s (λ m actor k. turns_are_kept s m actor runnable k) (running_at_start s) turns (starts_are_kept s runnable) in
    mapped_is_plugged (setting s) (after_turns (setting s) (running_at_start s) turns).world page (setting_fits s runnable) kept.world low on
