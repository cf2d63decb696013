-- Commands that unplug nothing did what the functions of the commands alone say.
use Rattle.std.proofs.Common.{ℕ, suc, List, [], ◌∷◌, ◌++◌, refl}
use Rattle.std.specs.List.{AllByRecursion}
use Rattle.evac_model.specs.declared.host.HostCommand.{HostCommand}
use Rattle.evac_model.specs.declared.host.HostCommand.TheVariants.{Request, Config}
use Rattle.evac_model.specs.declared.space.SpaceAction.{SpaceAction}
use Rattle.evac_model.specs.DeviceAnswer.{DeviceState}
use Rattle.evac_model.specs.Geometry.{Sizes}
use Rattle.evac_model.specs.HostCommands.{request_action, host_runs}
use Rattle.host_work.specs.Commands.{AreDoneBy}
use Rattle.host_work.specs.PlainCommands.{IsPlain, sure_answer, command_actions, command_range, after_command, onlines_of, host_actions, host_lines, host_onlines}
use Rattle.host_work.specs.Requests.{Evacuates}
use Rattle.host_work.proofs.Sent.{sent_alone}

pub done_as_told : (E : Evacuates) (before : List SpaceAction) (s : Sizes) (d : DeviceState) (number : ℕ) (commands : List HostCommand) → AllByRecursion IsPlain commands
    → AreDoneBy E before s d (host_runs commands (host_lines s d number commands)) (host_onlines s d commands) (host_actions s d commands)
done_as_told E before s d number [] all = (refl, refl)
done_as_told E before s d number (Request bytes ∷ cs) all = (
  onlines_of (command_range s d (Request bytes)),
  host_onlines s (after_command s d (Request bytes)) cs,
  refl,
  command_actions s d (Request bytes),
  host_actions s (after_command s d (Request bytes)) cs,
  refl,
  sent_alone E before s d bytes (sure_answer s d bytes) (request_action bytes (sure_answer s d bytes) ∷ []) all.0 refl,
  done_as_told E (before ++ onlines_of (command_range s d (Request bytes))) s (after_command s d (Request bytes)) (suc number) cs all.1,
)
done_as_told E before s d number (Config ∷ cs) all = (
  [],
  host_onlines s d cs,
  refl,
  [],
  host_actions s d cs,
  refl,
  record { told = refl; tried = refl; nothing_made = refl; nothing_sent = refl },
  done_as_told E (before ++ []) s d (suc number) cs all.1,
)
