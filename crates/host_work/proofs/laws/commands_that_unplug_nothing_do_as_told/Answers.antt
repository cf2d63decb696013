use Rattle.host_work.specs.Evacuated.{by_tale}
use Rattle.host_work.proofs.ToldBy.{done_as_told}
use Rattle.host_work.proofs.laws.commands_that_unplug_nothing_do_as_told.Goals as goal

pub returns : goal.returns
returns c before s d number commands all = done_as_told (by_tale s) before s d number commands all
