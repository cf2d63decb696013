use Rattle.host_work.specs.Evacuated.{by_tale}
use Rattle.host_work.proofs.AsTold.{did_as_told}
use Rattle.host_work.proofs.laws.plain_commands_did_as_told.Goals as goal

pub returns-clause-runs : goal.returns-clause-runs
returns-clause-runs c = λ before s d calls number commands runs actions device all done answered quiet same numbers.
    (did_as_told (by_tale s) before s d calls number commands runs actions device all done answered quiet same numbers).told

pub returns-clause-actions : goal.returns-clause-actions
returns-clause-actions c = λ before s d calls number commands runs actions device all done answered quiet same numbers.
    (did_as_told (by_tale s) before s d calls number commands runs actions device all done answered quiet same numbers).put

pub returns-clause-device : goal.returns-clause-device
returns-clause-device c = λ before s d calls number commands runs actions device all done answered quiet same numbers.
    (did_as_told (by_tale s) before s d calls number commands runs actions device all done answered quiet same numbers).sent
