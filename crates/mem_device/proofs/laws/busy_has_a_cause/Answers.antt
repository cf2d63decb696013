use Rattle.mem_device.proofs.Busy.{busy_cause, plug_busy}
use Rattle.mem_device.proofs.laws.busy_has_a_cause.Goals as goal

pub returns-clause-any : goal.returns-clause-any
returns-clause-any c = busy_cause

pub returns-clause-plug : goal.returns-clause-plug
returns-clause-plug c = plug_busy
