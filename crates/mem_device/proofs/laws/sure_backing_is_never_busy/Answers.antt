use Rattle.mem_device.proofs.Busy.{never_busy}
use Rattle.mem_device.proofs.laws.sure_backing_is_never_busy.Goals as goal

pub returns : goal.returns
returns c = never_busy
