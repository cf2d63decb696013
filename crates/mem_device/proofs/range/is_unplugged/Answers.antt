use Rattle.mem_device.proofs.Ranges.{tested_unplugged}
use Rattle.mem_device.proofs.range.is_unplugged.Goals as goal

pub returns : goal.returns
returns c = tested_unplugged c.state.result c.args.map.now.plugged c.args.first.0 c.args.n c.state.ensures.unplugged
