use Rattle.std.proofs.Common.{sym}
use Rattle.mem_device.specs.Managed.{state_in}
use Rattle.mem_device.proofs.Answers.{state_good}
use Rattle.mem_device.proofs.memory.Memory.state.Goals as goal

pub returns-in-Some : goal.returns-in-Some
returns-in-Some g c =
    let m = c.args.self.now.map in
    state_good m.sizes (state_in c.args.self.now) c.args.addr c.args.count c.in-Some.first.0 c.state.result
    (rw c.geometry-g.ensures.sizes at (sym c.in-Some.ensures.good)) (rw c.geometry-g.ensures.sizes at c.in-Some.ensures.first) c.state.ensures.state
