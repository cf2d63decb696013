use Rattle.buddy.proofs.FrameValues.{are_apart}
use Rattle.buddy.proofs.runs.Runs.geometry.Goals as goal

pub returns-clause-apart : goal.returns-clause-apart
returns-clause-apart c =
    are_apart c.self.inside.geometry c.self.inside.online c.self.inside.boot c.self.inside.managed c.self.inside.aside.items c.self.inside.withdrawn.items c.args.self.now c.self.invariant c.self.view_is
