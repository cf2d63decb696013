use Rattle.std.proofs.Common.{◌∙◌}
use Rattle.space.proofs.KeptSpaces.{given_one}
use Rattle.space.proofs.kept.give_frame.Goals as goal

pub returns : goal.returns
returns c = c.give.ensures ∙ given_one c.args.runs.now c.args.frame.0
