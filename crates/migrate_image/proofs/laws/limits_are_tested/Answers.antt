use Rattle.migrate_image.proofs.Limits.{within_is, is_within-limits}
use Rattle.migrate_image.proofs.laws.limits_are_tested.Goals as goal

pub returns : goal.returns
returns c = λ s. (within_is s, is_within-limits s)
