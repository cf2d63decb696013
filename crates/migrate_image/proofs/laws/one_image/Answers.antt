use Rattle.migrate_image.proofs.Whole.{same_image}
use Rattle.migrate_image.proofs.laws.one_image.Goals as goal

pub returns : goal.returns
returns c = same_image
