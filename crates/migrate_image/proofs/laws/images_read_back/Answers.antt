use Rattle.migrate_image.proofs.Whole.{image_again}
use Rattle.migrate_image.proofs.laws.images_read_back.Goals as goal

pub returns : goal.returns
returns c = image_again
