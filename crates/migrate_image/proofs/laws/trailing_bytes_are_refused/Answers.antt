use Rattle.migrate_image.proofs.Whole.{bytes_behind}
use Rattle.migrate_image.proofs.laws.trailing_bytes_are_refused.Goals as goal

pub returns : goal.returns
returns c = bytes_behind
