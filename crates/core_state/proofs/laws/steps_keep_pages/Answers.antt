use Rattle.core_state.proofs.PageCells.{steps_keep_pages}
use Rattle.core_state.proofs.laws.steps_keep_pages.Goals as goal

pub returns : goal.returns
returns c = steps_keep_pages
