use Rattle.std.proofs.Common.{arith}
use Rattle.replay.proofs.pages.push_page.Goals as goal

pub entry_index-requires : goal.entry_index-requires
entry_index-requires c = let few = c.requires.inside.small.pages in let low = c.requires.page in omega arith
