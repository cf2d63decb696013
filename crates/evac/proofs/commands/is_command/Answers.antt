use Rattle.evac.proofs.CommandWords.{only_word}
use Rattle.evac.proofs.commands.is_command.Goals as goal

pub returns-in-len1 : goal.returns-in-len1
returns-in-len1 c = only_word c.args.words.now _ _ c.eq.result c.in-len1.len_at_least c.in-len1.len_below c.eq.ensures
