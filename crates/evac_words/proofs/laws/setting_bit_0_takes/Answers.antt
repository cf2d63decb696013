use Rattle.evac_words.proofs.Words.{flags_of-bit_or, word_of-take}
use Rattle.evac_words.proofs.laws.setting_bit_0_takes.Goals as goal

pub returns-clause-flags : goal.returns-clause-flags
returns-clause-flags c = flags_of-bit_or

pub returns-clause-word : goal.returns-clause-word
returns-clause-word c = word_of-take
