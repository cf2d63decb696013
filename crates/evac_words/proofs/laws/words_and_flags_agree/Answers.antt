use Rattle.evac_words.proofs.Words.{word_of-flags_of, flags_of-word_of, word_of-lt, FitsWord-flags_of}
use Rattle.evac_words.proofs.laws.words_and_flags_agree.Goals as goal

pub returns-clause-word : goal.returns-clause-word
returns-clause-word c = word_of-flags_of

pub returns-clause-flags : goal.returns-clause-flags
returns-clause-flags c = flags_of-word_of

pub returns-clause-below : goal.returns-clause-below
returns-clause-below c = word_of-lt

pub returns-clause-fits : goal.returns-clause-fits
returns-clause-fits c = FitsWord-flags_of
