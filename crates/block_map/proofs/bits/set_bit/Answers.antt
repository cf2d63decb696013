use Rattle.block_map.proofs.Words.{has_bit_set_here, has_bit_set_others}
use Rattle.block_map.proofs.bits.set_bit.Goals as goal

pub returns-clause-here : goal.returns-clause-here
returns-clause-here c = has_bit_set_here c.args.words.now c.args.b c.requires

pub returns-clause-others : goal.returns-clause-others
returns-clause-others c = has_bit_set_others c.args.words.now c.args.b c.requires
