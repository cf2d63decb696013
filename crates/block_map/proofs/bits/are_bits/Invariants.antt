use Rattle.block_map.specs.Bits.{AreBits}
use Rattle.block_map.proofs.bits.are_bits.Given as goal

abbrev pub invariant-loop-b : goal.invariant-loop-b
invariant-loop-b l = AreBits l.on l.first l.b l.words
