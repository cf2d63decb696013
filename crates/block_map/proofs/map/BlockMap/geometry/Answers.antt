use Rattle.block_map.specs.Bits.{has_bit}
use Rattle.block_map.proofs.Maps.{value_rising}
use Rattle.block_map.proofs.map.BlockMap.geometry.Goals as goal

pub returns-clause-rising : goal.returns-clause-rising
returns-clause-rising c = value_rising c.self.inside.geometry (has_bit c.self.inside.words.items) c.args.self.now c.self.view_is
