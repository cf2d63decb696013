use Rattle.block_map.proofs.Maps.{count_few, block_bytes_le}
use Rattle.block_map.proofs.map.BlockMap.plugged_size.Goals as goal

pub bytes_of-requires-clause-few : goal.bytes_of-requires-clause-few
bytes_of-requires-clause-few c = count_few c.self.inside.geometry c.self.inside.words.items c.self.inside.count c.self.invariant

pub bytes_of-requires-clause-small : goal.bytes_of-requires-clause-small
bytes_of-requires-clause-small c = rw c.device_block_bytes.ensures (block_bytes_le c.self.inside.geometry c.self.invariant.within)
