use Rattle.dma_listeners.proofs.MappedAfter.{refused_before, refused_behind}
use Rattle.dma_listeners.proofs.laws.refused_notices_map_nothing.Goals as goal

pub returns : goal.returns
returns c = record { before = refused_before; behind = refused_behind }
