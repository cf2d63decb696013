use Rattle.evac_model.specs.declared.device_journal.Told.TheVariants.{PopulateOk}
use Rattle.dma_listeners.proofs.MappedAfter.{told_once}
use Rattle.dma_listeners.proofs.laws.plug_notices_map.Goals as goal

pub returns : goal.returns
returns c live end first n key blocks e h = told_once live end first n PopulateOk key blocks e h
