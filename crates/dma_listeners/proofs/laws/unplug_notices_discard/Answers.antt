use Rattle.evac_model.specs.declared.device_journal.Told.TheVariants.{Discard}
use Rattle.dma_listeners.proofs.MappedAfter.{told_once}
use Rattle.dma_listeners.proofs.laws.unplug_notices_discard.Goals as goal

pub returns : goal.returns
returns c live end first n key blocks e h = told_once live end first n Discard key blocks e h
