-- What holds of a host between any two actions.
use Rattle.std.specs.Prelude.{List}
use Rattle.evac_model.specs.declared.host.HostRun.{HostRun}
use Rattle.evacuate.specs.Tale.{Tale}
use Rattle.machine.specs.CellNumbers.{HaveNumbersInCells}
use Rattle.machine.specs.OutPages.{NamesPages}
use Rattle.machine.specs.World.{Setting, World}
use Rattle.core_actors.specs.Hosts.{HostState}
use Rattle.core_actors.specs.HostSeat.{HostSeat}
use Rattle.core_actors.specs.HostSpace.{HostSpace}
use Rattle.core_actors.specs.HostFound.{HostFound, HasTakes}
use Rattle.core_actors.specs.HostDid.{HostDid}

-- The driver's seat, the frame space and the device are as the place of its command has them, with what was done so far; what the
-- evacuation under way was told is true; and its takes go in step with its leases of targets. Cells have numbers of 64 bits, so that what the
-- driver loads can be stored, and frames were out for pages of the machine from the start on, so that it can take them.
pub record HostKept (c : Setting) (w : World) (runs : List HostRun) (h : HostState) : Type 0 where
  pub tale : Tale
  pub pages : NamesPages c.sizes c.space
  pub cells : HaveNumbersInCells c w.snapshot.words
  pub seat : HostSeat c w h
  pub space : HostSpace c w h tale
  pub found : HostFound c w h tale
  pub takes : HasTakes w h
  pub did : HostDid c w w runs h tale
