use Rattle.std.proofs.lemmas.List.{take_rest}
use Rattle.evac_io.proofs.Told.{drop-take}
use Rattle.evac_io.proofs.memory_source.SureSourceSource.read.Goals as goal

-- The bytes copied are the next ones from the place where the source stands.
pub returns-clause-gives : goal.returns-clause-gives
returns-clause-gives c =
    let front = rw (take_rest, c.as_slice.ensures) at c.copy_front-count.ensures.front in
    rw (← c.self.view_is) (drop-take _ _ _ _ front)
