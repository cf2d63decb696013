-- Notices that are being written.
use Rattle.std.specs.Prelude.{◌≡◌, ℕ, ◌+◌, List, length, ◌++◌}
use Rattle.evac_model.specs.declared.device_journal.Notice.{Notice}

-- the notices so far, in order, and how many more there is room for
pub record Draft : Type 0 where
  pub notices : List Notice
  pub room : ℕ

-- these notices were written behind the others, into the room that was there
pub record IsWritten (old new : Draft) (more : List Notice) : Type 0 where
  pub notices : new.notices ≡ old.notices ++ more
  pub room : new.room + length more ≡ old.room
