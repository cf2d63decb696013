-- What a listener maps: what the notices of its key leave, and that this is exactly the plugged blocks.
use Rattle.std.specs.Prelude.{◌≡◌, ℕ, Bool, false, ◌==◌, if◌then◌else◌, List, [], ◌∷◌, Option, None, Some}
use Rattle.evac_model.specs.declared.device_journal.Notice.{Notice}
use Rattle.evac_model.specs.declared.device_journal.Told.{Told}
use Rattle.evac_model.specs.declared.device_journal.Told.TheVariants.{PopulateOk, PopulateRefused, Discard}
use Rattle.evac_model.specs.Numbers.{with_range, without_range}

-- the blocks mapped behind one notice
abbrev pub mapped_when : Told → (first n : ℕ) → List ℕ → List ℕ
mapped_when PopulateOk first n blocks = with_range first n blocks
mapped_when PopulateRefused first n blocks = blocks
mapped_when Discard first n blocks = without_range first n blocks

-- whether a notice is for the listener of that key
abbrev pub is_for : (key : ℕ) → Option ℕ → Bool
is_for key None = false
is_for key (Some k) = k == key

-- the blocks mapped behind the notices of a key
abbrev pub mapped_after : (key : ℕ) → List Notice → List ℕ → List ℕ
mapped_after key [] blocks = blocks
mapped_after key (x ∷ notices) blocks =
    mapped_after key notices (if is_for key x.key then mapped_when x.told x.first.0 x.n blocks else blocks)

-- a listener maps exactly the plugged blocks, and these are what the notices of its key leave
pub record IsMappedExactly (key : ℕ) (notices : List Notice) (plugged mapped : List ℕ) : Type 0 where
  pub exactly : mapped ≡ plugged
  pub told : mapped ≡ mapped_after key notices []
