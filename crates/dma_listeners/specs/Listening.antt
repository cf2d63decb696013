-- What a listener maps behind the calls that it was told.
use Rattle.std.specs.Prelude.{◌≡◌, ℕ, ◌+◌, ◌<◌, ◌≤◌, not, List, length, filter, Option, None, Some, IsSomeAnd}
use Rattle.evac_model.specs.Counts.{Rose, WhereTold}
use Rattle.evac_model.specs.Numbers.{is_in, numbers_where}

-- the blocks of a list below an end, rising
abbrev pub blocks_below : (blocks : List ℕ) → (end : ℕ) → List ℕ
blocks_below blocks end = numbers_where (λ b. is_in b blocks) end

-- a list without the blocks of another
abbrev pub without_blocks : (blocks xs : List ℕ) → List ℕ
without_blocks blocks xs = filter (λ b. not (is_in b blocks)) xs

-- whatever was mapped, these blocks are now
abbrev pub exactly : (blocks xs : List ℕ) → List ℕ
exactly blocks xs = blocks

-- a listener: its blocks, its count of refusals, its limit and its room, as its type tells them
module _ {L : Type 0} (mapped : L → List ℕ) (refusals : L → ℕ) (limit : L → Option ℕ) (room : L → ℕ) where
  -- it maps what a change makes of its blocks; its count didn't fall, its limit and its room are as before
  pub record IsChanged (change : List ℕ → List ℕ) (old new : L) : Type 0 where
    pub blocks : mapped new ≡ change (mapped old)
    pub counts : refusals old ≤ refusals new
    pub limit_kept : limit new ≡ limit old
    pub room_kept : room new ≡ room old

  -- it refused: its blocks are as before, and its count rose
  pub record IsRefused (old new : L) : Type 0 where
    pub same : IsChanged (λ xs. xs) old new
    pub cause : Rose (refusals old) (refusals new)

  -- under a key there is no listener still, or the one there was changed
  abbrev pub IsChangedAt : (change : List ℕ → List ℕ) → (old new : Option L) → Type 0
  IsChangedAt change None new = new ≡ None
  IsChangedAt change (Some l) new = IsSomeAnd new (IsChanged change l)

  -- under a key there is a listener that refused
  abbrev pub IsRefusedAt : (old new : Option L) → Type 0
  IsRefusedAt old new = IsSomeAnd old (λ l. IsSomeAnd new (IsRefused l))

  -- where a limit is told, so many more blocks fit, or do not
  abbrev pub Fits : ℕ → L → Type 0
  Fits n l = WhereTold (limit l) (λ most. length (mapped l) + n ≤ most)

  abbrev pub Exceeds : ℕ → L → Type 0
  Exceeds n l = WhereTold (limit l) (λ most. most < length (mapped l) + n)
