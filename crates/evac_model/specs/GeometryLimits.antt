-- The limits on single numbers of a geometry.
use Rattle.std.specs.Prelude.{◌≡◌, ℕ, ◌^◌, ◌≤◌}

-- a power of two from 1 to 512
abbrev pub IsPowerTo512 : ℕ → Type 0
IsPowerTo512 n = (k : ℕ) × (k ≤ 9) × (n ≡ 2 ^ k)

abbrev pub IsCountTo65536 : ℕ → Type 0
IsCountTo65536 n = (1 ≤ n) × (n ≤ 65536)
