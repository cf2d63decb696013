-- Bits in words of 64.
use Rattle.std.specs.Prelude.{◌≡◌, ℕ, ◌/◌, ◌%◌, ◌<◌, ◌≤◌, ◌+◌, Bool, true, false, ◌==◌, List, slice_index}
use Rattle.std.specs.Int.{bit_at}

-- whether bit b is set, the lowest bit of the first word being bit 0
unfoldable pub has_bit : List ℕ → ℕ → Bool
has_bit words b = bit_at (slice_index words (b / 64)) (b % 64) == 1

-- each bit from first on and below last is set, or none is
abbrev pub AreBits : Bool → (first last : ℕ) → List ℕ → Type 0
AreBits on first last words = (b : ℕ) → first ≤ b → b < last → has_bit words b ≡ on

-- each of n bits from first on is below managed and set
abbrev pub AreAllSet : (managed first n : ℕ) → List ℕ → Type 0
AreAllSet managed first n words = (b : ℕ) → first ≤ b → b < first + n → (b < managed) × (has_bit words b ≡ true)

-- none of n bits from first on is below managed and set
abbrev pub AreNoneSet : (managed first n : ℕ) → List ℕ → Type 0
AreNoneSet managed first n words = (b : ℕ) → first ≤ b → b < first + n → b < managed → has_bit words b ≡ false
