-- The fields of a message, as bytes.
use Rattle.std.specs.Prelude.{◌≡◌, ℕ, ◌+◌, List, ◌++◌, length, take, drop, replicate}
use Rattle.byteorder.specs.Endian.{little_bytes, little_number}

-- a number as 2 bytes, the lowest first
unfoldable pub le16 : ℕ → List ℕ
le16 x = little_bytes 2 x

-- a number as 8 bytes, the lowest first
unfoldable pub le64 : ℕ → List ℕ
le64 x = little_bytes 8 x

-- six bytes, of which nothing is said
abbrev pub IsPadding : List ℕ → Type 0
IsPadding bytes = length bytes ≡ 6

-- the padding that is written
abbrev pub zeros : List ℕ
zeros = replicate 6 0

-- the number in the 2 bytes from a place on, the lowest first
unfoldable pub le16_at : ℕ → List ℕ → ℕ
le16_at place bytes = little_number 2 (drop place bytes)

-- the number in the 8 bytes from a place on, the lowest first
unfoldable pub le64_at : ℕ → List ℕ → ℕ
le64_at place bytes = little_number 8 (drop place bytes)

-- bytes with others in the place of those from a place on
abbrev pub overwritten : ℕ → List ℕ → List ℕ → List ℕ
overwritten place field bytes = take place bytes ++ field ++ drop (place + length field) bytes
