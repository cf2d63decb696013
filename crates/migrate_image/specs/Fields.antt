-- The fields of an image: numbers, the lowest byte first.
use Rattle.std.specs.Prelude.{ℕ, List, codes}
use Rattle.byteorder.specs.Endian.{little_bytes}

-- a number as 4 bytes
unfoldable pub le32 : ℕ → List ℕ
le32 x = little_bytes 4 x

-- a number as 8 bytes
unfoldable pub le64 : ℕ → List ℕ
le64 x = little_bytes 8 x

-- the 8 bytes that an image begins with
unfoldable pub mark : List ℕ
mark = codes "EVACIMG1"
