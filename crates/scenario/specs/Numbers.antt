-- The number of 64 bits that a word writes.
use Rattle.std.specs.Prelude.{ℕ, ◌+◌, ◌-◌, ◌*◌, ◌^◌, ◌==◌, ◌&&◌, List, [], ◌∷◌, Option, None, Some, nat_lt, if◌then◌else◌}
use Rattle.std.specs.Char.{is_ascii_digit}

-- what digits say behind a number, as long as it is one of 64 bits
abbrev pub value_after : ℕ → List ℕ → Option ℕ
value_after n [] = Some n
value_after n (c ∷ cs) =
    if is_ascii_digit c && nat_lt (n * 10 + (c - 48)) (2 ^ 64) then value_after (n * 10 + (c - 48)) cs else None

-- the number that a word writes: digits, with no zero before others
abbrev pub number_of : List ℕ → Option ℕ
number_of [] = None
number_of (c ∷ []) = value_after 0 (c ∷ [])
number_of (c ∷ d ∷ cs) = if c == 48 then None else value_after 0 (c ∷ d ∷ cs)
