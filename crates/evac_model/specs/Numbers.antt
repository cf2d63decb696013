-- Lists of numbers: those below a bound that pass a test, and which numbers stand in a list.
use Rattle.std.specs.Prelude.{◌≡◌, ℕ, ◌+◌, max, Bool, false, ◌==◌, ◌&&◌, ◌||◌, not, nat_le, nat_lt, List, [], ◌∷◌, filter}
use Rattle.std.specs.List.{range_with_len}

-- the numbers below n that pass a test, rising
abbrev pub numbers_where : (ℕ → Bool) → ℕ → List ℕ
numbers_where test n = filter test (range_with_len 0 n)

-- whether a number stands in a list
abbrev pub is_in : ℕ → List ℕ → Bool
is_in b [] = false
is_in b (x ∷ xs) = b == x || is_in b xs

-- whether a number is from first on and below last
abbrev pub is_between : (first last b : ℕ) → Bool
is_between first last b = nat_le first b && nat_lt b last

-- the least number above all of a list
abbrev pub end_of : List ℕ → ℕ
end_of [] = 0
end_of (x ∷ xs) = max (x + 1) (end_of xs)

-- the numbers of two lists, rising
abbrev pub united : List ℕ → List ℕ → List ℕ
united xs ys = numbers_where (λ b. is_in b xs || is_in b ys) (max (end_of xs) (end_of ys))

-- a list with the n numbers from first on, rising
abbrev pub with_range : (first n : ℕ) → List ℕ → List ℕ
with_range first n xs = united xs (range_with_len first n)

-- a list without the n numbers from first on
abbrev pub without_range : (first n : ℕ) → List ℕ → List ℕ
without_range first n xs = filter (λ b. not (is_between first (first + n) b)) xs

-- the numbers of a list, each once, rising
abbrev pub rising : List ℕ → List ℕ
rising xs = numbers_where (λ b. is_in b xs) (end_of xs)

-- no number stands in a list twice
abbrev pub AreDistinct : List ℕ → Type 0
AreDistinct [] = Unit {0}
AreDistinct (x ∷ xs) = (is_in x xs ≡ false) × AreDistinct xs

-- the list is rising, and each of its numbers is below the bound
abbrev pub IsRisingBelow : (bound : ℕ) → List ℕ → Type 0
IsRisingBelow bound xs = xs ≡ numbers_where (λ b. is_in b xs) bound
