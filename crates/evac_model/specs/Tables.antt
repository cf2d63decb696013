-- A table, a list of places that may be empty, seen as the finite map from the numbers of the places to
-- what they hold.
use Rattle.std.specs.Prelude.{ℕ, ◌+◌, List, [], ◌∷◌, Option, None, Some}
use Rattle.std.specs.Ordering.{nat_cmp}
use Rattle.std.specs.FinMap.{FinMap, from_entries}

-- the entry of a place, none where it is empty, before other entries
abbrev pub with_entry : {A : Type 0} → ℕ → Option A → List (ℕ × A) → List (ℕ × A)
with_entry k None es = es
with_entry k (Some x) es = (k, x) ∷ es

-- the entries of places that are numbered from k on
abbrev pub numbered : {A : Type 0} → ℕ → List (Option A) → List (ℕ × A)
numbered k [] = []
numbered k (x ∷ xs) = with_entry k x (numbered (k + 1) xs)

-- the map of a table whose places are numbered from 0 on
abbrev pub table_map : {A : Type 0} → List (Option A) → FinMap nat_cmp A
table_map xs = from_entries (numbered 0 xs)
