-- Counts of what went wrong outside: numbers of 64 bits that stand still at the largest one; and calls of which listed ones fail.
use Rattle.std.specs.Prelude.{◌≡◌, ℕ, ◌+◌, ◌-◌, ◌^◌, ◌<◌, ◌⊎◌, ◌&&◌, Bool, true, nat_lt, ⊤, min, List, Option, None, Some}
use Rattle.evac_model.specs.Numbers.{is_in, rising}

-- one more, where the largest number stands still
abbrev pub one_more : ℕ → ℕ
one_more n = min (n + 1) (2 ^ 64 - 1)

-- the count rose, or stands at the end of its type, where it can rise no more
abbrev pub Rose : ℕ → ℕ → Type 0
Rose before after = (before < after) ⊎ (after ≡ 2 ^ 64 - 1)

-- where something is told, this is true of it
abbrev pub WhereTold : {A : Type 0} → Option A → (A → Type 0) → Type 0
WhereTold None P = ⊤
WhereTold (Some x) P = P x

-- the numbers of the calls that fail, from 1, rising, and how many calls were made
pub record Calls : Type 0 where
  pub fails : List ℕ
  pub made : ℕ

-- before the first call, where these calls fail
abbrev pub first_of_calls : List ℕ → Calls
first_of_calls fails = record { fails = rising fails; made = 0 }

-- one call later
abbrev pub after_call : Calls → Calls
after_call c = record { fails = c.fails; made = one_more c.made }

-- whether the next call raises the number of calls to one of the list
abbrev pub is_listed : Calls → Bool
is_listed c = nat_lt c.made (2 ^ 64 - 1) && is_in (c.made + 1) c.fails

abbrev pub IsListed : Calls → Type 0
IsListed c = is_listed c ≡ true
