-- Cells of a held page that are known, and whose values are stored in a frame.
use Rattle.std.proofs.Common.{◌≡◌, ℕ, ◌+◌, ◌<◌, List, slice_index_or, sym, subst, ◌∙◌, arith, Option, None, Some}
use mathlib.Core.Logic.{dite}
use native.Mathlib.Decide.{ℕ_discrete}
use Rattle.core_state.specs.declared.held.Held.{Held}
use Rattle.core_state.specs.MoveSteps.{known_cell}

-- two numbers are known and the same
abbrev pub AreKnownSame : Option ℕ → Option ℕ → Type 0
AreKnownSame a b = (value : ℕ) × (a ≡ Some value) × (b ≡ Some value)

abbrev pub IsCellCopied : Held → List (Option ℕ) → ℕ → Type 0
IsCellCopied h stores cell = AreKnownSame (known_cell h cell) (slice_index_or stores cell None)

-- one cell more
pub with_next : (h : Held) (stores : List (Option ℕ)) (n : ℕ) (a b : Option ℕ) → a ≡ known_cell h n → b ≡ slice_index_or stores n None → AreKnownSame a b → ((cell : ℕ) → cell < n → IsCellCopied h stores cell) → (cell : ℕ) → cell < n + 1 → IsCellCopied h stores cell
with_next h stores n a b known stored same before cell lt = dite (ℕ_discrete cell n)
    (λ e. subst (λ (k : ℕ). IsCellCopied h stores k) (sym e) (same.0, sym known ∙ same.1, sym stored ∙ same.2))
    (λ ne. before cell (omega arith))

-- where each cell is copied, this one is
pub this_one : (h : Held) (stores : List (Option ℕ)) (n cells : ℕ) (a b : Option ℕ) → a ≡ known_cell h n → b ≡ slice_index_or stores n None → n < cells → ((cell : ℕ) → cell < cells → IsCellCopied h stores cell) → AreKnownSame a b
this_one h stores n cells a b known stored lt copied = let x = copied n lt in (x.0, known ∙ x.1, stored ∙ x.2)
