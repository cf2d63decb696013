-- Lists that are kept in a fixed array, with zeros behind them.
use Rattle.std.specs.Prelude.{◌≡◌, ℕ, ◌-◌, ◌≤◌, List, ◌++◌, length, take, drop, replicate}
use Rattle.std.proofs.Common.{sym, ◌∙◌, ap, arith}
use Rattle.std.proofs.lemmas.List.{length-take-le, take-append-drop}

-- an array of so many places, of which the first are in use and the others have zeros
pub record IsPaddedTo (places count : ℕ) (items : List ℕ) : Type 0 where
  pub all : length items ≡ places
  pub most : count ≤ places
  pub rest : drop count items ≡ replicate (places - count) 0

-- the values, with zeros behind them
abbrev pub padded_to : ℕ → List ℕ → List ℕ
padded_to places xs = xs ++ replicate (places - length xs) 0

pub padded_count : (places count : ℕ) (items : List ℕ) → IsPaddedTo places count items → length (take count items) ≡ count
padded_count places count items h = length-take-le count items (omega (arith, h.all, h.most))

pub padded_items : (places count : ℕ) (items : List ℕ) → IsPaddedTo places count items → padded_to places (take count items) ≡ items
padded_items places count items h =
    ap (λ k. take count items ++ replicate (places - k) 0) (padded_count places count items h)
    ∙ (ap (λ ys. take count items ++ ys) (sym h.rest) ∙ take-append-drop count items)

-- what is made of a number of values and of their array is made of the values again
pub padded_back : {A : Type 0} (make : ℕ → List ℕ → A) (places count : ℕ) (items : List ℕ) → IsPaddedTo places count items → make (length (take count items)) (padded_to places (take count items)) ≡ make count items
padded_back make places count items h = λ i. make (padded_count places count items h i) (padded_items places count items h i)
