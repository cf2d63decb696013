-- What contracts see of the scanner's copy of a frame.
use Rattle.std.specs.Prelude.{ℕ, List, [], refl}
use Rattle.std.specs.Coded.{Coded, code_by, coded×, coded_ℕ, coded_list}

-- the cells copied so far, from the first on, and for how many cells there are places
pub record Copied : Type 0 where
  pub cells : List ℕ
  pub places : ℕ

-- no cell copied, with so many places
abbrev pub nothing_copied : ℕ → Copied
nothing_copied cells = record { cells = []; places = cells }

-- a copy is stored as its fields
abbrev pub copied_code : Coded Copied
copied_code = code_by (List ℕ × ℕ) (coded× (coded_list coded_ℕ) coded_ℕ) (λ m. (m.cells, m.places)) (λ p. record { cells = p.0; places = p.1 }) (λ _. refl)
