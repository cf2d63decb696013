-- A page as plain data. It has no frame and never moves.
use Rattle.std.specs.Prelude.{ℕ, ◌≡◌, ◌≤◌, Bool, true, false, List, length, replicate, Option, refl}
use Rattle.std.specs.Coded.{Coded, code_by, coded×, coded_ℕ, coded_bool, coded_list}
use Rattle.evac_model.specs.declared.names.Kind.{Kind}
use Rattle.evac_model.specs.declared.names.Kind.TheVariants.{Movable, Unmovable}

-- a mapped page: the numbers in its cells, its kind, and its pins
pub record PlainPage : Type 0 where
  pub cells : List ℕ
  pub kind : Kind
  pub pins : ℕ

-- a page that may be unmapped, which is None
abbrev pub Page : Type 0
Page = Option PlainPage

abbrev pub zeros : ℕ → List ℕ
zeros n = replicate n 0

-- a page just mapped, with n cells
abbrev pub new_page : ℕ → Kind → PlainPage
new_page n kind = record { cells = zeros n; kind = kind; pins = 0 }

-- a page of a machine with n cells in a page
pub record IsPage (n : ℕ) (m : PlainPage) : Type 0 where
  pub cells : length m.cells ≡ n
  pub pins : m.pins ≤ 63

abbrev pub is_movable : Kind → Bool
is_movable Movable = true
is_movable Unmovable = false

abbrev pub kind_of : Bool → Kind
kind_of true = Movable
kind_of false = Unmovable

pub kind_of-is_movable : (k : Kind) → kind_of (is_movable k) ≡ k
kind_of-is_movable Movable = refl
kind_of-is_movable Unmovable = refl

-- a kind is stored as whether it is movable
abbrev pub kind_code : Coded Kind
kind_code = code_by Bool coded_bool is_movable kind_of kind_of-is_movable

-- a page is stored as its fields
abbrev pub page_code : Coded PlainPage
page_code =
    code_by (List ℕ × (Kind × ℕ)) (coded× (coded_list coded_ℕ) (coded× kind_code coded_ℕ))
    (λ m. (m.cells, (m.kind, m.pins))) (λ p. record { cells = p.0; kind = p.1.0; pins = p.1.1 }) (λ _. refl)
