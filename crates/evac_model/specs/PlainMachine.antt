-- The plain machine as a value: its sizes and its state.
use Rattle.std.specs.Prelude.{ℕ, refl}
use Rattle.std.specs.Coded.{Coded, code_by, coded×, coded_ℕ}
use Rattle.std.specs.FinMap as map
use Rattle.evac_model.specs.Geometry.{Sizes}
use Rattle.evac_model.specs.Page.{page_code}
use Rattle.evac_model.specs.State.{PlainState}

pub record PlainMachine : Type 0 where
  pub sizes : Sizes
  pub state : PlainState

-- sizes are stored as their six numbers
abbrev pub sizes_code : Coded Sizes
sizes_code =
    code_by (ℕ × (ℕ × (ℕ × (ℕ × (ℕ × ℕ))))) (coded× coded_ℕ (coded× coded_ℕ (coded× coded_ℕ (coded× coded_ℕ (coded× coded_ℕ coded_ℕ)))))
    (λ s. (s.cells, (s.block, (s.boot, (s.managed, (s.plugged, s.pages))))))
    (λ p. record { cells = p.0; block = p.1.0; boot = p.1.1.0; managed = p.1.1.1.0; plugged = p.1.1.1.1.0; pages = p.1.1.1.1.1 }) (λ _. refl)

-- a machine is stored as its sizes and its state
abbrev pub machine_code : Coded PlainMachine
machine_code =
    code_by (Sizes × PlainState) (coded× sizes_code (map.code coded_ℕ page_code))
    (λ m. (m.sizes, m.state)) (λ p. record { sizes = p.0; state = p.1 }) (λ _. refl)
