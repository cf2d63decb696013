-- The statuses that a top call may give.
use Rattle.std.proofs.Common.{◌≡◌, ℕ, ◌⊎◌, ⊎_elim, List, [], ◌∷◌, Contains, sym, subst, refl, arith}
use Rattle.evac.specs.declared.stop.Stop.{Stop}
use Rattle.evac.specs.declared.stop.Stop.TheVariants.{ReadFault, TooLong, Refused, OutOfMemory}
use Rattle.evac.specs.Stops.{status_of}

abbrev pub statuses : List ℕ
statuses = 0 ∷ 2 ∷ 3 ∷ 4 ∷ 5 ∷ 6 ∷ []

pub done : (n : ℕ) → (n ≡ 0) ⊎ (n ≡ 5) → Contains statuses n
done n h =
    ⊎_elim (λ e. subst (Contains statuses) (sym e) (0, omega arith, refl)) (λ e. subst (Contains statuses) (sym e) (4, omega arith, refl)) h

pub no_command : (n : ℕ) → n ≡ 2 → Contains statuses n
no_command n e = subst (Contains statuses) (sym e) (1, omega arith, refl)

of_stop : (stop : Stop) → Contains statuses (status_of stop)
of_stop ReadFault = (3, omega arith, refl)
of_stop TooLong = (2, omega arith, refl)
of_stop (Refused fault) = (2, omega arith, refl)
of_stop OutOfMemory = (5, omega arith, refl)

pub stopped : (n : ℕ) (stop : Stop) → n ≡ status_of stop → Contains statuses n
stopped n stop e = subst (Contains statuses) (sym e) (of_stop stop)
