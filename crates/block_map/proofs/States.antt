-- The state of a range, by what is plugged of it.
use Rattle.std.proofs.Common.{◌≡◌, ℕ, true, false, not, List, refl, ap}
use Rattle.std.proofs.lemmas.Bool.{not-true, false_from_ne_true}
use Rattle.evac_model.specs.Numbers.{is_in}
use Rattle.evac_model.specs.DeviceAnswer.{are_plugged, are_unplugged, range_state}
use Rattle.evac_model.proofs.Ranges.{list_all-range, range-list_all}
use Rattle.block_map.specs.Blocks.{IsAllPlugged, IsNonePlugged}

pub plugged_all : (plugged : List ℕ) (first n : ℕ) → IsAllPlugged first n plugged → are_plugged plugged first n ≡ true
plugged_all plugged first n all = list_all-range (λ b. is_in b plugged) first n all

pub all_plugged : (plugged : List ℕ) (first n : ℕ) → are_plugged plugged first n ≡ true → IsAllPlugged first n plugged
all_plugged plugged first n h = range-list_all (λ b. is_in b plugged) first n h

pub plugged_none : (plugged : List ℕ) (first n : ℕ) → IsNonePlugged first n plugged → are_unplugged plugged first n ≡ true
plugged_none plugged first n none = list_all-range (λ b. not (is_in b plugged)) first n (λ b f l. ap not (none b f l))

pub none_plugged : (plugged : List ℕ) (first n : ℕ) → are_unplugged plugged first n ≡ true → IsNonePlugged first n plugged
none_plugged plugged first n h = λ b f l. not-true (is_in b plugged) (range-list_all (λ b. not (is_in b plugged)) first n h b f l)

-- the state of a range, where it is plugged, where it is unplugged, and where it is mixed
pub state_plugged : (plugged : List ℕ) (first n : ℕ) → IsAllPlugged first n plugged → range_state plugged first n ≡ 0
state_plugged plugged first n all = let e : are_plugged plugged first n ≡ true = plugged_all plugged first n all in rw e refl

pub state_unplugged : (plugged : List ℕ) (first n : ℕ) → IsNonePlugged first n plugged → ¬ IsAllPlugged first n plugged → range_state plugged first n ≡ 1
state_unplugged plugged first n none not_all =
    let e : are_plugged plugged first n ≡ false = false_from_ne_true (are_plugged plugged first n) (λ t. not_all (all_plugged plugged first n t)) in
    let f : are_unplugged plugged first n ≡ true = plugged_none plugged first n none in
    rw (e, f) refl

pub state_mixed : (plugged : List ℕ) (first n : ℕ) → ¬ IsAllPlugged first n plugged → ¬ IsNonePlugged first n plugged → range_state plugged first n ≡ 2
state_mixed plugged first n not_all not_none =
    let e : are_plugged plugged first n ≡ false = false_from_ne_true (are_plugged plugged first n) (λ t. not_all (all_plugged plugged first n t)) in
    let f : are_unplugged plugged first n ≡ false = false_from_ne_true (are_unplugged plugged first n) (λ t. not_none (none_plugged plugged first n t)) in
    rw (e, f) refl
