-- A word writes a number if and only if it is the number's decimal text.
use Rattle.std.proofs.Common.{◌≡◌, ℕ, zero, suc, ◌+◌, ◌-◌, ◌*◌, ◌^◌, ◌<◌, ◌≤◌, true, ◌&&◌, List, [], ◌∷◌, length, get_or, Some, None, refl, inl, inr, ◌⊎◌, sym, ap, ◌∙◌, arith, rules}
use Rattle.std.specs.Prelude.{nat_lt, ◌==◌}
use Rattle.std.specs.Char.{is_ascii_digit}
use Rattle.std.specs.Fmt.{decimal}
use Rattle.std.specs.Str.{all_ascii_digits}
use Rattle.std.proofs.lemmas.Bool.{cases_Bool, and_parts, and_from, ltb-true, lt-ltb, eqb-false, ne_eqb, cond-true, cond-false}
use Rattle.std.proofs.lemmas.Option.{none-some, same_Some}
use Rattle.std.proofs.lemmas.Fmt.{digits_decimal, digits_value-decimal, decimal-digits_value, decimal_nonempty, decimal_digit, first_decimal}
use Rattle.std.proofs.lemmas.Str.Parse.{IsNumeralModel, numerals_by_fold, tells_all_ascii_digits}
use Rattle.evac_model.specs.ScenarioLines.{IsNumber, IsOwnerWord}
use Rattle.scenario.specs.Numbers.{number_of, value_after}

abbrev pub AreDigits : List ℕ → Type 0
AreDigits word = all_ascii_digits word ≡ true

abbrev pub read_on : ℕ → List ℕ → ℕ
read_on n [] = n
read_on n (c ∷ cs) = read_on (n * 10 + (c - 48)) cs

pub own : IsNumeralModel AreDigits (read_on 0)
own = numerals_by_fold AreDigits tells_all_ascii_digits read_on (search rules)

record Means (ds : List ℕ) (n m : ℕ) : Type 0 where
  digits : AreDigits ds
  value : read_on n ds ≡ m
  fits : m < 2 ^ 64

value_means : (ds : List ℕ) (n m : ℕ) → n < 2 ^ 64 → value_after n ds ≡ Some m → Means ds n m
value_means [] n m lt e = let same : n ≡ m = same_Some n m e in record { digits = refl; value = same; fits = omega (arith, same) }
value_means (c ∷ cs) n m lt e =
    let more = n * 10 + (c - 48) in
    let test = is_ascii_digit c && nat_lt more (2 ^ 64) in
    elim (cases_Bool test) [
      | inl passed ↦
          let parts = and_parts (is_ascii_digit c) (nat_lt more (2 ^ 64)) passed in
          let rest = value_means cs more m (ltb-true more (2 ^ 64) parts.1) (sym (cond-true test (value_after more cs) None passed) ∙ e) in
          record { digits = and_from (is_ascii_digit c) (all_ascii_digits cs) parts.0 rest.digits; value = rest.value; fits = rest.fits }
      | inr failed ↦ absurd (none-some m (sym (cond-false test (value_after more cs) None failed) ∙ e))
    ]

grows : (ds : List ℕ) (n : ℕ) → n ≤ read_on n ds
grows [] n = omega arith
grows (c ∷ cs) n = omega (arith, grows cs (n * 10 + (c - 48)))

value_again : (ds : List ℕ) (n : ℕ) → AreDigits ds → read_on n ds < 2 ^ 64 → value_after n ds ≡ Some (read_on n ds)
value_again [] n digits lt = refl
value_again (c ∷ cs) n digits lt =
    let more = n * 10 + (c - 48) in
    let parts = and_parts (is_ascii_digit c) (all_ascii_digits cs) digits in
    let small : more < 2 ^ 64 = omega (arith, grows cs more, lt) in
    let test = and_from (is_ascii_digit c) (nat_lt more (2 ^ 64)) parts.0 (lt-ltb more (2 ^ 64) small) in
    cond-true (is_ascii_digit c && nat_lt more (2 ^ 64)) (value_after more cs) None test ∙ value_again cs more parts.1 lt

is_decimal : (ds : List ℕ) (n : ℕ) → Means ds 0 n → 0 < length ds → (get_or ds 0 0 ≡ 48 → length ds ≡ 1) → IsNumber n × (ds ≡ decimal n)
is_decimal ds n m some first =
    let fits : read_on 0 ds < 2 ^ 64 = rw m.value m.fits in
    (m.fits, sym (decimal-digits_value own ds m.digits some first fits) ∙ ap decimal m.value)

pub number_is : (word : List ℕ) (n : ℕ) → number_of word ≡ Some n → IsNumber n × (word ≡ decimal n)
number_is [] n e = absurd (none-some n e)
number_is (c ∷ []) n e = is_decimal (c ∷ []) n (value_means (c ∷ []) 0 n (omega arith) e) (omega arith) (λ z. refl)
number_is (c ∷ d ∷ cs) n e = elim (cases_Bool (c == 48)) [
  | inl zero_first ↦ absurd (none-some n (sym (cond-true (c == 48) None (value_after 0 (c ∷ d ∷ cs)) zero_first) ∙ e))
  | inr other ↦ is_decimal (c ∷ d ∷ cs) n (value_means (c ∷ d ∷ cs) 0 n (omega arith) (sym (cond-false (c == 48) None (value_after 0 (c ∷ d ∷ cs)) other) ∙ e)) (omega arith) (λ z. absurd (eqb-false c 48 other z))
]

plain_value : (ds : List ℕ) → 0 < length ds → (length ds ≡ 1) ⊎ (48 < get_or ds 0 0) → number_of ds ≡ value_after 0 ds
plain_value [] some first = absurd (omega arith)
plain_value (c ∷ []) some first = refl
plain_value (c ∷ d ∷ cs) some (inl one) = absurd (omega arith)
plain_value (c ∷ d ∷ cs) some (inr above) = cond-false (c == 48) None (value_after 0 (c ∷ d ∷ cs)) (ne_eqb c 48 (λ e. omega arith))

first_is : (n : ℕ) → n < 2 ^ 64 → (length (decimal n) ≡ 1) ⊎ (48 < get_or (decimal n) 0 0)
first_is zero lt = inl (ap length (decimal_digit 0 (omega arith)))
first_is (suc n) lt = inr (first_decimal (suc n) (omega arith) lt)

pub number_again : (n : ℕ) → IsNumber n → number_of (decimal n) ≡ Some n
number_again n lt =
    let value : read_on 0 (decimal n) ≡ n = digits_value-decimal own n lt in
    let fits : read_on 0 (decimal n) < 2 ^ 64 = rw value lt in
    plain_value (decimal n) (decimal_nonempty n lt) (first_is n lt) ∙ value_again (decimal n) 0 (digits_decimal own n lt) fits ∙ ap (λ (k : ℕ). Some k) value

-- a word that writes no number is no owner's
pub no_owner : (word : List ℕ) → number_of word ≡ None → ¬ IsOwnerWord word
no_owner word e owner = none-some owner.0 (sym e ∙ ap number_of owner.2 ∙ number_again owner.0 owner.1)
