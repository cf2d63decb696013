-- A word writes bytes in lower-case hexadecimal if and only if it is their encoding.
use Rattle.std.proofs.Common.{◌≡◌, ℕ, zero, suc, ◌+◌, ◌*◌, ◌/◌, ◌%◌, ◌<◌, ◌≤◌, ◌==◌, Bool, true, false, not, ◌&&◌, ◌||◌, List, [], ◌∷◌, length, slice_index, Option, None, Some, unwrap_or, Result, Ok, Err, is_some, refl, inl, inr, sym, ap, ◌∙◌, arith}
use Rattle.std.specs.Prelude.{nat_lt}
use Rattle.std.specs.Char.{is_ascii_uppercase}
use Rattle.std.specs.List.{AllByRecursion, list_any}
use Rattle.std.specs.Result.{result_ok, result_unwrap_or}
use Rattle.std.proofs.lemmas.Bool.{and_parts, or_parts, or_cases, both_ways, cases_lt, eqb-true, not-true, ltb-false}
use Rattle.std.proofs.lemmas.Option.{none-some, same_Some}
use Rattle.std.proofs.lemmas.List.Elements.{All-from_recursion}
use Rattle.std.proofs.lemmas.List.Folds.{list_any_none}
use Rattle.hex.specs.Hex.{IsBytes, decode_of, decode_pairs, digit_or_error, encode_lower, encode_with, hex_digit_value, lower_digits, pair_value, value_at, ◌>>=◌}
use Rattle.hex.specs.declared.error.FromHexError.{FromHexError}
use Rattle.hex.proofs.HexLemmas.{length-encode_with, decode_of-encode_lower, decode_of-even, decode_of-ok}
use Rattle.scenario.specs.Reading.{hex_bytes}
use Rattle.scenario.proofs.Steps.{chosen}

-- ---- digits

-- the numbers below n pass a test, which computes
abbrev all_pass : (ℕ → Bool) → ℕ → Bool
all_pass test zero = true
all_pass test (suc n) = test n && all_pass test n

all_pass-at : (test : ℕ → Bool) (n k : ℕ) → all_pass test n ≡ true → k < n → test k ≡ true
all_pass-at test zero k h lt = absurd (omega arith)
all_pass-at test (suc n) k h lt =
    let parts = and_parts (test n) (all_pass test n) h in
    elim (cases_lt k n) [
      | inl below ↦ all_pass-at test n k parts.1 below
      | inr top ↦
          let e : k ≡ n = omega arith in
          rw e parts.0
    ]

-- a digit that is no capital is the one at the place of its value
abbrev is_written_back : ℕ → Bool
is_written_back c = is_ascii_uppercase c || (slice_index lower_digits (unwrap_or (hex_digit_value c) 99) == c || not (is_some (hex_digit_value c)))

below_103 : (c v : ℕ) → hex_digit_value c ≡ Some v → c < 103
below_103 c v h = grind (arith)

below_16 : (c v : ℕ) → hex_digit_value c ≡ Some v → v < 16
below_16 c v h = grind (arith)

written_back : (c v : ℕ) → hex_digit_value c ≡ Some v → is_ascii_uppercase c ≡ false → slice_index lower_digits v ≡ c
written_back c v h low =
    elim (or_cases (is_ascii_uppercase c) _ (all_pass-at is_written_back 103 c refl (below_103 c v h))) [
      | inl capital ↦ absurd (both_ways (is_ascii_uppercase c) low capital)
      | inr more ↦ elim (or_cases (slice_index lower_digits (unwrap_or (hex_digit_value c) 99) == c) _ more) [
        | inl same ↦ ap (λ (o : Option ℕ). slice_index lower_digits (unwrap_or o 99)) (sym h) ∙ eqb-true _ c same
        | inr none ↦ absurd (both_ways (is_some (hex_digit_value c)) (not-true (is_some (hex_digit_value c)) none) (ap is_some h))
      ]
    ]

-- each digit of an encoding is one of the sixteen
pub each_digit : (P : ℕ → Type 0) → ((d : ℕ) → d < 16 → P (slice_index lower_digits d)) → (bytes : List ℕ) → AllByRecursion (λ b. b < 256) bytes → AllByRecursion P (encode_lower bytes)
unfolding encode_with
each_digit P h [] fit = tt
each_digit P h (b ∷ bs) fit = (h (b / 16) (omega (arith, fit.0)), (h (b % 16) (omega arith), each_digit P h bs fit.1))

no_capital : (d : ℕ) → d < 16 → is_ascii_uppercase (slice_index lower_digits d) ≡ false
no_capital d lt = not-true (is_ascii_uppercase (slice_index lower_digits d)) (all_pass-at (λ k. not (is_ascii_uppercase (slice_index lower_digits k))) 16 d refl lt)

no_space : (d : ℕ) → d < 16 → (slice_index lower_digits d == 32) ≡ false
no_space d lt = not-true (slice_index lower_digits d == 32) (all_pass-at (λ k. not (slice_index lower_digits k == 32)) 16 d refl lt)

pub hex_has_no_space : (bytes : List ℕ) → AllByRecursion (λ b. b < 256) bytes → AllByRecursion (λ c. (c == 32) ≡ false) (encode_lower bytes)
hex_has_no_space bytes fit = each_digit (λ c. (c == 32) ≡ false) no_space bytes fit

-- ---- what decodes without capitals is the encoding

bind_ok : {A B : Type 0} (r : Result A FromHexError) (f : A → Result B FromHexError) (y : B) → (r >>= f) ≡ Ok y → (x : A) × (r ≡ Ok x) × (f x ≡ Ok y)
bind_ok (Ok x) f y h = (x, refl, h)
bind_ok (Err e) f y h = cc h

digit_is : (c i : ℕ) (o : Option ℕ) (v : ℕ) → digit_or_error c i o ≡ Ok v → o ≡ Some v
digit_is c i (Some w) v h = ap Some (ap (λ (r : Result ℕ FromHexError). result_unwrap_or r 0) h)
digit_is c i None v h = cc h

-- the two digits of a byte
pair_is : (a b h l byte : ℕ) → hex_digit_value a ≡ Some h → hex_digit_value b ≡ Some l → is_ascii_uppercase a ≡ false → is_ascii_uppercase b ≡ false → h * 16 + l ≡ byte → (slice_index lower_digits (byte / 16) ≡ a) × (slice_index lower_digits (byte % 16) ≡ b)
pair_is a b h l byte eh el la lb whole =
    let sh = below_16 a h eh in
    let sl = below_16 b l el in
    let high : byte / 16 ≡ h = omega arith in
    let low : byte % 16 ≡ l = omega arith in
    (ap (slice_index lower_digits) high ∙ written_back a h eh la, ap (slice_index lower_digits) low ∙ written_back b l el lb)

pairs_are : (i : ℕ) (s bytes : List ℕ) → decode_pairs i s ≡ Ok bytes → list_any is_ascii_uppercase s ≡ false → s ≡ encode_lower bytes
unfolding decode_pairs encode_with
pairs_are i [] bytes h low = ap (λ (r : Result (List ℕ) FromHexError). encode_lower (result_unwrap_or r [])) h
pairs_are i (a ∷ []) bytes h low = cc h
pairs_are i (a ∷ b ∷ rest) bytes h low =
    let byte = bind_ok (pair_value a b i) _ bytes h in
    let high = bind_ok (value_at a i) _ byte.0 byte.1 in
    let more = bind_ok (value_at b (i + 1)) _ byte.0 high.2 in
    let others = bind_ok (decode_pairs (i + 2) rest) _ bytes byte.2 in
    let la = or_parts (is_ascii_uppercase a) (list_any is_ascii_uppercase (b ∷ rest)) low in
    let lb = or_parts (is_ascii_uppercase b) (list_any is_ascii_uppercase rest) la.1 in
    let whole : high.0 * 16 + more.0 ≡ byte.0 = ap (λ (r : Result ℕ FromHexError). result_unwrap_or r 0) more.2 in
    let digits = pair_is a b high.0 more.0 byte.0 (digit_is a i (hex_digit_value a) high.0 high.1) (digit_is b (i + 1) (hex_digit_value b) more.0 more.1) la.0 lb.0 whole in
    let made : byte.0 ∷ others.0 ≡ bytes = ap (λ (r : Result (List ℕ) FromHexError). result_unwrap_or r []) others.2 in
    let spelled : a ∷ b ∷ rest ≡ encode_lower (byte.0 ∷ others.0) = rw (digits.0, digits.1, ← pairs_are (i + 2) rest others.0 others.1 lb.1) refl in
    spelled ∙ ap encode_lower made

-- ---- words

-- the word writes these bytes
pub record Writes (word bytes : List ℕ) : Type 0 where
  pub spelled : word ≡ encode_lower bytes
  pub few : length bytes ≤ 64
  pub fit : AllByRecursion (λ b. b < 256) bytes

each_fits : (bytes : List ℕ) → IsBytes bytes → AllByRecursion (λ b. b < 256) bytes
each_fits [] h = tt
each_fits (b ∷ bs) h = (h 0, each_fits bs (λ i. h (suc i)))

are_bytes : (bytes : List ℕ) → AllByRecursion (λ b. b < 256) bytes → IsBytes bytes
are_bytes [] h i = omega arith
are_bytes (b ∷ bs) h zero = h.0
are_bytes (b ∷ bs) h (suc i) = are_bytes bs h.1 i

ok_is : (r : Result (List ℕ) FromHexError) (bytes : List ℕ) → result_ok r ≡ Some bytes → r ≡ Ok bytes
ok_is (Ok xs) bytes e = ap Ok (same_Some xs bytes e)
ok_is (Err e) bytes h = absurd (none-some bytes h)

-- what a word writes
pub hex_is : (word bytes : List ℕ) → hex_bytes word ≡ Some bytes → Writes word bytes
hex_is word bytes e =
    elim (chosen (nat_lt 128 (length word) || list_any is_ascii_uppercase word) None (result_ok (decode_of word)) (Some bytes) e) [
      | inl none ↦ absurd (none-some bytes none.1)
      | inr some ↦
          let tests = or_parts (nat_lt 128 (length word)) (list_any is_ascii_uppercase word) some.0 in
          let ok = ok_is (decode_of word) bytes some.1 in
          let of = decode_of-ok word bytes ok in
          let few : length word ≤ 128 = ltb-false 128 (length word) tests.0 in
          record {
            spelled = pairs_are 0 word bytes (sym (decode_of-even word of.0) ∙ ok) tests.1;
            few = omega (arith, few, of.2);
            fit = each_fits bytes of.3;
          }
    ]

-- what is written so is read
pub hex_again : (bytes : List ℕ) → length bytes ≤ 64 → AllByRecursion (λ b. b < 256) bytes → hex_bytes (encode_lower bytes) ≡ Some bytes
hex_again bytes few fit =
    let len = length-encode_with lower_digits bytes in
    let short : nat_lt 128 (length (encode_lower bytes)) ≡ false = grind (arith, len, few) in
    let low : list_any is_ascii_uppercase (encode_lower bytes) ≡ false = list_any_none is_ascii_uppercase (encode_lower bytes) (All-from_recursion (λ c. is_ascii_uppercase c ≡ false) (encode_lower bytes) (each_digit (λ c. is_ascii_uppercase c ≡ false) no_capital bytes fit)) in
    rw (short, low, decode_of-encode_lower bytes (are_bytes bytes fit)) refl
