-- A number and its bytes, the lowest first, both ways.
use Rattle.std.proofs.Common.{◌≡◌, ℕ, zero, suc, ◌+◌, ◌*◌, ◌/◌, ◌%◌, ◌^◌, ◌<◌, List, [], ◌∷◌, length, get_or, refl, sym, ap, ◌∙◌, arith}
use Rattle.std.proofs.Math.Nat.{div-div-eq-div-mul, div-one, pow-suc}
use Rattle.std.specs.Int.{byte_at, bytes_low_first}
use Rattle.byteorder.specs.Endian.{little_from, little_bytes, little_number}
use Rattle.byteorder.specs.Numbers.{little_from-cons}

-- items of a slice of bytes
abbrev pub IsBytes : List ℕ → Type 0
IsBytes bytes = (i : ℕ) → get_or bytes i 0 < 256

-- a byte of a number, by its place
byte_at-pow : (k x : ℕ) → byte_at k x ≡ x / 256 ^ k % 256
byte_at-pow zero x = ap (λ (y : ℕ). y % 256) (sym (div-one x))
byte_at-pow (suc k) x = refl

-- n bytes are those, from byte j on, of a number that has their number above byte j
bytes_low_first-number : (n j x : ℕ) (xs : List ℕ) → length xs ≡ n → IsBytes xs → x / 256 ^ j ≡ little_from 0 n xs → bytes_low_first j n x ≡ xs
bytes_low_first-number zero j x [] l b e = refl
bytes_low_first-number zero j x (a ∷ xs) l b e = cc
bytes_low_first-number (suc n) j x [] l b e = cc
bytes_low_first-number (suc n) j x (a ∷ xs) l b e =
    let small : a < 256 = b 0 in
    let moved : little_from 1 n (a ∷ xs) ≡ little_from 0 n xs = little_from-cons 0 n a xs in
    let whole : x / 256 ^ j ≡ a + 256 * little_from 0 n xs = e ∙ ap (λ (r : ℕ). a + 256 * r) moved in
    let head : byte_at j x ≡ a = byte_at-pow j x ∙ (omega (arith, whole, small)) in
    let shift : x / 256 ^ suc j ≡ x / 256 ^ j / 256 = ap (λ (p : ℕ). x / p) (pow-suc 256 j) ∙ sym (div-div-eq-div-mul x (256 ^ j) 256) in
    let rest : x / 256 ^ suc j ≡ little_from 0 n xs = omega (arith, shift, whole, small) in
    let tail : bytes_low_first (suc j) n x ≡ xs = bytes_low_first-number n (suc j) x xs (omega (arith, l)) (λ i. b (suc i)) rest in
    ap (λ (h : ℕ). h ∷ bytes_low_first (suc j) n x) head ∙ ap (λ (t : List ℕ). a ∷ t) tail

-- n bytes spell the number that is read from them
pub little_bytes-little_number : (n : ℕ) (xs : List ℕ) → length xs ≡ n → IsBytes xs → little_bytes n (little_number n xs) ≡ xs
little_bytes-little_number n xs l b = bytes_low_first-number n 0 (little_number n xs) xs l b (div-one (little_number n xs))
