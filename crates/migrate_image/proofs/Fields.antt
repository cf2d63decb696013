-- A field that is read is the one that stands there, and a field that was written is read again.
use Rattle.std.proofs.Common.{◌≡◌, ℕ, ◌+◌, ◌^◌, ◌<◌, ◌≤◌, Bool, true, false, cond, ltb, List, ◌++◌, length, get_or, take, drop, Result, Ok, Err, refl, sym, ap, subst, ◌∙◌, append_assoc, arith, lit<, inl, inr}
use Rattle.std.specs.Str.{bytes_eq}
use Rattle.std.proofs.lemmas.Bool.{cases_lt, ltb-false, le-ltb}
use Rattle.std.proofs.lemmas.List.{take_at, drop_at, take-append-drop, length-append, length-take, length-take-le, get_or-drop, get_or-take, get_or_past}
use Rattle.std.proofs.lemmas.Nat.{le_bytes_4, le_bytes_8}
use Rattle.std.proofs.lemmas.Slice.Eq.{bytes_eq-Decides}
use Rattle.byteorder.specs.Endian.{little_bytes, little_number}
use Rattle.byteorder.specs.Numbers.{length-bytes_low_first, little_from-lt, little_from-take, little_number-reads_back}
use Rattle.migrate_image.specs.declared.fault.ImageFault.{ImageFault}
use Rattle.migrate_image.specs.declared.fault.ImageFault.TheVariants.{Truncated, BadMark}
use Rattle.migrate_image.specs.Fields.{le32, le64, mark}
use Rattle.migrate_image.specs.Reading.{◌>>=◌, le32_at, le64_at, mark_at}

abbrev pub IsBytes : List ℕ → Type 0
IsBytes bytes = (i : ℕ) → get_or bytes i 0 < 256

IsBytes-drop : (n : ℕ) (bytes : List ℕ) → IsBytes bytes → IsBytes (drop n bytes)
IsBytes-drop n bytes h i = rw get_or-drop (h (n + i))

IsBytes-take : (n : ℕ) (bytes : List ℕ) → IsBytes bytes → IsBytes (take n bytes)
IsBytes-take n bytes h i =
    elim (cases_lt i n) [
      | inl lt ↦ rw (get_or-take n bytes i 0 lt) (h i)
      | inr le ↦ rw (get_or_past (take n bytes) i 0 (omega (arith, length-take n bytes))) (lit< tt)
    ]

-- the value of a step that did not fail
pub bind_ok : {A B : Type 0} (r : Result A ImageFault) (f : A → Result B ImageFault) (y : B) → (r >>= f) ≡ Ok y → (x : A) × (r ≡ Ok x) × (f x ≡ Ok y)
bind_ok (Ok x) f y e = (x, refl, e)
bind_ok (Err d) f y e = absurd cc

-- tests that did not fail
pub guard_ok : {A : Type 0} (b : Bool) (d : ImageFault) (x y : A) → cond b (Err d) (Ok x) ≡ Ok y → (b ≡ false) × (x ≡ y)
guard_ok true d x y e = absurd cc
guard_ok false d x y e = (refl, cc)

pub guarded : {A : Type 0} (b : Bool) (d : ImageFault) (r : Result A ImageFault) (y : A) → cond b r (Err d) ≡ Ok y → (b ≡ true) × (r ≡ Ok y)
guarded true d r y e = (refl, e)
guarded false d r y e = absurd cc

abbrev done : {A : Type 0} → A → Result A ImageFault
done x = Ok x

pub ok_is : {A : Type 0} (x y : A) → done x ≡ done y → x ≡ y
ok_is x y e = cc

-- what was taken from the front
pub record Takes (bytes text rest : List ℕ) : Type 0 where
  pub parts : bytes ≡ text ++ rest
  pub rest_fits : IsBytes rest

pub Takes-then : (a x b y c : List ℕ) → Takes a x b → Takes b y c → Takes a (x ++ y) c
Takes-then a x b y c p q = record { parts = p.parts ∙ ap (λ (t : List ℕ). x ++ t) q.parts ∙ sym (append_assoc x y c); rest_fits = q.rest_fits }

-- a number of k bytes at the front
abbrev number_at : ℕ → List ℕ → Result (ℕ × List ℕ) ImageFault
number_at k bytes = cond (ltb (length bytes) k) (Err Truncated) (Ok (little_number k bytes, drop k bytes))

number_takes : (k : ℕ) → ((bytes : List ℕ) → length bytes ≡ k → IsBytes bytes → little_bytes k (little_number k bytes) ≡ bytes)
    → (bytes : List ℕ) (x : ℕ × List ℕ) → IsBytes bytes → number_at k bytes ≡ Ok x → Takes bytes (little_bytes k x.0) x.1 × (x.0 < 256 ^ k)
number_takes k back bytes x fits e =
    let g = guard_ok (ltb (length bytes) k) Truncated (little_number k bytes, drop k bytes) x e in
    let long : k ≤ length bytes = ltb-false _ _ g.0 in
    let front : little_bytes k (little_number k (take k bytes)) ≡ take k bytes = back (take k bytes) (length-take-le k bytes long) (IsBytes-take k bytes fits) in
    let same : little_number k (take k bytes) ≡ little_number k bytes = little_from-take 0 k k bytes (omega arith) in
    let whole : bytes ≡ little_bytes k (little_number k bytes) ++ drop k bytes =
    sym (take-append-drop k bytes) ∙ ap (λ (t : List ℕ). t ++ drop k bytes) (sym front ∙ ap (little_bytes k) same) in
    subst (λ (y : ℕ × List ℕ). Takes bytes (little_bytes k y.0) y.1 × (y.0 < 256 ^ k)) g.1
    (record { parts = whole; rest_fits = IsBytes-drop k bytes fits }, little_from-lt 0 k bytes fits)

number_again : (k n : ℕ) (rest : List ℕ) → n < 256 ^ k → number_at k (little_bytes k n ++ rest) ≡ Ok (n, rest)
number_again k n rest lt =
    let len : length (little_bytes k n) ≡ k = length-bytes_low_first 0 k n in
    let long : ltb (length (little_bytes k n ++ rest)) k ≡ false = le-ltb _ _ (omega (arith, length-append (little_bytes k n) rest)) in
    rw (long, little_number-reads_back k n rest lt, drop_at (little_bytes k n) rest k len) refl

pub le32_takes : (bytes : List ℕ) (x : ℕ × List ℕ) → IsBytes bytes → le32_at bytes ≡ Ok x → Takes bytes (le32 x.0) x.1 × (x.0 < 2 ^ 32)
unfolding le32 le32_at
le32_takes bytes x fits e = number_takes 4 (λ bs l b. le_bytes_4 bs (little_number 4 bs) l b (omega arith)) bytes x fits e

pub le32_again : (n : ℕ) (rest : List ℕ) → n < 2 ^ 32 → le32_at (le32 n ++ rest) ≡ Ok (n, rest)
unfolding le32 le32_at
le32_again n rest lt = number_again 4 n rest lt

pub le64_takes : (bytes : List ℕ) (x : ℕ × List ℕ) → IsBytes bytes → le64_at bytes ≡ Ok x → Takes bytes (le64 x.0) x.1 × (x.0 < 2 ^ 64)
unfolding le64 le64_at
le64_takes bytes x fits e = number_takes 8 (λ bs l b. le_bytes_8 bs (little_number 8 bs) l b (omega arith)) bytes x fits e

pub le64_again : (n : ℕ) (rest : List ℕ) → n < 2 ^ 64 → le64_at (le64 n ++ rest) ≡ Ok (n, rest)
unfolding le64 le64_at
le64_again n rest lt = number_again 8 n rest lt

-- the mark
abbrev marked : (m bytes : List ℕ) → Result (List ℕ) ImageFault
marked m bytes = cond (ltb (length bytes) 8) (Err Truncated) (cond (bytes_eq (take 8 bytes) m) (Ok (drop 8 bytes)) (Err BadMark))

guard_else : {A : Type 0} (b : Bool) (d : ImageFault) (r : Result A ImageFault) (y : A) → cond b (Err d) r ≡ Ok y → (b ≡ false) × (r ≡ Ok y)
guard_else true d r y e = absurd cc
guard_else false d r y e = (refl, e)

mark_taken : (m bytes rest : List ℕ) → IsBytes bytes → marked m bytes ≡ Ok rest → Takes bytes m rest
mark_taken m bytes rest fits e =
    let g = guard_else (ltb (length bytes) 8) Truncated (cond (bytes_eq (take 8 bytes) m) (Ok (drop 8 bytes)) (Err BadMark)) rest e in
    let t = guarded (bytes_eq (take 8 bytes) m) BadMark (Ok (drop 8 bytes)) rest g.1 in
    let is : take 8 bytes ≡ m = (bytes_eq-Decides (take 8 bytes) m).0 t.0 in
    subst (λ (r : List ℕ). Takes bytes m r) (ok_is (drop 8 bytes) rest t.1)
    (record { parts = sym (take-append-drop 8 bytes) ∙ ap (λ (x : List ℕ). x ++ drop 8 bytes) is; rest_fits = IsBytes-drop 8 bytes fits })

mark_passed : (m rest : List ℕ) → length m ≡ 8 → marked m (m ++ rest) ≡ Ok rest
mark_passed m rest len =
    let long : ltb (length (m ++ rest)) 8 ≡ false = le-ltb _ _ (omega (arith, length-append m rest)) in
    let front : take 8 (m ++ rest) ≡ m = take_at m rest 8 len in
    let same : bytes_eq m m ≡ true = (bytes_eq-Decides m m).1 refl in
    rw (long, front, same, drop_at m rest 8 len) refl

pub mark_takes : (bytes rest : List ℕ) → IsBytes bytes → mark_at bytes ≡ Ok rest → Takes bytes mark rest
unfolding mark_at
mark_takes bytes rest fits e = mark_taken mark bytes rest fits e

length-mark : length mark ≡ 8
unfolding mark
length-mark = refl

pub mark_again : (rest : List ℕ) → mark_at (mark ++ rest) ≡ Ok rest
unfolding mark_at
mark_again rest = mark_passed mark rest length-mark
