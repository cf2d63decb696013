-- The fields of a message at their places: what is read at a place, and what the bytes from there on are.
use Rattle.std.proofs.Common.{◌≡◌, ℕ, ◌+◌, ◌-◌, ◌^◌, ◌<◌, ◌≤◌, List, ◌++◌, length, take, drop, [], refl, sym, ap, ◌∙◌, arith, lit<, inl, inr}
use Rattle.std.proofs.lemmas.Bool.{cases_lt}
use borrow.Rule.Slice.PartMut.{put_mid}
use Rattle.std.proofs.lemmas.List.{drop_at, drop-drop, take-append-drop, append-nil, append_assoc, drop_all, length-take, length-take-le, length-drop, take_rest, get_or-take, get_or-drop, get_or_past}
use Rattle.byteorder.specs.Endian.{little_bytes, little_number}
use Rattle.byteorder.specs.Numbers.{little_from-lt, little_from-take, little_number-reads_back}
use Rattle.mem_codec.specs.Fields.{le16, le64, le16_at, le64_at, overwritten}
use Rattle.mem_codec.proofs.Numbers.{IsBytes, little_bytes-little_number}

-- the bytes from a place on are n bytes and those behind them
pub drop_cut : (n place next : ℕ) (bytes : List ℕ) → place + n ≡ next → drop place bytes ≡ take n (drop place bytes) ++ drop next bytes
drop_cut n place next bytes e =
    sym (take-append-drop n (drop place bytes)) ∙ ap (λ (t : List ℕ). take n (drop place bytes) ++ t) (drop-drop n place bytes ∙ ap (λ (m : ℕ). drop m bytes) e)

-- bytes of a part are bytes
bytes_of_part : (n place : ℕ) (bytes : List ℕ) → IsBytes bytes → n + place ≤ length bytes → IsBytes (take n (drop place bytes))
bytes_of_part n place bytes b h i =
    elim (cases_lt i n) [
      | inl l ↦ rw (get_or-take n (drop place bytes) i 0 l, get_or-drop place bytes i 0) (b (place + i))
      | inr g ↦ rw (get_or_past (take n (drop place bytes)) i 0 (omega (arith, length-take n (drop place bytes)))) (lit< tt)
    ]

-- the number of n bytes at a place stands there
little_bytes_at : (n place next : ℕ) (bytes : List ℕ) → place + n ≡ next → next ≤ length bytes → IsBytes bytes → drop place bytes ≡ little_bytes n (little_number n (drop place bytes)) ++ drop next bytes
little_bytes_at n place next bytes e h b =
    let part : List ℕ = take n (drop place bytes) in
    let l : length part ≡ n = length-take-le n (drop place bytes) (omega (arith, length-drop place bytes)) in
    let same : little_number n part ≡ little_number n (drop place bytes) = little_from-take 0 n n (drop place bytes) (omega arith) in
    let spelled : little_bytes n (little_number n part) ≡ part = little_bytes-little_number n part l (bytes_of_part n place bytes b (omega arith)) in
    let front : part ≡ little_bytes n (little_number n (drop place bytes)) = sym spelled ∙ ap (little_bytes n) same in
    drop_cut n place next bytes e ∙ ap (λ (t : List ℕ). t ++ drop next bytes) front

pub drop-le16 : (place next : ℕ) (bytes : List ℕ) → place + 2 ≡ next → next ≤ length bytes → IsBytes bytes → drop place bytes ≡ le16 (le16_at place bytes) ++ drop next bytes
unfolding le16 le16_at
drop-le16 place next bytes e h b = little_bytes_at 2 place next bytes e h b

pub drop-le64 : (place next : ℕ) (bytes : List ℕ) → place + 8 ≡ next → next ≤ length bytes → IsBytes bytes → drop place bytes ≡ le64 (le64_at place bytes) ++ drop next bytes
unfolding le64 le64_at
drop-le64 place next bytes e h b = little_bytes_at 8 place next bytes e h b

-- a number that stands at a place is read there
pub le16_at-le16 : (place : ℕ) (front : List ℕ) (x : ℕ) (rest : List ℕ) → length front ≡ place → x < 2 ^ 16 → le16_at place (front ++ (le16 x ++ rest)) ≡ x
unfolding le16 le16_at
le16_at-le16 place front x rest e h = ap (little_number 2) (drop_at front (little_bytes 2 x ++ rest) place e) ∙ little_number-reads_back 2 x rest h

pub le64_at-le64 : (place : ℕ) (front : List ℕ) (x : ℕ) (rest : List ℕ) → length front ≡ place → x < 2 ^ 64 → le64_at place (front ++ (le64 x ++ rest)) ≡ x
unfolding le64 le64_at
le64_at-le64 place front x rest e h = ap (little_number 8) (drop_at front (little_bytes 8 x ++ rest) place e) ∙ little_number-reads_back 8 x rest h

pub length-le16 : (x : ℕ) → length (le16 x) ≡ 2
unfolding le16
length-le16 x = refl

pub length-le64 : (x : ℕ) → length (le64 x) ≡ 8
unfolding le64
length-le64 x = refl

-- a number of so many bytes fits them
pub le16_at-lt : (place : ℕ) (bytes : List ℕ) → IsBytes bytes → le16_at place bytes < 2 ^ 16
unfolding le16_at
le16_at-lt place bytes b = little_from-lt 0 2 (drop place bytes) (λ i. rw get_or-drop (b (place + i)))

pub le64_at-lt : (place : ℕ) (bytes : List ℕ) → IsBytes bytes → le64_at place bytes < 2 ^ 64
unfolding le64_at
le64_at-lt place bytes b = little_from-lt 0 8 (drop place bytes) (λ i. rw get_or-drop (b (place + i)))

-- a write to the bytes from a place on puts the field there
pub put_mid-field : (place : ℕ) (field out written : List ℕ) → place ≤ length out → written ≡ field ++ drop (length field) (take (length out - place) (drop place out)) → put_mid place (length out - place) out written ≡ overwritten place field out
put_mid-field place field out written h e =
    let behind : drop (length field) (take (length out - place) (drop place out)) ≡ drop (place + length field) out = ap (drop (length field)) (take_rest out place) ∙ drop-drop (length field) place out in
    let none : drop (length out - place) (drop place out) ≡ [] = drop-drop (length out - place) place out ∙ drop_all (place + (length out - place)) out (omega arith) in
    ap (λ (w : List ℕ). take place out ++ (w ++ drop (length out - place) (drop place out))) (e ∙ ap (λ (t : List ℕ). field ++ t) behind)
    ∙ ap (λ (t : List ℕ). take place out ++ ((field ++ drop (place + length field) out) ++ t)) none
    ∙ ap (λ (t : List ℕ). take place out ++ t) (append-nil (field ++ drop (place + length field) out))
    ∙ sym (append_assoc (take place out) field (drop (place + length field) out))
