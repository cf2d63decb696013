-- What the bytes of a request say, and which bytes say it.
use Rattle.std.proofs.Common.{◌≡◌, ◌≢◌, ℕ, zero, suc, ◌+◌, ◌*◌, true, false, ◌^◌, ◌<◌, ◌≤◌, List, [], ◌∷◌, ◌++◌, length, take, drop, replicate, refl, sym, ap, ◌∙◌, arith, lit<, Some, None, Result, Ok, Err, IfOk, MatchResult, length-append}
use Rattle.std.proofs.lemmas.Bool.{eq-eqb, ne_eqb}
use Rattle.std.proofs.Math.Dec.{eqb}
use Rattle.std.proofs.lemmas.List.{append_assoc, length-take-le, length-drop}
use Rattle.byteorder.specs.Endian.{little_number}
use Rattle.byteorder.specs.Numbers.{little_from-cons}
use Rattle.evac_model.specs.DeviceAnswer.{le_number, request_of_type, request_in}
use Rattle.evac_model.specs.declared.device.Request.{Request}
use Rattle.evac_model.specs.declared.device.Request.TheVariants.{Plug, Unplug, UnplugAll, State}
use Rattle.mem_codec.specs.declared.fault.RequestFault.{RequestFault}
use Rattle.mem_codec.specs.declared.fault.RequestFault.TheVariants.{Kind}
use Rattle.mem_codec.specs.Fields.{le16, le64, le16_at, le64_at, zeros, overwritten}
use Rattle.mem_codec.specs.RequestBytes.{request_fields, SpellsRequest, AreRequestBytes}
use Rattle.mem_codec.specs.Reading.{request_of}
use Rattle.mem_codec.proofs.Numbers.{IsBytes}
use Rattle.mem_codec.proofs.Places.{drop_cut, drop-le16, drop-le64, le16_at-le16, le64_at-le64, le16_at-lt, le64_at-lt, length-le16, length-le64}

-- what the places of a request's fields hold
pub record RequestPlaces (bytes : List ℕ) (kind addr count : ℕ) : Type 0 where
  pub long : length bytes ≡ 24
  pub kind_is : le16_at 0 bytes ≡ kind
  pub addr_is : le64_at 8 bytes ≡ addr
  pub count_is : le16_at 16 bytes ≡ count

-- the fields with one list behind each
regrouped : (k f a c s : List ℕ) → k ++ f ++ a ++ c ++ s ≡ k ++ (f ++ (a ++ (c ++ s)))
regrouped k f a c s = simp append_assoc

-- the fields stand at their places
pub request_places : (bytes : List ℕ) (kind addr count : ℕ) → kind < 2 ^ 16 → SpellsRequest bytes kind addr count → RequestPlaces bytes kind addr count
unfolding request_fields
request_places bytes kind addr count k s =
    let front : length (le16 kind ++ s.first) ≡ 8 = length-append (le16 kind) s.first ∙ (omega (arith, length-le16 kind, s.first_is)) in
    let middle : length (le16 kind ++ s.first ++ le64 addr) ≡ 16 = length-append (le16 kind ++ s.first) (le64 addr) ∙ (omega (arith, front, length-le64 addr)) in
    let rest : length (le16 count ++ s.second) ≡ 8 = length-append (le16 count) s.second ∙ (omega (arith, length-le16 count, s.second_is)) in
    let whole : bytes ≡ le16 kind ++ (s.first ++ (le64 addr ++ (le16 count ++ s.second))) = s.spelled ∙ regrouped (le16 kind) s.first (le64 addr) (le16 count) s.second in
    let at_addr : bytes ≡ (le16 kind ++ s.first) ++ (le64 addr ++ (le16 count ++ s.second)) = whole ∙ sym (append_assoc (le16 kind) s.first (le64 addr ++ (le16 count ++ s.second))) in
    let at_count : bytes ≡ (le16 kind ++ s.first ++ le64 addr) ++ (le16 count ++ s.second) = at_addr ∙ sym (append_assoc (le16 kind ++ s.first) (le64 addr) (le16 count ++ s.second)) in
    record {
      long = ap length at_count ∙ length-append (le16 kind ++ s.first ++ le64 addr) (le16 count ++ s.second) ∙ (omega (arith, middle, rest));
      kind_is = ap (le16_at 0) whole ∙ le16_at-le16 0 [] kind (s.first ++ (le64 addr ++ (le16 count ++ s.second))) refl k;
      addr_is = ap (le64_at 8) at_addr ∙ le64_at-le64 8 (le16 kind ++ s.first) addr (le16 count ++ s.second) front s.addr_fits;
      count_is = ap (le16_at 16) at_count ∙ le16_at-le16 16 (le16 kind ++ s.first ++ le64 addr) count s.second middle s.count_fits;
    }

-- any 24 bytes are fields
pub spells_places : (bytes : List ℕ) → length bytes ≡ 24 → IsBytes bytes → SpellsRequest bytes (le16_at 0 bytes) (le64_at 8 bytes) (le16_at 16 bytes)
unfolding request_fields
spells_places bytes l b =
    let kind : bytes ≡ le16 (le16_at 0 bytes) ++ drop 2 bytes = drop-le16 0 2 bytes refl (omega (arith, l)) b in
    let first : drop 2 bytes ≡ take 6 (drop 2 bytes) ++ drop 8 bytes = drop_cut 6 2 8 bytes refl in
    let addr : drop 8 bytes ≡ le64 (le64_at 8 bytes) ++ drop 16 bytes = drop-le64 8 16 bytes refl (omega (arith, l)) b in
    let count : drop 16 bytes ≡ le16 (le16_at 16 bytes) ++ drop 18 bytes = drop-le16 16 18 bytes refl (omega (arith, l)) b in
    record {
      first = take 6 (drop 2 bytes);
      second = drop 18 bytes;
      first_is = length-take-le 6 (drop 2 bytes) (omega (arith, length-drop 2 bytes, l));
      second_is = length-drop 18 bytes ∙ (omega (arith, l));
      addr_fits = le64_at-lt 8 bytes b;
      count_fits = le16_at-lt 16 bytes b;
      spelled = kind
          ∙ ap (λ (t : List ℕ). le16 (le16_at 0 bytes) ++ t) (first
          ∙ ap (λ (t : List ℕ). take 6 (drop 2 bytes) ++ t) (addr
          ∙ ap (λ (t : List ℕ). le64 (le64_at 8 bytes) ++ t) count))
          ∙ sym (regrouped (le16 (le16_at 0 bytes)) (take 6 (drop 2 bytes)) (le64 (le64_at 8 bytes)) (le16 (le16_at 16 bytes)) (drop 18 bytes));
    }

-- no type above 3 is one of a request
request_of-above : (kind addr count : ℕ) → 3 < kind → request_of kind addr count ≡ Err Kind
request_of-above kind addr count h =
    let e0 : eqb kind 0 ≡ false = ne_eqb kind 0 (λ e. omega (arith, e, h)) in
    let e1 : eqb kind 1 ≡ false = ne_eqb kind 1 (λ e. omega (arith, e, h)) in
    let e2 : eqb kind 2 ≡ false = ne_eqb kind 2 (λ e. omega (arith, e, h)) in
    let e3 : eqb kind 3 ≡ false = ne_eqb kind 3 (λ e. omega (arith, e, h)) in
    rw (e0, e1, e2, e3) refl

-- the request of the fields is spelled by them
request_of-spelled : (bytes : List ℕ) (kind addr count : ℕ) → SpellsRequest bytes kind addr count → IfOk (request_of kind addr count) (AreRequestBytes bytes)
request_of-spelled bytes zero addr count s = s
request_of-spelled bytes (suc zero) addr count s = s
request_of-spelled bytes (suc (suc zero)) addr count s = (addr, count, s)
request_of-spelled bytes (suc (suc (suc zero))) addr count s = s
request_of-spelled bytes (suc (suc (suc (suc kind)))) addr count s =
    rw (request_of-above (suc (suc (suc (suc kind)))) addr count (omega arith)) tt

-- a request that is spelled is the one of its fields
request_of-places : (bytes : List ℕ) (r : Request) → AreRequestBytes bytes r → (length bytes ≡ 24) × (request_of (le16_at 0 bytes) (le64_at 8 bytes) (le16_at 16 bytes) ≡ Ok r)
request_of-places bytes (Plug addr count) s =
    let p = request_places bytes 0 addr count (lit< tt) s in
    (p.long, rw (p.kind_is, p.addr_is, p.count_is) refl)
request_of-places bytes (Unplug addr count) s =
    let p = request_places bytes 1 addr count (lit< tt) s in
    (p.long, rw (p.kind_is, p.addr_is, p.count_is) refl)
request_of-places bytes UnplugAll s =
    let p = request_places bytes 2 s.0 s.1 (lit< tt) s.2 in
    (p.long, rw p.kind_is refl)
request_of-places bytes (State addr count) s =
    let p = request_places bytes 3 addr count (lit< tt) s in
    (p.long, rw (p.kind_is, p.addr_is, p.count_is) refl)

-- bytes of a request are 24
pub request_length : (bytes : List ℕ) (r : Request) → AreRequestBytes bytes r → length bytes ≡ 24
request_length bytes r s = (request_of-places bytes r s).0

-- what a reader found is spelled
pub reader_found : (bytes : List ℕ) (kind addr count : ℕ) (answer : Result Request RequestFault) → length bytes ≡ 24 → IsBytes bytes → kind ≡ le16_at 0 bytes → addr ≡ le64_at 8 bytes → count ≡ le16_at 16 bytes → answer ≡ request_of kind addr count → IfOk answer (AreRequestBytes bytes)
reader_found bytes kind addr count answer l b k a c e =
    rw (e, k, a, c) (request_of-spelled bytes (le16_at 0 bytes) (le64_at 8 bytes) (le16_at 16 bytes) (spells_places bytes l b))

-- what is spelled a reader finds
pub reader_only : (bytes : List ℕ) (kind addr count : ℕ) (answer : Result Request RequestFault) → kind ≡ le16_at 0 bytes → addr ≡ le64_at 8 bytes → count ≡ le16_at 16 bytes → answer ≡ request_of kind addr count → (r : Request) → AreRequestBytes bytes r → answer ≡ Ok r
reader_only bytes kind addr count answer k a c e r s = rw (e, k, a, c) ((request_of-places bytes r s).1)

-- bytes spell one request
pub one_request : (bytes : List ℕ) (r s : Request) → AreRequestBytes bytes r → AreRequestBytes bytes s → r ≡ s
one_request bytes r s x y =
    let e : ◌≡◌ {A = Result Request RequestFault} (Ok r) (Ok s) = sym ((request_of-places bytes r x).1) ∙ (request_of-places bytes s y).1 in cc

-- the fields written over zeros
pub request_written : (kind addr count : ℕ) (out : List ℕ) → out ≡ replicate 24 0 → overwritten 16 (le16 count) (overwritten 8 (le64 addr) (overwritten 0 (le16 kind) out)) ≡ request_fields kind zeros addr count zeros
unfolding request_fields le16 le64
request_written kind addr count out e = rw e refl

-- the number of n bytes, as a device reads it
le_number-little : (n : ℕ) (xs : List ℕ) → n ≤ length xs → le_number (take n xs) ≡ little_number n xs
le_number-little zero xs h = refl
le_number-little (suc n) [] h = absurd (omega arith)
le_number-little (suc n) (x ∷ xs) h =
    ap (λ (m : ℕ). x + 256 * m) (le_number-little n xs (omega arith) ∙ sym (little_from-cons 0 n x xs))

le_number-le16 : (place : ℕ) (bytes : List ℕ) → place + 2 ≤ length bytes → le_number (take 2 (drop place bytes)) ≡ le16_at place bytes
unfolding le16_at
le_number-le16 place bytes h = le_number-little 2 (drop place bytes) (omega (arith, length-drop place bytes))

le_number-le64 : (place : ℕ) (bytes : List ℕ) → place + 8 ≤ length bytes → le_number (take 8 (drop place bytes)) ≡ le64_at place bytes
unfolding le64_at
le_number-le64 place bytes h = le_number-little 8 (drop place bytes) (omega (arith, length-drop place bytes))

-- the request that a device takes 24 bytes for
request_in-places : (bytes : List ℕ) → length bytes ≡ 24 → request_in bytes ≡ request_of_type (le16_at 0 bytes) (le64_at 8 bytes) (le16_at 16 bytes)
request_in-places bytes l =
    let long : eqb (length bytes) 24 ≡ true = eq-eqb (length bytes) 24 l in
    let kind : le_number (take 2 bytes) ≡ le16_at 0 bytes = le_number-le16 0 bytes (omega (arith, l)) in
    let addr : le_number (take 8 (drop 8 bytes)) ≡ le64_at 8 bytes = le_number-le64 8 bytes (omega (arith, l)) in
    let count : le_number (take 2 (drop 16 bytes)) ≡ le16_at 16 bytes = le_number-le16 16 bytes (omega (arith, l)) in
    rw (long, kind, addr, count) refl

-- other bytes are none
pub request_in-length : (bytes : List ℕ) → length bytes ≢ 24 → request_in bytes ≡ None
request_in-length bytes ne = let e : eqb (length bytes) 24 ≡ false = ne_eqb (length bytes) 24 ne in rw e refl

request_of_type-above : (kind addr count : ℕ) → 3 < kind → request_of_type kind addr count ≡ None
request_of_type-above kind addr count h =
    let e0 : eqb kind 0 ≡ false = ne_eqb kind 0 (λ e. omega (arith, e, h)) in
    let e1 : eqb kind 1 ≡ false = ne_eqb kind 1 (λ e. omega (arith, e, h)) in
    let e2 : eqb kind 2 ≡ false = ne_eqb kind 2 (λ e. omega (arith, e, h)) in
    let e3 : eqb kind 3 ≡ false = ne_eqb kind 3 (λ e. omega (arith, e, h)) in
    rw (e0, e1, e2, e3) refl

-- the reader and the device tell the types alike
request_of-type : (kind addr count : ℕ) → MatchResult (request_of kind addr count) (λ r. request_of_type kind addr count ≡ Some r) (λ _. request_of_type kind addr count ≡ None)
request_of-type zero addr count = refl
request_of-type (suc zero) addr count = refl
request_of-type (suc (suc zero)) addr count = refl
request_of-type (suc (suc (suc zero))) addr count = refl
request_of-type (suc (suc (suc (suc kind)))) addr count =
    rw (request_of-above (suc (suc (suc (suc kind)))) addr count (omega arith)) (request_of_type-above (suc (suc (suc (suc kind)))) addr count (omega arith))

-- what a reader answers is what a device takes the bytes for
pub reader_request : (bytes : List ℕ) (kind addr count : ℕ) (answer : Result Request RequestFault) → length bytes ≡ 24 → kind ≡ le16_at 0 bytes → addr ≡ le64_at 8 bytes → count ≡ le16_at 16 bytes → answer ≡ request_of kind addr count → MatchResult answer (λ r. request_in bytes ≡ Some r) (λ _. request_in bytes ≡ None)
reader_request bytes kind addr count answer l k a c e =
    rw (e, k, a, c, request_in-places bytes l) (request_of-type (le16_at 0 bytes) (le64_at 8 bytes) (le16_at 16 bytes))
