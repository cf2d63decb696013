-- What the bytes of a response say, and which bytes say it.
use Rattle.std.proofs.Common.{◌≡◌, ℕ, zero, suc, false, true, ◌^◌, ◌<◌, ◌≤◌, List, [], ◌++◌, length, take, drop, replicate, refl, sym, ap, ◌∙◌, arith, lit<, inl, inr, Result, Ok, Err, IfOk, length-append}
use Rattle.std.proofs.lemmas.Bool.{cases_lt, ne_eqb, lt-ltb, le-ltb}
use Rattle.std.proofs.Math.Dec.{eqb, ltb}
use Rattle.std.proofs.lemmas.List.{append_assoc, append-nil, drop_all, length-take-le, length-drop}
use Rattle.evac_model.specs.declared.device.Response.{Response}
use Rattle.evac_model.specs.declared.device.Response.TheVariants.{Ack, Nack, Busy, Error}
use Rattle.mem_codec.specs.declared.fault.ResponseFault.{ResponseFault}
use Rattle.mem_codec.specs.declared.fault.ResponseFault.TheVariants.{Kind, State}
use Rattle.mem_codec.specs.Fields.{le16, le16_at, zeros, overwritten}
use Rattle.mem_codec.specs.ResponseBytes.{response_fields, SpellsResponse, ResponseBytes}
use Rattle.mem_codec.specs.Reading.{response_of}
use Rattle.mem_codec.proofs.Numbers.{IsBytes}
use Rattle.mem_codec.proofs.Places.{drop_cut, drop-le16, le16_at-le16, length-le16}

-- what the places of a response's fields hold
pub record ResponsePlaces (bytes : List ℕ) (kind state : ℕ) : Type 0 where
  pub long : length bytes ≡ 10
  pub kind_is : le16_at 0 bytes ≡ kind
  pub state_is : le16_at 8 bytes ≡ state

-- the fields stand at their places
pub response_places : (bytes : List ℕ) (kind state : ℕ) → kind < 2 ^ 16 → state < 2 ^ 16 → SpellsResponse bytes kind state → ResponsePlaces bytes kind state
unfolding response_fields
response_places bytes kind state k t s =
    let front : length (le16 kind ++ s.padding) ≡ 8 = length-append (le16 kind) s.padding ∙ (omega (arith, length-le16 kind, s.padding_is)) in
    let whole : bytes ≡ le16 kind ++ (s.padding ++ le16 state) = s.spelled ∙ append_assoc (le16 kind) s.padding (le16 state) in
    let at_state : bytes ≡ (le16 kind ++ s.padding) ++ (le16 state ++ []) = s.spelled ∙ ap (λ (x : List ℕ). (le16 kind ++ s.padding) ++ x) (sym (append-nil (le16 state))) in
    record {
      long = ap length s.spelled ∙ length-append (le16 kind ++ s.padding) (le16 state) ∙ (omega (arith, front, length-le16 state));
      kind_is = ap (le16_at 0) whole ∙ le16_at-le16 0 [] kind (s.padding ++ le16 state) refl k;
      state_is = ap (le16_at 8) at_state ∙ le16_at-le16 8 (le16 kind ++ s.padding) state [] front t;
    }

-- any 10 bytes are fields
pub spells_places : (bytes : List ℕ) → length bytes ≡ 10 → IsBytes bytes → SpellsResponse bytes (le16_at 0 bytes) (le16_at 8 bytes)
unfolding response_fields
spells_places bytes l b =
    let kind : bytes ≡ le16 (le16_at 0 bytes) ++ drop 2 bytes = drop-le16 0 2 bytes refl (omega (arith, l)) b in
    let padding : drop 2 bytes ≡ take 6 (drop 2 bytes) ++ drop 8 bytes = drop_cut 6 2 8 bytes refl in
    let state : drop 8 bytes ≡ le16 (le16_at 8 bytes) ++ drop 10 bytes = drop-le16 8 10 bytes refl (omega (arith, l)) b in
    let end : le16 (le16_at 8 bytes) ++ drop 10 bytes ≡ le16 (le16_at 8 bytes) =
    ap (λ (t : List ℕ). le16 (le16_at 8 bytes) ++ t) (drop_all 10 bytes (omega (arith, l))) ∙ append-nil (le16 (le16_at 8 bytes)) in
    record {
      padding = take 6 (drop 2 bytes);
      padding_is = length-take-le 6 (drop 2 bytes) (omega (arith, length-drop 2 bytes, l));
      spelled = kind
          ∙ ap (λ (t : List ℕ). le16 (le16_at 0 bytes) ++ t) (padding ∙ ap (λ (t : List ℕ). take 6 (drop 2 bytes) ++ t) (state ∙ end))
          ∙ sym (append_assoc (le16 (le16_at 0 bytes)) (take 6 (drop 2 bytes)) (le16 (le16_at 8 bytes)));
    }

-- no type above 3 is one of a response
response_of-above : (kind state : ℕ) → 3 < kind → response_of kind state ≡ Err Kind
response_of-above kind state h = let e : ltb 3 kind ≡ true = lt-ltb 3 kind h in rw e refl

-- an ACK has one of three states
response_of-ack : (state : ℕ) → state ≤ 2 → response_of 0 state ≡ Ok (Ack state)
response_of-ack state h = let e : ltb 2 state ≡ false = le-ltb 2 state h in rw e refl

-- no response has a state above 2
response_of-high : (kind state : ℕ) → kind ≤ 3 → 2 < state → response_of kind state ≡ Err State
response_of-high kind state k h =
    let e : ltb 3 kind ≡ false = le-ltb 3 kind k in
    let f : ltb 2 state ≡ true = lt-ltb 2 state h in
    rw (e, f) refl

-- a response that is no ACK has the state 0
response_of-other : (kind state : ℕ) → kind ≤ 3 → 0 < kind → 0 < state → response_of kind state ≡ Err State
response_of-other kind state k a b =
    let e : ltb 3 kind ≡ false = le-ltb 3 kind k in
    let f : eqb kind 0 ≡ false = ne_eqb kind 0 (λ z. omega (arith, z, a)) in
    let g : eqb state 0 ≡ false = ne_eqb state 0 (λ z. omega (arith, z, b)) in
    elim (cases_lt 2 state) [
      | inl h ↦ response_of-high kind state k h
      | inr h ↦ let i : ltb 2 state ≡ false = le-ltb 2 state h in rw (e, f, g, i) refl
    ]

-- the response of the fields is spelled by them
response_of-spelled : (bytes : List ℕ) (kind state : ℕ) → SpellsResponse bytes kind state → IfOk (response_of kind state) (ResponseBytes bytes)
response_of-spelled bytes zero state s =
    elim (cases_lt 2 state) [
      | inl h ↦ rw (response_of-high 0 state (omega arith) h) tt
      | inr h ↦ rw (response_of-ack state h) (h, s)
    ]
response_of-spelled bytes (suc zero) zero s = s
response_of-spelled bytes (suc (suc zero)) zero s = s
response_of-spelled bytes (suc (suc (suc zero))) zero s = s
response_of-spelled bytes (suc zero) (suc state) s = rw (response_of-other 1 (suc state) (omega arith) (omega arith) (omega arith)) tt
response_of-spelled bytes (suc (suc zero)) (suc state) s = rw (response_of-other 2 (suc state) (omega arith) (omega arith) (omega arith)) tt
response_of-spelled bytes (suc (suc (suc zero))) (suc state) s = rw (response_of-other 3 (suc state) (omega arith) (omega arith) (omega arith)) tt
response_of-spelled bytes (suc (suc (suc (suc kind)))) state s = rw (response_of-above (suc (suc (suc (suc kind)))) state (omega arith)) tt

-- a response that is spelled is the one of its fields
response_of-places : (bytes : List ℕ) (r : Response) → ResponseBytes bytes r → (length bytes ≡ 10) × (response_of (le16_at 0 bytes) (le16_at 8 bytes) ≡ Ok r)
response_of-places bytes (Ack state) s =
    let p = response_places bytes 0 state (lit< tt) (omega (arith, s.0)) s.1 in
    (p.long, rw (p.kind_is, p.state_is) (response_of-ack state s.0))
response_of-places bytes Nack s =
    let p = response_places bytes 1 0 (lit< tt) (lit< tt) s in
    (p.long, rw (p.kind_is, p.state_is) refl)
response_of-places bytes Busy s =
    let p = response_places bytes 2 0 (lit< tt) (lit< tt) s in
    (p.long, rw (p.kind_is, p.state_is) refl)
response_of-places bytes Error s =
    let p = response_places bytes 3 0 (lit< tt) (lit< tt) s in
    (p.long, rw (p.kind_is, p.state_is) refl)

-- bytes of a response are 10
pub response_length : (bytes : List ℕ) (r : Response) → ResponseBytes bytes r → length bytes ≡ 10
response_length bytes r s = (response_of-places bytes r s).0

-- what a reader found is spelled
pub reader_found : (bytes : List ℕ) (kind state : ℕ) (answer : Result Response ResponseFault) → length bytes ≡ 10 → IsBytes bytes → kind ≡ le16_at 0 bytes → state ≡ le16_at 8 bytes → answer ≡ response_of kind state → IfOk answer (ResponseBytes bytes)
reader_found bytes kind state answer l b k t e =
    rw (e, k, t) (response_of-spelled bytes (le16_at 0 bytes) (le16_at 8 bytes) (spells_places bytes l b))

-- what is spelled a reader finds
pub reader_only : (bytes : List ℕ) (kind state : ℕ) (answer : Result Response ResponseFault) → kind ≡ le16_at 0 bytes → state ≡ le16_at 8 bytes → answer ≡ response_of kind state → (r : Response) → ResponseBytes bytes r → answer ≡ Ok r
reader_only bytes kind state answer k t e r s = rw (e, k, t) ((response_of-places bytes r s).1)

-- bytes spell one response
pub one_response : (bytes : List ℕ) (r s : Response) → ResponseBytes bytes r → ResponseBytes bytes s → r ≡ s
one_response bytes r s x y =
    let e : ◌≡◌ {A = Result Response ResponseFault} (Ok r) (Ok s) = sym ((response_of-places bytes r x).1) ∙ (response_of-places bytes s y).1 in cc

-- the fields written over zeros
pub response_written : (kind state : ℕ) (out : List ℕ) → out ≡ replicate 10 0 → overwritten 8 (le16 state) (overwritten 0 (le16 kind) out) ≡ response_fields kind zeros state
unfolding response_fields le16
response_written kind state out e = rw e refl
