-- Entries at the places of their tickets.
use Rattle.std.proofs.Common.{◌≡◌, ℕ, zero, suc, cond, Bool, ◌<◌, drop, take, replicate, List, [], ◌∷◌, ◌++◌, length, length-set, get_or, get_or-set_same, get_or-set_other, eq-eqb, ne_eqb, Option, Some, None, IsSome, refl, ap, sym, ◌∙◌, arith}
use Rattle.std.specs.List.{slice_get, flat_map}
use Rattle.std.proofs.lemmas.List.{take-append-le, length-replicate, get_or-replicate}
use Rattle.std.proofs.lemmas.Option.{none-some}
use Rattle.std.proofs.Math.Seq.{take-length}
use mathlib.Core.Logic.{dite}
use native.Mathlib.Decide.{ℕ_discrete}
use Rattle.evac_model.specs.declared.entry.Entry.{Entry}
use Rattle.core_state.specs.declared.view.View.{View}
use Rattle.core_state.specs.Pages.{or_else, entry_in, entry_with}
use Rattle.replay.specs.Entries.{first_of, place_at, placed, all_placed}

-- ---- one after another

pub length-placed : (places : List (List Entry)) (es : List Entry) → length (placed places es) ≡ length places
length-placed places [] = refl
length-placed places (e ∷ es) = length-placed (place_at places e) es ∙ length-set places e.ticket (first_of (get_or places e.ticket []) e)

pub length-all_placed : (places : List (List Entry)) (views : List View) → length (all_placed places views) ≡ length places
length-all_placed places [] = refl
length-all_placed places (v ∷ vs) = length-all_placed (placed places v.entries) vs ∙ length-placed places v.entries

-- ---- what a place has

-- the entries of a place, or the one that is found for it
abbrev or_found : List Entry → Option Entry → List Entry
or_found [] None = []
or_found [] (Some e) = e ∷ []
or_found (x ∷ xs) m = x ∷ xs

or_found-none : (l : List Entry) → or_found l None ≡ l
or_found-none [] = refl
or_found-none (x ∷ xs) = refl

or_found-first : (l : List Entry) (e : Entry) (m : Option Entry) → or_found (first_of l e) m ≡ or_found l (Some e)
or_found-first [] e m = refl
or_found-first (x ∷ xs) e m = refl

or_found-else : (l : List Entry) (m n : Option Entry) → or_found (or_found l m) n ≡ or_found l (or_else m n)
or_found-else [] None n = refl
or_found-else [] (Some e) n = refl
or_found-else (x ∷ xs) m n = refl

placed-at : (places : List (List Entry)) (es : List Entry) (t : ℕ) → t < length places → get_or (placed places es) t [] ≡ or_found (get_or places t []) (entry_in t es)
placed-at places [] t lt = sym (or_found-none (get_or places t []))
placed-at places (e ∷ es) t lt =
    let long = length-set places e.ticket (first_of (get_or places e.ticket []) e) in
    let rest = placed-at (place_at places e) es t (omega arith) in
    rest ∙ dite (ℕ_discrete e.ticket t)
    (λ s. let a = eq-eqb e.ticket t s in
    ap (λ (l : List Entry). or_found l (entry_in t es)) (ap (λ (n : ℕ). get_or (place_at places e) n []) (sym s) ∙ get_or-set_same places e.ticket (first_of (get_or places e.ticket []) e) [] (omega arith))
    ∙ or_found-first (get_or places e.ticket []) e (entry_in t es)
    ∙ ap (λ (n : ℕ). or_found (get_or places n []) (Some e)) s
    ∙ ap (λ (b : Bool). or_found (get_or places t []) (cond b (Some e) (entry_in t es))) (sym a))
    (λ ne. ap (λ (l : List Entry). or_found l (entry_in t es)) (get_or-set_other places e.ticket t (first_of (get_or places e.ticket []) e) [] (λ q. ne (sym q)))
    ∙ ap (λ (b : Bool). or_found (get_or places t []) (cond b (Some e) (entry_in t es))) (sym (ne_eqb e.ticket t ne)))

all_placed-at : (places : List (List Entry)) (views : List View) (t : ℕ) → t < length places → get_or (all_placed places views) t [] ≡ or_found (get_or places t []) (entry_with t views)
all_placed-at places [] t lt = sym (or_found-none (get_or places t []))
all_placed-at places (v ∷ vs) t lt =
    let long = length-placed places v.entries in
    all_placed-at (placed places v.entries) vs t (omega arith)
    ∙ ap (λ (l : List Entry). or_found l (entry_with t vs)) (placed-at places v.entries t lt)
    ∙ or_found-else (get_or places t []) (entry_in t v.entries) (entry_with t vs)

-- ---- the entries at all places

abbrev pub at_all : List (List Entry) → List Entry
at_all places = flat_map (λ l. l) places

one_found : (m : Option Entry) (l : List Entry) → IsSome m → l ≡ or_found [] m → (e : Entry) × (m ≡ Some e) × (l ≡ e ∷ [])
one_found None l some is = absurd (cc)
one_found (Some e) l some is = (e, refl, is)

-- each place has the entry that is found for it
abbrev AreFound : (ℕ → Option Entry) → List (List Entry) → Type 0
AreFound found places = (t : ℕ) → t < length places → (get_or places t [] ≡ or_found [] (found t)) × IsSome (found t)

next_found : (found : ℕ → Option Entry) (l : List Entry) (places : List (List Entry)) → AreFound found (l ∷ places) → AreFound (λ t. found (suc t)) places
next_found found l places all t lt = all (suc t) (omega arith)

length-at_all : (found : ℕ → Option Entry) (places : List (List Entry)) → AreFound found places → length (at_all places) ≡ length places
length-at_all found [] all = refl
length-at_all found (l ∷ places) all =
    let a = all 0 (omega arith) in
    let one = one_found (found 0) l a.1 a.0 in
    ap (λ (m : List Entry). length (m ++ at_all places)) one.2 ∙ ap suc (length-at_all (λ t. found (suc t)) places (next_found found l places all))

at_all-at : (found : ℕ → Option Entry) (places : List (List Entry)) → AreFound found places → (t : ℕ) (e : Entry) → slice_get (at_all places) t ≡ Some e → found t ≡ Some e
at_all-at found [] all t e at = absurd (none-some e at)
at_all-at found (l ∷ places) all zero e at =
    let a = all 0 (omega arith) in
    let one = one_found (found 0) l a.1 a.0 in
    one.1 ∙ (sym (ap (λ (m : List Entry). slice_get (m ++ at_all places) 0) one.2) ∙ at)
at_all-at found (l ∷ places) all (suc t) e at =
    let a = all 0 (omega arith) in
    let one = one_found (found 0) l a.1 a.0 in
    at_all-at (λ n. found (suc n)) places (next_found found l places all) t e (sym (ap (λ (m : List Entry). slice_get (m ++ at_all places) (suc t)) one.2) ∙ at)

-- ---- the entries of all views

module _ (views : List View) (count : ℕ) (some : (t : ℕ) → t < count → IsSome (entry_with t views)) where
  abbrev empty : List (List Entry)
  empty = replicate count []

  are_found : AreFound (λ t. entry_with t views) (all_placed empty views)
  are_found t lt =
      let all = length-all_placed empty views in
      let long = length-replicate {A = List Entry} count [] in
      let low : t < count = omega arith in
      (all_placed-at empty views t (omega arith) ∙ ap (λ (l : List Entry). or_found l (entry_with t views)) (get_or-replicate count t [] [] low), some t low)

  pub history-count : length (at_all (all_placed empty views)) ≡ count
  history-count = length-at_all (λ t. entry_with t views) (all_placed empty views) are_found ∙ (length-all_placed empty views ∙ length-replicate count [])

  pub history-each : (t : ℕ) (e : Entry) → slice_get (at_all (all_placed empty views)) t ≡ Some e → entry_with t views ≡ Some e
  history-each t e at = at_all-at (λ n. entry_with n views) (all_placed empty views) are_found t e at

-- ---- places that were written

-- the places of all views, where they were empty and are written through a loan
pub places_are : (n : ℕ) (old lent new : List (List Entry)) (views : List View) (count : ℕ) → n ≡ length old → old ≡ replicate count [] → lent ≡ old → new ≡ all_placed lent views
    → take n (new ++ drop (length new) old) ≡ all_placed (replicate count []) views
places_are n old lent new views count here empty same written =
    let long : length new ≡ length old = ap (λ (l : List (List Entry)). length l) written ∙ (length-all_placed lent views ∙ ap (λ (l : List (List Entry)). length l) same) in
    take-append-le n new (drop (length new) old) (omega arith)
    ∙ (ap (λ (k : ℕ). take k new) (omega arith) ∙ take-length new)
    ∙ written
    ∙ ap (λ (l : List (List Entry)). all_placed l views) (same ∙ empty)
