-- Members of lists, and the entries of one caller.
use Rattle.std.proofs.Common.{◌≡◌, ◌≢◌, ℕ, eqb, cond, Bool, eq-eqb, ne_eqb, zero, suc, ◌+◌, ◌-◌, ◌<◌, ◌≤◌, List, [], ◌∷◌, length, get_or, filter, sym, refl, ap, ◌∙◌, subst, arith, Some}
use Rattle.std.specs.List.{slice_get, enumerate_from, AllByRecursion}
use Rattle.std.proofs.lemmas.Option.{same_Some, none-some}
use mathlib.Core.Logic.{dite}
use native.Mathlib.Decide.{ℕ_discrete}
use Rattle.evac_model.specs.declared.entry.Entry.{Entry}
use Rattle.replay.specs.Keeping.{AreRising}

module _ {A : Type 0} where
  pub there : (l : List A) (i : ℕ) → i < length l → (a : A) × (slice_get l i ≡ Some a)
  there [] i lt = absurd (omega arith)
  there (x ∷ xs) zero lt = (x, refl)
  there (x ∷ xs) (suc i) lt = there xs i (omega arith)

  pub all_at : (P : A → Type 0) (l : List A) (i : ℕ) (a : A) → AllByRecursion P l → slice_get l i ≡ Some a → P a
  all_at P [] i a h e = absurd (none-some a e)
  all_at P (x ∷ xs) zero a h e = subst P (same_Some x a e) h.0
  all_at P (x ∷ xs) (suc i) a h e = all_at P xs i a h.1 e

  pub all_from : (P : A → Type 0) (l : List A) → ((i : ℕ) (a : A) → slice_get l i ≡ Some a → P a) → AllByRecursion P l
  all_from P [] h = tt
  all_from P (x ∷ xs) h = (h 0 x refl, all_from P xs (λ i a e. h (suc i) a e))

  pub get_or_at : (P : A → Type 0) (l : List A) (i : ℕ) (d : A) → AllByRecursion P l → P d → P (get_or l i d)
  get_or_at P [] i d h p = p
  get_or_at P (x ∷ xs) zero d h p = h.0
  get_or_at P (x ∷ xs) (suc i) d h p = get_or_at P xs i d h.1 p

  pub numbered_at : (n : ℕ) (l : List A) (i q : ℕ) (a : A) → slice_get (enumerate_from n l) i ≡ Some (q, a) → slice_get l i ≡ Some a
  numbered_at n [] i q a e = absurd (none-some (q, a) e)
  numbered_at n (x ∷ xs) zero q a e = ap (λ (p : ℕ × A). Some p.1) (same_Some (n, x) (q, a) e)
  numbered_at n (x ∷ xs) (suc i) q a e = numbered_at (n + 1) xs i q a e

-- ---- the entries of one caller, out of all entries in ticket order

abbrev pub Tickets_from : ℕ → List Entry → Type 0
Tickets_from t h = (j : ℕ) (e : Entry) → slice_get h j ≡ Some e → e.ticket ≡ t + j

abbrev pub StandIn : ℕ → List Entry → List Entry → Type 0
StandIn t h es = (p : ℕ) (e : Entry) → slice_get es p ≡ Some e → slice_get h (e.ticket - t) ≡ Some e

abbrev pub HasAllOf : ℕ → List Entry → List Entry → Type 0
HasAllOf k h es = (j : ℕ) (e : Entry) → slice_get h j ≡ Some e → e.caller ≡ k → (p : ℕ) × (slice_get es p ≡ Some e)

-- the entries are at the places behind the first one
behind : (t : ℕ) (x : Entry) (xs : List Entry) (e : Entry) → t + 1 ≤ e.ticket → slice_get (x ∷ xs) (e.ticket - t) ≡ Some e → slice_get xs (e.ticket - (t + 1)) ≡ Some e
behind t x xs e le at = let back : e.ticket - t ≡ suc (e.ticket - (t + 1)) = omega arith in subst (λ (n : ℕ). slice_get (x ∷ xs) n ≡ Some e) back at

pub of_caller : (k t : ℕ) (h es : List Entry) → Tickets_from t h → AreRising es → AllByRecursion (λ e. t ≤ e.ticket) es → AllByRecursion (λ e. e.caller ≡ k) es → StandIn t h es → HasAllOf k h es → filter (λ e. eqb e.caller k) h ≡ es
of_caller k t [] [] tickets rising low mine stand all = refl
of_caller k t [] (y ∷ ys) tickets rising low mine stand all = absurd (none-some y (stand 0 y refl))
of_caller k t (x ∷ xs) es tickets rising low mine stand all = by_case (λ es' a b c d f. of_caller k (t + 1) xs es' up a b c d f) where
  up : Tickets_from (t + 1) xs
  up j e at = let r = tickets (suc j) e at in omega arith

  here : x.ticket ≡ t
  here = let r = tickets 0 x refl in omega arith

  rest : List Entry
  rest = filter (λ e. eqb e.caller k) xs

  -- what holds of the entries behind the first one
  Later : Type 0
  Later = (es : List Entry) → AreRising es → AllByRecursion (λ e. t + 1 ≤ e.ticket) es → AllByRecursion (λ e. e.caller ≡ k) es → StandIn (t + 1) xs es → HasAllOf k xs es → rest ≡ es

  in_rest : (y : Entry) (ys : List Entry) → y ≡ x → (j : ℕ) (e : Entry) → slice_get xs j ≡ Some e → (p : ℕ) × (slice_get (y ∷ ys) p ≡ Some e) → (p : ℕ) × (slice_get ys p ≡ Some e)
  in_rest y ys same j e q (zero, a) =
      let s : y.ticket ≡ e.ticket = ap (λ (z : Entry). z.ticket) (same_Some y e a) in
      let r = tickets (suc j) e q in
      let is : y.ticket ≡ t = ap (λ (z : Entry). z.ticket) same ∙ here in absurd (omega arith)
  in_rest y ys same j e q (suc p, a) = (p, a)

  first : Later → (es : List Entry) → AreRising es → AllByRecursion (λ e. t ≤ e.ticket) es → AllByRecursion (λ e. e.caller ≡ k) es → StandIn t (x ∷ xs) es → HasAllOf k (x ∷ xs) es → (p : ℕ) × (slice_get es p ≡ Some x) → x ∷ rest ≡ es
  first ih [] rising low mine stand all (p, at) = absurd (none-some x at)
  first ih (y ∷ ys) rising low mine stand all (suc p, at) =
      let a = all_at (λ (e : Entry). y.ticket < e.ticket) ys p x rising.0 at in
      let b = low.0 in
      let c = here in absurd (omega arith)
  first ih (y ∷ ys) rising low mine stand all (zero, at) =
      let same : y ≡ x = same_Some y x at in
      let is : y.ticket ≡ t = ap (λ (e : Entry). e.ticket) same ∙ here in
      let above : AllByRecursion (λ (e : Entry). t + 1 ≤ e.ticket) ys = all_from (λ (e : Entry). t + 1 ≤ e.ticket) ys (λ p e q. let a = all_at (λ (z : Entry). y.ticket < z.ticket) ys p e rising.0 q in omega arith) in
      ap (λ (z : Entry). z ∷ rest) (sym same)
      ∙ ap (λ (l : List Entry). y ∷ l) (ih ys rising.1 above mine.1
      (λ p e q. behind t x xs e (all_at (λ (z : Entry). t + 1 ≤ z.ticket) ys p e above q) (stand (suc p) e q))
      (λ j e q c. in_rest y ys same j e q (all (suc j) e q c)))

  above_first : x.caller ≢ k → (p : ℕ) (e : Entry) → slice_get es p ≡ Some e → t + 1 ≤ e.ticket
  above_first ne p e q = dite (ℕ_discrete e.ticket t)
      (λ same. let zero_is : e.ticket - t ≡ 0 = omega arith in
      let is : x ≡ e = same_Some x e (subst (λ (n : ℕ). slice_get (x ∷ xs) n ≡ Some e) zero_is (stand p e q)) in
      absurd (ne (ap (λ (z : Entry). z.caller) is ∙ all_at (λ (z : Entry). z.caller ≡ k) es p e mine q)))
      (λ differ. let a = all_at (λ (z : Entry). t ≤ z.ticket) es p e low q in omega arith)

  by_case : Later → filter (λ e. eqb e.caller k) (x ∷ xs) ≡ es
  by_case ih = dite (ℕ_discrete x.caller k)
      (λ q. ap (λ (b : Bool). cond b (x ∷ rest) rest) (eq-eqb x.caller k q) ∙ first ih es rising low mine stand all (all 0 x refl q))
      (λ ne. ap (λ (b : Bool). cond b (x ∷ rest) rest) (ne_eqb x.caller k ne)
      ∙ ih es rising (all_from (λ (e : Entry). t + 1 ≤ e.ticket) es (above_first ne)) mine
      (λ p e q. behind t x xs e (above_first ne p e q) (stand p e q))
      (λ j e q c. all (suc j) e q c))
