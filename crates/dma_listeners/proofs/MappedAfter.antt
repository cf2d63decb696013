-- What the notices of a key leave mapped.
use Rattle.std.proofs.Common.{◌≡◌, ℕ, zero, suc, ◌+◌, ◌<◌, ◌≤◌, Bool, true, false, cond, ◌&&◌, List, [], ◌∷◌, ◌++◌, Some, refl, sym, ap, ◌∙◌, arith, inl, inr}
use Rattle.std.proofs.Math.Dec.{eqb}
use Rattle.std.proofs.Math.Bool.{and-false}
use Rattle.std.proofs.lemmas.Bool.{cases_eq, eq-eqb, ne_eqb}
use Rattle.std.proofs.lemmas.List.{map-append}
use Rattle.evac_model.specs.declared.device_journal.Notice.{Notice}
use Rattle.evac_model.specs.declared.device_journal.Told.{Told}
use Rattle.evac_model.specs.declared.device_journal.Told.TheVariants.{PopulateOk, PopulateRefused, Discard}
use Rattle.evac_model.specs.Numbers.{numbers_where, with_range, without_range}
use Rattle.evac_model.specs.Notices.{notice, told_each, plug_notices}
use Rattle.evac_model.specs.MappedExactly.{mapped_when, is_for, mapped_after}
use Rattle.evac_model.proofs.Booleans.{cond_same}
use Rattle.dma_listeners.proofs.Ends.{numbers_next-passes, numbers_next-fails, below-numbers}
use Rattle.dma_listeners.proofs.Steps.{true_or_false}

-- notices, and more behind them
pub after-append : (key : ℕ) (xs ys : List Notice) (blocks : List ℕ) → mapped_after key (xs ++ ys) blocks ≡ mapped_after key ys (mapped_after key xs blocks)
after-append key [] ys blocks = refl
after-append key (x ∷ xs) ys blocks = after-append key xs ys (cond (is_for key x.key) (mapped_when x.told x.first.0 x.n blocks) blocks)

-- a listener's own notice counts, where the next key has one
next_each : (live : ℕ → Bool) (m first n : ℕ) (told : Told) (key : ℕ) (blocks rest : List ℕ) → mapped_after key (told_each (numbers_where live m) first n told) blocks ≡ rest → mapped_after key (told_each (numbers_where live (m + 1)) first n told) blocks ≡ cond (live m && eqb m key) (mapped_when told first n rest) rest
next_each live m first n told key blocks rest r =
    elim (true_or_false (live m)) [
      | inl e ↦
          let some = told_each (numbers_where live m) first n told in
          let words : told_each (numbers_where live (m + 1)) first n told ≡ some ++ notice (Some m) first n told ∷ [] =
          ap (λ (ks : List ℕ). told_each ks first n told) (numbers_next-passes live m e) ∙ map-append (λ k. notice (Some k) first n told) (numbers_where live m) (m ∷ []) in
          ap (λ (xs : List Notice). mapped_after key xs blocks) words
          ∙ after-append key some (notice (Some m) first n told ∷ []) blocks
          ∙ ap (mapped_after key (notice (Some m) first n told ∷ [])) r
          ∙ ap (λ (t : Bool). cond (t && eqb m key) (mapped_when told first n rest) rest) (sym e)
      | inr e ↦
          ap (λ (ks : List ℕ). mapped_after key (told_each ks first n told) blocks) (numbers_next-fails live m e)
          ∙ r
          ∙ ap (λ (t : Bool). cond (t && eqb m key) (mapped_when told first n rest) rest) (sym e)
    ]

other_key : (t u : Bool) (xs ys : List ℕ) → u ≡ false → cond (t && u) xs ys ≡ ys
other_key t u xs ys e = ap (λ (x : Bool). cond (t && x) xs ys) e ∙ ap (λ (x : Bool). cond x xs ys) (and-false t)

-- who isn't told maps what it did
pub untold_each : (live : ℕ → Bool) (m first n : ℕ) (told : Told) (key : ℕ) (blocks : List ℕ) → m ≤ key → mapped_after key (told_each (numbers_where live m) first n told) blocks ≡ blocks
untold_each live zero first n told key blocks h = refl
untold_each live (suc m) first n told key blocks h =
    let shift : suc m ≡ m + 1 = omega arith in
    ap (λ (k : ℕ). mapped_after key (told_each (numbers_where live k) first n told) blocks) shift
    ∙ next_each live m first n told key blocks blocks (untold_each live m first n told key blocks (omega arith))
    ∙ other_key (live m) (eqb m key) (mapped_when told first n blocks) blocks (ne_eqb m key (λ e. omega (arith, e, h)))

-- who is told maps what its one notice leaves
pub told_once : (live : ℕ → Bool) (m first n : ℕ) (told : Told) (key : ℕ) (blocks : List ℕ) → live key ≡ true → key < m → mapped_after key (told_each (numbers_where live m) first n told) blocks ≡ mapped_when told first n blocks
told_once live zero first n told key blocks e h = absurd (omega (arith, h))
told_once live (suc m) first n told key blocks e h =
    let shift : suc m ≡ m + 1 = omega arith in
    ap (λ (k : ℕ). mapped_after key (told_each (numbers_where live k) first n told) blocks) shift
    ∙ elim (cases_eq m key) [
      | inl q ↦
          let both : (live m && eqb m key) ≡ true = ap (λ (t : Bool). t && eqb m key) (ap live q ∙ e) ∙ eq-eqb m key q in
          next_each live m first n told key blocks blocks (untold_each live m first n told key blocks (omega (arith, q)))
          ∙ ap (λ (t : Bool). cond t (mapped_when told first n blocks) blocks) both
      | inr ne ↦
          let rest = mapped_when told first n blocks in
          next_each live m first n told key blocks rest (told_once live m first n told key blocks e (omega (arith, h, ne)))
          ∙ other_key (live m) (eqb m key) (mapped_when told first n rest) rest (ne_eqb m key ne)
    ]

-- A range that was refused: those before map what in and out leaves, and the others what they did.
pub refused_before : (live : ℕ → Bool) (m first n refused key : ℕ) (blocks : List ℕ) → refused < m → live key ≡ true → key < refused → mapped_after key (plug_notices (numbers_where live m) first n (Some refused)) blocks ≡ without_range first n (with_range first n blocks)
refused_before live m first n refused key blocks h e l =
    let some = told_each (numbers_where live refused) first n PopulateOk in
    let back = told_each (numbers_where live refused) first n Discard in
    let refusal = notice (Some refused) first n PopulateRefused in
    let words : plug_notices (numbers_where live m) first n (Some refused) ≡ some ++ refusal ∷ back =
    ap (λ (ks : List ℕ). told_each ks first n PopulateOk ++ refusal ∷ told_each ks first n Discard) (below-numbers live refused m (omega (arith, h))) in
    ap (λ (xs : List Notice). mapped_after key xs blocks) words
    ∙ after-append key some (refusal ∷ back) blocks
    ∙ ap (mapped_after key (refusal ∷ back)) (told_once live refused first n PopulateOk key blocks e l)
    ∙ ap (mapped_after key back) (cond_same (eqb refused key) (with_range first n blocks))
    ∙ told_once live refused first n Discard key (with_range first n blocks) e l

pub refused_behind : (live : ℕ → Bool) (m first n refused key : ℕ) (blocks : List ℕ) → refused < m → refused ≤ key → mapped_after key (plug_notices (numbers_where live m) first n (Some refused)) blocks ≡ blocks
refused_behind live m first n refused key blocks h l =
    let some = told_each (numbers_where live refused) first n PopulateOk in
    let back = told_each (numbers_where live refused) first n Discard in
    let refusal = notice (Some refused) first n PopulateRefused in
    let words : plug_notices (numbers_where live m) first n (Some refused) ≡ some ++ refusal ∷ back =
    ap (λ (ks : List ℕ). told_each ks first n PopulateOk ++ refusal ∷ told_each ks first n Discard) (below-numbers live refused m (omega (arith, h))) in
    ap (λ (xs : List Notice). mapped_after key xs blocks) words
    ∙ after-append key some (refusal ∷ back) blocks
    ∙ ap (mapped_after key (refusal ∷ back)) (untold_each live refused first n PopulateOk key blocks l)
    ∙ ap (mapped_after key back) (cond_same (eqb refused key) blocks)
    ∙ untold_each live refused first n Discard key blocks l
