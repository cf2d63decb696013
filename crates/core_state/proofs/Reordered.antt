-- Views in another order, with and without spent ones.
use Rattle.std.proofs.Common.{◌≡◌, ℕ, zero, suc, ◌*◌, ◌⊎◌, List, [], ◌∷◌, ◌++◌, replicate, IsPermutation, sym, refl, ap, ◌∙◌, subst, inl, inr, ⊎_elim, arith, Some}
use Rattle.std.specs.List.{sum_by}
use Rattle.std.proofs.lemmas.List.Folds.{sum_by-replicate}
use Rattle.std.proofs.lemmas.List.Sums.{sum_by-append}
use Rattle.std.proofs.lemmas.List.Sorted.{sum_by-IsPermutation, Contains-permutation, IsPermutation-sym}
use Rattle.std.proofs.lemmas.Option.{same_Some, none-some, slice_get_within, slice_get-get_or, get_or_from_slice_get}
use Rattle.std.specs.List.{slice_get}
use Rattle.core_state.specs.declared.opening.Opening.{Opening}
use Rattle.core_state.specs.declared.view.View.{View}
use Rattle.core_state.specs.Views.{Has, spent, scans, keeps_journal}
use Rattle.core_state.specs.Rearranged.{HadBefore, Rearranged}
use Rattle.core_state.proofs.Lists.{at_longer}
use Rattle.core_state.proofs.Rearranging.{AreAmong, has_entry-among, had_itself, rearranged_twice}

-- ---- another order

permuted_among : (views other : List View) → IsPermutation views other → AreAmong views other
permuted_among views other p i v has =
    let c = Contains-permutation views other v p (i, slice_get_within views i v has, get_or_from_slice_get views i v v has) in
    (c.0, slice_get-get_or other c.0 v c.1 ∙ ap (λ (w : View). Some w) c.2)

permuted : (o : Opening) (views other : List View) → IsPermutation views other → Rearranged o views other
permuted o views other p =
    let forth : AreAmong views other = permuted_among views other p in
    let back : AreAmong other views = permuted_among other views (IsPermutation-sym views other p) in
    record {
      entries = λ e h. has_entry-among views other e forth h;
      no_new_entry = λ e h. has_entry-among other views e back h;
      holders = λ page. sum_by-IsPermutation _ views other p;
      movers = λ page. sum_by-IsPermutation _ views other p;
      uses = λ t. sum_by-IsPermutation _ views other p;
      left = sum_by-IsPermutation _ views other p;
      in_hands = λ f. sum_by-IsPermutation _ views other p;
      unmarked = λ f. sum_by-IsPermutation _ views other p;
      scanners = (let a = sum_by-IsPermutation scans views other p in omega arith);
      journals = (let a = sum_by-IsPermutation keeps_journal views other p in omega arith);
      each = λ i v has. let q = back i v has in had_itself o views q.0 v q.1;
    }

-- ---- spent views

pub had_spent : (o : Opening) (views : List View) → HadBefore o views spent
had_spent o views = record {
  holds = λ h is. absurd (none-some h is);
  caller = λ some. absurd (omega arith);
  seen = λ n all. omega arith;
  by_right = λ c is. absurd (none-some c is.1);
  last = λ c is. absurd (none-some c is);
  stored = λ f x is. absurd (none-some x is);
  unmarked = λ f some. absurd (omega arith);
  scan = λ s is. absurd (none-some s is);
  places = inr (inr refl);
}

same_weight : (f : View → ℕ) (views : List View) (n : ℕ) → f spent ≡ 0 → sum_by f (views ++ replicate n spent) ≡ sum_by f views
same_weight f views n z = let a = sum_by-append f views (replicate n spent) in let b = sum_by-replicate f n spent ∙ ap (λ (k : ℕ). n * k) z in omega arith

-- a view is one of these, or spent
or_spent : (views : List View) (n k : ℕ) (v : View) → Has (views ++ replicate n spent) k v → Has views k v ⊎ (v ≡ spent)
or_spent [] zero k v has = absurd (none-some v has)
or_spent [] (suc n) zero v has = inr (sym (same_Some spent v has))
or_spent [] (suc n) (suc k) v has = ⊎_elim (λ q. absurd (none-some v q)) (λ q. inr q) (or_spent [] n k v has)
or_spent (x ∷ xs) n zero v has = inl has
or_spent (x ∷ xs) n (suc k) v has = or_spent xs n k v has

module _ (o : Opening) (views : List View) (n : ℕ) where
  longer_among : AreAmong views (views ++ replicate n spent)
  longer_among k v has = (k, at_longer views (replicate n spent) k v has)

  pub spent_added : Rearranged o views (views ++ replicate n spent)
  spent_added = record {
    entries = λ e h. has_entry-among views (views ++ replicate n spent) e longer_among h;
    no_new_entry = λ e h. ⊎_elim
        (λ q. record { seat = h.seat; view = h.view; place = h.place; has = q; at = h.at })
        (λ q. absurd (none-some e (ap (λ (v : View). slice_get v.entries h.place) (sym q) ∙ h.at)))
        (or_spent views n h.seat h.view h.has);
    holders = λ page. same_weight _ views n refl;
    movers = λ page. same_weight _ views n refl;
    uses = λ t. same_weight _ views n refl;
    left = same_weight _ views n refl;
    in_hands = λ f. same_weight _ views n refl;
    unmarked = λ f. same_weight _ views n refl;
    scanners = (let a = same_weight scans views n refl in omega arith);
    journals = (let a = same_weight keeps_journal views n refl in omega arith);
    each = λ k v has. ⊎_elim (λ q. had_itself o views k v q) (λ q. subst (λ (x : View). HadBefore o views x) (sym q) (had_spent o views)) (or_spent views n k v has);
  }

  pub spent_dropped : Rearranged o (views ++ replicate n spent) views
  spent_dropped = record {
    entries = λ e h. spent_added.no_new_entry e h;
    no_new_entry = λ e h. spent_added.entries e h;
    holders = λ page. sym (spent_added.holders page);
    movers = λ page. sym (spent_added.movers page);
    uses = λ t. sym (spent_added.uses t);
    left = sym spent_added.left;
    in_hands = λ f. sym (spent_added.in_hands f);
    unmarked = λ f. sym (spent_added.unmarked f);
    scanners = (let a = same_weight scans views n refl in omega arith);
    journals = (let a = same_weight keeps_journal views n refl in omega arith);
    each = λ k v has. let q = longer_among k v has in had_itself o (views ++ replicate n spent) q.0 v q.1;
  }

-- views that stand in another order, with so many spent ones left out
pub reordered : (o : Opening) (views other : List View) (n : ℕ) → IsPermutation views (other ++ replicate n spent) → Rearranged o views other
reordered o views other n p = rearranged_twice o views (other ++ replicate n spent) other (permuted o views (other ++ replicate n spent) p) (spent_dropped o other n)
