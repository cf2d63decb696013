-- What a table's map answers, and what a write to one place does to it.
use Rattle.std.proofs.Common.{◌≡◌, ℕ, suc, zero, ◌+◌, ◌<◌, ◌==◌, true, false, cond, List, [], ◌∷◌, length, set, get_or, Option, None, Some, refl, sym, ap, ◌∙◌, arith}
use Rattle.std.proofs.lemmas.Grind.{common_steps}
use Rattle.std.proofs.lemmas.Bool.Decides.{nat_tests}
use Rattle.std.specs.Ordering.{nat_cmp, eq_by_cmp}
use Rattle.std.specs.Cmp.{nat_cmp_total, unsigned_tied}
use Rattle.std.specs.FinMap.{get, insert, remove, find, get-from_entries, get-insert, get-remove, same_map, nat_cmp-IsAntisymmetric}
use Rattle.evac_model.specs.Tables.{with_entry, numbered, table_map}

find_at : {A : Type 0} → (k : ℕ) (x : A) (es : List (ℕ × A)) (q : ℕ) → find nat_cmp q ((k, x) ∷ es) ≡ cond (q == k) (Some x) (find nat_cmp q es)
find_at k x es q = ap (λ b. cond b (Some x) (find nat_cmp q es)) (unsigned_tied q k)

test_same : (q k : ℕ) → q ≡ k → (q == k) ≡ true
test_same q k e = grind (arith, nat_tests)

test_other : (q k : ℕ) → (q ≡ k → ⊥) → (q == k) ≡ false
test_other q k e = grind (arith, nat_tests)

find-with_entry_same : {A : Type 0} → (k : ℕ) (x : Option A) (es : List (ℕ × A)) → find nat_cmp k es ≡ None → find nat_cmp k (with_entry k x es) ≡ x
find-with_entry_same k None es h = h
find-with_entry_same k (Some x) es h = find_at k x es k ∙ ap (λ b. cond b (Some x) (find nat_cmp k es)) (test_same k k refl)

find-with_entry_other : {A : Type 0} → (k : ℕ) (x : Option A) (es : List (ℕ × A)) (q : ℕ) → (q ≡ k → ⊥) → find nat_cmp q (with_entry k x es) ≡ find nat_cmp q es
find-with_entry_other k None es q h = refl
find-with_entry_other k (Some x) es q h = find_at k x es q ∙ ap (λ b. cond b (Some x) (find nat_cmp q es)) (test_other q k h)

find-numbered_below : {A : Type 0} → (xs : List (Option A)) (k q : ℕ) → q < k → find nat_cmp q (numbered k xs) ≡ None
find-numbered_below [] k q h = refl
find-numbered_below (x ∷ xs) k q h =
    find-with_entry_other k x (numbered (k + 1) xs) q (λ e. omega arith) ∙ find-numbered_below xs (k + 1) q (omega arith)

find-numbered : {A : Type 0} → (xs : List (Option A)) (k j q : ℕ) → q ≡ k + j → find nat_cmp q (numbered k xs) ≡ get_or xs j None
find-numbered [] k j q h = refl
find-numbered (x ∷ xs) k zero q h =
    let e : q ≡ k = omega arith in
    ap (λ v. find nat_cmp v (with_entry k x (numbered (k + 1) xs))) e ∙ find-with_entry_same k x (numbered (k + 1) xs) (find-numbered_below xs (k + 1) k (omega arith))
find-numbered (x ∷ xs) k (suc j) q h =
    find-with_entry_other k x (numbered (k + 1) xs) q (λ e. omega arith) ∙ find-numbered xs (k + 1) j q (omega arith)

-- what the map has at a number is what stands in that place, None past the end
pub get-table_map : {A : Type 0} → (xs : List (Option A)) (k : ℕ) → get (table_map xs) k ≡ get_or xs k None
get-table_map xs k = get-from_entries nat_cmp_total (numbered 0 xs) k ∙ find-numbered xs 0 k k (omega arith)

get_or-set_tested : {A : Type 0} → (xs : List A) (k q : ℕ) (y d : A) → k < length xs → get_or (set xs k y) q d ≡ cond (eq_by_cmp nat_cmp q k) y (get_or xs q d)
get_or-set_tested xs k q y d h = grind (arith, common_steps, nat_tests, unsigned_tied)

-- to fill a place is to insert
pub table_map-set_some : {A : Type 0} → (xs : List (Option A)) (k : ℕ) (x : A) → k < length xs → table_map (set xs k (Some x)) ≡ insert (table_map xs) k x
table_map-set_some xs k x h =
    same_map nat_cmp_total nat_cmp-IsAntisymmetric _ _
    (λ q. get-table_map (set xs k (Some x)) q ∙ get_or-set_tested xs k q (Some x) None h ∙ ap (cond (eq_by_cmp nat_cmp q k) (Some x)) (sym (get-table_map xs q)) ∙ sym (get-insert nat_cmp_total (table_map xs) k x q))

-- to empty a place is to remove
pub table_map-set_none : {A : Type 0} → (xs : List (Option A)) (k : ℕ) → k < length xs → table_map (set xs k None) ≡ remove (table_map xs) k
table_map-set_none xs k h =
    same_map nat_cmp_total nat_cmp-IsAntisymmetric _ _
    (λ q. get-table_map (set xs k None) q ∙ get_or-set_tested xs k q None None h ∙ ap (cond (eq_by_cmp nat_cmp q k) None) (sym (get-table_map xs q)) ∙ sym (get-remove nat_cmp_total (table_map xs) k q))
