-- What contracts see of a map's words.
use Rattle.std.proofs.Common.{◌≡◌, ℕ, ◌+◌, ◌*◌, ◌<◌, ◌≤◌, Bool, true, false, not, ◌&&◌, ◌||◌, List, length, replicate, sym, ap, subst, ◌∙◌, arith, inl, inr, IsTrue}
use Rattle.std.specs.List.{range_with_len}
use Rattle.std.proofs.lemmas.Bool.{cases_lt}
use Rattle.std.proofs.lemmas.Nat.{mul-le}
use Rattle.evac_model.specs.Geometry.{Sizes, IsWithinLimits, block_bytes}
use Rattle.evac_model.specs.Numbers.{with_range, without_range, IsRisingBelow, numbers_where, is_in, is_between}
use Rattle.block_map.specs.Blocks.{Blocks, IsAllPlugged, IsNonePlugged}
use Rattle.block_map.specs.Bits.{has_bit, AreAllSet, AreNoneSet}
use Rattle.block_map.specs.MapInside.{IsKept}
use Rattle.evac_model.proofs.Bounds.{power_to_512_most}
use Rattle.evac_model.proofs.Ranges.{between_inside, between_above}
use Rattle.evac_model.proofs.Unions.{with_range-below, without_range-numbers}
use Rattle.evac_model.proofs.Numbers.{numbers_agree, is_in-numbers_where, is_in-numbers_where_past, length-numbers_where, numbers_where-front, numbers_where-none}
use Rattle.block_map.proofs.Words.{has_bit-replicate}

-- the value of a map with these sizes, whose set bits pass the test
abbrev pub value_of : Sizes → (ℕ → Bool) → Blocks
value_of s test = record { sizes = s; plugged = numbers_where test s.managed }

pub value_rising : (s : Sizes) (test : ℕ → Bool) (v : Blocks) → value_of s test ≡ v → IsRisingBelow v.sizes.managed v.plugged
value_rising s test v e =
    let P : Blocks → Type 0 = λ (x : Blocks). IsRisingBelow x.sizes.managed x.plugged in
    subst P e (numbers_agree test (λ b. is_in b (numbers_where test s.managed)) s.managed (λ b h. sym (is_in-numbers_where test s.managed b h)))

pub is_in-value : (s : Sizes) (test : ℕ → Bool) (v : Blocks) → value_of s test ≡ v → (b : ℕ) → b < s.managed → is_in b v.plugged ≡ test b
is_in-value s test v e b h = ap (λ (x : Blocks). is_in b x.plugged) (sym e) ∙ is_in-numbers_where test s.managed b h

pub is_in-value_past : (s : Sizes) (test : ℕ → Bool) (v : Blocks) → value_of s test ≡ v → (b : ℕ) → s.managed ≤ b → is_in b v.plugged ≡ false
is_in-value_past s test v e b h = ap (λ (x : Blocks). is_in b x.plugged) (sym e) ∙ is_in-numbers_where_past test s.managed b h

-- the bits of a range set, and cleared
pub value_with : (s : Sizes) (test : ℕ → Bool) (v : Blocks) → value_of s test ≡ v → (after : ℕ → Bool) (first n : ℕ) → first + n ≤ v.sizes.managed → ((k : ℕ) → after k ≡ (test k || is_between first (first + n) k)) → numbers_where after s.managed ≡ with_range first n v.plugged
value_with s test v e after first n inside bits =
    let P : Blocks → Type 0 = λ (x : Blocks). first + n ≤ x.sizes.managed → numbers_where after s.managed ≡ with_range first n x.plugged in
    let with : P (value_of s test) = λ h.
    numbers_agree after (λ b. is_in b (numbers_where test s.managed) || is_between first (first + n) b) s.managed (λ b l. bits b ∙ ap (λ (t : Bool). t || is_between first (first + n) b) (sym (is_in-numbers_where test s.managed b l)))
    ∙ sym (with_range-below first n s.managed (numbers_where test s.managed) (is_in-numbers_where_past test s.managed) h) in
    subst P e with inside

pub value_without : (s : Sizes) (test : ℕ → Bool) (v : Blocks) → value_of s test ≡ v → (after : ℕ → Bool) (first n : ℕ) → ((k : ℕ) → after k ≡ (test k && not (is_between first (first + n) k))) → numbers_where after s.managed ≡ without_range first n v.plugged
value_without s test v e after first n bits =
    let P : Blocks → Type 0 = λ (x : Blocks). numbers_where after s.managed ≡ without_range first n x.plugged in
    subst P e (numbers_agree after (λ b. test b && not (is_between first (first + n) b)) s.managed (λ b l. bits b) ∙ sym (without_range-numbers test first n s.managed))

-- the first bits set in words of zeros
pub start_plugged : (before words : List ℕ) (size plugged managed : ℕ) → before ≡ replicate size 0 → plugged ≤ managed → ((k : ℕ) → has_bit words k ≡ (has_bit before k || is_between 0 plugged k)) → numbers_where (has_bit words) managed ≡ range_with_len 0 plugged
start_plugged before words size plugged managed z h bits =
    let clear : (k : ℕ) → has_bit before k ≡ false = λ k. ap (λ (ws : List ℕ). has_bit ws k) z ∙ has_bit-replicate size k in
    numbers_where-front (has_bit words) plugged managed h
    (λ k l. bits k ∙ ap (λ (t : Bool). t || is_between 0 plugged k) (clear k) ∙ between_inside 0 plugged k (omega arith) l)
    (λ k g. bits k ∙ ap (λ (t : Bool). t || is_between 0 plugged k) (clear k) ∙ between_above 0 plugged k g)

pub start_count : (before words : List ℕ) (size managed count : ℕ) → before ≡ replicate size 0 → length (numbers_where (has_bit words) managed) ≡ length (numbers_where (has_bit before) managed) + count → count ≡ length (numbers_where (has_bit words) managed)
start_count before words size managed count z e =
    let clear : (k : ℕ) → has_bit before k ≡ false = λ k. ap (λ (ws : List ℕ). has_bit ws k) z ∙ has_bit-replicate size k in
    let none : length (numbers_where (has_bit before) managed) ≡ 0 = ap (λ (xs : List ℕ). length xs) (numbers_where-none (has_bit before) managed clear) in
    omega (arith, e, none)

-- counts of blocks fit
pub count_few : (s : Sizes) (words : List ℕ) (count : ℕ) → IsKept s words count → count ≤ 65536
count_few s words count k = omega (arith, k.counted, length-numbers_where (has_bit words) s.managed, k.within.managed.1)

pub count_more_few : (s : Sizes) (words before after : List ℕ) (count added : ℕ) → IsKept s words count → before ≡ words → length (numbers_where (has_bit after) s.managed) ≡ length (numbers_where (has_bit before) s.managed) + added → count + added ≤ 65536
count_more_few s words before after count added k b e =
    let same : length (numbers_where (has_bit before) s.managed) ≡ length (numbers_where (has_bit words) s.managed) = ap (λ (ws : List ℕ). length (numbers_where (has_bit ws) s.managed)) b in
    omega (arith, k.counted, e, same, length-numbers_where (has_bit after) s.managed, k.within.managed.1)

pub block_bytes_le : (s : Sizes) → IsWithinLimits s → block_bytes s ≤ 2097152
block_bytes_le s w = mul-le (s.cells * 8) s.block 4096 512 (omega (arith, power_to_512_most s.cells w.cells)) (power_to_512_most s.block w.block)

-- what a range is
range_all : (s : Sizes) (words : List ℕ) (v : Blocks) → value_of s (has_bit words) ≡ v → (first n : ℕ) → 0 < n → AreAllSet s.managed first n words → IsAllPlugged first n v.plugged × ¬ IsNonePlugged first n v.plugged
range_all s words v e first n some set =
    let all : IsAllPlugged first n v.plugged = λ b f l. let x = set b f l in is_in-value s (has_bit words) v e b x.0 ∙ x.1 in
    (all, λ none. let x : true ≡ false = sym (all first (omega arith) (omega arith)) ∙ none first (omega arith) (omega arith) in cc)

range_none : (s : Sizes) (words : List ℕ) (v : Blocks) → value_of s (has_bit words) ≡ v → (first n : ℕ) → 0 < n → AreNoneSet s.managed first n words → IsNonePlugged first n v.plugged × ¬ IsAllPlugged first n v.plugged
range_none s words v e first n some set =
    let none : IsNonePlugged first n v.plugged = λ b f l. elim (cases_lt b s.managed) [
      | inl m ↦ is_in-value s (has_bit words) v e b m ∙ set b f l m
      | inr m ↦ is_in-value_past s (has_bit words) v e b m
    ] in
    (none, λ all. let x : true ≡ false = sym (all first (omega arith) (omega arith)) ∙ none first (omega arith) (omega arith) in cc)

range_not_all : (s : Sizes) (words : List ℕ) (v : Blocks) → value_of s (has_bit words) ≡ v → (first n : ℕ) → ¬ AreAllSet s.managed first n words → ¬ IsAllPlugged first n v.plugged
range_not_all s words v e first n not_set all =
    not_set (λ b f l. elim (cases_lt b s.managed) [
      | inl m ↦ (m, sym (is_in-value s (has_bit words) v e b m) ∙ all b f l)
      | inr m ↦ let x : true ≡ false = sym (all b f l) ∙ is_in-value_past s (has_bit words) v e b m in cc
    ])

range_not_none : (s : Sizes) (words : List ℕ) (v : Blocks) → value_of s (has_bit words) ≡ v → (first n : ℕ) → ¬ AreNoneSet s.managed first n words → ¬ IsNonePlugged first n v.plugged
range_not_none s words v e first n not_set none =
    not_set (λ b f l m. sym (is_in-value s (has_bit words) v e b m) ∙ none b f l)

-- the same as the tests of a range tell it, of words and a number of blocks that are those of the map
pub tested_all : (s : Sizes) (words : List ℕ) (v : Blocks) → value_of s (has_bit words) ≡ v → (managed : ℕ) (ws : List ℕ) → managed ≡ s.managed → ws ≡ words → (first n : ℕ) → 0 < n → AreAllSet managed first n ws → IsAllPlugged first n v.plugged × ¬ IsNonePlugged first n v.plugged
tested_all s words v e managed ws m w first n some set =
    range_all s words v e first n some (subst (λ (x : ℕ). AreAllSet x first n words) m (subst (λ (x : List ℕ). AreAllSet managed first n x) w set))

pub tested_none : (s : Sizes) (words : List ℕ) (v : Blocks) → value_of s (has_bit words) ≡ v → (managed : ℕ) (ws : List ℕ) → managed ≡ s.managed → ws ≡ words → (first n : ℕ) → 0 < n → AreNoneSet managed first n ws → IsNonePlugged first n v.plugged × ¬ IsAllPlugged first n v.plugged
tested_none s words v e managed ws m w first n some set =
    range_none s words v e first n some (subst (λ (x : ℕ). AreNoneSet x first n words) m (subst (λ (x : List ℕ). AreNoneSet managed first n x) w set))

pub tested_not_all : (s : Sizes) (words : List ℕ) (v : Blocks) → value_of s (has_bit words) ≡ v → (managed : ℕ) (ws : List ℕ) → managed ≡ s.managed → ws ≡ words → (first n : ℕ) (r : Bool) → r ≡ false → (AreAllSet managed first n ws → IsTrue r) → ¬ IsAllPlugged first n v.plugged
tested_not_all s words v e managed ws m w first n r f told =
    range_not_all s words v e first n (λ set.
    let t : r ≡ true = told (subst (λ (x : List ℕ). AreAllSet managed first n x) (sym w) (subst (λ (x : ℕ). AreAllSet x first n words) (sym m) set)) in cc)

pub tested_not_none : (s : Sizes) (words : List ℕ) (v : Blocks) → value_of s (has_bit words) ≡ v → (managed : ℕ) (ws : List ℕ) → managed ≡ s.managed → ws ≡ words → (first n : ℕ) (r : Bool) → r ≡ false → (AreNoneSet managed first n ws → IsTrue r) → ¬ IsNonePlugged first n v.plugged
tested_not_none s words v e managed ws m w first n r f told =
    range_not_none s words v e first n (λ set.
    let t : r ≡ true = told (subst (λ (x : List ℕ). AreNoneSet managed first n x) (sym w) (subst (λ (x : ℕ). AreNoneSet x first n words) (sym m) set)) in cc)
