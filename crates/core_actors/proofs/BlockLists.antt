-- The lists of blocks that a host makes: a range, and the plugged blocks, one more at a time.
use Rattle.std.proofs.Common.{◌≡◌, ℕ, zero, suc, ◌+◌, ◌*◌, ◌<◌, ◌≤◌, Bool, true, false, cond, List, [], ◌∷◌, ◌++◌, length, drop, get_or, append-nil, refl, sym, ap, ◌∙◌, subst, arith}
use Rattle.std.specs.List.{filter, range_with_len, AllByRecursion}
use Rattle.std.proofs.lemmas.List.Elements.{filter-append}
use Rattle.std.proofs.lemmas.Nat.{mul-add-lt}
use Rattle.std.proofs.Math.Nat.{mul_comm}
use Rattle.evac_model.specs.declared.host.HostCommand.{HostCommand}
use Rattle.evac_model.specs.declared.host.HostCommand.TheVariants as commands
use Rattle.evac_model.specs.Geometry.{Sizes, first_frame, frame_count}
use Rattle.evac_model.specs.Numbers.{numbers_where}
use Rattle.core_actors.specs.Hosts.{command_blocks, first_of}

-- a range with one number more
pub range_more : (a n j : ℕ) → a + n ≡ j → range_with_len a (n + 1) ≡ range_with_len a n ++ j ∷ []
range_more a zero j e = let same : a ≡ j = omega arith in ap (λ (x : ℕ). x ∷ []) same
range_more a (suc n) j e =
    let more : suc n + 1 ≡ suc (n + 1) = omega arith in
    ap (λ (k : ℕ). range_with_len a k) more ∙ ap (λ (xs : List ℕ). a ∷ xs) (range_more (a + 1) n j (omega arith))

pub range_grows : (a n m j : ℕ) → a + n ≡ j → m ≡ n + 1 → (xs : List ℕ) → xs ≡ range_with_len a n → xs ++ j ∷ [] ≡ range_with_len a m
range_grows a n m j e more xs is = ap (λ (ys : List ℕ). ys ++ j ∷ []) is ∙ (sym (range_more a n j e) ∙ ap (λ (k : ℕ). range_with_len a k) (sym more))

-- the numbers that pass a test, with one more below the bound
one_passes : (test : ℕ → Bool) (n : ℕ) → numbers_where test (n + 1) ≡ numbers_where test n ++ cond (test n) (n ∷ []) []
one_passes test n = ap (λ (xs : List ℕ). filter test xs) (range_more 0 n n (omega arith)) ∙ filter-append test (range_with_len 0 n) (n ∷ [])

pub passes_more : (test : ℕ → Bool) (n : ℕ) (xs : List ℕ) → xs ≡ numbers_where test n → test n ≡ true → xs ++ n ∷ [] ≡ numbers_where test (n + 1)
passes_more test n xs is t =
    ap (λ (ys : List ℕ). ys ++ n ∷ []) is ∙ sym (one_passes test n ∙ ap (λ (b : Bool). numbers_where test n ++ cond b (n ∷ []) []) t)

pub passes_not : (test : ℕ → Bool) (n : ℕ) (xs : List ℕ) → xs ≡ numbers_where test n → test n ≡ false → xs ≡ numbers_where test (n + 1)
passes_not test n xs is f =
    is ∙ sym (one_passes test n ∙ (ap (λ (b : Bool). numbers_where test n ++ cond b (n ∷ []) []) f ∙ append-nil (numbers_where test n)))

-- ---- each of them is below a bound

pub range_below : (a n bound : ℕ) → a + n ≤ bound → AllByRecursion (λ b. b < bound) (range_with_len a n)
range_below a zero bound le = tt
range_below a (suc n) bound le = (omega arith, range_below (a + 1) n bound (omega arith))

below_kept : (bound : ℕ) (t : Bool) (x : ℕ) (xs : List ℕ) → x < bound → AllByRecursion (λ b. b < bound) xs → AllByRecursion (λ b. b < bound) (cond t (x ∷ xs) xs)
below_kept bound true x xs lt all = (lt, all)
below_kept bound false x xs lt all = all

passing_below : (test : ℕ → Bool) (bound : ℕ) (xs : List ℕ) → AllByRecursion (λ b. b < bound) xs → AllByRecursion (λ b. b < bound) (filter test xs)
passing_below test bound [] all = tt
passing_below test bound (x ∷ xs) all = below_kept bound (test x) x (filter test xs) all.0 (passing_below test bound xs all.1)

pub numbers_below : (test : ℕ → Bool) (n bound : ℕ) → n ≤ bound → AllByRecursion (λ b. b < bound) (numbers_where test n)
numbers_below test n bound le = passing_below test bound (range_with_len 0 n) (range_below 0 n bound (omega arith))

-- ---- what stands at a place

pub head_here : {X : Type 0} → (xs : List X) (n : ℕ) (x d : X) (rest : List X) → drop n xs ≡ x ∷ rest → get_or xs n d ≡ x
head_here [] zero x d rest e = absurd (cc)
head_here [] (suc n) x d rest e = absurd (cc)
head_here (y ∷ ys) zero x d rest e = cc
head_here (y ∷ ys) (suc n) x d rest e = head_here ys n x d rest e

pub first_here : (xs : List ℕ) (n d : ℕ) → n < length xs → get_or xs n d ≡ first_of (drop n xs)
first_here [] n d lt = absurd (omega arith)
first_here (x ∷ xs) zero d lt = refl
first_here (x ∷ xs) (suc n) d lt = first_here xs n d (omega arith)

command_alone : (s : Sizes) (plugged : List ℕ) (c : HostCommand) (cs : List HostCommand) → command_blocks s plugged (c ∷ cs) ≡ command_blocks s plugged (c ∷ [])
command_alone s plugged (commands.Request bytes) cs = refl
command_alone s plugged commands.Config cs = refl

pub blocks_here : (s : Sizes) (plugged : List ℕ) (commands : List HostCommand) (at : ℕ) (c0 : HostCommand) → at < length commands → c0 ≡ get_or commands at c0
    → command_blocks s plugged (drop at commands) ≡ command_blocks s plugged (c0 ∷ [])
blocks_here s plugged [] at c0 lt is = absurd (omega arith)
blocks_here s plugged (c ∷ cs) zero c0 lt is = command_alone s plugged c cs ∙ ap (λ (x : HostCommand). command_blocks s plugged (x ∷ [])) (sym is)
blocks_here s plugged (c ∷ cs) (suc at) c0 lt is = blocks_here s plugged cs at c0 (omega arith) is

-- ---- the first frame of a block is one of the machine

pub block_inside : (s : Sizes) (b k : ℕ) → b < s.managed → k < s.block → first_frame s b + k < frame_count s
block_inside s b k lt le =
    subst (λ (n : ℕ). (s.boot + b) * s.block + k < n) (mul_comm s.block (s.boot + s.managed)) (mul-add-lt (s.boot + b) s.block k (s.boot + s.managed) (omega arith) le)
