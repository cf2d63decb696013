-- What the runs are at their start, and once frames are given.
use Rattle.std.proofs.Common.{◌≡◌, ℕ, ◌+◌, ◌-◌, ◌*◌, ◌^◌, ◌≤◌, Bool, true, false, cond, ◌&&◌, ◌||◌, not, List, [], length, replicate, refl, sym, ap, ◌∙◌, subst, arith, inl, inr}
use Rattle.std.proofs.lemmas.Bool.{cases_lt, cases_Bool, cond-false}
use Rattle.std.proofs.lemmas.List.{length-replicate}
use Rattle.evac_model.specs.declared.names.Kind.{Kind}
use Rattle.evac_model.specs.Geometry.{Sizes, frame_count}
use Rattle.evac_model.specs.Numbers.{numbers_where, is_in, is_between}
use Rattle.evac_model.specs.SpaceJournal.{is_frame_in}
use Rattle.evac_model.proofs.Numbers.{numbers_agree, is_in-numbers_where, numbers_where-none}
use Rattle.buddy.specs.FreeFrames.{FreeFrames, no_frames, with_frames, AreApart}
use Rattle.buddy.specs.Parts.{Part, replaced}
use Rattle.buddy.specs.RunsInside.{flag, is_free, is_put_aside, frames_of, IsKept}
use Rattle.buddy.proofs.Flags.{length-replaced}
use Rattle.buddy.proofs.Places.{RunFacts, run_in_boot, run_in_managed, frames_split}
use Rattle.buddy.proofs.FrameFlags.{between_facts, cond_agree, flag-replaced, flag-replicate, flag-none}
use Rattle.buddy.proofs.FrameValues.{frame_in, put_aside-run}
use Rattle.buddy.proofs.Setting.{set_frames}
use Rattle.evac_model.proofs.Bounds.{block_some}

-- at the start no frame is free or kept aside, and no block withdrawn
pub start_value : (s : Sizes) (online : Kind) (boot managed : Part) (aside withdrawn : List Bool) (a b c d : ℕ) → boot.free ≡ replicate a false → managed.free ≡ replicate b false → aside ≡ replicate c false → withdrawn ≡ replicate d false → frames_of s online boot managed aside withdrawn ≡ no_frames s online
start_value s online boot managed aside withdrawn a b c d ea eb ec ed =
    let value : List ℕ → List ℕ → List ℕ → FreeFrames = λ free kept blocks. record { sizes = s; online = online; free = free; aside = kept; withdrawn = blocks } in
    ap (λ (xs : List ℕ). value xs (numbers_where (flag aside) (frame_count s)) (numbers_where (flag withdrawn) s.managed)) (numbers_where-none (is_free s boot.free managed.free) (frame_count s) none_free)
    ∙ ap (λ (xs : List ℕ). value [] xs (numbers_where (flag withdrawn) s.managed)) (numbers_where-none (flag aside) (frame_count s) (λ k. ap (λ (f : List Bool). flag f k) ec ∙ flag-none c k))
    ∙ ap (λ (xs : List ℕ). value [] [] xs) (numbers_where-none (flag withdrawn) s.managed (λ k. ap (λ (f : List Bool). flag f k) ed ∙ flag-none d k))
  where
    same : (t x y : Bool) → x ≡ false → y ≡ false → cond t x y ≡ false
    same true x y e f = e
    same false x y e f = f

    none_free : (k : ℕ) → is_free s boot.free managed.free k ≡ false
    none_free k = same _ (flag boot.free k) (flag managed.free (k - s.boot * s.block)) (ap (λ (f : List Bool). flag f k) ea ∙ flag-none a k) (ap (λ (f : List Bool). flag f (k - s.boot * s.block)) eb ∙ flag-none b (k - s.boot * s.block))

-- a run's frames are all the machine's
pub run_inside : (s : Sizes) (order first top : ℕ) → RunFacts s order first → s.block ≡ 2 ^ top → first + 2 ^ order ≤ frame_count s
run_inside s order first top f e =
    elim (cases_lt first (s.boot * s.block)) [
      | inl low ↦ omega (arith, run_in_boot s order first top f e low, frames_split s)
      | inr high ↦ omega (arith, run_in_managed s order first top f e high, frames_split s, high)
    ]

-- flags of a range set to one value
pub flags_set : (first m : ℕ) (b : Bool) (flags : List Bool) (k : ℕ) → first + m ≤ length flags → flag (replaced first m (replicate m b) flags) k ≡ cond (is_between first (first + m) k) b (flag flags k)
flags_set first m b flags k h =
    flag-replaced first m (replicate m b) flags k h (length-replicate m b)
    ∙ cond_agree (is_between first (first + m) k) (flag (replicate m b) (k - first)) b (flag flags k)
    (λ y. let r = between_facts first (first + m) k y in flag-replicate m b (k - first) (omega (arith, r.from, r.below)))

-- the four cases of a frame given or not, in a withdrawn block or not
pub adds_nothing : (b t i : Bool) → (t ≡ true → i ≡ false) → b ≡ (b || (t && i))
adds_nothing true t i h = refl
adds_nothing false true i h = sym (h refl)
adds_nothing false false i h = refl

pub adds_given : (b t i : Bool) → (t ≡ true → i ≡ true) → cond t true b ≡ (b || (t && i))
adds_given true true i h = refl
adds_given true false i h = refl
adds_given false true i h = sym (h refl)
adds_given false false i h = refl

-- the frames of a run are all of one block
pub in_same : (s : Sizes) (withdrawn : List Bool) (order first top k : ℕ) (x : Bool) → RunFacts s order first → s.block ≡ 2 ^ top → is_put_aside s withdrawn first ≡ x → is_between first (first + 2 ^ order) k ≡ true → is_put_aside s withdrawn k ≡ x
in_same s withdrawn order first top k x f e is y =
    let r = between_facts first (first + 2 ^ order) k y in put_aside-run s withdrawn order first top k f e r.from r.below ∙ is

-- frames of a withdrawn block are given
pub given_kept : (s : Sizes) (boot managed : Part) (aside withdrawn now : List Bool) (order first : ℕ) → IsKept s boot managed aside withdrawn → RunFacts s order first → is_put_aside s withdrawn first ≡ true → now ≡ replaced first (2 ^ order) (replicate (2 ^ order) true) aside → IsKept s boot managed now withdrawn
given_kept s boot managed aside withdrawn now order first h f is e =
    let inside : first + 2 ^ order ≤ length aside = omega (arith, run_inside s order first boot.top f h.boot_part.block, h.aside_length) in
    subst (λ (xs : List Bool). IsKept s boot managed xs withdrawn) (sym e)
    (record {
      within = h.within;
      boot_part = h.boot_part;
      managed_part = h.managed_part;
      aside_length = length-replaced first (2 ^ order) (replicate (2 ^ order) true) aside inside (length-replicate (2 ^ order) true) ∙ h.aside_length;
      withdrawn_length = h.withdrawn_length;
      none_free = h.none_free;
      all_withdrawn = λ k y. elim (cases_Bool (is_between first (first + 2 ^ order) k)) [
        | inl t ↦ in_same s withdrawn order first boot.top k true f h.boot_part.block is t
        | inr n0 ↦ h.all_withdrawn k (sym (cond-false (is_between first (first + 2 ^ order) k) true (flag aside k) n0) ∙ sym (flags_set first (2 ^ order) true aside k inside) ∙ y)
      ];
    })

pub given_aside : (s : Sizes) (online : Kind) (boot managed : Part) (aside withdrawn now : List Bool) (old : FreeFrames) (order first : ℕ) → IsKept s boot managed aside withdrawn → frames_of s online boot managed aside withdrawn ≡ old → RunFacts s order first → is_put_aside s withdrawn first ≡ true → now ≡ replaced first (2 ^ order) (replicate (2 ^ order) true) aside → frames_of s online boot managed now withdrawn ≡ with_frames (is_between first (first + 2 ^ order)) old
given_aside s online boot managed aside withdrawn now old order first h view f is e =
    let inside : first + 2 ^ order ≤ length aside = omega (arith, run_inside s order first boot.top f h.boot_part.block, h.aside_length) in
    let given = is_between first (first + 2 ^ order) in
    let old_free = numbers_where (is_free s boot.free managed.free) (frame_count s) in
    let old_aside = numbers_where (flag aside) (frame_count s) in
    let blocks = numbers_where (flag withdrawn) s.managed in
    let value : List ℕ → List ℕ → FreeFrames = λ free kept. record { sizes = s; online = online; free = free; aside = kept; withdrawn = numbers_where (flag withdrawn) s.managed } in
    ap (λ (xs : List ℕ). value xs (numbers_where (flag now) (frame_count s)))
    (numbers_agree (is_free s boot.free managed.free) (λ k. is_in k (numbers_where (is_free s boot.free managed.free) (frame_count s)) || (is_between first (first + 2 ^ order) k && not (is_frame_in s (numbers_where (flag withdrawn) s.managed) k))) (frame_count s)
    (λ k l. sym (is_in-numbers_where (is_free s boot.free managed.free) (frame_count s) k l)
    ∙ adds_nothing (is_in k (numbers_where (is_free s boot.free managed.free) (frame_count s))) (is_between first (first + 2 ^ order) k) (not (is_frame_in s (numbers_where (flag withdrawn) s.managed) k))
    (λ y. ap not (frame_in s withdrawn k (block_some s h.within) h.withdrawn_length ∙ in_same s withdrawn order first boot.top k true f h.boot_part.block is y))))
    ∙ ap (λ (xs : List ℕ). value (numbers_where (λ k. is_in k (numbers_where (is_free s boot.free managed.free) (frame_count s)) || (is_between first (first + 2 ^ order) k && not (is_frame_in s (numbers_where (flag withdrawn) s.managed) k))) (frame_count s)) xs)
    (numbers_agree (flag now) (λ k. is_in k (numbers_where (flag aside) (frame_count s)) || (is_between first (first + 2 ^ order) k && is_frame_in s (numbers_where (flag withdrawn) s.managed) k)) (frame_count s)
    (λ k l. ap (λ (xs : List Bool). flag xs k) e ∙ flags_set first (2 ^ order) true aside k inside
    ∙ ap (λ (b : Bool). cond (is_between first (first + 2 ^ order) k) true b) (sym (is_in-numbers_where (flag aside) (frame_count s) k l))
    ∙ adds_given (is_in k (numbers_where (flag aside) (frame_count s))) (is_between first (first + 2 ^ order) k) (is_frame_in s (numbers_where (flag withdrawn) s.managed) k)
    (λ y. frame_in s withdrawn k (block_some s h.within) h.withdrawn_length ∙ in_same s withdrawn order first boot.top k true f h.boot_part.block is y)))
    ∙ ap (with_frames (is_between first (first + 2 ^ order))) view

-- frames of other blocks are given
pub given_free : (old : FreeFrames) (first n : ℕ) → AreApart old → ((k : ℕ) → is_between first (first + n) k ≡ true → is_frame_in old.sizes old.withdrawn k ≡ false) → set_frames first n true old ≡ with_frames (is_between first (first + n)) old
given_free old first n a out =
    ap (λ (xs : List ℕ). record old { free = xs })
    (numbers_agree (λ k. cond (is_between first (first + n) k) true (is_in k old.free)) (λ k. is_in k old.free || (is_between first (first + n) k && not (is_frame_in old.sizes old.withdrawn k))) (frame_count old.sizes)
    (λ k l. adds_given (is_in k old.free) (is_between first (first + n) k) (not (is_frame_in old.sizes old.withdrawn k)) (λ y. ap not (out k y))))
    ∙ ap (λ (xs : List ℕ). record old { free = numbers_where (λ k. is_in k old.free || (is_between first (first + n) k && not (is_frame_in old.sizes old.withdrawn k))) (frame_count old.sizes); aside = xs })
    (a.aside ∙ numbers_agree (λ k. is_in k old.aside) (λ k. is_in k old.aside || (is_between first (first + n) k && is_frame_in old.sizes old.withdrawn k)) (frame_count old.sizes)
    (λ k l. adds_nothing (is_in k old.aside) (is_between first (first + n) k) (is_frame_in old.sizes old.withdrawn k) (out k)))
