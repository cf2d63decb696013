-- What the runs are once a block is withdrawn or restored.
use Rattle.std.proofs.Common.{◌≡◌, ℕ, ◌+◌, ◌-◌, ◌*◌, ◌<◌, ◌≤◌, Bool, true, false, cond, eqb, ◌&&◌, ◌||◌, not, List, length, take, drop, replicate, refl, sym, ap, ◌∙◌, subst, arith, inl, inr, length-set}
use Rattle.std.specs.List.{range_with_len}
use Rattle.std.proofs.Math.ListN.{set}
use Rattle.std.proofs.lemmas.Bool.{cases_Bool, cond-true, both_ways}
use Rattle.std.proofs.lemmas.List.{length-replicate, length-take-le, length-drop, set-get_or}
use Rattle.evac_model.specs.declared.names.Kind.{Kind}
use Rattle.evac_model.specs.Geometry.{Sizes, frame_count}
use Rattle.evac_model.specs.Numbers.{numbers_where, is_in, is_between}
use Rattle.evac_model.specs.SpaceJournal.{is_frame_of, with_block, without_block}
use Rattle.evac_model.proofs.Numbers.{numbers_agree, is_in-numbers_where}
use Rattle.buddy.specs.FreeFrames.{FreeFrames, with_withdrawn, with_restored}
use Rattle.buddy.specs.Parts.{Part, replaced}
use Rattle.buddy.specs.RunsInside.{flag, is_free, is_put_aside, frames_of, HasRoomFor, IsKept}
use Rattle.buddy.proofs.Flags.{length-replaced}
use Rattle.buddy.proofs.Places.{block_within, frames_split}
use Rattle.buddy.proofs.FrameFlags.{between_facts, cond_agree, flag-replaced, flag-none, flag-run, flag-set, free_in_managed, room_with, managed_with, frames_of_block, put_aside-set}
use Rattle.buddy.proofs.Giving.{flags_set}
use Rattle.evac_model.proofs.Bounds.{block_some}
use Rattle.evac_model.proofs.Filters.{filter-filter}

-- a managed block's frames are a range
block_range : (s : Sizes) (b m k : ℕ) → s.block ≡ m → is_between (s.boot * s.block + b * s.block) (s.boot * s.block + b * s.block + m) k ≡ is_frame_of s b k
block_range s b m k e =
    ap (λ (n : ℕ). is_between (s.boot * s.block + b * s.block) (s.boot * s.block + b * s.block + n) k) (sym e) ∙ sym (frames_of_block s b k)

-- the frames of the boot blocks, by what the runs are seen as
pub boot_of : {u v : FreeFrames} {n : ℕ} → u ≡ v → n ≡ v.sizes.boot * v.sizes.block → n ≡ u.sizes.boot * u.sizes.block
boot_of e h = h ∙ sym (ap (λ (v : FreeFrames). v.sizes.boot * v.sizes.block) e)

-- where the block lies among the managed blocks' frames, and among all
pub block_in_managed : (s : Sizes) (b m : ℕ) → b < s.managed → s.block ≡ m → b * s.block + m ≤ s.managed * s.block
block_in_managed s b m h e = omega (arith, block_within s.managed b s.block h, e)

pub block_in_all : (s : Sizes) (b m : ℕ) → b < s.managed → s.block ≡ m → s.boot * s.block + b * s.block + m ≤ frame_count s
block_in_all s b m h e = omega (arith, block_in_managed s b m h e, frames_split s)

-- a block's frames are put aside exactly where its flag is set
block_flag : (s : Sizes) (withdrawn : List Bool) (b k : ℕ) → 0 < s.block → b < length withdrawn → is_frame_of s b k ≡ true → is_put_aside s withdrawn k ≡ flag withdrawn b
block_flag s withdrawn b k some h y =
    ap (λ (w : List Bool). is_put_aside s w k) (sym (set-get_or withdrawn b false)) ∙ put_aside-set s withdrawn b (flag withdrawn b) k some h
    ∙ cond-true (is_frame_of s b k) (flag withdrawn b) (is_put_aside s withdrawn k) y

-- the trees and the flags afterwards, by frames; the frames of the block are as `free` and `kept` say, and
-- others stay
pub record AreMoved (s : Sizes) (boot managed managed' : Part) (aside aside' : List Bool) (b : ℕ) (free kept : ℕ → Bool) : Type 0 where
  pub room : HasRoomFor s (s.managed * s.block) managed'
  pub places : length aside' ≡ frame_count s
  pub free_frames : (k : ℕ) → is_free s boot.free managed'.free k ≡ cond (is_frame_of s b k) (free k) (is_free s boot.free managed.free k)
  pub kept_frames : (k : ℕ) → flag aside' k ≡ cond (is_frame_of s b k) (kept k) (flag aside k)

pub moved_aside : (s : Sizes) (boot managed managed' : Part) (aside aside' withdrawn : List Bool) (b m : ℕ) → IsKept s boot managed aside withdrawn → b < s.managed → s.block ≡ m → managed' ≡ record managed { free = replaced (b * s.block) m (replicate m false) managed.free } → aside' ≡ replaced (s.boot * s.block + b * s.block) m (take m (drop (b * s.block) managed.free)) aside → AreMoved s boot managed managed' aside aside' b (λ k. false) (is_free s boot.free managed.free)
moved_aside s boot managed managed' aside aside' withdrawn b m h l e em ea =
    let inside = block_in_managed s b m l e in
    let room : b * s.block + m ≤ length managed.free = omega (arith, inside, h.managed_part.room, h.managed_part.places) in
    let within : s.boot * s.block + b * s.block + m ≤ length aside = omega (arith, block_in_all s b m l e, h.aside_length) in
    let run : length (take m (drop (b * s.block) managed.free)) ≡ m = length-take-le m (drop (b * s.block) managed.free) (omega (arith, length-drop (b * s.block) managed.free, room)) in
    subst (λ (p : Part). AreMoved s boot managed p aside aside' b (λ k. false) (is_free s boot.free managed.free)) (sym em)
    (subst (λ (xs : List Bool). AreMoved s boot managed (record managed { free = replaced (b * s.block) m (replicate m false) managed.free }) aside xs b (λ k. false) (is_free s boot.free managed.free)) (sym ea)
    (record {
      room = room_with s (s.managed * s.block) managed (b * s.block) m (replicate m false) h.managed_part inside (length-replicate m false);
      places = length-replaced (s.boot * s.block + b * s.block) m (take m (drop (b * s.block) managed.free)) aside within run ∙ h.aside_length;
      free_frames = λ k. managed_with s boot.free managed.free (b * s.block) m (replicate m false) k room (length-replicate m false)
          ∙ cond_agree (is_between (s.boot * s.block + b * s.block) (s.boot * s.block + b * s.block + m) k) (flag (replicate m false) (k - (s.boot * s.block + b * s.block))) false (is_free s boot.free managed.free k) (λ y. flag-none m (k - (s.boot * s.block + b * s.block)))
          ∙ ap (λ (t : Bool). cond t false (is_free s boot.free managed.free k)) (block_range s b m k e);
      kept_frames = λ k. flag-replaced (s.boot * s.block + b * s.block) m (take m (drop (b * s.block) managed.free)) aside k within run
          ∙ cond_agree (is_between (s.boot * s.block + b * s.block) (s.boot * s.block + b * s.block + m) k) (flag (take m (drop (b * s.block) managed.free)) (k - (s.boot * s.block + b * s.block))) (is_free s boot.free managed.free k) (flag aside k)
          (λ y. let r = between_facts (s.boot * s.block + b * s.block) (s.boot * s.block + b * s.block + m) k y in
          ap (λ (n : ℕ). flag (take m (drop (b * s.block) managed.free)) n) (nested (s.boot * s.block) (b * s.block) k)
          ∙ flag-run (b * s.block) m managed.free (k - s.boot * s.block) (omega (arith, r.from)) (omega (arith, r.below, r.from))
          ∙ sym (free_in_managed s boot.free managed.free k (omega (arith, r.from))))
          ∙ ap (λ (t : Bool). cond t (is_free s boot.free managed.free k) (flag aside k)) (block_range s b m k e);
    }))
  where
    nested : (x y k : ℕ) → k - (x + y) ≡ k - x - y
    nested x y k = omega arith

pub moved_back : (s : Sizes) (boot managed managed' : Part) (aside aside' withdrawn : List Bool) (b m : ℕ) → IsKept s boot managed aside withdrawn → b < s.managed → s.block ≡ m → managed' ≡ record managed { free = replaced (b * s.block) m (take m (drop (s.boot * s.block + b * s.block) aside)) managed.free } → aside' ≡ replaced (s.boot * s.block + b * s.block) m (replicate m false) aside → AreMoved s boot managed managed' aside aside' b (flag aside) (λ k. false)
moved_back s boot managed managed' aside aside' withdrawn b m h l e em ea =
    let inside = block_in_managed s b m l e in
    let room : b * s.block + m ≤ length managed.free = omega (arith, inside, h.managed_part.room, h.managed_part.places) in
    let within : s.boot * s.block + b * s.block + m ≤ length aside = omega (arith, block_in_all s b m l e, h.aside_length) in
    let run : length (take m (drop (s.boot * s.block + b * s.block) aside)) ≡ m = length-take-le m (drop (s.boot * s.block + b * s.block) aside) (omega (arith, length-drop (s.boot * s.block + b * s.block) aside, within)) in
    subst (λ (p : Part). AreMoved s boot managed p aside aside' b (flag aside) (λ k. false)) (sym em)
    (subst (λ (xs : List Bool). AreMoved s boot managed (record managed { free = replaced (b * s.block) m (take m (drop (s.boot * s.block + b * s.block) aside)) managed.free }) aside xs b (flag aside) (λ k. false)) (sym ea)
    (record {
      room = room_with s (s.managed * s.block) managed (b * s.block) m (take m (drop (s.boot * s.block + b * s.block) aside)) h.managed_part inside run;
      places = length-replaced (s.boot * s.block + b * s.block) m (replicate m false) aside within (length-replicate m false) ∙ h.aside_length;
      free_frames = λ k. managed_with s boot.free managed.free (b * s.block) m (take m (drop (s.boot * s.block + b * s.block) aside)) k room run
          ∙ cond_agree (is_between (s.boot * s.block + b * s.block) (s.boot * s.block + b * s.block + m) k) (flag (take m (drop (s.boot * s.block + b * s.block) aside)) (k - (s.boot * s.block + b * s.block))) (flag aside k) (is_free s boot.free managed.free k)
          (λ y. let r = between_facts (s.boot * s.block + b * s.block) (s.boot * s.block + b * s.block + m) k y in flag-run (s.boot * s.block + b * s.block) m aside k r.from r.below)
          ∙ ap (λ (t : Bool). cond t (flag aside k) (is_free s boot.free managed.free k)) (block_range s b m k e);
      kept_frames = λ k. flags_set (s.boot * s.block + b * s.block) m false aside k within
          ∙ ap (λ (t : Bool). cond t false (flag aside k)) (block_range s b m k e);
    }))

-- what is kept, afterwards
none_left : (t x f p : Bool) → (f ≡ true → p ≡ false) → cond t false f ≡ true → cond t x p ≡ false
none_left true x f p h y = absurd (both_ways false refl y)
none_left false x f p h y = h y

pub aside_kept : (s : Sizes) (boot managed managed' : Part) (aside aside' withdrawn : List Bool) (b : ℕ) → IsKept s boot managed aside withdrawn → b < s.managed → AreMoved s boot managed managed' aside aside' b (λ k. false) (is_free s boot.free managed.free) → IsKept s boot managed' aside' (set withdrawn b true)
aside_kept s boot managed managed' aside aside' withdrawn b h l a =
    let some = block_some s h.within in
    let inside : b < length withdrawn = omega (arith, l, h.withdrawn_length) in
    record {
      within = h.within;
      boot_part = h.boot_part;
      managed_part = a.room;
      aside_length = a.places;
      withdrawn_length = length-set withdrawn b true ∙ h.withdrawn_length;
      none_free = λ k y. put_aside-set s withdrawn b true k some inside ∙ none_left (is_frame_of s b k) true (is_free s boot.free managed.free k) (is_put_aside s withdrawn k) (h.none_free k) (sym (a.free_frames k) ∙ y);
      all_withdrawn = λ k y. put_aside-set s withdrawn b true k some inside ∙ all_there (is_frame_of s b k) (is_free s boot.free managed.free k) (flag aside k) (is_put_aside s withdrawn k) (h.all_withdrawn k) (sym (a.kept_frames k) ∙ y);
    }
  where
    all_there : (t f a p : Bool) → (a ≡ true → p ≡ true) → cond t f a ≡ true → cond t true p ≡ true
    all_there true f a p h y = refl
    all_there false f a p h y = h y

pub back_kept : (s : Sizes) (boot managed managed' : Part) (aside aside' withdrawn : List Bool) (b : ℕ) → IsKept s boot managed aside withdrawn → b < s.managed → AreMoved s boot managed managed' aside aside' b (flag aside) (λ k. false) → IsKept s boot managed' aside' (set withdrawn b false)
back_kept s boot managed managed' aside aside' withdrawn b h l a =
    let some = block_some s h.within in
    let inside : b < length withdrawn = omega (arith, l, h.withdrawn_length) in
    record {
      within = h.within;
      boot_part = h.boot_part;
      managed_part = a.room;
      aside_length = a.places;
      withdrawn_length = length-set withdrawn b false ∙ h.withdrawn_length;
      none_free = λ k y. put_aside-set s withdrawn b false k some inside ∙ none_there (is_frame_of s b k) (flag aside k) (is_free s boot.free managed.free k) (is_put_aside s withdrawn k) (h.none_free k) (sym (a.free_frames k) ∙ y);
      all_withdrawn = λ k y. put_aside-set s withdrawn b false k some inside ∙ all_left (is_frame_of s b k) (flag aside k) (is_put_aside s withdrawn k) (h.all_withdrawn k) (sym (a.kept_frames k) ∙ y);
    }
  where
    none_there : (t a f p : Bool) → (f ≡ true → p ≡ false) → cond t a f ≡ true → cond t false p ≡ false
    none_there true a f p h y = refl
    none_there false a f p h y = h y

    all_left : (t a p : Bool) → (a ≡ true → p ≡ true) → cond t false a ≡ true → cond t false p ≡ true
    all_left true a p h y = absurd (both_ways false refl y)
    all_left false a p h y = h y

-- the cases of a frame
pub without : (t f : Bool) → cond t false f ≡ (f && not t)
without true true = refl
without true false = refl
without false true = refl
without false false = refl

with_moved : (t f a : Bool) → (t ≡ true → a ≡ false) → cond t f a ≡ (a || (f && t))
with_moved true true true h = refl
with_moved true true false h = refl
with_moved true false true h = sym (h refl)
with_moved true false false h = refl
with_moved false f true h = refl
with_moved false true false h = refl
with_moved false false false h = refl

with_one : (t x : Bool) → cond t true x ≡ (x || t)
with_one true true = refl
with_one true false = refl
with_one false true = refl
with_one false false = refl

-- a frame of a block that isn't withdrawn is not kept aside, and one of a withdrawn block isn't free
none_aside : (s : Sizes) (boot managed : Part) (aside withdrawn : List Bool) (b k : ℕ) → IsKept s boot managed aside withdrawn → b < s.managed → flag withdrawn b ≡ false → is_frame_of s b k ≡ true → flag aside k ≡ false
none_aside s boot managed aside withdrawn b k h l n y =
    elim (cases_Bool (flag aside k)) [
      | inl t ↦ absurd (both_ways (is_put_aside s withdrawn k) (block_flag s withdrawn b k (block_some s h.within) (omega (arith, l, h.withdrawn_length)) y ∙ n) (h.all_withdrawn k t))
      | inr f ↦ f
    ]

none_free_there : (s : Sizes) (boot managed : Part) (aside withdrawn : List Bool) (b k : ℕ) → IsKept s boot managed aside withdrawn → b < s.managed → flag withdrawn b ≡ true → is_frame_of s b k ≡ true → is_free s boot.free managed.free k ≡ false
none_free_there s boot managed aside withdrawn b k h l n y =
    elim (cases_Bool (is_free s boot.free managed.free k)) [
      | inl t ↦ absurd (both_ways (is_put_aside s withdrawn k) (h.none_free k t) (block_flag s withdrawn b k (block_some s h.within) (omega (arith, l, h.withdrawn_length)) y ∙ n))
      | inr f ↦ f
    ]

pub aside_value : (s : Sizes) (online : Kind) (boot managed managed' : Part) (aside aside' withdrawn : List Bool) (old : FreeFrames) (b : ℕ) → IsKept s boot managed aside withdrawn → frames_of s online boot managed aside withdrawn ≡ old → b < s.managed → flag withdrawn b ≡ false → AreMoved s boot managed managed' aside aside' b (λ k. false) (is_free s boot.free managed.free) → frames_of s online boot managed' aside' (set withdrawn b true) ≡ with_withdrawn b old
aside_value s online boot managed managed' aside aside' withdrawn old b h view l n a =
    let value : List ℕ → List ℕ → List ℕ → FreeFrames = λ free kept blocks. record { sizes = s; online = online; free = free; aside = kept; withdrawn = blocks } in
    let free_now : numbers_where (is_free s boot.free managed'.free) (frame_count s) ≡ numbers_where (λ k. is_in k (numbers_where (is_free s boot.free managed.free) (frame_count s)) && not (is_frame_of s b k)) (frame_count s) =
    numbers_agree (is_free s boot.free managed'.free) (λ k. is_in k (numbers_where (is_free s boot.free managed.free) (frame_count s)) && not (is_frame_of s b k)) (frame_count s)
    (λ k m. a.free_frames k ∙ without (is_frame_of s b k) (is_free s boot.free managed.free k) ∙ ap (λ (f : Bool). f && not (is_frame_of s b k)) (sym (is_in-numbers_where (is_free s boot.free managed.free) (frame_count s) k m))) in
    let aside_now : numbers_where (flag aside') (frame_count s) ≡ numbers_where (λ k. is_in k (numbers_where (flag aside) (frame_count s)) || (is_in k (numbers_where (is_free s boot.free managed.free) (frame_count s)) && is_frame_of s b k)) (frame_count s) =
    numbers_agree (flag aside') (λ k. is_in k (numbers_where (flag aside) (frame_count s)) || (is_in k (numbers_where (is_free s boot.free managed.free) (frame_count s)) && is_frame_of s b k)) (frame_count s)
    (λ k m. a.kept_frames k ∙ with_moved (is_frame_of s b k) (is_free s boot.free managed.free k) (flag aside k) (none_aside s boot managed aside withdrawn b k h l n)
    ∙ ap (λ (x : Bool). x || (is_free s boot.free managed.free k && is_frame_of s b k)) (sym (is_in-numbers_where (flag aside) (frame_count s) k m))
    ∙ ap (λ (x : Bool). is_in k (numbers_where (flag aside) (frame_count s)) || (x && is_frame_of s b k)) (sym (is_in-numbers_where (is_free s boot.free managed.free) (frame_count s) k m))) in
    let blocks_now : numbers_where (flag (set withdrawn b true)) s.managed ≡ with_block s b (numbers_where (flag withdrawn) s.managed) =
    numbers_agree (flag (set withdrawn b true)) (λ x. is_in x (numbers_where (flag withdrawn) s.managed) || eqb x b) s.managed
    (λ x m. flag-set withdrawn b true x (omega (arith, l, h.withdrawn_length)) ∙ with_one (eqb x b) (flag withdrawn x) ∙ ap (λ (y : Bool). y || eqb x b) (sym (is_in-numbers_where (flag withdrawn) s.managed x m))) in
    ap (λ (xs : List ℕ). value xs (numbers_where (flag aside') (frame_count s)) (numbers_where (flag (set withdrawn b true)) s.managed)) free_now
    ∙ ap (λ (xs : List ℕ). value (numbers_where (λ k. is_in k (numbers_where (is_free s boot.free managed.free) (frame_count s)) && not (is_frame_of s b k)) (frame_count s)) xs (numbers_where (flag (set withdrawn b true)) s.managed)) aside_now
    ∙ ap (λ (xs : List ℕ). value (numbers_where (λ k. is_in k (numbers_where (is_free s boot.free managed.free) (frame_count s)) && not (is_frame_of s b k)) (frame_count s)) (numbers_where (λ k. is_in k (numbers_where (flag aside) (frame_count s)) || (is_in k (numbers_where (is_free s boot.free managed.free) (frame_count s)) && is_frame_of s b k)) (frame_count s)) xs) blocks_now
    ∙ ap (with_withdrawn b) view

pub back_value : (s : Sizes) (online : Kind) (boot managed managed' : Part) (aside aside' withdrawn : List Bool) (old : FreeFrames) (b : ℕ) → IsKept s boot managed aside withdrawn → frames_of s online boot managed aside withdrawn ≡ old → b < s.managed → flag withdrawn b ≡ true → AreMoved s boot managed managed' aside aside' b (flag aside) (λ k. false) → frames_of s online boot managed' aside' (set withdrawn b false) ≡ with_restored b old
back_value s online boot managed managed' aside aside' withdrawn old b h view l n a =
    let value : List ℕ → List ℕ → List ℕ → FreeFrames = λ free kept blocks. record { sizes = s; online = online; free = free; aside = kept; withdrawn = blocks } in
    let free_now : numbers_where (is_free s boot.free managed'.free) (frame_count s) ≡ numbers_where (λ k. is_in k (numbers_where (is_free s boot.free managed.free) (frame_count s)) || (is_in k (numbers_where (flag aside) (frame_count s)) && is_frame_of s b k)) (frame_count s) =
    numbers_agree (is_free s boot.free managed'.free) (λ k. is_in k (numbers_where (is_free s boot.free managed.free) (frame_count s)) || (is_in k (numbers_where (flag aside) (frame_count s)) && is_frame_of s b k)) (frame_count s)
    (λ k m. a.free_frames k ∙ with_moved (is_frame_of s b k) (flag aside k) (is_free s boot.free managed.free k) (none_free_there s boot managed aside withdrawn b k h l n)
    ∙ ap (λ (x : Bool). x || (flag aside k && is_frame_of s b k)) (sym (is_in-numbers_where (is_free s boot.free managed.free) (frame_count s) k m))
    ∙ ap (λ (x : Bool). is_in k (numbers_where (is_free s boot.free managed.free) (frame_count s)) || (x && is_frame_of s b k)) (sym (is_in-numbers_where (flag aside) (frame_count s) k m))) in
    let aside_now : numbers_where (flag aside') (frame_count s) ≡ numbers_where (λ k. is_in k (numbers_where (flag aside) (frame_count s)) && not (is_frame_of s b k)) (frame_count s) =
    numbers_agree (flag aside') (λ k. is_in k (numbers_where (flag aside) (frame_count s)) && not (is_frame_of s b k)) (frame_count s)
    (λ k m. a.kept_frames k ∙ without (is_frame_of s b k) (flag aside k) ∙ ap (λ (f : Bool). f && not (is_frame_of s b k)) (sym (is_in-numbers_where (flag aside) (frame_count s) k m))) in
    let blocks_now : numbers_where (flag (set withdrawn b false)) s.managed ≡ without_block b (numbers_where (flag withdrawn) s.managed) =
    numbers_agree (flag (set withdrawn b false)) (λ x. flag withdrawn x && not (eqb x b)) s.managed
    (λ x m. flag-set withdrawn b false x (omega (arith, l, h.withdrawn_length)) ∙ without (eqb x b) (flag withdrawn x))
    ∙ sym (filter-filter (λ x. not (eqb x b)) (flag withdrawn) (range_with_len 0 s.managed)) in
    ap (λ (xs : List ℕ). value xs (numbers_where (flag aside') (frame_count s)) (numbers_where (flag (set withdrawn b false)) s.managed)) free_now
    ∙ ap (λ (xs : List ℕ). value (numbers_where (λ k. is_in k (numbers_where (is_free s boot.free managed.free) (frame_count s)) || (is_in k (numbers_where (flag aside) (frame_count s)) && is_frame_of s b k)) (frame_count s)) xs (numbers_where (flag (set withdrawn b false)) s.managed)) aside_now
    ∙ ap (λ (xs : List ℕ). value (numbers_where (λ k. is_in k (numbers_where (is_free s boot.free managed.free) (frame_count s)) || (is_in k (numbers_where (flag aside) (frame_count s)) && is_frame_of s b k)) (frame_count s)) (numbers_where (λ k. is_in k (numbers_where (flag aside) (frame_count s)) && not (is_frame_of s b k)) (frame_count s)) xs) blocks_now
    ∙ ap (with_restored b) view
