-- What the runs are once a run's frames are made free or taken.
use Rattle.std.proofs.Common.{◌≡◌, ℕ, ◌+◌, ◌-◌, ◌*◌, ◌^◌, ◌<◌, ◌≤◌, Bool, true, false, cond, List, length, replicate, sym, ap, ◌∙◌, subst, arith, inl, inr}
use Rattle.std.proofs.lemmas.Bool.{cases_Bool, cond-true, cond-false}
use Rattle.std.proofs.lemmas.List.{length-replicate}
use Rattle.evac_model.specs.declared.names.Kind.{Kind}
use Rattle.evac_model.specs.Geometry.{Sizes, frame_count}
use Rattle.evac_model.specs.Numbers.{numbers_where, is_in, is_between}
use Rattle.evac_model.specs.SpaceJournal.{is_frame_in}
use Rattle.evac_model.specs.FreeRuns.{is_run}
use Rattle.evac_model.proofs.Numbers.{numbers_agree, is_in-numbers_where}
use Rattle.buddy.specs.FreeFrames.{FreeFrames}
use Rattle.buddy.specs.Parts.{Part, replaced}
use Rattle.buddy.specs.RunsInside.{flag, is_free, is_put_aside, frames_of, HasRoomFor, IsKept}
use Rattle.buddy.proofs.Places.{RunFacts, run_facts, run_in_boot, run_in_managed}
use Rattle.buddy.proofs.FrameFlags.{between_facts, cond_agree, flag-replicate, room_with, boot_with, managed_with}
use Rattle.buddy.proofs.FrameValues.{frame_in, put_aside-run}
use Rattle.evac_model.proofs.Bounds.{block_some}

-- the value with a run's frames made free or taken
abbrev pub set_frames : (first n : ℕ) → Bool → FreeFrames → FreeFrames
set_frames first n free old =
    record old { free = numbers_where (λ frame. cond (is_between first (first + n) frame) free (is_in frame old.free)) (frame_count old.sizes) }

-- a run of the machine that the runs are of
pub facts_inside : (s : Sizes) (online : Kind) (boot managed : Part) (aside withdrawn : List Bool) (old : FreeFrames) (order first : ℕ) → frames_of s online boot managed aside withdrawn ≡ old → is_run old.sizes order first ≡ true → RunFacts s order first
facts_inside s online boot managed aside withdrawn old order first view e =
    run_facts s order first (subst (λ (v : FreeFrames). is_run v.sizes order first ≡ true) (sym view) e)

pub put_aside_inside : (s : Sizes) (online : Kind) (boot managed : Part) (aside withdrawn : List Bool) (old : FreeFrames) (frame : ℕ) (x : Bool) → IsKept s boot managed aside withdrawn → frames_of s online boot managed aside withdrawn ≡ old → is_frame_in old.sizes old.withdrawn frame ≡ x → is_put_aside s withdrawn frame ≡ x
put_aside_inside s online boot managed aside withdrawn old frame x h view e =
    sym (frame_in s withdrawn frame (block_some s h.within) h.withdrawn_length) ∙ subst (λ (v : FreeFrames). is_frame_in v.sizes v.withdrawn frame ≡ x) (sym view) e

-- the trees afterwards, by the frames that are free
pub record AreSet (s : Sizes) (boot managed boot' managed' : Part) (first n : ℕ) (free : Bool) : Type 0 where
  pub boot_room : HasRoomFor s (s.boot * s.block) boot'
  pub managed_room : HasRoomFor s (s.managed * s.block) managed'
  pub frames : (k : ℕ) → is_free s boot'.free managed'.free k ≡ cond (is_between first (first + n) k) free (is_free s boot.free managed.free k)

pub set_value : (s : Sizes) (online : Kind) (boot managed boot' managed' : Part) (aside withdrawn : List Bool) (old : FreeFrames) (first n : ℕ) (free : Bool) → frames_of s online boot managed aside withdrawn ≡ old → AreSet s boot managed boot' managed' first n free → frames_of s online boot' managed' aside withdrawn ≡ set_frames first n free old
set_value s online boot managed boot' managed' aside withdrawn old first n free view a =
    ap (λ (xs : List ℕ). record (frames_of s online boot managed aside withdrawn) { free = xs })
    (numbers_agree (is_free s boot'.free managed'.free) (λ k. cond (is_between first (first + n) k) free (is_in k (numbers_where (is_free s boot.free managed.free) (frame_count s)))) (frame_count s)
    (λ k h. a.frames k ∙ ap (λ (b : Bool). cond (is_between first (first + n) k) free b) (sym (is_in-numbers_where (is_free s boot.free managed.free) (frame_count s) k h))))
    ∙ ap (set_frames first n free) view

pub set_kept : (s : Sizes) (boot managed boot' managed' : Part) (aside withdrawn : List Bool) (order first : ℕ) (free : Bool) → IsKept s boot managed aside withdrawn → RunFacts s order first → (free ≡ true → is_put_aside s withdrawn first ≡ false) → AreSet s boot managed boot' managed' first (2 ^ order) free → IsKept s boot' managed' aside withdrawn
set_kept s boot managed boot' managed' aside withdrawn order first free h f present a = record {
  within = h.within;
  boot_part = a.boot_room;
  managed_part = a.managed_room;
  aside_length = h.aside_length;
  withdrawn_length = h.withdrawn_length;
  none_free = λ k e. elim (cases_Bool (is_between first (first + 2 ^ order) k)) [
    | inl y ↦
        let b = between_facts first (first + 2 ^ order) k y in
        put_aside-run s withdrawn order first boot.top k f h.boot_part.block b.from b.below
        ∙ present (sym (cond-true (is_between first (first + 2 ^ order) k) free (is_free s boot.free managed.free k) y) ∙ sym (a.frames k) ∙ e)
    | inr n0 ↦ h.none_free k (sym (cond-false (is_between first (first + 2 ^ order) k) free (is_free s boot.free managed.free k) n0) ∙ sym (a.frames k) ∙ e)
  ];
  all_withdrawn = h.all_withdrawn;
}

-- a run of boot blocks, and one of managed blocks
pub set_boot : (s : Sizes) (boot managed boot' : Part) (aside withdrawn : List Bool) (order first : ℕ) (free : Bool) → IsKept s boot managed aside withdrawn → RunFacts s order first → first < s.boot * s.block → boot' ≡ record boot { free = replaced first (2 ^ order) (replicate (2 ^ order) free) boot.free } → AreSet s boot managed boot' managed first (2 ^ order) free
set_boot s boot managed boot' aside withdrawn order first free h f low e =
    let inside = run_in_boot s order first boot.top f h.boot_part.block low in
    let room : first + 2 ^ order ≤ length boot.free = omega (arith, inside, h.boot_part.room, h.boot_part.places) in
    let len = length-replicate (2 ^ order) free in
    subst (λ (p : Part). AreSet s boot managed p managed first (2 ^ order) free) (sym e)
    (record {
      boot_room = room_with s (s.boot * s.block) boot first (2 ^ order) (replicate (2 ^ order) free) h.boot_part inside len;
      managed_room = h.managed_part;
      frames = λ k. boot_with s boot.free managed.free first (2 ^ order) (replicate (2 ^ order) free) k inside room len
          ∙ cond_agree (is_between first (first + 2 ^ order) k) (flag (replicate (2 ^ order) free) (k - first)) free (is_free s boot.free managed.free k)
          (λ y. let b = between_facts first (first + 2 ^ order) k y in flag-replicate (2 ^ order) free (k - first) (omega (arith, b.from, b.below)));
    })

pub set_managed : (s : Sizes) (boot managed managed' : Part) (aside withdrawn : List Bool) (order first : ℕ) (free : Bool) → IsKept s boot managed aside withdrawn → RunFacts s order first → s.boot * s.block ≤ first → managed' ≡ record managed { free = replaced (first - s.boot * s.block) (2 ^ order) (replicate (2 ^ order) free) managed.free } → AreSet s boot managed boot managed' first (2 ^ order) free
set_managed s boot managed managed' aside withdrawn order first free h f high e =
    let inside = run_in_managed s order first managed.top f h.managed_part.block high in
    let room : first - s.boot * s.block + 2 ^ order ≤ length managed.free = omega (arith, inside, h.managed_part.room, h.managed_part.places) in
    let len = length-replicate (2 ^ order) free in
    let place : s.boot * s.block + (first - s.boot * s.block) ≡ first = omega (arith, high) in
    subst (λ (p : Part). AreSet s boot managed boot p first (2 ^ order) free) (sym e)
    (record {
      boot_room = h.boot_part;
      managed_room = room_with s (s.managed * s.block) managed (first - s.boot * s.block) (2 ^ order) (replicate (2 ^ order) free) h.managed_part inside len;
      frames = λ k. managed_with s boot.free managed.free (first - s.boot * s.block) (2 ^ order) (replicate (2 ^ order) free) k room len
          ∙ ap (λ (n : ℕ). cond (is_between n (n + 2 ^ order) k) (flag (replicate (2 ^ order) free) (k - n)) (is_free s boot.free managed.free k)) place
          ∙ cond_agree (is_between first (first + 2 ^ order) k) (flag (replicate (2 ^ order) free) (k - first)) free (is_free s boot.free managed.free k)
          (λ y. let b = between_facts first (first + 2 ^ order) k y in flag-replicate (2 ^ order) free (k - first) (omega (arith, b.from, b.below)));
    })

pub put_aside_now : (s : Sizes) (online : Kind) (boot managed : Part) (aside withdrawn : List Bool) (old : FreeFrames) (frame : ℕ) → IsKept s boot managed aside withdrawn → frames_of s online boot managed aside withdrawn ≡ old → is_put_aside s withdrawn frame ≡ is_frame_in old.sizes old.withdrawn frame
put_aside_now s online boot managed aside withdrawn old frame h view =
    sym (frame_in s withdrawn frame (block_some s h.within) h.withdrawn_length) ∙ ap (λ (v : FreeFrames). is_frame_in v.sizes v.withdrawn frame) view
