-- The release of a call is allowed: whatever page was taken, the call answers this reply, and leaves the
-- page as its holder leaves it.
use Rattle.std.proofs.Common.{◌≡◌, ◌≢◌, ℕ, eq-eqb, ne_eqb, ◌<◌, ◌≤◌, ◌==◌, ◌&&◌, Bool, true, false, List, [], length, bit_or, refl, sym, ap, ◌∙◌, subst, arith, Option, Some, None, if◌then◌else◌}
use mathlib.Core.Logic.{dite}
use native.Mathlib.Decide.{ℕ_discrete}
use Rattle.evac_model.specs.declared.names.FrameNo.{FrameNo}
use Rattle.evac_model.specs.declared.names.Kind.{Kind}
use Rattle.evac_model.specs.declared.names.PageNo.{PageNo}
use Rattle.evac_model.specs.declared.call.Call.{Call}
use Rattle.evac_model.specs.declared.call.Call.TheVariants.{Alloc, Free, Read, Write, Add, Pin, Unpin}
use Rattle.evac_model.specs.declared.reply.Reply.{Reply}
use Rattle.evac_model.specs.declared.reply.Reply.TheVariants.{Done, Pinned}
use Rattle.evac_model.specs.Geometry.{Sizes}
use Rattle.evac_model.specs.Page.{Page, zeros}
use Rattle.evac_words.specs.Word.{taken_bit, moving_bit, mapped_bit, pins_of, bound_of}
use Rattle.core_state.specs.declared.held.Change.{Change}
use Rattle.core_state.specs.declared.held.Change.TheVariants.{Kept, Mapped, Unmapped}
use Rattle.core_state.specs.declared.held.Held.{Held}
use Rattle.core_state.specs.declared.opening.Opening.{Opening}
use Rattle.core_state.specs.Words.{unmovable_for, packed, mapped_word, unmapped_word}
use Rattle.core_state.specs.Pages.{answer_at, page_cells, mapped_as, Agrees, CouldBe, left_as, with_pins}
use Rattle.core_state.specs.Steps.{MayEnd, nothing_known, pins_after}
use Rattle.core_state.proofs.EntryWords.{unmovable_for-fits, same_flags-take}
use Rattle.core_actors.specs.declared.action.LeaseSeen.{LeaseSeen}
use Rattle.core_actors.specs.declared.action.LeaseSeen.TheVariants.{NotAsked, Got, Refused}
use Rattle.core_actors.specs.CallSteps.{IsCallOf, first_cell, load_count, values_of, is_freed, reply_of}
use Rattle.core_actors.specs.Counts.{IsLeaseOf}
use Rattle.core_actors.specs.Fits.{mapped_to, change_by, word_with, page_done, known_from, IsHeldAs}
use Rattle.core_actors.proofs.Cases.{same_either}
use Rattle.core_actors.proofs.Known.{known_from-none, patched_by_nothing}
use Rattle.core_actors.proofs.Answering.{reply-mapped, reply-unmapped, KeepsMapped, KeepsUnmapped, pins_few, pins-unmapped, answers-mapped, answers-unmapped}

-- ---- the mapping is as it was

module _ (s : Sizes) (o : Opening) (c : PageNo × Call) (lease : LeaseSeen) (found : ℕ) (loads : List ℕ) (x : Held) (same : o.cells ≡ s.cells) (of : IsCallOf s c) (p : IsHeldAs o.cells c (page_done c.1 lease found loads) x) (kept : change_by c.1 lease found ≡ Kept)
    (many : mapped_bit found ≡ 1 → length loads ≡ load_count c.1) (keeps_mapped : mapped_bit found ≡ 1 → KeepsMapped (pins_of found) c.1) (keeps_unmapped : mapped_bit found ≡ 0 → KeepsUnmapped lease c.1) where
  abbrev reply : Reply
  reply = reply_of lease found loads c.1

  word_kept : x.word ≡ bit_or found 1
  word_kept = p.word ∙ ap (λ (k : Change). word_with k lease found) kept

  pins_same : pins_of x.word ≡ pins_of found
  pins_same = ap (λ (w : ℕ). pins_of w) word_kept ∙ (same_flags-take found).pins

  change_is : x.change ≡ Kept
  change_is = p.change ∙ kept

  pins_fit_kept : pins_after c.1 reply (pins_of x.word) ≤ 63
  pins_fit_kept = dite (ℕ_discrete (mapped_bit found) 1)
      (λ mapped. rw (reply-mapped lease found loads c.1 mapped, pins_same) (pins_few (pins_of found) loads c.1 (omega arith)))
      (λ other. rw (reply-unmapped lease found loads c.1 (omega arith), pins_same) (omega (arith, pins-unmapped lease (pins_of found) c.1)))

  answers_kept : (m : Page) → CouldBe o x m → answer_at o.cells m c.1 reply ≡ (reply, with_pins (pins_after c.1 reply (pins_of x.word)) (left_as o.cells x m))
  answers_kept None could =
      let flags = could.flags in
      let found_is = p.found in
      let unmapped : mapped_bit found ≡ 0 = omega arith in
      rw (reply-unmapped lease found loads c.1 unmapped, change_is) (answers-unmapped o.cells lease c.1 x.stores 0 (keeps_unmapped unmapped))
  answers_kept (Some m) could =
      let flags = could.flags in
      let mapped : mapped_bit found ≡ 1 = ap (λ (w : ℕ). mapped_bit w) (sym p.found) ∙ flags.0 in
      let pins_are : pins_of found ≡ m.pins = ap (λ (w : ℕ). pins_of w) (sym p.found) ∙ flags.2 in
      let stores_are : x.stores ≡ known_from o.cells (first_cell c.1) (values_of loads c.1) = p.stores ∙ ap (λ (b : Bool). known_from o.cells (first_cell c.1) (if b then values_of loads c.1 else [])) (eq-eqb (mapped_bit found) 1 mapped) in
      let as_taken = subst (λ (k : Change). Agrees x.loads (page_cells o.cells (mapped_as o.cells k (Some m)))) change_is could.loads in
      let agrees = subst (λ (l : List (Option ℕ)). Agrees l m.cells) p.loads as_taken in
      rw (reply-mapped lease found loads c.1 mapped, pins_same, change_is, stores_are)
      (answers-mapped s o.cells (pins_of found) loads m same could.sized pins_are c.1 of.call (keeps_mapped mapped) (many mapped) agrees)

  may_end_kept : moving_bit x.found ≡ 0 → MayEnd o (record { call = c.1; reply = reply }) x
  may_end_kept found_still = record {
    still = ap (λ (w : ℕ). moving_bit w) (word_kept) ∙ ((same_flags-take found).moving ∙ (ap (λ (w : ℕ). moving_bit w) (sym p.found) ∙ found_still));
    drawn = p.drawn;
    pins_fit = pins_fit_kept;
    answered = answers_kept;
  }

-- ---- an alloc that maps its page

moving-packed : (t u f b : ℕ) → t < 2 → u < 2 → moving_bit (packed t 0 1 u 0 f b) ≡ 0
moving-packed t u f b lt lu = omega arith

pins-packed : (t u f b : ℕ) → t < 2 → u < 2 → pins_of (packed t 0 1 u 0 f b) ≡ 0
pins-packed t u f b lt lu = omega arith

moving-mapped : (w f : ℕ) (k : Kind) → moving_bit (mapped_word w f k) ≡ 0
moving-mapped w f k = moving-packed (taken_bit w) (unmovable_for k) f (bound_of w) (omega arith) (unmovable_for-fits k)

pins-mapped : (w f : ℕ) (k : Kind) → pins_of (mapped_word w f k) ≡ 0
pins-mapped w f k = pins-packed (taken_bit w) (unmovable_for k) f (bound_of w) (omega arith) (unmovable_for-fits k)

module _ (o : Opening) (page : PageNo) (kind : Kind) (frame : FrameNo) (found : ℕ) (loads : List ℕ) (x : Held) (p : IsHeldAs o.cells (page, Alloc kind) (page_done (Alloc kind) (Got frame) found loads) x) (unmapped : mapped_bit found ≡ 0) where
  change_mapped : change_by (Alloc kind) (Got frame) found ≡ Mapped kind
  change_mapped = ap (λ (n : ℕ). if n == 1 then Kept else Mapped kind) unmapped

  word_mapped : x.word ≡ mapped_word (bit_or found 1) frame.0 kind
  word_mapped = p.word ∙ ap (λ (k : Change). word_with k (Got frame) found) change_mapped

  reply_done : reply_of (Got frame) found loads (Alloc kind) ≡ Done
  reply_done = reply-unmapped (Got frame) found loads (Alloc kind) unmapped

  pins_none : pins_of x.word ≡ 0
  pins_none = ap (λ (w : ℕ). pins_of w) word_mapped ∙ pins-mapped (bit_or found 1) frame.0 kind

  stores_none : x.stores ≡ nothing_known o.cells
  stores_none = p.stores ∙ (ap (λ (l : List ℕ). known_from o.cells 0 l) (same_either (mapped_bit found == 1) []) ∙ known_from-none o.cells 0 (omega arith))

  answers_alloc : (m : Page) → CouldBe o x m → answer_at o.cells m (Alloc kind) Done ≡ (Done, with_pins (pins_after (Alloc kind) Done (pins_of x.word)) (left_as o.cells x m))
  answers_alloc None could =
      let blank = sym (patched_by_nothing o.cells (zeros o.cells) could.sized) in
      rw (pins_none, p.change ∙ change_mapped, stores_none) (λ i. (Done, Some (record { cells = blank i; kind = kind; pins = 0 })))
  answers_alloc (Some m) could =
      let flags = could.flags in
      let mapped : mapped_bit found ≡ 1 = ap (λ (w : ℕ). mapped_bit w) (sym p.found) ∙ flags.0 in
      absurd (omega arith)

  alloc_done : MayEnd o (record { call = Alloc kind; reply = Done }) x
  alloc_done = record {
    still = ap (λ (w : ℕ). moving_bit w) word_mapped ∙ moving-mapped (bit_or found 1) frame.0 kind;
    drawn = p.drawn;
    pins_fit = omega arith;
    answered = answers_alloc;
  }

  may_end_mapped : MayEnd o (record { call = Alloc kind; reply = reply_of (Got frame) found loads (Alloc kind) }) x
  may_end_mapped = subst (λ (r : Reply). MayEnd o (record { call = Alloc kind; reply = r }) x) (sym reply_done) alloc_done

-- ---- a free that unmaps its page

freed : (found : ℕ) → mapped_bit found ≡ 1 → pins_of found ≡ 0 → is_freed found ≡ true
freed found a b = ap (λ (x : Bool). x && pins_of found == 0) (eq-eqb (mapped_bit found) 1 a) ∙ eq-eqb (pins_of found) 0 b

unfreed-unmapped : (found : ℕ) → mapped_bit found ≢ 1 → is_freed found ≡ false
unfreed-unmapped found a = ap (λ (x : Bool). x && pins_of found == 0) (ne_eqb (mapped_bit found) 1 a)

unfreed-pinned : (found : ℕ) → mapped_bit found ≡ 1 → pins_of found ≢ 0 → is_freed found ≡ false
unfreed-pinned found a b = ap (λ (x : Bool). x && pins_of found == 0) (eq-eqb (mapped_bit found) 1 a) ∙ ne_eqb (pins_of found) 0 b

module _ (o : Opening) (page : PageNo) (lease : LeaseSeen) (found : ℕ) (loads : List ℕ) (x : Held) (p : IsHeldAs o.cells (page, Free) (page_done Free lease found loads) x) (mapped : mapped_bit found ≡ 1) (no_pins : pins_of found ≡ 0) where
  change_unmapped : change_by Free lease found ≡ Unmapped
  change_unmapped = ap (λ (b : Bool). if b then Unmapped else Kept) (freed found mapped no_pins)

  word_unmapped : x.word ≡ unmapped_word (bit_or found 1)
  word_unmapped = p.word ∙ ap (λ (k : Change). word_with k lease found) change_unmapped

  reply_freed : reply_of lease found loads Free ≡ Done
  reply_freed = reply-mapped lease found loads Free mapped ∙ ap (λ (b : Bool). if b then Done else Pinned) (eq-eqb (pins_of found) 0 no_pins)

  answers_free : (m : Page) → CouldBe o x m → answer_at o.cells m Free Done ≡ (Done, with_pins (pins_after Free Done (pins_of x.word)) (left_as o.cells x m))
  answers_free None could =
      let flags = could.flags in
      let found_is = p.found in
      let other : mapped_bit found ≡ 0 = omega arith in
      absurd (omega arith)
  answers_free (Some m) could =
      let flags = could.flags in
      let pins_are : pins_of found ≡ m.pins = ap (λ (w : ℕ). pins_of w) (sym p.found) ∙ flags.2 in
      rw (eq-eqb m.pins 0 (sym pins_are ∙ no_pins), p.change ∙ change_unmapped) refl

  free_done : MayEnd o (record { call = Free; reply = Done }) x
  free_done = record {
    still = let e = word_unmapped in ap (λ (w : ℕ). moving_bit w) word_unmapped ∙ omega arith;
    drawn = p.drawn;
    pins_fit = omega arith;
    answered = answers_free;
  }

  may_end_unmapped : MayEnd o (record { call = Free; reply = reply_of lease found loads Free }) x
  may_end_unmapped = subst (λ (r : Reply). MayEnd o (record { call = Free; reply = r }) x) (sym reply_freed) free_done

-- ---- any call

module _ (s : Sizes) (o : Opening) (page : PageNo) (lease : LeaseSeen) (found : ℕ) (loads : List ℕ) (x : Held) (same : o.cells ≡ s.cells) (still : moving_bit x.found ≡ 0) where
  abbrev Ends : Call → Type 0
  Ends call = IsCallOf s (page, call) → IsLeaseOf call lease → (mapped_bit found ≡ 1 → length loads ≡ load_count call) → IsHeldAs o.cells (page, call) (page_done call lease found loads) x
      → MayEnd o (record { call = call; reply = reply_of lease found loads call }) x

  alloc_unmapped : (l : LeaseSeen) → lease ≡ l → (kind : Kind) → mapped_bit found ≢ 1 → Ends (Alloc kind)
  alloc_unmapped NotAsked e kind ne of is many p = absurd (is e)
  alloc_unmapped (Got frame) e kind ne of is many p =
      subst (λ (l : LeaseSeen). MayEnd o (record { call = Alloc kind; reply = reply_of l found loads (Alloc kind) }) x) (sym e)
      (may_end_mapped o page kind frame found loads x (subst (λ (l : LeaseSeen). IsHeldAs o.cells (page, Alloc kind) (page_done (Alloc kind) l found loads) x) e p) (omega arith))
  alloc_unmapped (Refused at) e kind ne of is many p =
      may_end_kept s o (page, Alloc kind) lease found loads x same of p (ap (λ (b : Bool). if b then Kept else mapped_to kind lease) (ne_eqb (mapped_bit found) 1 ne) ∙ ap (λ (l : LeaseSeen). mapped_to kind l) e) many
      (λ mapped. tt) (λ un. subst (λ (l : LeaseSeen). KeepsUnmapped l (Alloc kind)) (sym e) tt) still

  free_ends : Ends Free
  free_ends of is many p = dite (ℕ_discrete (mapped_bit found) 1)
      (λ mapped. dite (ℕ_discrete (pins_of found) 0)
      (λ z. may_end_unmapped o page lease found loads x p mapped z)
      (λ nz. may_end_kept s o (page, Free) lease found loads x same of p (ap (λ (b : Bool). if b then Unmapped else Kept) (unfreed-pinned found mapped nz)) many (λ e. omega arith) (λ un. tt) still))
      (λ ne. may_end_kept s o (page, Free) lease found loads x same of p (ap (λ (b : Bool). if b then Unmapped else Kept) (unfreed-unmapped found ne)) many (λ e. absurd (ne e)) (λ un. tt) still)

  pub may_end : (call : Call) → Ends call
  may_end (Alloc kind) of is many p = dite (ℕ_discrete (mapped_bit found) 1)
      (λ mapped. may_end_kept s o (page, Alloc kind) lease found loads x same of p (ap (λ (b : Bool). if b then Kept else mapped_to kind lease) (eq-eqb (mapped_bit found) 1 mapped)) many
      (λ e. tt) (λ un. absurd (omega arith)) still)
      (λ ne. alloc_unmapped lease refl kind ne of is many p)
  may_end Free of is many p = free_ends of is many p
  may_end (Read first count) of is many p = may_end_kept s o (page, Read first count) lease found loads x same of p refl many (λ e. tt) (λ un. tt) still
  may_end (Write first values) of is many p = may_end_kept s o (page, Write first values) lease found loads x same of p refl many (λ e. tt) (λ un. tt) still
  may_end (Add cell value) of is many p = may_end_kept s o (page, Add cell value) lease found loads x same of p refl many (λ e. tt) (λ un. tt) still
  may_end Pin of is many p = may_end_kept s o (page, Pin) lease found loads x same of p refl many (λ e. tt) (λ un. tt) still
  may_end Unpin of is many p = may_end_kept s o (page, Unpin) lease found loads x same of p refl many (λ e. tt) (λ un. tt) still
