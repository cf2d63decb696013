-- One block more, told to a listener.
use Rattle.std.proofs.Common.{◌≡◌, ◌⊎◌, ℕ, ◌+◌, ◌<◌, ◌≤◌, Bool, true, false, List, [], ◌∷◌, ◌++◌, length, Option, None, Some, refl, sym, ap, subst, ◌∙◌, arith, inl, inr}
use Rattle.std.proofs.lemmas.List.{map-append, length-append, length-map, append_assoc}
use Rattle.evac_model.specs.declared.device_journal.Notice.{Notice}
use Rattle.evac_model.specs.declared.device_journal.Told.{Told}
use Rattle.evac_model.specs.Counts.{WhereTold}
use Rattle.evac_model.specs.Numbers.{is_in, with_range, without_range}
use Rattle.evac_model.specs.Notices.{notice, told_blocks}
use Rattle.dma_listeners.specs.Drafts.{Draft, IsWritten}
use Rattle.dma_listeners.specs.Listening.{blocks_below, exactly, without_blocks, IsChanged, Fits}
use Rattle.dma_listeners.proofs.Ends.{numbers_next-passes, numbers_next-fails, length_passes, with_next, without_next}

-- writing on
pub written_on : (a b c : Draft) (xs ys : List Notice) → IsWritten a b xs → IsWritten b c ys → IsWritten a c (xs ++ ys)
written_on a b c xs ys p q = record {
  notices = q.notices ∙ ap (λ (zs : List Notice). zs ++ ys) p.notices ∙ append_assoc a.notices xs ys;
  room = omega (arith, p.room, q.room, length-append xs ys);
}

-- one block more is written
pub block_written : (key : Option ℕ) (told : Told) (blocks : List ℕ) (b : ℕ) (start now next : Draft) → is_in b blocks ≡ true → IsWritten start now (told_blocks key (blocks_below blocks b) told) → IsWritten now next (notice key b 1 told ∷ []) → IsWritten start next (told_blocks key (blocks_below blocks (b + 1)) told)
block_written key told blocks b start now next e p q =
    let more : told_blocks key (blocks_below blocks (b + 1)) told ≡ told_blocks key (blocks_below blocks b) told ++ notice key b 1 told ∷ [] =
    ap (λ (bs : List ℕ). told_blocks key bs told) (numbers_next-passes (λ k. is_in k blocks) b e) ∙ map-append (λ k. notice key k 1 told) (blocks_below blocks b) (b ∷ []) in
    rw more (written_on start now next (told_blocks key (blocks_below blocks b) told) (notice key b 1 told ∷ []) p q)

pub block_skipped_notices : (key : Option ℕ) (told : Told) (blocks : List ℕ) (b : ℕ) (start now : Draft) → is_in b blocks ≡ false → IsWritten start now (told_blocks key (blocks_below blocks b) told) → IsWritten start now (told_blocks key (blocks_below blocks (b + 1)) told)
block_skipped_notices key told blocks b start now e p =
    let same : blocks_below blocks (b + 1) ≡ blocks_below blocks b = numbers_next-fails (λ k. is_in k blocks) b e in
    rw same p

-- there is room for one block more
pub block_room : (key : Option ℕ) (told : Told) (blocks : List ℕ) (b end : ℕ) (start now : Draft) → is_in b blocks ≡ true → b < end → length (blocks_below blocks end) ≤ start.room → IsWritten start now (told_blocks key (blocks_below blocks b) told) → 0 < now.room
block_room key told blocks b end start now e h room p =
    omega (arith, p.room, length-map (blocks_below blocks b) (λ k. notice key k 1 told), length_passes (λ k. is_in k blocks) b end e h)

pub true_or_false : (t : Bool) → (t ≡ true) ⊎ (t ≡ false)
true_or_false true = inl refl
true_or_false false = inr refl

-- what is true of what is told is true of the same, told elsewhere
pub told_map : {A : Type 0} (o p : Option A) (P Q : A → Type 0) → o ≡ p → ((x : A) → P x → Q x) → WhereTold o P → WhereTold p Q
told_map {A} o p P Q e f h = subst (λ (r : Option A). WhereTold r Q) e (at o h)
  where
    at : (r : Option A) → WhereTold r P → WhereTold r Q
    at None h = tt
    at (Some x) h = f x h

without_none : (xs : List ℕ) → without_blocks [] xs ≡ xs
without_none [] = refl
without_none (x ∷ xs) = ap (λ (ys : List ℕ). x ∷ ys) (without_none xs)

module _ {L : Type 0} (mapped : L → List ℕ) (refusals : L → ℕ) (limit : L → Option ℕ) (room : L → ℕ) where
  -- nothing was told yet
  pub untold : (l : L) → IsChanged mapped refusals limit room (without_blocks []) l l
  untold l = record { blocks = sym (without_none (mapped l)); counts = omega arith; limit_kept = refl; room_kept = refl }

  -- a block that isn't plugged is passed over
  pub block_skipped : (change : List ℕ → List ℕ → List ℕ) (blocks : List ℕ) (b : ℕ) (start now : L) → is_in b blocks ≡ false → IsChanged mapped refusals limit room (change (blocks_below blocks b)) start now → IsChanged mapped refusals limit room (change (blocks_below blocks (b + 1))) start now
  block_skipped change blocks b start now e p =
      let same : blocks_below blocks (b + 1) ≡ blocks_below blocks b = numbers_next-fails (λ k. is_in k blocks) b e in
      record {
        blocks = p.blocks ∙ ap (λ (bs : List ℕ). change bs (mapped start)) (sym same);
        counts = p.counts;
        limit_kept = p.limit_kept;
        room_kept = p.room_kept;
      }

  -- one block more is discarded, and one more is mapped
  pub block_discarded : (blocks : List ℕ) (b : ℕ) (start now next : L) → is_in b blocks ≡ true → IsChanged mapped refusals limit room (without_blocks (blocks_below blocks b)) start now → mapped next ≡ without_range b 1 (mapped now) → refusals now ≤ refusals next → limit next ≡ limit now → room next ≡ room now → IsChanged mapped refusals limit room (without_blocks (blocks_below blocks (b + 1))) start next
  block_discarded blocks b start now next e p takes counts limit_kept room_kept = record {
    blocks = takes ∙ ap (without_range b 1) p.blocks ∙ without_next (λ k. is_in k blocks) b (mapped start) e;
    counts = omega (arith, p.counts, counts);
    limit_kept = limit_kept ∙ p.limit_kept;
    room_kept = room_kept ∙ p.room_kept;
  }

  pub block_mapped : (blocks : List ℕ) (b : ℕ) (start now next : L) → is_in b blocks ≡ true → IsChanged mapped refusals limit room (exactly (blocks_below blocks b)) start now → mapped next ≡ with_range b 1 (mapped now) → refusals now ≤ refusals next → limit next ≡ limit now → room next ≡ room now → IsChanged mapped refusals limit room (exactly (blocks_below blocks (b + 1))) start next
  block_mapped blocks b start now next e p adds counts limit_kept room_kept = record {
    blocks = adds ∙ ap (with_range b 1) p.blocks ∙ with_next (λ k. is_in k blocks) b e;
    counts = omega (arith, p.counts, counts);
    limit_kept = limit_kept ∙ p.limit_kept;
    room_kept = room_kept ∙ p.room_kept;
  }

  -- who is told of the next block only where that is plugged
  pub next_mapped : (blocks : List ℕ) (b : ℕ) (start now next : L) → IsChanged mapped refusals limit room (exactly (blocks_below blocks b)) start now → (is_in b blocks ≡ true → IsChanged mapped refusals limit room (with_range b 1) now next) → (is_in b blocks ≡ false → next ≡ now) → IsChanged mapped refusals limit room (exactly (blocks_below blocks (b + 1))) start next
  next_mapped blocks b start now next p told untold =
      elim (true_or_false (is_in b blocks)) [
        | inl e ↦
            let q : IsChanged mapped refusals limit room (with_range b 1) now next = told e in
            block_mapped blocks b start now next e p q.blocks q.counts q.limit_kept q.room_kept
        | inr e ↦
            subst (IsChanged mapped refusals limit room (exactly (blocks_below blocks (b + 1))) start) (sym (untold e)) (block_skipped exactly blocks b start now e p)
      ]

  -- and fits
  pub next_fits : (blocks : List ℕ) (b : ℕ) (start now : L) → IsChanged mapped refusals limit room (exactly (blocks_below blocks b)) start now → (is_in b blocks ≡ true → Fits mapped refusals limit room 1 now) → WhereTold (limit start) (λ most. length (blocks_below blocks b) ≤ most) → WhereTold (limit start) (λ most. length (blocks_below blocks (b + 1)) ≤ most)
  next_fits blocks b start now p fits before =
      elim (true_or_false (is_in b blocks)) [
        | inl e ↦
            let next : length (blocks_below blocks (b + 1)) ≡ length (blocks_below blocks b) + 1 =
            ap (λ (xs : List ℕ). length xs) (numbers_next-passes (λ k. is_in k blocks) b e) ∙ length-append (blocks_below blocks b) (b ∷ []) in
            let many : length (mapped now) ≡ length (blocks_below blocks b) = ap (λ (xs : List ℕ). length xs) p.blocks in
            told_map (limit now) (limit start) (λ most. length (mapped now) + 1 ≤ most) (λ most. length (blocks_below blocks (b + 1)) ≤ most) p.limit_kept (λ most h. omega (arith, next, many, h)) (fits e)
        | inr e ↦
            let same : blocks_below blocks (b + 1) ≡ blocks_below blocks b = numbers_next-fails (λ k. is_in k blocks) b e in
            rw same before
      ]
