-- Who joins, who is refused, and who leaves.
use Rattle.std.proofs.Common.{◌≡◌, ℕ, ◌+◌, ◌<◌, ◌≤◌, true, List, [], ◌∷◌, ◌++◌, length, Option, None, Some, IfSome, sym, ap, subst, ◌∙◌, arith, inl, inr}
use Rattle.std.proofs.lemmas.Bool.{cases_eq}
use Rattle.std.proofs.lemmas.List.{append_assoc, length-map}
use Rattle.evac_model.specs.declared.device_journal.Told.{Told}
use Rattle.evac_model.specs.declared.device_journal.Told.TheVariants.{PopulateOk, PopulateRefused, Discard}
use Rattle.evac_model.specs.Counts.{Rose}
use Rattle.evac_model.specs.Numbers.{is_in, IsRisingBelow}
use Rattle.evac_model.specs.Notices.{notice, told_blocks, below, refused_join_notices}
use Rattle.dma_listeners.specs.Drafts.{Draft, IsWritten}
use Rattle.dma_listeners.specs.Listening.{blocks_below, exactly, without_blocks, IsChanged, IsRefused}
use Rattle.dma_listeners.proofs.Ends.{below-numbers, length_passes, without_self}
use Rattle.dma_listeners.proofs.Steps.{written_on}

-- the blocks of a rising list below one, and all of them
pub below_blocks : (region b : ℕ) (plugged : List ℕ) → IsRisingBelow region plugged → b ≤ region → below b plugged ≡ blocks_below plugged b
below_blocks region b plugged r h = ap (below b) r ∙ below-numbers (λ k. is_in k plugged) b region h

pub fewer_below : (region b : ℕ) (plugged : List ℕ) → IsRisingBelow region plugged → b < region → is_in b plugged ≡ true → length (blocks_below plugged b) + 1 ≤ length plugged
fewer_below region b plugged r h e =
    let all : length plugged ≡ length (blocks_below plugged region) = ap (λ (xs : List ℕ). length xs) r in
    omega (arith, all, length_passes (λ k. is_in k plugged) b region e h)

-- room within the calls of a refused join
pub room_after : (key : Option ℕ) (told : Told) (blocks : List ℕ) (start now : Draft) → IsWritten start now (told_blocks key blocks told) → now.room + length blocks ≡ start.room
room_after key told blocks start now p = omega (arith, p.room, length-map blocks (λ b. notice key b 1 told))

pub refused_join_written : (region b : ℕ) (plugged : List ℕ) (start some all back : Draft) → IsRisingBelow region plugged → b < region → IsWritten start some (told_blocks None (blocks_below plugged b) PopulateOk) → IsWritten some all (notice None b 1 PopulateRefused ∷ []) → IsWritten all back (told_blocks None (blocks_below plugged b) Discard) → IsWritten start back (refused_join_notices plugged b)
refused_join_written region b plugged start some all back r h p q t =
    let before = told_blocks None (blocks_below plugged b) PopulateOk in
    let behind = told_blocks None (blocks_below plugged b) Discard in
    let refusal = notice None b 1 PopulateRefused in
    let words : refused_join_notices plugged b ≡ before ++ refusal ∷ behind =
    ap (λ (xs : List ℕ). told_blocks None xs PopulateOk ++ refusal ∷ told_blocks None xs Discard) (below_blocks region b plugged r (omega (arith, h))) in
    let whole : IsWritten start back ((before ++ refusal ∷ []) ++ behind) =
    written_on start all back (before ++ refusal ∷ []) behind (written_on start some all before (refusal ∷ []) p q) t in
    subst (IsWritten start back) (append_assoc before (refusal ∷ []) behind ∙ sym words) whole

-- a count that rose has risen still where it didn't fall again
rose_on : (a b c : ℕ) → Rose a b → a ≤ b → b ≤ c → Rose a c
rose_on a b c r h k =
    elim r [
      | inl l ↦ inl (omega (arith, l, k))
      | inr e ↦ elim (cases_eq c b) [
        | inl q ↦ inr (q ∙ e)
        | inr ne ↦ inl (omega (arith, h, k, ne))
      ]
    ]

module _ {L : Type 0} (mapped : L → List ℕ) (refusals : L → ℕ) (limit : L → Option ℕ) (room : L → ℕ) where
  -- what came back maps nothing, as before, and its count rose
  pub refused_back : (blocks : List ℕ) (l mid after : L) → mapped l ≡ [] → IsChanged mapped refusals limit room (exactly blocks) l mid → IsChanged mapped refusals limit room (without_blocks blocks) mid after → Rose (refusals l) (refusals mid) → IsRefused mapped refusals limit room l after
  refused_back blocks l mid after empty p q rose = record {
    same = record {
      blocks = q.blocks ∙ ap (without_blocks blocks) p.blocks ∙ without_self blocks ∙ sym empty;
      counts = omega (arith, p.counts, q.counts);
      limit_kept = q.limit_kept ∙ p.limit_kept;
      room_kept = q.room_kept ∙ p.room_kept;
    };
    cause = rose_on (refusals l) (refusals mid) (refusals after) rose p.counts q.counts;
  }

  -- who left maps nothing, where it mapped exactly the plugged blocks
  pub left_empty : (plugged blocks : List ℕ) (was : Option L) (l after : L) → was ≡ Some l → blocks ≡ plugged → mapped after ≡ without_blocks blocks (mapped l) → IfSome was (λ x. mapped x ≡ plugged) → mapped after ≡ []
  left_empty plugged blocks was l after found same takes exactly =
      let here : mapped l ≡ plugged = subst (λ (o : Option L). IfSome o (λ x. mapped x ≡ plugged)) found exactly in
      takes ∙ ap (λ (bs : List ℕ). without_blocks bs (mapped l)) same ∙ ap (without_blocks plugged) here ∙ without_self plugged
