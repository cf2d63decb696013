-- One listener more, told of a range.
use Rattle.std.proofs.Common.{◌≡◌, ℕ, ◌+◌, ◌*◌, ◌<◌, ◌≤◌, true, cond, List, [], ◌∷◌, ◌++◌, length, Option, None, Some, is_some, IfSome, OnSome, refl, sym, ap, subst, ◌∙◌, arith, inl, inr}
use Rattle.std.proofs.Math.Nat.{suc-mul}
use Rattle.std.proofs.lemmas.Bool.{cases_eq}
use Rattle.std.proofs.lemmas.Grind.{flat_map-append}
use Rattle.std.proofs.lemmas.Nat.{mul-le}
use Rattle.std.proofs.lemmas.List.{map-append, length-append, length-map}
use Rattle.evac_model.specs.declared.device_journal.Told.{Told}
use Rattle.evac_model.specs.declared.device_journal.Told.TheVariants.{Discard}
use Rattle.evac_model.specs.Notices.{notice, told_each, told_blocks, unplug_all_notices}
use Rattle.dma_listeners.specs.Drafts.{Draft, IsWritten}
use Rattle.dma_listeners.specs.Listening.{IsChangedAt, IsRefusedAt, Fits}
use Rattle.dma_listeners.specs.Registries.{listener_at, is_live, live_key, keys_below, EachListener, OthersKept, AreChangedBelow, AreStoppedAt, FitBelow}
use Rattle.dma_listeners.proofs.Ends.{numbers_next, length_below, length_passes}
use Rattle.dma_listeners.proofs.Steps.{written_on}

-- so many notices tell each listener of all plugged blocks
length_all : (keys plugged : List ℕ) → length (unplug_all_notices keys plugged) ≡ length keys * length plugged
length_all [] plugged = omega arith
length_all (key ∷ keys) plugged =
    length-append (told_blocks (Some key) plugged Discard) (unplug_all_notices keys plugged)
    ∙ omega (arith, length_all keys plugged, length-map plugged (λ b. notice (Some key) b 1 Discard), suc-mul (length keys) (length plugged))

module _ {L : Type 0} where
  -- the key that comes next, where it has a listener
  pub next_key : (old mid : List (Option L)) (i : ℕ) → listener_at mid i ≡ listener_at old i → keys_below old (i + 1) ≡ keys_below old i ++ live_key mid i
  next_key old mid i e =
      numbers_next (is_live old) i ∙ ap (λ (o : Option L). keys_below old i ++ cond (is_some o) (i ∷ []) []) (sym e)

  -- one listener more is told the same
  pub each_written : (first n : ℕ) (told : Told) (old mid : List (Option L)) (i : ℕ) (start now next : Draft) → listener_at mid i ≡ listener_at old i → IsWritten start now (told_each (keys_below old i) first n told) → IsWritten now next (told_each (live_key mid i) first n told) → IsWritten start next (told_each (keys_below old (i + 1)) first n told)
  each_written first n told old mid i start now next e p q =
      let more : told_each (keys_below old (i + 1)) first n told ≡ told_each (keys_below old i) first n told ++ told_each (live_key mid i) first n told =
      ap (λ (ks : List ℕ). told_each ks first n told) (next_key old mid i e) ∙ map-append (λ key. notice (Some key) first n told) (keys_below old i) (live_key mid i) in
      rw more (written_on start now next (told_each (keys_below old i) first n told) (told_each (live_key mid i) first n told) p q)

  -- there is room for it
  pub each_room : (first n : ℕ) (told : Told) (old mid : List (Option L)) (i end : ℕ) (start now : Draft) → listener_at mid i ≡ listener_at old i → i < end → length (keys_below old end) ≤ start.room → IsWritten start now (told_each (keys_below old i) first n told) → length (live_key mid i) ≤ now.room
  each_room first n told old mid i end start now e h room p =
      let next : length (keys_below old (i + 1)) ≡ length (keys_below old i) + length (live_key mid i) =
      ap (λ (ks : List ℕ). length ks) (next_key old mid i e) ∙ length-append (keys_below old i) (live_key mid i) in
      omega (arith, next, p.room, length-map (keys_below old i) (λ key. notice (Some key) first n told), length_below (is_live old) (i + 1) end (omega arith))

  -- the same, of all plugged blocks
  pub blocks_written : (plugged : List ℕ) (old mid : List (Option L)) (i : ℕ) (start now next : Draft) → listener_at mid i ≡ listener_at old i → IsWritten start now (unplug_all_notices (keys_below old i) plugged) → IsWritten now next (unplug_all_notices (live_key mid i) plugged) → IsWritten start next (unplug_all_notices (keys_below old (i + 1)) plugged)
  blocks_written plugged old mid i start now next e p q =
      let more : unplug_all_notices (keys_below old (i + 1)) plugged ≡ unplug_all_notices (keys_below old i) plugged ++ unplug_all_notices (live_key mid i) plugged =
      ap (λ (ks : List ℕ). unplug_all_notices ks plugged) (next_key old mid i e) ∙ flat_map-append (λ key. told_blocks (Some key) plugged Discard) (keys_below old i) (live_key mid i) in
      rw more (written_on start now next (unplug_all_notices (keys_below old i) plugged) (unplug_all_notices (live_key mid i) plugged) p q)

  pub blocks_room : (plugged : List ℕ) (old mid : List (Option L)) (i end : ℕ) (start now : Draft) → listener_at mid i ≡ listener_at old i → i < end → length (keys_below old end) * length plugged ≤ start.room → IsWritten start now (unplug_all_notices (keys_below old i) plugged) → OnSome (listener_at mid i) (length plugged ≤ now.room)
  blocks_room plugged old mid i end start now e h room p = where_live (listener_at mid i) refl
    where
      where_live : (o : Option L) → listener_at mid i ≡ o → OnSome o (length plugged ≤ now.room)
      where_live None q = tt
      where_live (Some l) q =
          let live : is_live old i ≡ true = ap (λ (o : Option L). is_some o) (sym e ∙ q) in
          let many : (length (keys_below old i) + 1) * length plugged ≤ length (keys_below old end) * length plugged =
          mul-le (length (keys_below old i) + 1) (length plugged) (length (keys_below old end)) (length plugged) (length_passes (is_live old) i end live h) (omega arith) in
          omega (arith, many, p.room, length_all (keys_below old i) plugged)

  pub each_listener : (P : L → Type 0) (old mid : List (Option L)) (i : ℕ) → listener_at mid i ≡ listener_at old i → EachListener P old → IfSome (listener_at mid i) P
  each_listener P old mid i e each = subst (λ (o : Option L). IfSome o P) (sym e) (each i)

module _ {L : Type 0} (mapped : L → List ℕ) (refusals : L → ℕ) (limit : L → Option ℕ) (room : L → ℕ) where
  -- none is changed yet
  pub changed_none : (change : List ℕ → List ℕ) (old : List (Option L)) → AreChangedBelow mapped refusals limit room change 0 old old
  changed_none change old = record {
    below = λ key h. absurd (omega (arith, h));
    above = λ key h. refl;
    size = refl;
  }

  -- one more is
  pub changed_more : (change : List ℕ → List ℕ) (i : ℕ) (old mid new : List (Option L)) → AreChangedBelow mapped refusals limit room change i old mid → IsChangedAt mapped refusals limit room change (listener_at mid i) (listener_at new i) → OthersKept i mid new → length new ≡ length mid → AreChangedBelow mapped refusals limit room change (i + 1) old new
  changed_more change i old mid new p here others size = record {
    below = λ key h. elim (cases_eq key i) [
      | inl e ↦
          subst (λ (k : ℕ). IsChangedAt mapped refusals limit room change (listener_at old k) (listener_at new k)) (sym e)
          (subst (λ (o : Option L). IsChangedAt mapped refusals limit room change o (listener_at new i)) (p.above i (omega arith)) here)
      | inr ne ↦
          subst (IsChangedAt mapped refusals limit room change (listener_at old key)) (sym (others key ne)) (p.below key (omega (arith, h, ne)))
    ];
    above = λ key h. others key (λ e. omega (arith, e, h)) ∙ p.above key (omega (arith, h));
    size = size ∙ p.size;
  }

  -- one more fits
  pub fit_none : (n : ℕ) (old : List (Option L)) → FitBelow mapped refusals limit room n 0 old
  fit_none n old key h = absurd (omega (arith, h))

  pub fit_more : (n i : ℕ) (old mid : List (Option L)) → listener_at mid i ≡ listener_at old i → FitBelow mapped refusals limit room n i old → IfSome (listener_at mid i) (Fits mapped refusals limit room n) → FitBelow mapped refusals limit room n (i + 1) old
  fit_more n i old mid e p here key h =
      elim (cases_eq key i) [
        | inl q ↦
            subst (λ (k : ℕ). IfSome (listener_at old k) (Fits mapped refusals limit room n)) (sym q)
            (subst (λ (o : Option L). IfSome o (Fits mapped refusals limit room n)) e here)
        | inr ne ↦ p key (omega (arith, h, ne))
      ]

  -- one refuses
  pub stopped : (change : List ℕ → List ℕ) (i : ℕ) (old mid new : List (Option L)) → AreChangedBelow mapped refusals limit room change i old mid → IsRefusedAt mapped refusals limit room (listener_at mid i) (listener_at new i) → OthersKept i mid new → length new ≡ length mid → AreStoppedAt mapped refusals limit room change i old new
  stopped change i old mid new p here others size = record {
    below = λ key h. subst (IsChangedAt mapped refusals limit room change (listener_at old key)) (sym (others key (λ e. omega (arith, e, h)))) (p.below key h);
    here = subst (λ (o : Option L). IsRefusedAt mapped refusals limit room o (listener_at new i)) (p.above i (omega arith)) here;
    above = λ key h. others key (λ e. omega (arith, e, h)) ∙ p.above key (omega (arith, h));
    size = size ∙ p.size;
  }
