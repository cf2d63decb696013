-- All listeners of a registry, before and behind a call.
use Rattle.std.proofs.Common.{◌≡◌, ℕ, ◌+◌, ◌*◌, ◌<◌, ◌≤◌, true, false, List, [], ◌∷◌, ◌++◌, length, Option, None, Some, is_some, IfSome, IsSomeAnd, refl, sym, ap, subst, ◌∙◌, arith, inl, inr}
use Rattle.std.proofs.lemmas.Bool.{cases_lt, cases_eq, true≢false}
use Rattle.std.proofs.lemmas.List.{get_or_past, append_assoc, length-append, length-map}
use Rattle.evac_model.specs.declared.device_journal.Told.TheVariants.{PopulateOk, PopulateRefused, Discard}
use Rattle.evac_model.specs.Numbers.{with_range, without_range, IsRisingBelow}
use Rattle.evac_model.specs.DeviceAnswer.{are_unplugged}
use Rattle.evac_model.specs.Notices.{notice, told_each, below, plug_notices}
use Rattle.evac_model.proofs.Numbers.{numbers_agree}
use Rattle.evac_model.proofs.Unions.{numbers_bound}
use Rattle.dma_listeners.specs.Drafts.{Draft, IsWritten}
use Rattle.dma_listeners.specs.Listening.{IsChanged, IsRefused, IsChangedAt, IsRefusedAt, Fits}
use Rattle.dma_listeners.specs.Registries.{listener_at, is_live, keys_below, live_keys, EachListener, MapExactly, AreChangedBelow, AreStoppedAt, AreChanged, AreRolledBack, FitBelow}
use Rattle.dma_listeners.proofs.Ends.{below-numbers, length_passes, without_with}
use Rattle.dma_listeners.proofs.Steps.{written_on}

module _ {L : Type 0} where
  -- behind the last key there is no listener
  pub none_past : (r : List (Option L)) (key : ℕ) → length r ≤ key → listener_at r key ≡ None
  none_past r key h = get_or_past r key None h

  pub dead_past : (r : List (Option L)) (key : ℕ) → length r ≤ key → is_live r key ≡ false
  dead_past r key h = ap (λ (o : Option L). is_some o) (none_past r key h)

  pub live_within : (r : List (Option L)) (key : ℕ) → is_live r key ≡ true → key < length r
  live_within r key e =
      elim (cases_lt key (length r)) [ inl l ↦ l | inr g ↦ absurd (true≢false (sym e ∙ dead_past r key g)) ]

  pub keys_at_end : (r : List (Option L)) (end : ℕ) → length r ≤ end → keys_below r end ≡ live_keys r
  keys_at_end r end h = numbers_bound (is_live r) end (length r) (λ b l. dead_past r b (omega (arith, l, h))) (λ b l. dead_past r b l)

  pub keys_same : (old new : List (Option L)) → length new ≡ length old → ((key : ℕ) → is_live new key ≡ is_live old key) → live_keys new ≡ live_keys old
  keys_same old new size same =
      ap (λ (n : ℕ). keys_below new n) size ∙ numbers_agree (is_live new) (is_live old) (length old) (λ b l. same b)

  -- those told before one that refused
  pub below_live : (r : List (Option L)) (key : ℕ) → is_live r key ≡ true → below key (live_keys r) ≡ keys_below r key
  below_live r key e = below-numbers (is_live r) key (length r) (omega (arith, live_within r key e))

  pub refused_written : (first n key : ℕ) (old mid : List (Option L)) (start now next : Draft) → is_live old key ≡ true → keys_below mid key ≡ keys_below old key → IsWritten start now (told_each (keys_below old key) first n PopulateOk ++ notice (Some key) first n PopulateRefused ∷ []) → IsWritten now next (told_each (keys_below mid key) first n Discard) → IsWritten start next (plug_notices (live_keys old) first n (Some key))
  refused_written first n key old mid start now next live same p q =
      let some = told_each (keys_below old key) first n PopulateOk in
      let back = told_each (keys_below old key) first n Discard in
      let r = notice (Some key) first n PopulateRefused in
      let all : plug_notices (live_keys old) first n (Some key) ≡ some ++ r ∷ back =
      ap (λ (ks : List ℕ). told_each ks first n PopulateOk ++ r ∷ told_each ks first n Discard) (below_live old key live) in
      let q' : IsWritten now next back = rw same at q in
      let whole : IsWritten start next ((some ++ r ∷ []) ++ back) = written_on start now next (some ++ r ∷ []) back p q' in
      subst (IsWritten start next) (append_assoc some (r ∷ []) back ∙ sym all) whole

  -- the room for taking back
  pub back_room : (first n key : ℕ) (old mid : List (Option L)) (start now : Draft) → is_live old key ≡ true → keys_below mid key ≡ keys_below old key → 2 * length (live_keys old) ≤ start.room → IsWritten start now (told_each (keys_below old key) first n PopulateOk ++ notice (Some key) first n PopulateRefused ∷ []) → length (keys_below mid key) ≤ now.room
  back_room first n key old mid start now live same room p =
      let some = told_each (keys_below old key) first n PopulateOk in
      let written : length (some ++ notice (Some key) first n PopulateRefused ∷ []) ≡ length (keys_below old key) + 1 =
      length-append some (notice (Some key) first n PopulateRefused ∷ []) ∙ ap (λ (k : ℕ). k + 1) (length-map (keys_below old key) (λ k. notice (Some k) first n PopulateOk)) in
      let many : length (keys_below mid key) ≡ length (keys_below old key) = ap (λ (ks : List ℕ). length ks) same in
      omega (arith, p.room, written, many, room, length_passes (is_live old) key (length old) live (live_within old key live))

module _ {L : Type 0} (mapped : L → List ℕ) (refusals : L → ℕ) (limit : L → Option ℕ) (room : L → ℕ) where
  -- a change neither brings a listener nor takes one
  some_live : (P : L → Type 0) (o : Option L) → IsSomeAnd o P → is_some o ≡ true
  some_live P None h = elim h [ ]
  some_live P (Some l) h = refl

  pub changed_live : (change : List ℕ → List ℕ) (o n : Option L) → IsChangedAt mapped refusals limit room change o n → is_some n ≡ is_some o
  changed_live change None n h = ap (λ (x : Option L). is_some x) h
  changed_live change (Some l) n h = some_live (IsChanged mapped refusals limit room change l) n h

  pub refused_was : (o n : Option L) → IsRefusedAt mapped refusals limit room o n → is_some o ≡ true
  refused_was o n h = some_live (λ l. IsSomeAnd n (IsRefused mapped refusals limit room l)) o h

  pub refused_live : (o n : Option L) → IsRefusedAt mapped refusals limit room o n → is_some n ≡ is_some o
  refused_live None n h = elim h [ ]
  refused_live (Some l) n h = some_live (IsRefused mapped refusals limit room l) n h

  -- two changes are one
  pub changed_on : (f g : List ℕ → List ℕ) (o m n : Option L) → IsChangedAt mapped refusals limit room f o m → IsChangedAt mapped refusals limit room g m n → IsChangedAt mapped refusals limit room (λ xs. g (f xs)) o n
  changed_on f g None None n p q = q
  changed_on f g None (Some y) n p q = absurd (cc)
  changed_on f g (Some x) None n p q = elim p [ ]
  changed_on f g (Some x) (Some y) None p q = elim q [ ]
  changed_on f g (Some x) (Some y) (Some z) p q = record {
    blocks = q.blocks ∙ ap g p.blocks;
    counts = omega (arith, p.counts, q.counts);
    limit_kept = q.limit_kept ∙ p.limit_kept;
    room_kept = q.room_kept ∙ p.room_kept;
  }

  -- the room stays
  pub changed_room : (change : List ℕ → List ℕ) (k : ℕ) (o n : Option L) → IsChangedAt mapped refusals limit room change o n → IfSome o (λ l. k ≤ room l) → IfSome n (λ l. k ≤ room l)
  changed_room change k o None p h = tt
  changed_room change k None (Some y) p h = absurd (cc)
  changed_room change k (Some x) (Some y) p h = omega (arith, p.room_kept, h)

  pub refused_room : (k : ℕ) (o n : Option L) → IsRefusedAt mapped refusals limit room o n → IfSome o (λ l. k ≤ room l) → IfSome n (λ l. k ≤ room l)
  refused_room k o None p h = tt
  refused_room k None (Some y) p h = elim p [ ]
  refused_room k (Some x) (Some y) p h = omega (arith, p.same.room_kept, h)

  -- who maps exactly some blocks maps exactly the changed ones
  pub changed_exactly : (change : List ℕ → List ℕ) (plugged : List ℕ) (o n : Option L) → IsChangedAt mapped refusals limit room change o n → IfSome o (λ l. mapped l ≡ plugged) → IfSome n (λ l. mapped l ≡ change plugged)
  changed_exactly change plugged o None p h = tt
  changed_exactly change plugged None (Some y) p h = absurd (cc)
  changed_exactly change plugged (Some x) (Some y) p h = p.blocks ∙ ap change h

  pub refused_exactly : (plugged : List ℕ) (o n : Option L) → IsRefusedAt mapped refusals limit room o n → IfSome o (λ l. mapped l ≡ plugged) → IfSome n (λ l. mapped l ≡ plugged)
  refused_exactly plugged o None p h = tt
  refused_exactly plugged None (Some y) p h = elim p [ ]
  refused_exactly plugged (Some x) (Some y) p h = p.same.blocks ∙ h

  -- all were changed
  pub changed_all : (change : List ℕ → List ℕ) (end : ℕ) (old new : List (Option L)) → length old ≤ end → AreChangedBelow mapped refusals limit room change end old new → AreChanged mapped refusals limit room change old new
  changed_all change end old new h p =
      let each : (key : ℕ) → IsChangedAt mapped refusals limit room change (listener_at old key) (listener_at new key) = λ key.
      elim (cases_lt key end) [
        | inl l ↦ p.below key l
        | inr g ↦
            let none : listener_at old key ≡ None = none_past old key (omega (arith, g, h)) in
            subst (λ (o : Option L). IsChangedAt mapped refusals limit room change o (listener_at new key)) (sym none) (p.above key g ∙ none)
      ] in
      record {
        each = each;
        keys = keys_same old new p.size (λ key. changed_live change (listener_at old key) (listener_at new key) (each key));
      }

  pub exactly_changed : (change : List ℕ → List ℕ) (old new : List (Option L)) (plugged : List ℕ) → AreChanged mapped refusals limit room change old new → MapExactly mapped plugged old → MapExactly mapped (change plugged) new
  exactly_changed change old new plugged p h key = changed_exactly change plugged (listener_at old key) (listener_at new key) (p.each key) (h key)

  -- a range was refused under a key
  pub stopped_keys : (change : List ℕ → List ℕ) (key : ℕ) (old mid : List (Option L)) → AreStoppedAt mapped refusals limit room change key old mid → keys_below mid key ≡ keys_below old key
  stopped_keys change key old mid p =
      numbers_agree (is_live mid) (is_live old) key (λ b l. changed_live change (listener_at old b) (listener_at mid b) (p.below b l))

  pub stopped_room : (change : List ℕ → List ℕ) (key k : ℕ) (old mid : List (Option L)) → AreStoppedAt mapped refusals limit room change key old mid → EachListener (λ l. k ≤ room l) old → EachListener (λ l. k ≤ room l) mid
  stopped_room change key k old mid p h b =
      elim (cases_lt b key) [
        | inl l ↦ changed_room change k (listener_at old b) (listener_at mid b) (p.below b l) (h b)
        | inr g ↦ elim (cases_eq b key) [
          | inl e ↦ subst (λ (x : ℕ). IfSome (listener_at mid x) (λ l. k ≤ room l)) (sym e) (refused_room k (listener_at old key) (listener_at mid key) p.here (h key))
          | inr ne ↦ subst (λ (o : Option L). IfSome o (λ l. k ≤ room l)) (sym (p.above b (omega (arith, g, ne)))) (h b)
        ]
      ]

  pub rolled_back : (first n key : ℕ) (old mid new : List (Option L)) → AreStoppedAt mapped refusals limit room (with_range first n) key old mid → AreChangedBelow mapped refusals limit room (without_range first n) key mid new → AreRolledBack mapped refusals limit room first n key old new
  rolled_back first n key old mid new p q =
      let before : (k : ℕ) → k < key → IsChangedAt mapped refusals limit room (λ xs. without_range first n (with_range first n xs)) (listener_at old k) (listener_at new k) = λ k l.
      changed_on (with_range first n) (without_range first n) (listener_at old k) (listener_at mid k) (listener_at new k) (p.below k l) (q.below k l) in
      let here : IsRefusedAt mapped refusals limit room (listener_at old key) (listener_at new key) =
      subst (IsRefusedAt mapped refusals limit room (listener_at old key)) (sym (q.above key (omega arith))) p.here in
      let behind : (k : ℕ) → key < k → listener_at new k ≡ listener_at old k = λ k l. q.above k (omega (arith, l)) ∙ p.above k l in
      let live : (k : ℕ) → is_live new k ≡ is_live old k = λ k.
      elim (cases_lt k key) [
        | inl l ↦ changed_live (λ xs. without_range first n (with_range first n xs)) (listener_at old k) (listener_at new k) (before k l)
        | inr g ↦ elim (cases_eq k key) [
          | inl e ↦ subst (λ (x : ℕ). is_live new x ≡ is_live old x) (sym e) (refused_live (listener_at old key) (listener_at new key) here)
          | inr ne ↦ ap (λ (o : Option L). is_some o) (behind k (omega (arith, g, ne)))
        ]
      ] in
      record { before = before; here = here; behind = behind; keys = keys_same old new (q.size ∙ p.size) live }

  pub exactly_still : (first n key : ℕ) (old new : List (Option L)) (region : ℕ) (plugged : List ℕ) → AreRolledBack mapped refusals limit room first n key old new → IsRisingBelow region plugged → first + n ≤ region → are_unplugged plugged first n ≡ true → MapExactly mapped plugged old → MapExactly mapped plugged new
  exactly_still first n key old new region plugged p r inside u h k =
      elim (cases_lt k key) [
        | inl l ↦
            subst (λ (xs : List ℕ). IfSome (listener_at new k) (λ x. mapped x ≡ xs)) (without_with region first n plugged r inside u)
            (changed_exactly (λ xs. without_range first n (with_range first n xs)) plugged (listener_at old k) (listener_at new k) (p.before k l) (h k))
        | inr g ↦ elim (cases_eq k key) [
          | inl e ↦ subst (λ (x : ℕ). IfSome (listener_at new x) (λ l. mapped l ≡ plugged)) (sym e) (refused_exactly plugged (listener_at old key) (listener_at new key) p.here (h key))
          | inr ne ↦ subst (λ (o : Option L). IfSome o (λ l. mapped l ≡ plugged)) (sym (p.behind k (omega (arith, g, ne)))) (h k)
        ]
      ]

  -- the room stays, whatever was told
  pub room_changed : (change : List ℕ → List ℕ) (old new : List (Option L)) → AreChanged mapped refusals limit room change old new → (k : ℕ) → EachListener (λ l. k ≤ room l) old → EachListener (λ l. k ≤ room l) new
  room_changed change old new p k h key = changed_room change k (listener_at old key) (listener_at new key) (p.each key) (h key)

  pub room_rolled_back : (first n key : ℕ) (old new : List (Option L)) → AreRolledBack mapped refusals limit room first n key old new → (k : ℕ) → EachListener (λ l. k ≤ room l) old → EachListener (λ l. k ≤ room l) new
  room_rolled_back first n key old new p k h b =
      elim (cases_lt b key) [
        | inl l ↦ changed_room (λ xs. without_range first n (with_range first n xs)) k (listener_at old b) (listener_at new b) (p.before b l) (h b)
        | inr g ↦ elim (cases_eq b key) [
          | inl e ↦ subst (λ (x : ℕ). IfSome (listener_at new x) (λ l. k ≤ room l)) (sym e) (refused_room k (listener_at old key) (listener_at new key) p.here (h key))
          | inr ne ↦ subst (λ (o : Option L). IfSome o (λ l. k ≤ room l)) (sym (p.behind b (omega (arith, g, ne)))) (h b)
        ]
      ]

  -- all fit
  pub fit_all : (n end : ℕ) (r : List (Option L)) → length r ≤ end → FitBelow mapped refusals limit room n end r → EachListener (Fits mapped refusals limit room n) r
  fit_all n end r h p key =
      elim (cases_lt key end) [
        | inl l ↦ p key l
        | inr g ↦ subst (λ (o : Option L). IfSome o (Fits mapped refusals limit room n)) (sym (none_past r key (omega (arith, g, h)))) tt
      ]
