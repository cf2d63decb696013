-- Frames that are put into an empty cache one after another.
use Rattle.std.proofs.Common.{◌≡◌, ℕ, suc, ◌+◌, ◌-◌, ◌<◌, ◌≤◌, List, [], ◌∷◌, length, get_or, set, take, sym, ap, ◌∙◌, arith, inl, inr}
use Rattle.std.specs.List.{range_with_len}
use Rattle.std.proofs.lemmas.Bool.{cases_lt}
use Rattle.std.proofs.lemmas.List.{get_or-set_same, set-set, set_past, set-get_or, take_all, length-set}
use Rattle.std.proofs.lemmas.List.FromFn.{length-range_with_len}
use Rattle.evac_model.specs.SpaceJournal.{put_back}

-- one frame more in a cache with room
put_more : (caches : List (List ℕ)) (who f : ℕ) (xs : List ℕ) → length xs < 8 → put_back (set caches who xs) who f ≡ set caches who (f ∷ xs)
put_more caches who f xs room =
    elim (cases_lt who (length caches)) [
      | inl l ↦
          ap (λ (ys : List ℕ). set (set caches who xs) who (take 8 (f ∷ ys))) (get_or-set_same caches who xs [] l)
          ∙ (ap (set (set caches who xs) who) (take_all 8 (f ∷ xs) (omega arith)) ∙ set-set caches who xs (f ∷ xs))
      | inr g ↦
          set_past (set caches who xs) who _ (omega (arith, length-set caches who xs)) ∙ (set_past caches who xs g ∙ sym (set_past caches who (f ∷ xs) g))
    ]

pub puts_none : (caches : List (List ℕ)) (who first frames : ℕ) → get_or caches who [] ≡ [] → caches ≡ set caches who (range_with_len (first + frames) (frames - frames))
puts_none caches who first frames empty =
    let none : frames - frames ≡ 0 = omega arith in
    sym (ap (λ (n : ℕ). set caches who (range_with_len (first + frames) n)) none ∙ (ap (set caches who) (sym empty) ∙ set-get_or caches who []))

pub puts_more : (caches before after : List (List ℕ)) (who first k frames : ℕ) → 1 < k → k ≤ frames → frames ≤ 8 → before ≡ set caches who (range_with_len (first + k) (frames - k)) → after ≡ put_back before who (first + (k - 1)) → after ≡ set caches who (range_with_len (first + (k - 1)) (frames - (k - 1)))
puts_more caches before after who first k frames more within few held put =
    let one : frames - (k - 1) ≡ suc (frames - k) = omega arith in
    let next : first + (k - 1) + 1 ≡ first + k = omega arith in
    put
    ∙ (ap (λ (cs : List (List ℕ)). put_back cs who (first + (k - 1))) held
    ∙ (put_more caches who (first + (k - 1)) (range_with_len (first + k) (frames - k)) (omega (arith, length-range_with_len (first + k) (frames - k)))
    ∙ (ap (λ (n : ℕ). set caches who ((first + (k - 1)) ∷ range_with_len n (frames - k))) (sym next)
    ∙ ap (λ (n : ℕ). set caches who (range_with_len (first + (k - 1)) n)) (sym one))))

pub puts_all : (caches after : List (List ℕ)) (who first k frames : ℕ) → k ≡ 1 → after ≡ set caches who (range_with_len (first + k) (frames - k)) → after ≡ set caches who (range_with_len (first + 1) (frames - 1))
puts_all caches after who first k frames one held =
    held ∙ ap (λ (n : ℕ). set caches who (range_with_len (first + n) (frames - n))) one
