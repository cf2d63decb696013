-- The two hands after frames went from the one to the other, frame by frame.
use Rattle.std.proofs.Common.{◌≡◌, ℕ, ◌+◌, ◌-◌, ◌<◌, ◌≤◌, ◌⊎◌, List, ◌++◌, length, length-append, length-take, length-drop, get_or, take, drop, replicate, ap, ◌∙◌, inl, inr, ⊎_elim, arith, None}
use mathlib.Core.Logic.{dite}
use native.Mathlib.Decide.{dec_le}
use Rattle.std.proofs.lemmas.List.{length-replicate, get_or-replicate, get_or-take, get_or-drop}
use Rattle.evac_model.proofs.Lists.{get_or-before_part, get_or-in_part, get_or-after_part}
use Rattle.core_state.specs.declared.opening.Opening.{Opening}
use Rattle.core_state.specs.declared.view.View.{View}
use Rattle.core_state.specs.Views.{hand_frame}
use Rattle.core_state.specs.HandOvers.{MayHandOver, hand_without, hand_with}

module _ {A : Type 0} (xs mid : List A) (a n : ℕ) (size : length mid ≡ n) (fits : a + n ≤ length xs) where
  -- a list of which a part is replaced is as long as it was
  length-parts : length (take a xs ++ mid ++ drop (a + n) xs) ≡ length xs
  length-parts = omega (arith, length-append (take a xs ++ mid) (drop (a + n) xs), length-append (take a xs) mid, length-take a xs, length-drop (a + n) xs)

-- ---- the two hands

-- a frame is one of the n from the first one on, or it isn't
pub is_handed : (first n f : ℕ) → ((first ≤ f) × (f < first + n)) ⊎ ((f < first) ⊎ (first + n ≤ f))
is_handed first n f = dite (dec_le first f)
    (λ low. dite (dec_le (first + n) f) (λ high. inr (inr high)) (λ no. inl (low, omega arith)))
    (λ no. inr (inl (omega arith)))

module _ (o : Opening) (giver receiver : View) (first n : ℕ) (may : MayHandOver o giver receiver first n) where
  giver_fits : first + n ≤ length giver.hand
  giver_fits = let a = may.giver_rests.seated.hand in let b = may.in_range in omega arith

  receiver_fits : first + n ≤ length receiver.hand
  receiver_fits = let a = may.receiver_rests.seated.hand in let b = may.in_range in omega arith

  length-given : length (take n (drop first giver.hand)) ≡ n
  length-given = length-take n (drop first giver.hand) ∙ (let a = length-drop first giver.hand in let b = giver_fits in omega arith)

  pub length-without : length (hand_without giver.hand first n) ≡ length giver.hand
  length-without = length-parts giver.hand (replicate n None) first n (length-replicate n None) giver_fits

  pub length-with : length (hand_with receiver.hand giver.hand first n) ≡ length receiver.hand
  length-with = length-parts receiver.hand (take n (drop first giver.hand)) first n length-given receiver_fits

  -- a frame that is handed over
  pub left_giver : (f : ℕ) → first ≤ f → f < first + n → get_or (hand_without giver.hand first n) f None ≡ None
  left_giver f low high = get_or-in_part giver.hand (replicate n None) first n None (length-replicate n None) giver_fits f low high ∙ get_or-replicate n (f - first) None None (omega arith)

  pub came : (f : ℕ) → first ≤ f → f < first + n → get_or (hand_with receiver.hand giver.hand first n) f None ≡ hand_frame giver f
  came f low high =
      let q : first + (f - first) ≡ f = omega arith in
      get_or-in_part receiver.hand (take n (drop first giver.hand)) first n None length-given receiver_fits f low high
      ∙ get_or-take n (drop first giver.hand) (f - first) None (omega arith)
      ∙ get_or-drop first giver.hand (f - first) None ∙ ap (λ (j : ℕ). get_or giver.hand j None) q

  -- any other frame
  pub stayed : (f : ℕ) → (f < first) ⊎ (first + n ≤ f) → get_or (hand_without giver.hand first n) f None ≡ hand_frame giver f
  stayed f = ⊎_elim
      (λ lt. get_or-before_part giver.hand (replicate n None) first n None (length-replicate n None) giver_fits f lt)
      (λ le. get_or-after_part giver.hand (replicate n None) first n None (length-replicate n None) giver_fits f le)

  pub was_there : (f : ℕ) → (f < first) ⊎ (first + n ≤ f) → get_or (hand_with receiver.hand giver.hand first n) f None ≡ hand_frame receiver f
  was_there f = ⊎_elim
      (λ lt. get_or-before_part receiver.hand (take n (drop first giver.hand)) first n None length-given receiver_fits f lt)
      (λ le. get_or-after_part receiver.hand (take n (drop first giver.hand)) first n None length-given receiver_fits f le)
