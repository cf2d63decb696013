-- Facts that hold of each element of a list, and lists that are read by `get_or`.
use Rattle.std.proofs.Common.{◌≡◌, ℕ, suc, zero, ◌+◌, ◌-◌, ◌<◌, ◌≤◌, List, [], ◌∷◌, ◌++◌, length, length-append, take, drop, set, get_or, replicate, refl, ap, ◌∙◌, arith}
use Rattle.std.specs.List.{AllByRecursion}
use Rattle.std.proofs.lemmas.List.{length-take, get_or_append_left, get_or-append_right, get_or-take, get_or-drop}

pub all_at : {X : Type 0} → (P : X → Type 0) (xs : List X) → AllByRecursion P xs → (i : ℕ) (d : X) → i < length xs → P (get_or xs i d)
all_at P [] h i d lt = absurd (omega arith)
all_at P (x ∷ xs) h zero d lt = h.0
all_at P (x ∷ xs) h (suc i) d lt = all_at P xs h.1 i d (omega arith)

pub all_set : {X : Type 0} → (P : X → Type 0) (xs : List X) → AllByRecursion P xs → (i : ℕ) (y : X) → P y → AllByRecursion P (set xs i y)
all_set P [] h i y p = tt
all_set P (x ∷ xs) h zero y p = (p, h.1)
all_set P (x ∷ xs) h (suc i) y p = (h.0, all_set P xs h.1 i y p)

pub all_push : {X : Type 0} → (P : X → Type 0) (xs : List X) → AllByRecursion P xs → (y : X) → P y → AllByRecursion P (xs ++ y ∷ [])
all_push P [] h y p = (p, tt)
all_push P (x ∷ xs) h y p = (h.0, all_push P xs h.1 y p)

pub all_weaker : {X : Type 0} → (P Q : X → Type 0) → ((x : X) → P x → Q x) → (xs : List X) → AllByRecursion P xs → AllByRecursion Q xs
all_weaker P Q f [] h = tt
all_weaker P Q f (x ∷ xs) h = (f x h.0, all_weaker P Q f xs h.1)

-- a list of equal items, read with that item past its end
pub get_or-replicate_same : {A : Type 0} (n i : ℕ) (x : A) → get_or (replicate n x) i x ≡ x
get_or-replicate_same zero i x = refl
get_or-replicate_same (suc n) zero x = refl
get_or-replicate_same (suc n) (suc i) x = get_or-replicate_same n i x

-- a list of which the n items from place a on are replaced
module _ {A : Type 0} (xs mid : List A) (a n : ℕ) (d : A) (size : length mid ≡ n) (fits : a + n ≤ length xs) where
  length-front : length (take a xs) ≡ a
  length-front = length-take a xs ∙ omega arith

  length-front_and_mid : length (take a xs ++ mid) ≡ a + n
  length-front_and_mid = length-append (take a xs) mid ∙ (let f = length-front in omega arith)

  pub get_or-before_part : (k : ℕ) → k < a → get_or (take a xs ++ mid ++ drop (a + n) xs) k d ≡ get_or xs k d
  get_or-before_part k lt = let f = length-front in let b = length-front_and_mid in
      get_or_append_left (take a xs ++ mid) (drop (a + n) xs) d k (omega arith)
      ∙ get_or_append_left (take a xs) mid d k (omega arith) ∙ get_or-take a xs k d lt

  pub get_or-in_part : (k : ℕ) → a ≤ k → k < a + n → get_or (take a xs ++ mid ++ drop (a + n) xs) k d ≡ get_or mid (k - a) d
  get_or-in_part k low high = let b = length-front_and_mid in
      get_or_append_left (take a xs ++ mid) (drop (a + n) xs) d k (omega arith)
      ∙ get_or-append_right (take a xs) mid a k d length-front low

  pub get_or-after_part : (k : ℕ) → a + n ≤ k → get_or (take a xs ++ mid ++ drop (a + n) xs) k d ≡ get_or xs k d
  get_or-after_part k high =
      let q : a + n + (k - (a + n)) ≡ k = omega arith in
      get_or-append_right (take a xs ++ mid) (drop (a + n) xs) (a + n) k d length-front_and_mid high
      ∙ get_or-drop (a + n) xs (k - (a + n)) d ∙ ap (λ (j : ℕ). get_or xs j d) q
