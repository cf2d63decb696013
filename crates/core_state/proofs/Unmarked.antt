-- Lists of unmarked frames: a frame is looked for, and taken out.
use Rattle.std.proofs.Common.{◌≡◌, ℕ, eqb, cond, Bool, true, false, not, zero, suc, ◌+◌, ◌<◌, ◌≤◌, List, [], ◌∷◌, ◌++◌, filter, length, take, drop, sym, refl, ap, ◌∙◌, append_assoc, arith}
use Rattle.std.specs.List.{count_by, list_any}
use Rattle.std.proofs.lemmas.List.{drop-append-le, take-append-le, length-drop}
use Rattle.std.proofs.lemmas.List.Elements.{filter-append}
use Rattle.std.proofs.lemmas.List.Sums.{sum_by-append, sum_by-cons}
use Rattle.std.proofs.Math.Seq.{take-add}
use Rattle.std.proofs.lemmas.Grind.{common_steps}

module _ {X : Type 0} (p : X → Bool) where
  count_by-cons : (x : X) (xs : List X) → count_by p (x ∷ xs) ≡ cond (p x) 1 0 + count_by p xs
  count_by-cons x xs = sum_by-cons (λ y. cond (p y) 1 0) x xs

  -- whether a list has such an item is whether it has more than none
  pub any-is_counted : (xs : List X) → list_any p xs ≡ not (eqb (count_by p xs) 0)
  any-is_counted [] = refl
  any-is_counted (x ∷ xs) = grind (arith, common_steps, count_by-cons x xs, any-is_counted xs)

drop_next : {X : Type 0} (i : ℕ) (xs : List X) → drop 1 (drop i xs) ≡ drop (suc i) xs
drop_next zero xs = refl
drop_next (suc i) [] = refl
drop_next (suc i) (x ∷ xs) = drop_next i xs

drop_drop : {X : Type 0} (i : ℕ) (xs : List X) → drop 1 (drop i xs) ≡ drop (i + 1) xs
drop_drop i xs = let q : suc i ≡ i + 1 = omega arith in drop_next i xs ∙ ap (λ (n : ℕ). drop n xs) q

module _ {X : Type 0} (q : X → Bool) (xs : List X) (i : ℕ) (lt : i < length xs) (l : List X) (is : l ≡ drop i xs ++ filter (λ x. not (q x)) (take i xs)) where
  some_left : 1 ≤ length (drop i xs)
  some_left = let a = length-drop i xs in omega arith

  first : take 1 l ≡ take 1 (drop i xs)
  first = ap (λ (m : List X). take 1 m) is ∙ take-append-le 1 (drop i xs) (filter (λ x. not (q x)) (take i xs)) some_left

  rest : drop 1 l ≡ drop (i + 1) xs ++ filter (λ x. not (q x)) (take i xs)
  rest = ap (λ (m : List X). drop 1 m) is ∙ drop-append-le 1 (drop i xs) (filter (λ x. not (q x)) (take i xs)) some_left ∙ ap (λ (m : List X). m ++ filter (λ x. not (q x)) (take i xs)) (drop_drop i xs)

  -- one more item has gone round
  pub passed_rest : (new : List X) → new ≡ drop 1 l ++ filter (λ x. not (q x)) (take 1 l) → new ≡ drop (i + 1) xs ++ filter (λ x. not (q x)) (take (i + 1) xs)
  passed_rest new n =
      n ∙ ap (λ (m : List X). drop 1 l ++ filter (λ x. not (q x)) m) first ∙ ap (λ (m : List X). m ++ filter (λ x. not (q x)) (take 1 (drop i xs))) rest
      ∙ append_assoc (drop (i + 1) xs) (filter (λ x. not (q x)) (take i xs)) (filter (λ x. not (q x)) (take 1 (drop i xs)))
      ∙ ap (λ (m : List X). drop (i + 1) xs ++ m) (sym (filter-append (λ x. not (q x)) (take i xs) (take 1 (drop i xs))) ∙ ap (λ (m : List X). filter (λ x. not (q x)) m) (sym (take-add i 1 xs)))

  pub passed_pool : (a b c : ℕ) → b ≡ a + count_by q (take i xs) → c ≡ b + count_by q (take 1 l) → c ≡ a + count_by q (take (i + 1) xs)
  passed_pool a b c e n =
      let x : count_by q (take 1 l) ≡ count_by q (take 1 (drop i xs)) = ap (λ (m : List X). count_by q m) first in
      let y : count_by q (take (i + 1) xs) ≡ count_by q (take i xs) + count_by q (take 1 (drop i xs)) = ap (λ (m : List X). count_by q m) (take-add i 1 xs) ∙ sum_by-append (λ z. cond (q z) 1 0) (take i xs) (take 1 (drop i xs)) in
      omega arith
