-- Lists with nothing before a place and nothing from another on.
use Rattle.std.proofs.Common.{◌≡◌, ℕ, ◌+◌, ◌-◌, ◌≤◌, List, ◌++◌, length, take, drop, replicate, Option, None, sym, ap, ◌∙◌, arith}
use Rattle.std.proofs.lemmas.List.{take-take, drop-drop, take-replicate, drop-replicate, replicate-append-replicate}

-- nothing in fewer of them
pub none_in_fewer : (xs : List (Option ℕ)) (a from : ℕ) → a ≤ from → take from xs ≡ replicate from None → take a xs ≡ replicate a None
none_in_fewer xs a from le none =
    sym (take-take a from xs le)
    ∙ ap (λ (ys : List (Option ℕ)). take a ys) none
    ∙ take-replicate a from None le

-- nothing from a later place on
pub none_from_later : (xs : List (Option ℕ)) (to b : ℕ) → to ≤ b → b ≤ length xs → drop to xs ≡ replicate (length xs - to) None → drop b xs ≡ replicate (length xs - b) None
none_from_later xs to b le high none =
    let place : to + (b - to) ≡ b = omega arith in
    let left : length xs - to - (b - to) ≡ length xs - b = omega arith in
    sym (drop-drop (b - to) to xs ∙ ap (λ (k : ℕ). drop k xs) place)
    ∙ ap (λ (ys : List (Option ℕ)). drop (b - to) ys) none
    ∙ drop-replicate (b - to) (length xs - to) None
    ∙ ap (λ (k : ℕ). replicate k None) left

-- nothing at all, once the places between are emptied
pub none_left : (xs : List (Option ℕ)) (a to : ℕ) → a ≤ to → to ≤ length xs → take a xs ≡ replicate a None → drop to xs ≡ replicate (length xs - to) None
    → take a xs ++ (replicate (to - a) None ++ drop to xs) ≡ replicate (length xs) None
none_left xs a to le high before behind =
    let sum : (to - a) + (length xs - to) ≡ length xs - a = omega arith in
    let all : a + (length xs - a) ≡ length xs = omega arith in
    ap (λ (ys : List (Option ℕ)). ys ++ (replicate (to - a) None ++ drop to xs)) before
    ∙ ap (λ (ys : List (Option ℕ)). replicate a None ++ (replicate (to - a) None ++ ys)) behind
    ∙ ap (λ (ys : List (Option ℕ)). replicate a None ++ ys) (replicate-append-replicate (to - a) (length xs - to) None ∙ ap (λ (k : ℕ). replicate k None) sum)
    ∙ replicate-append-replicate a (length xs - a) None
    ∙ ap (λ (k : ℕ). replicate k None) all
