use Rattle.std.proofs.Common.{◌≡◌, ℕ, ◌-◌, ◌+◌, ◌<◌, ◌≤◌, List, [], ◌∷◌, ◌++◌, take, drop, reverse, length, get_or, ap, ◌∙◌, refl, arith}
use Rattle.std.proofs.lemmas.List.{take_more, reverse-append}
use Rattle.frame_cache.proofs.cache.Cache.take.Goals as goal

-- without its last, a front of a list has one less in front when it is reversed
reverse_shorter : (xs : List ℕ) (n : ℕ) → 0 < n → n ≤ length xs → reverse (take (n - 1) xs) ≡ drop 1 (reverse (take n xs))
reverse_shorter xs n some within =
    let more : take n xs ≡ take (n - 1) xs ++ get_or xs (n - 1) 0 ∷ [] =
    ap (λ m. take m xs) (let e : n ≡ (n - 1) + 1 = omega arith in e) ∙ take_more xs (n - 1) 0 (omega arith) in
    rw more (rw reverse-append refl)

pub returns-clause-rest : goal.returns-clause-rest
returns-clause-rest c =
    reverse_shorter c.self.inside.frames c.self.inside.count (omega arith) (omega arith) ∙ ap (drop 1) c.self.view_is
