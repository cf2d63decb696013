use Rattle.std.proofs.Common.{◌≡◌, [], replicate, get_or, rules, sym, ◌∙◌, arith}
use Rattle.std.proofs.lemmas.List.{ext_get_or, get_or-replicate}
use Rattle.frame_cache.proofs.caches.Caches.new.Goals as goal

pub returns : goal.returns
returns c =
    ext_get_or [] c.from_fn.result (replicate 17 []) c.from_fn.ensures.items.long
    (λ i within.
    let called = c.from_fn.ensures.items.at i [] (omega (arith, c.from_fn.ensures.items.long)) in
    let empty : get_or c.from_fn.result i [] ≡ [] = search rules in
    empty ∙ sym (get_or-replicate 17 i [] [] (omega (arith, c.from_fn.ensures.items.long))))
