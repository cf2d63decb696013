use Rattle.std.proofs.Common.{◌≡◌, ℕ, Option, None, List, ◌++◌, length, take, drop, replicate, sym, ap, ◌∙◌, ◌-◌, arith}
use Rattle.std.specs.Vec.{with_items}
use Rattle.std.proofs.lemmas.List.{length-replicate, take-replicate, with_items_is}
use Rattle.core_state.proofs.KnownRanges.{none_in_fewer, none_left}
use Rattle.core_state.proofs.known_cells.KnownCells.clear.Goals as goal

pub invariant_of-self : goal.invariant_of-self
invariant_of-self c =
    let xs : List (Option ℕ) = c.self.inside.items.items in
    let a : ℕ = c.lower-from.result in
    let to : ℕ = c.self.inside.to in
    let n : ℕ = c.len-self-inside.result in
    let count : length xs ≡ c.self.inside.items.len = sym (ap (λ (ys : List (Option ℕ)). length ys) c.as_mut_slice.ensures.value) ∙ c.as_mut_slice.ensures.len in
    let new : c.forget.new.cells ≡ replicate (length xs) None =
    c.forget.ensures
    ∙ ap (λ (ys : List (Option ℕ)). take a ys ++ (replicate (to - a) None ++ drop to ys)) c.as_mut_slice.ensures.value
    ∙ none_left xs a to c.lower-from.ensures.second c.self.invariant.high (none_in_fewer xs a c.self.inside.from c.lower-from.ensures.first c.self.invariant.before) c.self.invariant.behind in
    let after : (with_items c.self.inside.items c.forget.new.cells).items ≡ replicate (length xs) None =
    with_items_is c.self.inside.items c.forget.new.cells (ap (λ (ys : List (Option ℕ)). length ys) new ∙ length-replicate (length xs) None ∙ count) ∙ new in
    let size : length (with_items c.self.inside.items c.forget.new.cells).items ≡ length xs = ap (λ (ys : List (Option ℕ)). length ys) after ∙ length-replicate (length xs) None in
    let left : length xs ≡ length (with_items c.self.inside.items c.forget.new.cells).items - 0 = omega arith in
    let same : n ≡ length xs = c.len-self-inside.ensures ∙ sym count in
    record {
      low = omega arith;
      high = omega arith;
      before = ap (λ (ys : List (Option ℕ)). take n ys) after ∙ take-replicate n (length xs) None (omega arith);
      behind = after ∙ ap (λ (k : ℕ). replicate k None) left;
    }

pub returns : goal.returns
returns c =
    let xs : List (Option ℕ) = c.self.inside.items.items in
    let a : ℕ = c.lower-from.result in
    let to : ℕ = c.self.inside.to in
    let count : length xs ≡ c.self.inside.items.len = sym (ap (λ (ys : List (Option ℕ)). length ys) c.as_mut_slice.ensures.value) ∙ c.as_mut_slice.ensures.len in
    let new : c.forget.new.cells ≡ replicate (length xs) None =
    c.forget.ensures
    ∙ ap (λ (ys : List (Option ℕ)). take a ys ++ (replicate (to - a) None ++ drop to ys)) c.as_mut_slice.ensures.value
    ∙ none_left xs a to c.lower-from.ensures.second c.self.invariant.high (none_in_fewer xs a c.self.inside.from c.lower-from.ensures.first c.self.invariant.before) c.self.invariant.behind in
    let after : (with_items c.self.inside.items c.forget.new.cells).items ≡ replicate (length xs) None =
    with_items_is c.self.inside.items c.forget.new.cells (ap (λ (ys : List (Option ℕ)). length ys) new ∙ length-replicate (length xs) None ∙ count) ∙ new in
    after ∙ ap (λ (ys : List (Option ℕ)). replicate (length ys) None) c.self.view_is
