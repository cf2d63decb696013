use Rattle.std.proofs.Common.{◌≡◌, ◌≢◌, ℕ, ◌+◌, ◌-◌, ◌^◌, ◌∙◌, ◌++◌, Bool, Option, Some, None, sym, ap, arith}
use Rattle.std.specs.Int.{bit_at}
use Rattle.std.specs.Option.{option_or, option_map}
use Rattle.std.proofs.lemmas.Nat.Bits.{shr_and_one}
use Rattle.buddy.specs.Parts.{Part, lowest_run}
use Rattle.buddy.specs.TreeInside.{flags}
use Rattle.buddy.proofs.Powers.{pow_le}
use Rattle.buddy.proofs.Nodes.{node_bits, shift_one, half_order}
use Rattle.buddy.proofs.Changes.{split}
use Rattle.buddy.proofs.Lowest.{none_there, own_there, not_alike, lowest_of_halves, lowest_run-place}
use Rattle.buddy.proofs.tree.Tree.+lowest.Goals as goal
use Rattle.buddy.proofs.tree.Tree.+lowest.Goals.{In-Two}

pub returns-then-self-wanted-eq0 : goal.returns-then-self-wanted-eq0
returns-then-self-wanted-eq0 t c =
    sym (none_there c.args.self.now.top c.args.self.now.order c.self.inside.orders c.args.self.now.free c.args.wanted
    (node_bits c.self.inside.top c.self.inside.order c.self.inside.orders c.self.inside.halves c.args.self.now c.self.view_is c.self.invariant)
    (sym (shr_and_one c.self.inside.orders c.args.wanted) ∙ c.if-self-wanted-eq0.true))

pub returns-then-wanted-self : goal.returns-then-wanted-self
returns-then-wanted-self t c =
    own_there c.args.self.now.top c.args.self.now.order c.self.inside.orders c.args.self.now.free c.args.wanted
    (node_bits c.self.inside.top c.self.inside.order c.self.inside.orders c.self.inside.halves c.args.self.now c.self.view_is c.self.invariant)
    (λ z. c.if-self-wanted-eq0.false (shr_and_one c.self.inside.orders c.args.wanted ∙ z))
    (c.if-wanted-self.true ∙ ap (λ (p : Part). p.order) c.self.view_is)

-- the lowest run is that of the low half, or else that of the high one
in_two : (t : ℕ) (c : In-Two t) → lowest_run c.args.self.now.top c.args.self.now.order c.args.self.now.free c.args.wanted ≡ option_or (lowest_run c.in-Two.low.value.top c.in-Two.low.value.order c.in-Two.low.value.free c.args.wanted) (option_map (λ place. 2 ^ (c.self.inside.order - 1) + place) (lowest_run c.in-Two.high.value.top c.in-Two.high.value.order c.in-Two.high.value.free c.args.wanted))
in_two t c =
    let h = split c.self.view_is c.self.invariant c.in-Two.is in
    let set : bit_at c.self.inside.orders c.args.wanted ≢ 0 = λ z. c.if-self-wanted-eq0.false (shr_and_one c.self.inside.orders c.args.wanted ∙ z) in
    sym (ap (λ (p : Part). lowest_run p.top p.order c.args.self.now.free c.args.wanted) c.self.view_is)
    ∙ lowest_of_halves c.self.inside.top c.self.inside.order c.self.inside.orders c.args.wanted c.args.self.now.free c.in-Two.low.value c.in-Two.high.value h.is_low h.is_high
    (sym (ap (λ (o : Option Bool). flags o c.self.inside.order (c.in-Two.low.value.free ++ c.in-Two.high.value.free)) (not_alike c.self.inside.top c.self.inside.order c.self.inside.orders c.args.wanted set c.if-wanted-self.false)) ∙ h.same)
    h.bits set c.if-wanted-self.false

pub returns-in-Some : goal.returns-in-Some
returns-in-Some t c =
    sym (in_two t (goal.at.returns-in-Some t c).In-Two
    ∙ ap (λ (o : Option ℕ). option_or o (option_map (λ place. 2 ^ (c.self.inside.order - 1) + place) (lowest_run c.in-Two.high.value.top c.in-Two.high.value.order c.in-Two.high.value.free c.args.wanted)))
    (ap (λ (p : Part). lowest_run p.top p.order p.free c.args.wanted) (sym c.deref.ensures) ∙ sym c.in-Some.ensures))

-- the lowest run, where the low half has none and the high half this one
only_high : (t : ℕ) (c : In-Two t) (low high : Part) (found : Option ℕ) → low ≡ c.in-Two.low.value → high ≡ c.in-Two.high.value → None ≡ lowest_run low.top low.order low.free c.args.wanted → found ≡ lowest_run high.top high.order high.free c.args.wanted → lowest_run c.args.self.now.top c.args.self.now.order c.args.self.now.free c.args.wanted ≡ option_map (λ place. 2 ^ (c.self.inside.order - 1) + place) found
only_high t c low high found el eh none is =
    let run : Part → Option ℕ = λ p. lowest_run p.top p.order p.free c.args.wanted in
    in_two t c
    ∙ ap (λ (o : Option ℕ). option_or o (option_map (λ place. 2 ^ (c.self.inside.order - 1) + place) (run c.in-Two.high.value))) (ap run (sym el) ∙ sym none)
    ∙ ap (λ (o : Option ℕ). option_map (λ place. 2 ^ (c.self.inside.order - 1) + place) o) (ap run (sym eh) ∙ sym is)

pub returns-in_err-place-in-Two : goal.returns-in_err-place-in-Two
returns-in_err-place-in-Two t c =
    c.from_residual.ensures
    ∙ sym (only_high t (goal.at.returns-in_err-place-in-Two t c).In-Two c.deref.result.now c.deref-in-Two.result.now None c.deref.ensures c.deref-in-Two.ensures c.in_default.ensures (sym c.in_err-place-in-Two.was ∙ c.lowest-in-Two.ensures))

pub overflow_add-result : goal.overflow_add-result
overflow_add-result t c =
    let d = (goal.at.overflow_add-result t c).In-Two in
    let h = split d.self.view_is d.self.invariant d.in-Two.is in
    let place = lowest_run-place c.deref-in-Two.result.now.top c.deref-in-Two.result.now.order c.deref-in-Two.result.now.free c.args.wanted c.in_ok-place-in-Two.place (sym c.lowest-in-Two.ensures ∙ c.in_ok-place-in-Two.was) in
    let order : c.deref-in-Two.result.now.order ≡ c.self.inside.order - 1 = ap (λ (p : Part). p.order) c.deref-in-Two.ensures ∙ half_order c.self.inside.top c.self.inside.order c.in-Two.high.value h.is_high in
    let half = shift_one (c.self.inside.order - 1) (omega (arith, c.self.invariant.small)) in
    omega (arith, place.within, ap (λ (n : ℕ). 2 ^ n) order, half, pow_le (c.self.inside.order - 1) 16 (omega (arith, c.self.invariant.small)))

pub returns-in_ok-place-in-Two : goal.returns-in_ok-place-in-Two
returns-in_ok-place-in-Two t c =
    ap (λ (n : ℕ). Some (n + c.in_ok-place-in-Two.place)) (shift_one (c.self.inside.order - 1) (omega (arith, c.self.invariant.small)))
    ∙ sym (only_high t (goal.at.returns-in_ok-place-in-Two t c).In-Two c.deref.result.now c.deref-in-Two.result.now (Some c.in_ok-place-in-Two.place) c.deref.ensures c.deref-in-Two.ensures c.in_default.ensures (sym c.in_ok-place-in-Two.was ∙ c.lowest-in-Two.ensures))
