use Rattle.std.proofs.Common.{◌≡◌, ◌+◌, ◌<◌, false, true, Bool, drop, length, if◌then◌else◌, sym, ap, ◌∙◌, subst, arith}
use Rattle.core_actors.specs.Counts.{IsUnderWay}
use Rattle.core_actors.specs.OwnerInside.{state_of}
use Rattle.core_actors.specs.Owners.{OwnerState, are_none, owner_after}
use Rattle.core_actors.specs.Places.{ends_call}
use Rattle.core_actors.proofs.Kept.{one_more_dropped, some_before_end, heard_state}
use Rattle.core_actors.proofs.UnderWay.{stays_under_way}
use Rattle.core_actors.proofs.owner.Owner.hear.Goals as goal

pub behind-place-requires-clause-going : goal.behind-place-requires-clause-going
behind-place-requires-clause-going c =
    let lt : c.self.inside.at < length c.self.inside.calls = let place = c.self.invariant.place in omega arith in
    subst (λ (x : OwnerState). are_none x.left ≡ false) c.self.view_is (some_before_end c.self.inside.calls c.self.inside.at lt)

pub returns-then-ends_call : goal.returns-then-ends_call
returns-then-ends_call c =
    let ended : ends_call c.self.inside.place ≡ true = ap (λ (x : OwnerState). ends_call x.place) c.self.view_is ∙ (sym c.ends_call.ensures ∙ c.if-ends_call.true) in
    let next = c.behind-place.ensures ∙ sym (ap (λ (x : OwnerState). (owner_after x c.args.heard.now).place) c.self.view_is) in
    let calls : drop (c.self.inside.at + 1) c.self.inside.calls ≡ (if ends_call c.self.inside.place then drop 1 (drop c.self.inside.at c.self.inside.calls) else drop c.self.inside.at c.self.inside.calls) =
    sym (one_more_dropped c.self.inside.calls c.self.inside.at)
    ∙ sym (ap (λ (b : Bool). if b then drop 1 (drop c.self.inside.at c.self.inside.calls) else drop c.self.inside.at c.self.inside.calls) ended) in
    heard_state (state_of c.self.inside) c.args.heard.now (drop (c.self.inside.at + 1) c.self.inside.calls) c.behind-place.result next calls
    ∙ ap (λ (x : OwnerState). owner_after x c.args.heard.now) c.self.view_is

pub invariant_of-self-2 : goal.invariant_of-self-2
invariant_of-self-2 c =
    let going : ends_call c.self.inside.place ≡ false = ap (λ (x : OwnerState). ends_call x.place) c.self.view_is ∙ (sym c.ends_call.ensures ∙ c.if-ends_call.false) in
    let next = c.behind-place.ensures ∙ sym (ap (λ (x : OwnerState). (owner_after x c.args.heard.now).place) c.self.view_is) in
    let calls : drop c.self.inside.at c.self.inside.calls ≡ (if ends_call c.self.inside.place then drop 1 (drop c.self.inside.at c.self.inside.calls) else drop c.self.inside.at c.self.inside.calls) =
    sym (ap (λ (b : Bool). if b then drop 1 (drop c.self.inside.at c.self.inside.calls) else drop c.self.inside.at c.self.inside.calls) going) in
    record {
      cells = c.self.invariant.cells;
      calls = c.self.invariant.calls;
      place = c.self.invariant.place;
      under_way = subst IsUnderWay (sym (heard_state (state_of c.self.inside) c.args.heard.now (drop c.self.inside.at c.self.inside.calls) c.behind-place.result next calls))
          (stays_under_way (state_of c.self.inside) c.args.heard.now c.self.invariant.under_way);
    }
