use Rattle.std.proofs.Common.{◌≡◌, ℕ, ◌+◌, ◌-◌, ◌*◌, ◌%◌, ◌^◌, ◌<◌, ◌≤◌, ◌∙◌, ◌++◌, Bool, List, take, drop, replicate, Option, sym, ap, subst, arith}
use Rattle.buddy.specs.Parts.{Part}
use Rattle.buddy.specs.TreeInside.{flags}
use Rattle.buddy.specs.TreeNode.{halves_free}
use Rattle.buddy.proofs.Powers.{in_low, in_high, high_multiple}
use Rattle.buddy.proofs.Flags.{run_low, run_high, run_alike}
use Rattle.buddy.proofs.Nodes.{shift_one, half_below, room_in, half_length}
use Rattle.buddy.proofs.Changes.{split, in_order}
use Rattle.buddy.proofs.tree.Tree.+copy_run.Goals as goal
use Rattle.buddy.proofs.tree.Tree.+copy_run.Goals.{In-Two}

pub returns-in-Some : goal.returns-in-Some
returns-in-Some t c =
    let alike_now : replicate (2 ^ c.self.inside.order) c.in-Some.free ≡ c.args.self.now.free = ap (λ (o : Option Bool). flags o c.self.inside.order (halves_free c.self.inside.halves)) c.in-Some.ensures ∙ ap (λ (p : Part). p.free) c.self.view_is in
    c.fill.ensures.after (λ y e. e)
    ∙ ap (λ (n : ℕ). replicate n c.in-Some.free) c.requires.room
    ∙ sym (ap (λ (xs : List Bool). take (2 ^ c.args.order) (drop c.args.first xs)) (sym alike_now) ∙ run_alike c.args.first (2 ^ c.args.order) (2 ^ c.self.inside.order) c.in-Some.free (omega (arith, c.requires.inside, ap (λ (p : Part). 2 ^ p.order) c.self.view_is)))

-- the halves say what the node says
same : (t : ℕ) (c : In-Two t) → c.in-Two.low.value.free ++ c.in-Two.high.value.free ≡ c.args.self.now.free
same t c = ap (λ (o : Option Bool). flags o c.self.inside.order (c.in-Two.low.value.free ++ c.in-Two.high.value.free)) c.in_default.ensures ∙ (split c.self.view_is c.self.invariant c.in-Two.is).same

half : (t : ℕ) (c : In-Two t) → 1 * 2 ^ (c.self.inside.order - 1) % 2 ^ 32 ≡ 2 ^ (c.self.inside.order - 1)
half t c = shift_one (c.self.inside.order - 1) (omega (arith, c.self.invariant.small))

room_low : (t : ℕ) (c : In-Two t) → c.args.first < 1 * 2 ^ (c.self.inside.order - 1) % 2 ^ 32 → c.args.first + 2 ^ c.args.order ≤ 2 ^ (c.self.inside.order - 1)
room_low t c l = in_low c.args.order c.self.inside.order c.args.first c.if-order-self.false c.requires.place (in_order c.self.view_is c.requires.inside) (omega (arith, l, half t c))

pub copy_run-requires : goal.copy_run-requires
copy_run-requires t c =
    let d = (goal.at.copy_run-requires t c).In-Two in
    let h = (split d.self.view_is d.self.invariant d.in-Two.is).is_low in
    let falls : c.deref.result.now.order < t = omega (arith, c.decreases, half_below c.self.inside.order c.in-Two.low.value c.deref.result.now c.self.inside.top h c.deref.ensures, ap (λ (q : Part). q.order) c.self.view_is) in
    (falls, (c.requires.place, (room_in c.self.inside.order c.args.first (2 ^ c.args.order) c.in-Two.low.value c.deref.result.now c.self.inside.top h c.deref.ensures (room_low t d c.if-first-half.true), c.requires.room)))

pub copy_run-requires-else-first-half : goal.copy_run-requires-else-first-half
copy_run-requires-else-first-half t c =
    let d = (goal.at.copy_run-requires-else-first-half t c).In-Two in
    let h = (split d.self.view_is d.self.invariant d.in-Two.is).is_high in
    let above : 2 ^ (c.self.inside.order - 1) ≤ c.args.first = omega (arith, c.if-first-half.false, half t d) in
    let room = in_high c.args.order c.self.inside.order c.args.first c.if-order-self.false (in_order c.self.view_is c.requires.inside) above in
    let place = high_multiple c.args.order c.self.inside.order c.args.first c.if-order-self.false c.requires.place (in_order c.self.view_is c.requires.inside) above in
    let falls : c.deref-else-first-half.result.now.order < t = omega (arith, c.decreases, half_below c.self.inside.order c.in-Two.high.value c.deref-else-first-half.result.now c.self.inside.top h c.deref-else-first-half.ensures, ap (λ (q : Part). q.order) c.self.view_is) in (
      falls,
      (
        ap (λ (n : ℕ). (c.args.first - n) % 2 ^ c.args.order) (half t d) ∙ place,
        (
          subst (λ (n : ℕ). c.args.first - n + 2 ^ c.args.order ≤ 2 ^ c.deref-else-first-half.result.now.order) (sym (half t d))
              (room_in c.self.inside.order (c.args.first - 2 ^ (c.self.inside.order - 1)) (2 ^ c.args.order) c.in-Two.high.value c.deref-else-first-half.result.now c.self.inside.top h c.deref-else-first-half.ensures room),
          c.requires.room,
        ),
      ),
    )

pub returns-then-first-half : goal.returns-then-first-half
returns-then-first-half t c =
    let d = (goal.at.returns-then-first-half t c).In-Two in
    c.copy_run.ensures
    ∙ ap (λ (p : Part). take (2 ^ c.args.order) (drop c.args.first p.free)) c.deref.ensures
    ∙ sym (run_low c.args.first (2 ^ c.args.order) c.in-Two.low.value.free c.in-Two.high.value.free (omega (arith, room_low t d c.if-first-half.true, half_length c.self.inside.top c.self.inside.order c.in-Two.low.value (split d.self.view_is d.self.invariant d.in-Two.is).is_low)))
    ∙ ap (λ (xs : List Bool). take (2 ^ c.args.order) (drop c.args.first xs)) (same t d)

pub returns-else-first-half : goal.returns-else-first-half
returns-else-first-half t c =
    let d = (goal.at.returns-else-first-half t c).In-Two in
    let low = half_length c.self.inside.top c.self.inside.order c.in-Two.low.value (split d.self.view_is d.self.invariant d.in-Two.is).is_low in
    c.copy_run-else-first-half.ensures
    ∙ ap (λ (p : Part). take (2 ^ c.args.order) (drop (c.args.first - 1 * 2 ^ (c.self.inside.order - 1) % 2 ^ 32) p.free)) c.deref-else-first-half.ensures
    ∙ ap (λ (n : ℕ). take (2 ^ c.args.order) (drop (c.args.first - n) c.in-Two.high.value.free)) (half t d ∙ sym low)
    ∙ sym (run_high c.args.first (2 ^ c.args.order) c.in-Two.low.value.free c.in-Two.high.value.free (omega (arith, c.if-first-half.false, half t d, low)))
    ∙ ap (λ (xs : List Bool). take (2 ^ c.args.order) (drop c.args.first xs)) (same t d)
