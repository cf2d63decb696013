use Rattle.std.proofs.Common.{ℕ, ◌+◌, ◌-◌, ◌^◌, ◌%◌, ◌<◌, ◌≤◌, ◌*◌, ◌∙◌, Box, replicate, sym, ap, subst, arith}
use Rattle.std.proofs.lemmas.List.{length-replicate}
use Rattle.std.specs.declared.alloc.Global.{Global}
use Rattle.buddy.specs.declared.tree.Tree.{Tree}
use Rattle.buddy.specs.Parts.{Part, replaced}
use Rattle.buddy.specs.TreeNode.{IsHalf}
use Rattle.buddy.proofs.Powers.{in_low, in_high, high_multiple}
use Rattle.buddy.proofs.Nodes.{shift_one, half_below, room_in}
use Rattle.buddy.proofs.Changes.{AreHandedDown, halves_down, in_order, joined_bits, AreChanged, changed_low, changed_high, changed_at, changed_node, changed_part, no_smaller_run}
use Rattle.buddy.proofs.tree.Tree.+set_run.Goals as goal
use Rattle.buddy.proofs.tree.Tree.+set_run.Goals.{After-hand-in-Two, Joined-first-half, then-first-half, else-first-half}

pub set_run-requires : goal.set_run-requires
set_run-requires t c =
    let g = (goal.at.set_run-requires t c).After-hand-in-Two in
    let d = halves_down g.self.view_is g.self.invariant g.in-Two.is g.all_alike-all.ensures g.deref_mut.ensures.value g.hand.ensures g.deref_mut-in-Two.ensures.value g.hand-in-Two.ensures in
    let room = in_low c.args.order c.self.inside.order c.args.first c.if-order-self.false c.requires.place (in_order c.self.view_is c.requires.inside) (omega (arith, c.if-first-half.true, shift_one (c.self.inside.order - 1) (omega (arith, c.self.invariant.small)))) in
    let falls : c.deref_mut-then-first-half.result.now.order < t = omega (arith, c.decreases, half_below c.self.inside.order c.hand.new.self c.deref_mut-then-first-half.result.now c.self.inside.top d.is_low c.deref_mut-then-first-half.ensures.value, ap (λ (q : Part). q.order) c.self.view_is) in
    (falls, (omega (arith, c.requires.runs, d.is_low.same_top, ap (λ (q : Part). q.top) c.deref_mut-then-first-half.ensures.value, ap (λ (q : Part). q.top) c.self.view_is), (c.requires.place, room_in c.self.inside.order c.args.first (2 ^ c.args.order) c.hand.new.self c.deref_mut-then-first-half.result.now c.self.inside.top d.is_low c.deref_mut-then-first-half.ensures.value room)))

pub set_run-requires-else-first-half : goal.set_run-requires-else-first-half
set_run-requires-else-first-half t c =
    let g = (goal.at.set_run-requires-else-first-half t c).After-hand-in-Two in
    let d = halves_down g.self.view_is g.self.invariant g.in-Two.is g.all_alike-all.ensures g.deref_mut.ensures.value g.hand.ensures g.deref_mut-in-Two.ensures.value g.hand-in-Two.ensures in
    let half = shift_one (c.self.inside.order - 1) (omega (arith, c.self.invariant.small)) in
    let above : 2 ^ (c.self.inside.order - 1) ≤ c.args.first = omega (arith, c.if-first-half.false, half) in
    let within = in_order c.self.view_is c.requires.inside in
    let room = in_high c.args.order c.self.inside.order c.args.first c.if-order-self.false within above in
    let place = high_multiple c.args.order c.self.inside.order c.args.first c.if-order-self.false c.requires.place within above in
    let falls : c.deref_mut-else-first-half.result.now.order < t = omega (arith, c.decreases, half_below c.self.inside.order c.hand-in-Two.new.self c.deref_mut-else-first-half.result.now c.self.inside.top d.is_high c.deref_mut-else-first-half.ensures.value, ap (λ (q : Part). q.order) c.self.view_is) in (
      falls,
      (
        omega (arith, c.requires.runs, d.is_high.same_top, ap (λ (q : Part). q.top) c.deref_mut-else-first-half.ensures.value, ap (λ (q : Part). q.top) c.self.view_is),
        (
          ap (λ (n : ℕ). (c.args.first - n) % 2 ^ c.args.order) half ∙ place,
          subst (λ (n : ℕ). c.args.first - n + 2 ^ c.args.order ≤ 2 ^ c.deref_mut-else-first-half.result.now.order) (sym half)
              (room_in c.self.inside.order (c.args.first - 2 ^ (c.self.inside.order - 1)) (2 ^ c.args.order) c.hand-in-Two.new.self c.deref_mut-else-first-half.result.now c.self.inside.top d.is_high c.deref_mut-else-first-half.ensures.value room),
        ),
      ),
    )

changed : (t : ℕ) (c : Joined-first-half t) → AreHandedDown c.self.inside.top c.self.inside.order c.args.self.now.free c.hand.new.self c.hand-in-Two.new.self → c.args.first + 2 ^ c.args.order ≤ 2 ^ c.self.inside.order → AreChanged c.self.inside.top c.self.inside.order c.args.first (2 ^ c.args.order) (replicate (2 ^ c.args.order) c.args.free) c.args.self.now.free c.if-first-half.low.value c.if-first-half.high.value
changed t c d within =
    let others = replicate (2 ^ c.args.order) c.args.free in
    let half = shift_one (c.self.inside.order - 1) (omega (arith, c.self.invariant.small)) in
    elim c.if-first-half.branch [
      | then-first-half w ↦
          changed_at c.self.inside.top c.self.inside.order c.args.first (2 ^ c.args.order) others c.args.self.now.free w.set_run.new.self c.hand-in-Two.new.self c.if-first-half.low.value c.if-first-half.high.value
          (changed_low c.self.inside.top c.self.inside.order c.args.first (2 ^ c.args.order) others c.args.self.now.free c.hand.new.self c.hand-in-Two.new.self w.set_run.new.self d
          (length-replicate (2 ^ c.args.order) c.args.free)
          (in_low c.args.order c.self.inside.order c.args.first c.if-order-self.false c.requires.place within (omega (arith, w.if-first-half.true, half)))
          (w.set_run.ensures ∙ ap (λ (p : Part). record p { free = replaced c.args.first (2 ^ c.args.order) (replicate (2 ^ c.args.order) c.args.free) p.free }) w.deref_mut-then-first-half.ensures.value))
          (ap (λ (b : Box Tree Global). b.value) w.low-is) (ap (λ (b : Box Tree Global). b.value) w.high-is)
      | else-first-half w ↦
          let above : 2 ^ (c.self.inside.order - 1) ≤ c.args.first = omega (arith, w.if-first-half.false, half) in
          changed_at c.self.inside.top c.self.inside.order c.args.first (2 ^ c.args.order) others c.args.self.now.free c.hand.new.self w.set_run-else-first-half.new.self c.if-first-half.low.value c.if-first-half.high.value
          (changed_high c.self.inside.top c.self.inside.order c.args.first (2 ^ c.args.order) others c.args.self.now.free c.hand.new.self c.hand-in-Two.new.self w.set_run-else-first-half.new.self d
          (length-replicate (2 ^ c.args.order) c.args.free)
          above
          (in_high c.args.order c.self.inside.order c.args.first c.if-order-self.false within above)
          (w.set_run-else-first-half.ensures
          ∙ ap (λ (p : Part). record p { free = replaced (c.args.first - 1 * 2 ^ (c.self.inside.order - 1) % 2 ^ 32) (2 ^ c.args.order) (replicate (2 ^ c.args.order) c.args.free) p.free }) w.deref_mut-else-first-half.ensures.value
          ∙ ap (λ (n : ℕ). record c.hand-in-Two.new.self { free = replaced (c.args.first - n) (2 ^ c.args.order) (replicate (2 ^ c.args.order) c.args.free) c.hand-in-Two.new.self.free }) half))
          (ap (λ (b : Box Tree Global). b.value) w.low-is) (ap (λ (b : Box Tree Global). b.value) w.high-is)
    ]

pub joined-self-inside-requires-clause-low : goal.joined-self-inside-requires-clause-low
joined-self-inside-requires-clause-low t c =
    let g = (goal.at.joined-self-inside-requires-clause-low t c).After-hand-in-Two in
    let d = halves_down g.self.view_is g.self.invariant g.in-Two.is g.all_alike-all.ensures g.deref_mut.ensures.value g.hand.ensures g.deref_mut-in-Two.ensures.value g.hand-in-Two.ensures in
    subst (IsHalf c.self.inside.top c.self.inside.order) (sym c.deref.ensures) (changed t (goal.at.joined-self-inside-requires-clause-low t c).Joined-first-half d (in_order c.self.view_is c.requires.inside)).is_low

pub invariant_of-self : goal.invariant_of-self
invariant_of-self t c =
    let g = (goal.at.invariant_of-self t c).After-hand-in-Two in
    let d = halves_down g.self.view_is g.self.invariant g.in-Two.is g.all_alike-all.ensures g.deref_mut.ensures.value g.hand.ensures g.deref_mut-in-Two.ensures.value g.hand-in-Two.ensures in
    changed_node c.self.inside.top c.self.inside.order c.joined-self-inside.result c.args.first (2 ^ c.args.order) (replicate (2 ^ c.args.order) c.args.free) c.args.self.now.free c.if-first-half.low c.if-first-half.high c.self.invariant.small
    (changed t (goal.at.invariant_of-self t c).Joined-first-half d (in_order c.self.view_is c.requires.inside)) (joined_bits c.self.inside.top c.self.inside.order c.joined-self-inside.ensures c.deref.ensures c.deref-in-Two.ensures)

pub returns-after-first-half : goal.returns-after-first-half
returns-after-first-half t c =
    let g = (goal.at.returns-after-first-half t c).After-hand-in-Two in
    let d = halves_down g.self.view_is g.self.invariant g.in-Two.is g.all_alike-all.ensures g.deref_mut.ensures.value g.hand.ensures g.deref_mut-in-Two.ensures.value g.hand-in-Two.ensures in
    changed_part c.self.inside.top c.self.inside.order c.self.inside.orders c.joined-self-inside.result c.args.first (2 ^ c.args.order) c.self.inside.halves (replicate (2 ^ c.args.order) c.args.free) c.args.self.now c.if-first-half.low c.if-first-half.high c.self.view_is
    (changed t (goal.at.returns-after-first-half t c).Joined-first-half d (in_order c.self.view_is c.requires.inside)) (joined_bits c.self.inside.top c.self.inside.order c.joined-self-inside.ensures c.deref.ensures c.deref-in-Two.ensures)

pub returns-in_default : goal.returns-in_default
returns-in_default t c =
    absurd (no_smaller_run c.self.inside.top c.self.inside.order c.self.inside.orders c.args.order c.args.first c.self.inside.halves c.self.invariant c.in_default.is
    (in_order c.self.view_is c.requires.inside) c.if-order-self.false)
