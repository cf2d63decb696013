use Rattle.std.proofs.Common.{List, ℕ, ◌∙◌, ap, sym, length, reverse, arith}
use Rattle.resize.proofs.Inside.{rising_few}
use Rattle.resize.proofs.Next.{tries_above, tries_below}
use Rattle.resize.proofs.goal.blocks_to_try.Goals as goal

pub overflow_cast-count : goal.overflow_cast-count
overflow_cast-count c =
    let few = rising_few c.args.map.now.sizes c.args.map.now.plugged c.geometry-geometry.ensures.rising in
    let same = ap (λ (bs : List ℕ). length bs) (c.in_ok-blocks.ensures ∙ sym c.geometry-geometry.ensures.rising) in
    omega (arith, c.in_ok-blocks.blocks.ok, c.len-count.ensures, c.geometry-geometry.ensures.within.managed.1)

pub returns-then-goal-count-clause-plugged : goal.returns-then-goal-count-clause-plugged
returns-then-goal-count-clause-plugged c =
    let same = ap (λ (bs : List ℕ). length bs) (c.in_ok-blocks.ensures ∙ sym c.geometry-geometry.ensures.rising) in
    omega (arith, c.in_ok-blocks.blocks.ok, c.len-count.ensures)

pub returns-clause-plugged : goal.returns-clause-plugged
returns-clause-plugged c =
    let same = ap (λ (bs : List ℕ). length bs) (c.in_ok-blocks.ensures ∙ sym c.geometry-geometry.ensures.rising) in
    omega (arith, c.in_ok-blocks.blocks.ok, c.len-count.ensures)

pub returns-then-goal-count-clause-blocks : goal.returns-then-goal-count-clause-blocks
returns-then-goal-count-clause-blocks c =
    let same = ap (λ (bs : List ℕ). length bs) (c.in_ok-blocks.ensures ∙ sym c.geometry-geometry.ensures.rising) in
    c.reverse.ensures.items ∙ ap (λ (bs : List ℕ). reverse bs) (c.in_ok-blocks.ensures ∙ sym c.geometry-geometry.ensures.rising)
    ∙ sym (tries_above c.args.map.now.sizes c.args.goal c.args.map.now.plugged (omega (arith, c.in_ok-blocks.blocks.ok, c.len-count.ensures, c.if-goal-count.true)))

pub returns-clause-blocks : goal.returns-clause-blocks
returns-clause-blocks c =
    let same = ap (λ (bs : List ℕ). length bs) (c.in_ok-blocks.ensures ∙ sym c.geometry-geometry.ensures.rising) in
    c.in_ok-unplugged_blocks.ensures
    ∙ sym (tries_below c.args.map.now.sizes c.args.goal c.args.map.now.plugged (omega (arith, c.in_ok-blocks.blocks.ok, c.len-count.ensures, c.if-goal-count.false)))
