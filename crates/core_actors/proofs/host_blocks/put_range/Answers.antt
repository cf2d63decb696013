use Rattle.std.proofs.Common.{◌≡◌, ℕ, ◌+◌, ◌-◌, ◌<◌, ◌≤◌, List, length, sym, ap, ◌∙◌, subst, arith}
use Rattle.std.specs.List.{AllByRecursion}
use Rattle.std.proofs.lemmas.List.FromFn.{length-range_with_len}
use Rattle.core_actors.proofs.BlockLists.{range_grows, range_below}
use Rattle.core_actors.proofs.host_blocks.put_range.Goals as goal

pub push_reserved-requires : goal.push_reserved-requires
push_reserved-requires c =
    let few : length c.loop-block.blocks.items ≡ c.loop-block.block - c.args.first =
    ap (λ (xs : List ℕ). length xs) c.loop-block.invariant.items ∙ length-range_with_len c.args.first (c.loop-block.block - c.args.first) in
    let above = c.loop-block.invariant.above in
    omega arith

pub loop-block-preserved : goal.loop-block-preserved
loop-block-preserved c =
    let above = c.loop-block.invariant.above in
    record {
      above = omega arith;
      items = c.push_reserved.ensures.items ∙ range_grows c.args.first (c.loop-block.block - c.args.first) (c.loop-block.block + 1 - c.args.first) c.loop-block.block (omega arith) (omega arith) c.loop-block.blocks.items c.loop-block.invariant.items;
      capacity = c.push_reserved.ensures.capacity ∙ c.loop-block.invariant.capacity;
    }

pub returns-clause-below : goal.returns-clause-below
returns-clause-below c = λ managed le.
    let above = c.loop-block.invariant.above in
    let all : c.loop-block.block ≤ c.args.first + c.args.n = omega arith in
    subst (λ (xs : List ℕ). AllByRecursion (λ b. b < managed) xs) (sym c.loop-block.invariant.items) (range_below c.args.first (c.loop-block.block - c.args.first) managed (omega arith))
