use Rattle.std.proofs.Common.{◌≡◌, ℕ, ◌<◌, ◌≤◌, true, false, List, length, sym, ap, ◌∙◌, subst, arith, vec_capacity}
use Rattle.std.specs.List.{AllByRecursion}
use Rattle.evac_model.specs.Geometry.{Sizes}
use Rattle.evac_model.specs.Numbers.{is_in}
use Rattle.evac_model.proofs.Numbers.{length-numbers_where}
use Rattle.core_actors.proofs.BlockLists.{passes_more, passes_not, numbers_below}
use Rattle.core_actors.proofs.host_blocks.put_plugged.Goals as goal
use Rattle.core_actors.proofs.host_blocks.put_plugged.Goals.{then-plugged, else-plugged}

pub push_reserved-requires : goal.push_reserved-requires
push_reserved-requires c =
    let few : length c.loop-block.blocks.items ≤ c.loop-block.block =
    subst (λ (xs : List ℕ). length xs ≤ c.loop-block.block) (sym c.loop-block.invariant.items) (length-numbers_where (λ b. is_in b c.args.map.now.plugged) c.loop-block.block) in
    let managed = ap (λ (s : Sizes). s.managed) c.geometry.ensures.sizes in
    omega arith

pub loop-block-preserved : goal.loop-block-preserved
loop-block-preserved c =
    elim c.if-plugged.branch [
      | then-plugged w ↦
          let here : is_in c.loop-block.block c.args.map.now.plugged ≡ true = sym c.plugged.ensures ∙ w.if-plugged.true in
          record {
            items = ap (λ x. x.items) w.blocks-is ∙ (w.push_reserved.ensures.items ∙ passes_more (λ b. is_in b c.args.map.now.plugged) c.loop-block.block c.loop-block.blocks.items c.loop-block.invariant.items here);
            capacity = ap (λ x. vec_capacity x) w.blocks-is ∙ (w.push_reserved.ensures.capacity ∙ c.loop-block.invariant.capacity);
          }
      | else-plugged w ↦
          let here : is_in c.loop-block.block c.args.map.now.plugged ≡ false = sym c.plugged.ensures ∙ w.if-plugged.false in
          record {
            items = ap (λ x. x.items) w.blocks-is ∙ passes_not (λ b. is_in b c.args.map.now.plugged) c.loop-block.block c.loop-block.blocks.items c.loop-block.invariant.items here;
            capacity = ap (λ x. vec_capacity x) w.blocks-is ∙ c.loop-block.invariant.capacity;
          }
    ]

pub returns-clause-managed : goal.returns-clause-managed
returns-clause-managed c =
    let managed = ap (λ (s : Sizes). s.managed) c.geometry.ensures.sizes in
    let most : c.loop-block.block ≤ c.args.map.now.sizes.managed = omega arith in
    subst (λ (xs : List ℕ). AllByRecursion (λ b. b < c.args.map.now.sizes.managed) xs) (sym c.loop-block.invariant.items) (numbers_below (λ b. is_in b c.args.map.now.plugged) c.loop-block.block c.args.map.now.sizes.managed most)
