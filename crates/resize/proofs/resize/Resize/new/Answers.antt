use Rattle.std.proofs.Common.{List, ℕ, Option, ◌≡◌, ◌∙◌, ◌/◌, ◌≤◌, [], ap, sym, subst, arith, rules}
use Rattle.std.specs.Prelude.{slice_get, vec_len, vec_capacity}
use Rattle.evac_model.specs.Geometry.{Sizes, block_bytes}
use Rattle.evac_model.specs.Numbers.{IsRisingBelow}
use Rattle.resize.specs.declared.stage.Stage.{Stage}
use Rattle.resize.specs.ResizeInside.{IsOnSide, HasRoom}
use Rattle.resize.specs.Trying.{Resizing, stage_for, at_start}
use Rattle.resize.specs.UnderWay.{GoesBy}
use Rattle.resize.proofs.Inside.{side_for, room_for, rising_few}
use Rattle.resize.proofs.Ends.{goal_few, goes_from_start}
use Rattle.resize.proofs.resize.Resize.new.Goals as goal

pub invariant_of-result : goal.invariant_of-result
invariant_of-result c =
    let n = c.args.size / c.block_bytes.result in
    let few = goal_few c.args.g c.args.size c.requires.fits in
    let rising : IsRisingBelow c.args.g.managed c.args.plugged.now.plugged = subst (λ (s : Sizes). IsRisingBelow s.managed c.args.plugged.now.plugged) c.requires.same c.geometry-geometry.ensures.rising in
    let count = rising_few c.args.g c.args.plugged.now.plugged rising in
    let next : c.stage_for-stage.result ≡ stage_for n c.in_ok-blocks.count (slice_get c.in_ok-blocks.blocks.items 0) =
    c.stage_for-stage.ensures ∙ ap (λ (o : Option ℕ). stage_for n c.in_ok-blocks.count o) (c.block_at.ensures ∙ ap (λ (bs : List ℕ). slice_get bs 0) c.deref.ensures.value) in
    record {
      within = c.managed-managed.ensures.within;
      goal = subst (λ (b : ℕ). c.args.size / b ≤ c.args.g.managed) (sym c.block_bytes.ensures) few;
      plugged = omega (arith, c.in_ok-blocks.ensures.plugged);
      side = subst (λ (s : Stage). IsOnSide n c.in_ok-blocks.count s) (sym next) (side_for n c.in_ok-blocks.count (slice_get c.in_ok-blocks.blocks.items 0));
      room = subst (λ (s : Stage). HasRoom (vec_len c.in_ok-tried.tried) (vec_len c.in_ok-blocks.blocks) (vec_capacity c.in_ok-tried.tried) s) (sym next)
          (subst (λ (k : ℕ). HasRoom k (vec_len c.in_ok-blocks.blocks) (vec_capacity c.in_ok-tried.tried) (stage_for n c.in_ok-blocks.count (slice_get c.in_ok-blocks.blocks.items 0))) (sym c.in_ok-tried.ensures.len)
          (room_for n c.in_ok-blocks.count 0 (vec_len c.in_ok-blocks.blocks) (vec_capacity c.in_ok-tried.tried) c.in_ok-blocks.blocks.items (omega (arith, c.in_ok-blocks.blocks.ok)) (omega (arith, c.in_ok-tried.ensures.exact, c.len.ensures))));
    }

pub returns-clause-goes_by : goal.returns-clause-goes_by
returns-clause-goes_by c =
    let n = c.args.size / c.block_bytes.result in
    let few = goal_few c.args.g c.args.size c.requires.fits in
    let rising : IsRisingBelow c.args.g.managed c.args.plugged.now.plugged = subst (λ (s : Sizes). IsRisingBelow s.managed c.args.plugged.now.plugged) c.requires.same c.geometry-geometry.ensures.rising in
    let state : record { sizes = c.args.g; goal = n; blocks = c.in_ok-blocks.blocks.items; plugged = c.in_ok-blocks.count; tried = c.in_ok-tried.tried.items; stage = c.stage_for-stage.result } ≡ at_start c.args.g c.args.plugged.now.plugged (c.args.size / block_bytes c.args.g) = search rules in
    subst (λ (r : Resizing). GoesBy r c.args.plugged.now.plugged []) (sym state) (goes_from_start c.args.g c.args.plugged.now.plugged (c.args.size / block_bytes c.args.g) rising few)
