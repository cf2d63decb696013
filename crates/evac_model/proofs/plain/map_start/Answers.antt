use Rattle.std.proofs.Common.{length, ap, sym, ◌∙◌, refl, arith}
use Rattle.std.proofs.lemmas.List.{drop_all}
use Rattle.evac_model.specs.State.{start_state}
use Rattle.evac_model.proofs.Lists.{all_weaker}
use Rattle.evac_model.proofs.Slots.{slots_state_empty, start_step}
use Rattle.evac_model.proofs.plain.map_start.Goals as goal

pub loop-left-init : goal.loop-left-init
loop-left-init c = record {
  left = omega arith;
  mapped = record {
    each = all_weaker _ _ (λ x h. h.slot) _ c.requires.empty;
    state = slots_state_empty _ _ c.requires.empty ∙ ap (start_state c.args.geometry.now.cells) (sym (drop_all (length c.args.start.now) c.args.start.now (omega arith)));
  };
}

pub loop-left-preserved : goal.loop-left-preserved
loop-left-preserved c = record {
  left = omega arith;
  mapped =
      start_step c.args.geometry.now c.loop-left.slots c.args.start.now c.loop-left.left _ _ c.index-slots-page.result c.map.new.self c.requires.start
      (c.loop-left.auto.slots ∙ c.requires.count) c.loop-left-test.true c.loop-left.invariant.left c.loop-left.invariant.mapped
      refl c.map.ensures.page c.map.ensures.slot;
}
