use Rattle.std.proofs.Common.{eqb, ◌∙◌}
use Rattle.evac_model.specs.declared.names.FrameNo.{FrameNo}
use Rattle.core_state.proofs.Unmarked.{any-is_counted}
use Rattle.core_state.proofs.view.View.has_unmarked.Goals as goal

pub returns : goal.returns
returns c = c.contains.ensures.value ∙ any-is_counted (λ (y : FrameNo). eqb y.0 c.args.frame.0) c.args.self.now.unmarked
