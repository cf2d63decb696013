use Rattle.std.proofs.Common.{◌∙◌, sym, rules}
use Rattle.evac_model.specs.Numbers.{is_in}
use Rattle.resize.proofs.Inside.{pushed, passed}
use Rattle.resize.proofs.goal.plugged_blocks.Goals.{then-plugged+in_ok-push, else-plugged}
use Rattle.resize.proofs.goal.plugged_blocks.Goals as goal

pub loop-b-preserved : goal.loop-b-preserved
loop-b-preserved c =
    elim c.if-plugged.branch [
      | then-plugged+in_ok-push w ↦ pushed (λ b. is_in b c.args.map.now.plugged) c.loop-b.b c.loop-b.blocks.items _ c.loop-b.invariant (sym c.plugged.ensures ∙ w.if-plugged.true) (search rules)
      | else-plugged w ↦ passed (λ b. is_in b c.args.map.now.plugged) c.loop-b.b c.loop-b.blocks.items _ c.loop-b.invariant (sym c.plugged.ensures ∙ w.if-plugged.false) (search rules)
    ]
