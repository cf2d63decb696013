use Rattle.std.proofs.Common.{not, rules}
use Rattle.evac_model.specs.Numbers.{is_in}
use Rattle.resize.proofs.Inside.{pushed, passed}
use Rattle.resize.proofs.goal.unplugged_blocks.Goals.{then-not-plugged+in_ok-push, else-not-plugged}
use Rattle.resize.proofs.goal.unplugged_blocks.Goals as goal

pub loop-b-preserved : goal.loop-b-preserved
loop-b-preserved c =
    elim c.if-not-plugged.branch [
      | then-not-plugged+in_ok-push w ↦ pushed (λ b. not (is_in b c.args.map.now.plugged)) c.loop-b.b c.loop-b.blocks.items _ c.loop-b.invariant (search rules) (search rules)
      | else-not-plugged w ↦ passed (λ b. not (is_in b c.args.map.now.plugged)) c.loop-b.b c.loop-b.blocks.items _ c.loop-b.invariant (search rules) (search rules)
    ]
