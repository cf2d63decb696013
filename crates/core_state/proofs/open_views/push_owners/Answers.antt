use Rattle.std.proofs.Common.{◌∙◌, ◌∷◌, ◌++◌, [], ap}
use Rattle.core_state.specs.declared.view.View.{View}
use Rattle.core_state.proofs.Starts.{owners_more}
use Rattle.core_state.proofs.open_views.push_owners.Goals as goal

pub loop-i-preserved : goal.loop-i-preserved
loop-i-preserved c =
    c.in_ok-push.ensures.items
    ∙ ap (λ (v : View). c.loop-i.views.items ++ v ∷ []) c.in_ok-owner.ensures
    ∙ owners_more c.args.g.now c.args.views.now.items c.loop-i.views.items c.args.budgets.now c.loop-i.i 0 c.loop-i-test.true c.loop-i.invariant
