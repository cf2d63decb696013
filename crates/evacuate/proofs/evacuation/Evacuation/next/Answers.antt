use Rattle.std.proofs.Common.{rules, ◌≡◌, subst, sym, ◌∙◌}
use Rattle.evacuate.specs.Evacuating.{Evacuating, evacuation_after}
use Rattle.evacuate.specs.UnderWay.{GoesOnBy}
use Rattle.evacuate.proofs.Steps.{goes_on}
use Rattle.evacuate.proofs.Ends.{has_emptied, has_failed, log_length}
use Rattle.evacuate.proofs.evacuation.Evacuation.next.Goals as goal

pub returns-clause-goes_on : goal.returns-clause-goes_on
returns-clause-goes_on c =
    λ t g h w.
    let state : c.if-answers.self ≡ evacuation_after c.args.self.now c.args.seen = search rules in
    subst (λ (x : Evacuating). GoesOnBy c.args.self.now x t c.args.seen) (sym state) (goes_on c.args.self.now t c.args.seen g h w)

pub returns-clause-emptied : goal.returns-clause-emptied
returns-clause-emptied c = λ t e g. has_emptied c.if-answers.self t (sym c.action.ensures ∙ e) g

pub returns-clause-failed : goal.returns-clause-failed
returns-clause-failed c = λ t cause e g. has_failed c.if-answers.self t cause (sym c.action.ensures ∙ e) g

pub returns-clause-few : goal.returns-clause-few
returns-clause-few c = λ t g. log_length c.if-answers.self t g
