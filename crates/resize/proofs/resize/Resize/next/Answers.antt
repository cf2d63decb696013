use Rattle.std.proofs.Common.{◌∙◌, ap, sym}
use Rattle.resize.specs.Trying.{action_of}
use Rattle.resize.proofs.Steps.{goes_on, again}
use Rattle.resize.proofs.Ends.{settled_after, short_after, few_after}
use Rattle.resize.proofs.resize.Resize.next.Goals as goal

pub returns-clause-again : goal.returns-clause-again
returns-clause-again c = λ h. again c.args.self.now c.args.seen h

pub returns-clause-goes_on : goal.returns-clause-goes_on
returns-clause-goes_on c = λ plugged log g h t. goes_on c.args.self.now plugged log c.args.seen g h t

pub returns-clause-settled : goal.returns-clause-settled
returns-clause-settled c =
    λ plugged log bytes tried e g. settled_after c.args.self.now c.args.seen plugged log bytes tried (ap action_of (sym c.hear.ensures) ∙ sym c.action.ensures.action ∙ e) g

pub returns-clause-short : goal.returns-clause-short
returns-clause-short c =
    λ plugged log bytes goal tried e g. short_after c.args.self.now c.args.seen plugged log bytes goal tried (ap action_of (sym c.hear.ensures) ∙ sym c.action.ensures.action ∙ e) g

pub returns-clause-few : goal.returns-clause-few
returns-clause-few c = λ plugged log g. few_after c.args.self.now c.args.seen plugged log g
