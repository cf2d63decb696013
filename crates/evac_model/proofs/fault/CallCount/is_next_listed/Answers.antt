use Rattle.std.proofs.Common.{ℕ, ◌+◌, List, ap, ◌∙◌}
use Rattle.evac_model.specs.Numbers.{is_in}
use Rattle.evac_model.proofs.Rising.{listed_next, listed_last}
use Rattle.evac_model.proofs.fault.CallCount.is_next_listed.Goals as goal
use Rattle.evac_model.proofs.fault.CallCount.is_next_listed.Goals.{then-self-lt18446744073709551615, else-self-lt18446744073709551615}

pub returns-clause-listed : goal.returns-clause-listed
returns-clause-listed c =
    let fails = c.self.inside.fails in
    let made = c.self.inside.made in
    elim c.if-self-lt18446744073709551615.branch [
      | then-self-lt18446744073709551615 w ↦
          listed_next fails made c.args.self.now _ c.self.view_is w.if-self-lt18446744073709551615.true
          (w.listed-is ∙ w.has-listed.ensures ∙ ap (λ (xs : List ℕ). is_in (made + 1) xs) w.as_slice.ensures)
      | else-self-lt18446744073709551615 w ↦
          listed_last fails made c.args.self.now _ c.self.view_is w.if-self-lt18446744073709551615.false w.listed-is
    ]
