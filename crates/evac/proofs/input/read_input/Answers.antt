use Rattle.std.proofs.Common.{◌≡◌, ℕ, ◌≤◌, length, false, true, ⊎_elim, subst, sym, ap, ◌∙◌, arith}
use Rattle.evac_model.specs.ScenarioGrammar.{IsRefused}
use Rattle.evac.specs.Input.{input_limit, IsRefusedInput}
use Rattle.evac.proofs.Inputs.{all_given, of_told}
use Rattle.evac.proofs.input.read_input.Goals as goal

pub returns-in-Ok-read_scenario-clause-refused : goal.returns-in-Ok-read_scenario-clause-refused
returns-in-Ok-read_scenario-clause-refused g c =
    let bytes = c.in-Ok.bytes in
    let given = all_given (g.S.Source.left c.args.source.now) (g.S.Source.left c.read_all.new.s) bytes c.in-Ok.ensures.bytes c.in-Ok.ensures.end in
    let within : length bytes ≤ input_limit = omega (arith, c.in-Ok.ensures.within) in
    of_told (g.S.Source.left c.args.source.now) bytes (λ b. IsRefusedInput b → false ≡ true) given
    (λ b e r. ⊎_elim (λ long. absurd (omega (arith, ap (length {A = ℕ}) e))) (λ x.
    let refused : IsRefused c.as_slice.result.now x.0 = subst (λ ys. IsRefused ys x.0) (e ∙ sym c.as_slice.ensures) x.1.1 in
    ⊎_elim (λ p. absurd (cc)) (λ p. absurd (cc)) (c.in-Ok-read_scenario.ensures.refused x.0 refused)) r)
