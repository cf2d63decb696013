use Rattle.std.proofs.Common.{◌≡◌, ◌∙◌, ◌++◌, List, Some, sym, ap, subst, map}
use Rattle.std.proofs.lemmas.Result.{err_from_is_err_and}
use Rattle.evac_model.specs.declared.scenario.Scenario.{Scenario}
use Rattle.evac_model.specs.declared.scenario.Turn.{Turn}
use Rattle.std.specs.List.{AllByRecursion}
use Rattle.evac_model.specs.Turns.{IsTurn}
use Rattle.evac_model.specs.ScenarioLines.{turns_of}
use Rattle.scenario.specs.declared.error.Refusal.{Refusal}
use Rattle.scenario.specs.declared.turn_line.LineTurn.{LineTurn}
use Rattle.scenario.specs.Reading.{turn_in}
use Rattle.scenario.specs.Drafts.{scenario_of}
use Rattle.scenario.specs.Judging.{plain_turn, RefusesTurns}
use Rattle.scenario.proofs.TurnLists.{same_turns, refuses_turns, no_room, adds_turns}
use Rattle.scenario.proofs.draft.Draft.add_turns.Goals as goal

pub returns-in_err-turns : goal.returns-in_err-turns
returns-in_err-turns c =
    let p = err_from_is_err_and c.from_residual.result c.from_residual.ensures.1 in
    let told = subst (λ (ts : List LineTurn). RefusesTurns (map plain_turn ts) c.in_err-turns.field-0.0) c.as_slice.ensures.value c.in_err-turns.ensures in
    rw p.1 (refuses_turns c.args.self.now c.args.line p.0 (subst (λ (why : Refusal). RefusesTurns (map plain_turn c.args.line.turns.items) why) (sym p.2) told))

pub returns-in_default : goal.returns-in_default
returns-in_default c =
    let plain : c.as_slice-2.result.now ≡ map plain_turn c.args.line.turns.items = c.as_slice-2.ensures.value ∙ (c.in_ok-turns.ensures.0 ∙ ap (map plain_turn) c.as_slice.ensures.value) in
    let named = ap (λ (s : Scenario). s.named) c.self.view_is in
    no_room c.args.self.now c.args.line c.self.inside.named.items c.as_slice-2.result.now c.self.inside.turns named plain c.self.invariant.turns
    (subst (λ (ts : List LineTurn). AllByRecursion IsTurn (map plain_turn ts)) c.as_slice.ensures.value c.in_ok-turns.ensures.1) c.in_default.ensures

pub returns : goal.returns
returns c =
    let plain : c.as_slice-2.result.now ≡ map plain_turn c.args.line.turns.items = c.as_slice-2.ensures.value ∙ (c.in_ok-turns.ensures.0 ∙ ap (map plain_turn) c.as_slice.ensures.value) in
    let named = ap (λ (s : Scenario). s.named) c.self.view_is in
    let names = turns_of (map turn_in c.args.line.turns.items) in
    let grown : c.extend_from_slice.new.self.items ≡ c.self.inside.named.items ++ names =
    c.in_ok-extend_from_slice.ensures.items ∙ ap (λ (ts : List Turn). c.self.inside.named.items ++ ts) (c.as_slice-3.ensures.value ∙ (sym c.as_slice-2.ensures.value ∙ (plain ∙ sym (same_turns c.args.line.turns.items)))) in
    adds_turns c.args.self.now c.args.line c.self.inside.named.items c.as_slice-2.result.now c.self.inside.turns named plain c.self.invariant.turns
    (subst (λ (ts : List LineTurn). AllByRecursion IsTurn (map plain_turn ts)) c.as_slice.ensures.value c.in_ok-turns.ensures.1) _ c.in-Some.total c.in-Some.ensures.0 c.in-Some.ensures.1
    (ap (λ (s : Scenario). Some (record s { named = s.named ++ names })) (sym c.self.view_is) ∙ ap (λ (ts : List Turn). Some (record (scenario_of c.self.inside) { named = ts })) (sym grown))
