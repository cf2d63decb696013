use Rattle.std.proofs.Common.{◌≡◌, ◌∙◌, List, ap}
use Rattle.evac_model.specs.declared.names.PageNo.{PageNo}
use Rattle.evac_model.specs.declared.call.Call.{Call}
use Rattle.evac_model.specs.ScenarioGrammar.{call_count}
use Rattle.replay.proofs.replay.Replay.from_scenario.Goals as goal

pub invariant_of-result : goal.invariant_of-result
invariant_of-result c =
    let named : c.in_ok-turns_of.field-0 ≡ c.args.s.named = c.in_ok-turns_of.ensures ∙ c.as_slice.ensures in
    let commands : c.in_ok-commands_of.field-0 ≡ c.args.s.host = c.in_ok-commands_of.ensures ∙ c.as_slice-3.ensures in
    let calls : c.calls_in.result ≡ call_count c.args.s.owners = c.calls_in.ensures ∙ ap (λ (l : List (List (PageNo × Call))). call_count l) c.as_slice-2.ensures in
    record {
      scenario = c.args.s;
      runnable = c.requires;
      is = λ i. record { geometry = c.args.s.geometry; named = named i; drawn = c.args.s.drawn; calls = calls i; commands = commands i; run = c.in_ok-running.ensures i };
    }
