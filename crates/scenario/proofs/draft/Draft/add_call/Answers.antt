use Rattle.std.proofs.Common.{ap, replicate, arith}
use Rattle.std.proofs.lemmas.List.{length-replicate}
use Rattle.evac_model.specs.declared.names.PageNo.{PageNo}
use Rattle.evac_model.specs.declared.call.Call.{Call}
use Rattle.evac_model.specs.ScenarioGrammar.{call_count}
use Rattle.scenario.specs.Judging.{scripts}
use Rattle.scenario.proofs.Scripts.{call_count-with_calls}
use Rattle.scenario.proofs.draft.Draft.add_call.Goals as goal

pub invariant_of-self-2 : goal.invariant_of-self-2
invariant_of-self-2 c =
    let times = c.unwrap_or-times.result in
    let one : PageNo × Call = (record { 0 = c.args.line.page }, c.in-Some.call) in
    let same = ap call_count c.in_ok-push_calls.ensures.ok in
    let more = call_count-with_calls (scripts c.self.inside.owners) c.args.line.owner (replicate times one) (omega arith) in
    record {
      page_places = c.self.invariant.page_places;
      frame_places = c.self.invariant.frame_places;
      pages = c.self.invariant.pages;
      frames = c.self.invariant.frames;
      turns = c.self.invariant.turns;
      few_turns = c.self.invariant.few_turns;
      calls = omega (arith, c.self.invariant.calls, same, more, length-replicate times one);
      few_calls = omega (arith, c.self.invariant.few_calls, c.if-times-self.false);
    }
