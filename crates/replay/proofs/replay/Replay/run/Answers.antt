use Rattle.std.proofs.Common.{◌∙◌, length, ap, sym}
use Rattle.std.proofs.lemmas.Result.{IfOk-weaker}
use Rattle.replay.specs.ReplayInside.{ReplayState, state_of}
use Rattle.replay.specs.Schedule.{round_bound}
use Rattle.replay.proofs.Done.{finished}
use Rattle.replay.proofs.Reported.{did_in_run, reports_tell_legal_histories}
use Rattle.replay.proofs.replay.Replay.run.Goals as goal

pub report_of-requires : goal.report_of-requires
report_of-requires c =
    let most = c.round_bound-most.ensures ∙ ap (λ (r : ReplayState). round_bound r.geometry r.calls (length r.commands)) (sym c.self.view_is) in
    let d = finished c.self.invariant.scenario (state_of c.self.inside) c.named-2.new.run c.drawn.new.run c.rounds.new.run c.as_slice.result.now c.owner_count-owners.result c.round_bound-most.result
    c.self.invariant.runnable c.self.invariant.is c.as_slice.ensures c.owner_count-owners.ensures most c.in_ok-named.ensures c.in_ok-drawn.ensures c.in_ok-rounds.ensures in
    record { ended = d.run.ended }

pub returns-clause-run : goal.returns-clause-run
returns-clause-run c = IfOk-weaker c.report_of.result _ _ (λ report h s runnable e.
    let most = c.round_bound-most.ensures ∙ ap (λ (r : ReplayState). round_bound r.geometry r.calls (length r.commands)) (sym c.self.view_is) in
    let d = finished s (state_of c.self.inside) c.named-2.new.run c.drawn.new.run c.rounds.new.run c.as_slice.result.now c.owner_count-owners.result c.round_bound-most.result
    runnable (c.self.view_is ∙ e) c.as_slice.ensures c.owner_count-owners.ensures most c.in_ok-named.ensures c.in_ok-drawn.ensures c.in_ok-rounds.ensures in
    let told = h s d.opened (c.as_slice-2.ensures ∙ ap (λ (r : ReplayState). r.commands) (c.self.view_is ∙ e)) d.kept in
    record {
      running = c.rounds.new.run.running;
      run = d.run;
      report = told;
      did = did_in_run s c.rounds.new.run.running report runnable d.kept d.run.ended told;
    }) c.report_of.ensures

pub returns-clause-theorem : goal.returns-clause-theorem
returns-clause-theorem c = IfOk-weaker c.report_of.result _ _ (λ report h s runnable e.
    let most = c.round_bound-most.ensures ∙ ap (λ (r : ReplayState). round_bound r.geometry r.calls (length r.commands)) (sym c.self.view_is) in
    let d = finished s (state_of c.self.inside) c.named-2.new.run c.drawn.new.run c.rounds.new.run c.as_slice.result.now c.owner_count-owners.result c.round_bound-most.result
    runnable (c.self.view_is ∙ e) c.as_slice.ensures c.owner_count-owners.ensures most c.in_ok-named.ensures c.in_ok-drawn.ensures c.in_ok-rounds.ensures in
    reports_tell_legal_histories s c.rounds.new.run.running report runnable d.kept d.run.ended (h s d.opened (c.as_slice-2.ensures ∙ ap (λ (r : ReplayState). r.commands) (c.self.view_is ∙ e)) d.kept)) c.report_of.ensures
