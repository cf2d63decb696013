use Rattle.std.proofs.Common.{◌<◌, length, sym, subst, arith, IsSome}
use Rattle.core_state.specs.declared.snapshot.Snapshot.{Snapshot}
use Rattle.core_state.specs.Pages.{entry_with}
use Rattle.core_state.specs.Words.{next_ticket_of}
use Rattle.replay.specs.Running.{Run}
use Rattle.replay.specs.RunningInside.{running_of}
use Rattle.replay.specs.Runs.{HaveEnded}
use Rattle.replay.proofs.Left.{each_ticket, maps_inside}
use Rattle.replay.proofs.running.Running.into_parts.Goals as goal

pub returns-clause-words : goal.returns-clause-words
returns-clause-words c =
    let inside = maps_inside c.self.invariant.scenario (running_of c.self.inside) c.self.invariant.runnable c.self.invariant.kept in
    let long = inside.long in
    subst (λ (x : Snapshot). 0 < length x.words) (sym c.into_parts-core.ensures.snapshot) (omega arith)

pub returns-clause-entries : goal.returns-clause-entries
returns-clause-entries c t =
    let ended = subst (λ (r : Run). HaveEnded r.running) (sym c.self.view_is) c.requires.ended in
    subst (λ (x : Snapshot). t < next_ticket_of x.words → IsSome (entry_with t x.views)) (sym c.into_parts-core.ensures.snapshot)
    (each_ticket c.self.invariant.scenario (running_of c.self.inside) c.self.invariant.kept ended t)
