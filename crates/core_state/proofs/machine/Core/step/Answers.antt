use Rattle.std.proofs.Common.{◌<◌, length, sym, subst}
use Rattle.core_state.specs.CoreState.{CoreState, IsSound}
use Rattle.core_state.specs.Views.{view_of}
use Rattle.core_state.specs.Steps.{Allowed}
use Rattle.core_state.proofs.SoundSteps.{step_stays_sound}
use Rattle.core_state.proofs.machine.Core.step.Goals as goal

pub returns-clause-sound : goal.returns-clause-sound
returns-clause-sound c =
    step_stays_sound c.self.inside.kept.opening _ c.self.inside.kept.snapshot _ c.args.seat c.args.step.now
    (subst (λ (m : CoreState). c.args.seat < length m.snapshot.views) (sym c.self.view_is) c.requires.seat)
    (subst (λ (m : CoreState). IsSound m) (sym c.self.view_is) c.requires.sound)
    (subst (λ (m : CoreState). Allowed m.opening (view_of m.snapshot.views c.args.seat) c.args.step.now) (sym c.self.view_is) c.requires.may)
    c.step.ensures.snapshot c.step.ensures.opening
