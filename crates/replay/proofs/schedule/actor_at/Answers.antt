use Rattle.std.proofs.Common.{ℕ, get_or, sym, ap, ◌∙◌, arith}
use Rattle.evac_model.specs.declared.scenario.Actor.TheVariants.{Owner, Host}
use Rattle.replay.specs.Schedule.{actors}
use Rattle.replay.proofs.Schedules.{owner_at, host_at, scanner_at}
use Rattle.replay.proofs.schedule.actor_at.Goals as goal

pub returns-then-place-owners : goal.returns-then-place-owners
returns-then-place-owners c =
    ap (λ (k : ℕ). Owner k) (omega arith) ∙ sym (owner_at 1 c.args.owners c.args.place (omega arith))

pub returns-then-place-owners-2 : goal.returns-then-place-owners-2
returns-then-place-owners-2 c =
    sym (ap (λ (k : ℕ). get_or (actors c.args.owners) k Host) (omega arith) ∙ host_at 1 c.args.owners)

pub returns-else-place-owners-2 : goal.returns-else-place-owners-2
returns-else-place-owners-2 c =
    let last = c.requires in
    sym (ap (λ (k : ℕ). get_or (actors c.args.owners) k Host) (omega arith) ∙ scanner_at 1 c.args.owners)
