use Rattle.std.proofs.Common.{ℕ, ◌==◌, ap, ◌∙◌}
use Rattle.core_actors.specs.Owners.{OwnerState}
use Rattle.core_actors.specs.Actions.{ends_with_next}
use Rattle.core_actors.proofs.Kept.{ends_between}
use Rattle.core_actors.proofs.owner.Owner.has_ended.Goals as goal

pub returns-in-Between : goal.returns-in-Between
returns-in-Between c =
    ap (λ (n : ℕ). c.self.inside.at == n) c.len-calls.ensures
    ∙ (ends_between c.self.inside.owner c.self.inside.geometry.cells c.self.inside.calls c.self.inside.at c.self.inside.place c.in-Between.back c.self.invariant.place c.in-Between.is
    ∙ ap (λ (x : OwnerState). ends_with_next x) c.self.view_is)
