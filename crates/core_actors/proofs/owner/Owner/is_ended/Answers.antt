use Rattle.std.proofs.Common.{◌≡◌, ℕ, ◌==◌, true, ap, ◌∙◌, rules}
use Rattle.core_actors.specs.Owners.{OwnerState, is_nothing, owner_ended}
use Rattle.core_actors.specs.Places.{frame_owed}
use Rattle.core_actors.proofs.Kept.{ended_here}
use Rattle.core_actors.proofs.owner.Owner.is_ended.Goals as goal

pub returns : goal.returns
returns c =
    let free : is_nothing (frame_owed c.self.inside.place) ≡ true = search rules in
    ap (λ (n : ℕ). c.self.inside.at == n) c.len.ensures
    ∙ (ended_here c.self.inside.owner c.self.inside.geometry.cells c.self.inside.calls c.self.inside.at c.self.inside.place c.self.invariant.place free
    ∙ ap (λ (x : OwnerState). owner_ended x) c.self.view_is)
