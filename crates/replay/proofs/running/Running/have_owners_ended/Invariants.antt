use Rattle.std.proofs.Common.{◌≡◌, ◌<◌, ℕ, true, Some}
use Rattle.std.specs.Prelude.{slice_get}
use Rattle.core_actors.specs.Owners.{OwnerState, owner_ended}
use Rattle.replay.proofs.running.Running.have_owners_ended.Given as goal

abbrev pub invariant-loop-owner : goal.invariant-loop-owner
invariant-loop-owner l = (i : ℕ) (a : OwnerState) → i < l.owner-index → slice_get l.owner-items i ≡ Some a → owner_ended a ≡ true
