-- A core stays sound.
use Rattle.std.proofs.Common.{◌≡◌, ◌≢◌, ℕ, ◌<◌, length, sym, subst, arith}
use Rattle.core_state.specs.declared.keeper.Keeper.TheVariants.{OneOwner}
use Rattle.core_state.specs.declared.opening.Opening.{Opening}
use Rattle.core_state.specs.declared.snapshot.Snapshot.{Snapshot}
use Rattle.core_state.specs.declared.step.MoveStep.{MoveStep}
use Rattle.core_state.specs.HandOvers.{MayHandOver, views_after_hand_over}
use Rattle.core_state.specs.Room.{IsSmall}
use Rattle.core_state.specs.Views.{view_of}
use Rattle.core_state.specs.Sound.{Sound}
use Rattle.core_state.specs.MoveSteps.{AllowedMove}
use Rattle.core_state.specs.Stepped.{snapshot_after_move}
use Rattle.core_state.proofs.Rooms.{seat_has}
use Rattle.core_moves.proofs.SoundMoves.{moves_keep_sound}
use Rattle.core_moves.proofs.HandOvers.{hand_overs_keep_sound}

-- the snapshot after an allowed step of a seat on a mapping
pub move_stays_sound : (o p : Opening) (s t : Snapshot) (seat : ℕ) (step : MoveStep) → IsSmall o → seat < length s.views → Sound o s.words s.views → AllowedMove OneOwner o (view_of s.views seat) step → t ≡ snapshot_after_move OneOwner s seat step → p ≡ o → Sound p t.words t.views
move_stays_sound o p s t seat step small lt sound may is same =
    subst (λ (q : Opening). Sound q t.words t.views) (sym same)
    (subst (λ (u : Snapshot). Sound o u.words u.views) (sym is)
    (moves_keep_sound OneOwner o s.words s.views seat (view_of s.views seat) step (seat_has s.views seat lt) (record { few = omega (arith, small.frames) }) sound may))

-- the snapshot after an allowed hand-over
pub hand_over_stays_sound : (o p : Opening) (s t : Snapshot) (from to first n : ℕ) → from < length s.views → to < length s.views → from ≢ to → Sound o s.words s.views → MayHandOver o (view_of s.views from) (view_of s.views to) first n → t ≡ record s { views = views_after_hand_over s.views from to (view_of s.views from) (view_of s.views to) first n } → p ≡ o → Sound p t.words t.views
hand_over_stays_sound o p s t from to first n a b apart sound may is same =
    subst (λ (q : Opening). Sound q t.words t.views) (sym same)
    (subst (λ (u : Snapshot). Sound o u.words u.views) (sym is)
    (hand_overs_keep_sound o s.words s.views from to (view_of s.views from) (view_of s.views to) first n (seat_has s.views from a) (seat_has s.views to b) apart sound may))
