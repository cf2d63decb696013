use Rattle.std.proofs.Common.{ℕ, ◌<◌, ◌≤◌, IsSome}
use Rattle.core_state.specs.Views.{hand_frame}
use Rattle.core_moves.proofs.allowed.has_all_in_hand.Given as goal

-- the frames so far are in hand
abbrev pub invariant-loop-frame : goal.invariant-loop-frame
invariant-loop-frame l = (frame : ℕ) → l.first ≤ frame → frame < l.frame → IsSome (hand_frame l.v frame)
