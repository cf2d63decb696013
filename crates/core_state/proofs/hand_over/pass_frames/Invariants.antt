use Rattle.std.proofs.Common.{◌≡◌}
use Rattle.core_state.specs.Views.{view_of}
use Rattle.core_state.specs.HandOvers.{views_after_hand_over}
use Rattle.core_state.proofs.hand_over.pass_frames.Given as goal

abbrev pub invariant-loop-i : goal.invariant-loop-i
invariant-loop-i l = l.views ≡ views_after_hand_over l.initial.views l.from l.to (view_of l.initial.views l.from) (view_of l.initial.views l.to) l.first.0 l.i
