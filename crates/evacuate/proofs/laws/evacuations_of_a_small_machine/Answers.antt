use Rattle.std.proofs.Common.{refl}
use Rattle.evacuate.proofs.laws.evacuations_of_a_small_machine.Goals as goal

pub returns : goal.returns
returns c = record {
  nothing_out = refl;
  both_moved = refl;
  unmovable = refl;
  pinned = refl;
  no_target = refl;
  five_busy_rounds = refl;
  freed_meanwhile = refl;
  unanswered = refl;
  falling = refl;
}
