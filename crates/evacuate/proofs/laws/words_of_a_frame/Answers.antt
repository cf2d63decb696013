use Rattle.std.proofs.Common.{refl}
use Rattle.evacuate.proofs.laws.words_of_a_frame.Goals as goal

pub returns : goal.returns
returns c = record {
  taken = refl;
  unmapped = refl;
  elsewhere = refl;
  movable = refl;
  with_a_pin = refl;
  pinned = refl;
  without_pins = refl;
  pinned_and_taken = refl;
  unmovable = refl;
  pinned_elsewhere = refl;
}
