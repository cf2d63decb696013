use Rattle.std.proofs.Common.{refl}
use Rattle.evac_model.proofs.laws.answers_of_a_small_machine.Goals as goal

pub returns : goal.returns
returns c = record { unaligned = refl; below = refl; none = refl; past_end = refl; most_blocks = refl; last_address = refl; short = refl; unknown = refl; above_requested = refl; above_and_plugged = refl; all_unplugged = refl; mixed = refl; plugged = refl; unplugged = refl; unplug = refl; unplug_all = refl; asked_for_more = refl; migrating = refl; refused = refl; plugged_then = refl; names_two = refl; names_last = refl; names_none = refl; names_all = refl; plugs_one = refl; plugs_none = refl; unplug_plugs_none = refl }
