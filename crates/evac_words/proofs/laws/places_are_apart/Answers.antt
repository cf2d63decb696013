use Rattle.evac_words.proofs.Places.{index_of-apart}
use Rattle.evac_words.proofs.laws.places_are_apart.Goals as goal

pub returns : goal.returns
returns c = index_of-apart
