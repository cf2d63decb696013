use Rattle.evac_words.proofs.Places.{index_of-lt}
use Rattle.evac_words.proofs.laws.places_are_inside.Goals as goal

pub returns : goal.returns
returns c = index_of-lt
