use Rattle.space.proofs.Journals.{space_after-append}
use Rattle.space.proofs.SpaceLaws.{possible_goes_on}
use Rattle.space.proofs.laws.journals_go_on.Goals as goal

pub returns-clause-state : goal.returns-clause-state
returns-clause-state c = space_after-append

pub returns-clause-possible : goal.returns-clause-possible
returns-clause-possible c = possible_goes_on
