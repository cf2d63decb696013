use Rattle.space.proofs.SpaceLaws.{space_behind, space_behind_all}
use Rattle.space.proofs.laws.spaces_stay_spaces.Goals as goal

pub returns-clause-action : goal.returns-clause-action
returns-clause-action c = space_behind

pub returns-clause-journal : goal.returns-clause-journal
returns-clause-journal c = space_behind_all
