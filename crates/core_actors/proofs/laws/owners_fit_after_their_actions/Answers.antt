use Rattle.core_actors.proofs.FitSteps.{fits_after_step, fits_after_move, fits_after_lease, fits_after_refusal, fits_after_return}
use Rattle.core_actors.proofs.laws.owners_fit_after_their_actions.Goals as goal

pub returns-clause-steps : goal.returns-clause-steps
returns-clause-steps c k s o v script a step found h going is = fits_after_step s o v script a h k step found is

pub returns-clause-moves : goal.returns-clause-moves
returns-clause-moves c s o words views seat v script a step has sound h going is may = fits_after_move s o v script a h words views seat step has sound is

pub returns-clause-leased : goal.returns-clause-leased
returns-clause-leased c s o v giver script a page kind frame x h going is may in_hand size = fits_after_lease s o v script a h page kind is giver frame x may in_hand size

pub returns-clause-refused : goal.returns-clause-refused
returns-clause-refused c s o v script a page kind at h going is = fits_after_refusal s o v script a h page kind is at

pub returns-clause-returned : goal.returns-clause-returned
returns-clause-returned c s o v script a frame h going is = fits_after_return s o v script a h frame is
