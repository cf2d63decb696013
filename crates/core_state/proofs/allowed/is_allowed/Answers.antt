use Rattle.core_state.proofs.AllowedReplies.{has_page}
use Rattle.core_state.proofs.allowed.is_allowed.Goals as goal

pub returns-in-Release : goal.returns-in-Release
returns-in-Release c = λ words views seat s at.
    rw c.in-Release.is (c.may_release.ensures (has_page c.args.o.now words views seat c.args.v.now s at))
