use Rattle.std.proofs.Common.{List, ◌++◌, sym, ap, ◌∙◌}
use Rattle.evac_model.specs.declared.space.SpaceAction.{SpaceAction}
use Rattle.evac_model.specs.DeviceAnswer.{request_in}
use Rattle.evac_model.specs.HostCommands.{put_online}
use Rattle.host_work.specs.Evacuated.{by_tale}
use Rattle.host_work.specs.Requests.{blocks_back}
use Rattle.host_work.proofs.Sent.{some_inside, nothing_to_empty, nothing_taken_away, nothing_tried, back_plugged, sent_alone}
use Rattle.host_work.proofs.laws.requests_that_unplug_nothing_are_one_answer.Goals as goal

pub returns-clause-actions : goal.returns-clause-actions
returns-clause-actions c before s d bytes response lines actions device built h =
    h.made
    ∙ (ap (λ (l : List SpaceAction). l ++ put_online (blocks_back s d (request_in bytes) response)) (nothing_taken_away s d (request_in bytes) built (by_tale s) before h.emptying h.taken_away)
    ∙ back_plugged s d (request_in bytes) response built)

pub returns-clause-sent : goal.returns-clause-sent
returns-clause-sent c before s d bytes response lines actions device built h = h.sent

pub returns-clause-lines : goal.returns-clause-lines
returns-clause-lines c before s d bytes response lines actions device built h = h.tried ∙ sym (nothing_tried s d (request_in bytes) built)

pub returns-clause-done : goal.returns-clause-done
returns-clause-done c before s d bytes response device built sent = sent_alone (by_tale s) before s d bytes response device built sent

pub returns-clause-always_sent : goal.returns-clause-always_sent
returns-clause-always_sent c before s d bytes lines actions device built h =
    some_inside h.before h.block h.behind (sym (nothing_to_empty s d (request_in bytes) built) ∙ h.blocks)
