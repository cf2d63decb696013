use Rattle.std.proofs.Common.{ap, ◌∙◌}
use Rattle.evac_model.specs.Tables.{table_map}
use Rattle.core_state.specs.declared.opening.Opening.{Opening}
use Rattle.core_state.proofs.Opened.{openings_are_sound}
use Rattle.core_state.proofs.CoreRooms.{core_is_open, start_pages_plain}
use Rattle.core_state.proofs.machine.Core.open.Goals as goal

pub returns-clause-opens : goal.returns-clause-opens
returns-clause-opens c =
    core_is_open c.args.g c.args.start.now c.args.budgets.now _ _ _ c.in_ok-kept.ensures.limits c.requires.start c.requires.budget
    c.in_ok-kept.ensures.opening c.in_ok-kept.ensures.words c.in_ok-kept.ensures.views

pub returns-clause-sound : goal.returns-clause-sound
returns-clause-sound c =
    openings_are_sound _ _ _
    (core_is_open c.args.g c.args.start.now c.args.budgets.now _ _ _ c.in_ok-kept.ensures.limits c.requires.start c.requires.budget
    c.in_ok-kept.ensures.opening c.in_ok-kept.ensures.words c.in_ok-kept.ensures.views)

pub returns-clause-plain : goal.returns-clause-plain
returns-clause-plain c =
    ap (λ (o : Opening). table_map o.start) c.in_ok-kept.ensures.opening ∙ start_pages_plain c.args.g c.args.start.now c.requires.start.each
