use Rattle.std.proofs.Common.{length, ap, ◌∙◌, arith}
use Rattle.core_state.proofs.CoreRooms.{core_room}
use Rattle.core_state.proofs.kept.Kept.open.Goals as goal

pub returns-clause-room : goal.returns-clause-room
returns-clause-room c =
    core_room c.args.g.now c.args.start.now c.args.budgets.now c.in_ok-opening.opening c.from_vec-2.result c.in_ok-room.room c.len.result
    c.in_ok-opening.ensures.limits c.requires.start c.requires.budget c.in_ok-opening.ensures.opening (c.from_vec-2.ensures ∙ c.in_ok-views.ensures)
    c.in_ok-room.ensures.entries c.in_ok-room.ensures.notices c.in_ok-room.ensures.made c.in_ok-room.ensures.unmarked
    (let a = ap length c.from_vec-2.ensures in omega arith) c.in_ok-room.ensures.cells c.in_ok-room.ensures.spare c.in_ok-room.ensures.swept
