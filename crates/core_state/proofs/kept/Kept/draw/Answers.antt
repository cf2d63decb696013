use Rattle.std.proofs.Common.{subst, sym}
use Rattle.core_state.specs.declared.view.View.{View}
use Rattle.core_state.specs.Room.{HasRoom}
use Rattle.core_state.specs.Steps.{MayDraw}
use Rattle.std.proofs.Common.{set}
use Rattle.core_state.proofs.Rooms.{lent_has, lent_is, room-draw}
use Rattle.core_state.proofs.kept.Kept.draw.Goals as goal

pub returns-clause-room : goal.returns-clause-room
returns-clause-room c =
    let o = c.args.self.now.opening in
    let views = c.args.self.now.snapshot.views in
    let r = c.args.self.now.room in
    let x = c.item_mut.result.now in
    subst (λ (w : View). HasRoom o (set views c.args.seat w) r) (sym c.draw.ensures)
    (room-draw o views c.args.seat x r (lent_has views c.args.seat x c.requires.seat c.item_mut.ensures.value) c.requires.room c.word_at-found.result
    (subst (λ (v : View). MayDraw v) (lent_is views c.args.seat x c.requires.seat c.item_mut.ensures.value) c.requires.may))
