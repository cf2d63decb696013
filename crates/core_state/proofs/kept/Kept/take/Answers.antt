use Rattle.std.proofs.Common.{subst}
use Rattle.core_state.specs.declared.view.View.{View}
use Rattle.core_state.specs.Steps.{MayTake}
use Rattle.core_state.proofs.Rooms.{lent_has, lent_is, room-take}
use Rattle.core_state.proofs.kept.Kept.take.Goals as goal

pub returns-clause-room : goal.returns-clause-room
returns-clause-room c =
    let views = c.args.self.now.snapshot.views in
    let x = c.item_mut-view.result.now in
    room-take c.args.self.now.opening views c.args.seat x c.args.self.now.room
    (lent_has views c.args.seat x c.requires.seat c.item_mut-view.ensures.value) c.requires.room
    c.args.page _ _ _ c.item_mut-cells.result.now _
    (subst (λ (v : View). MayTake c.args.self.now.opening v c.args.page.0) (lent_is views c.args.seat x c.requires.seat c.item_mut-view.ensures.value) c.requires.may)
    c.take.ensures.view c.take.ensures.room c.item_mut-cells.ensures.value c.take.ensures.kept
