use Rattle.std.proofs.Common.{subst}
use Rattle.core_state.specs.declared.keeper.Keeper.TheVariants.{OneOwner}
use Rattle.core_state.specs.declared.step.MoveStep.TheVariants.{Moving}
use Rattle.core_state.specs.declared.view.View.{View}
use Rattle.core_state.specs.MoveSteps.{MayBegin, AllowedMove}
use Rattle.core_state.proofs.Rooms.{lent_has, lent_is}
use Rattle.core_state.proofs.MovePlaces.{held_has_room}
use Rattle.core_state.proofs.RoomMoves.{room-begin}
use Rattle.core_state.proofs.kept.Kept.begin_move.Goals as goal

pub returns-clause-room : goal.returns-clause-room
returns-clause-room c =
    let views = c.args.self.now.snapshot.views in
    let x = c.item_mut.result.now in
    room-begin c.args.self.now.opening views c.args.seat x c.args.self.now.room
    (lent_has views c.args.seat x c.requires.seat c.item_mut.ensures.value) c.requires.room _
    (subst (λ (v : View). AllowedMove OneOwner c.args.self.now.opening v Moving) (lent_is views c.args.seat x c.requires.seat c.item_mut.ensures.value) c.requires.may)
    c.begin_move.ensures

pub begin_move-requires : goal.begin_move-requires
begin_move-requires c =
    let views = c.args.self.now.snapshot.views in
    let x = c.item_mut.result.now in
    let may = subst (λ (v : View). AllowedMove OneOwner c.args.self.now.opening v Moving) (lent_is views c.args.seat x c.requires.seat c.item_mut.ensures.value) c.requires.may in
    held_has_room c.args.self.now.opening views c.args.seat x (lent_has views c.args.seat x c.requires.seat c.item_mut.ensures.value) c.requires.sound.seats may.0 (MayBegin x) may.1
