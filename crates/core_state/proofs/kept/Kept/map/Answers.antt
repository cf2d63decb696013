use Rattle.std.proofs.Common.{subst}
use Rattle.core_state.specs.declared.keeper.Keeper.TheVariants.{OneOwner}
use Rattle.core_state.specs.declared.step.MoveStep.TheVariants.{Map}
use Rattle.core_state.specs.declared.hand.HandFrame.{HandFrame}
use Rattle.core_state.specs.declared.held.Held.{Held}
use Rattle.core_state.specs.declared.view.View.{View}
use Rattle.core_state.specs.MoveSteps.{InHand, MayMap, AllowedMove}
use Rattle.core_state.proofs.Rooms.{lent_has, lent_is}
use Rattle.core_state.proofs.MovePlaces.{held_has_room, map_place}
use Rattle.core_state.proofs.RoomMoves.{room-map}
use Rattle.core_state.proofs.kept.Kept.map.Goals as goal

pub returns-clause-room : goal.returns-clause-room
returns-clause-room c =
    let views = c.args.self.now.snapshot.views in
    let x = c.item_mut.result.now in
    room-map c.args.self.now.opening views c.args.seat x c.args.self.now.room
    (lent_has views c.args.seat x c.requires.seat c.item_mut.ensures.value) c.requires.room c.args.frame c.args.kind _ _ _ c.requires.sound.seats
    (subst (λ (v : View). AllowedMove OneOwner c.args.self.now.opening v (Map c.args.frame c.args.kind)) (lent_is views c.args.seat x c.requires.seat c.item_mut.ensures.value) c.requires.may)
    c.map-spare.ensures.view c.map-spare.ensures.spare c.keep_spare.ensures

pub map-spare-requires-clause-held : goal.map-spare-requires-clause-held
map-spare-requires-clause-held c =
    let views = c.args.self.now.snapshot.views in
    let x = c.item_mut.result.now in
    let may = subst (λ (v : View). AllowedMove OneOwner c.args.self.now.opening v (Map c.args.frame c.args.kind)) (lent_is views c.args.seat x c.requires.seat c.item_mut.ensures.value) c.requires.may in
    held_has_room c.args.self.now.opening views c.args.seat x (lent_has views c.args.seat x c.requires.seat c.item_mut.ensures.value) c.requires.sound.seats may.0
    (λ (h : Held). InHand x c.args.frame.0 (λ (y : HandFrame). MayMap OneOwner c.args.self.now.opening h y c.args.kind)) may.1

pub map-spare-requires-clause-hand : goal.map-spare-requires-clause-hand
map-spare-requires-clause-hand c =
    let views = c.args.self.now.snapshot.views in
    let x = c.item_mut.result.now in
    map_place c.args.self.now.opening x c.args.frame c.args.kind
    (subst (λ (v : View). AllowedMove OneOwner c.args.self.now.opening v (Map c.args.frame c.args.kind)) (lent_is views c.args.seat x c.requires.seat c.item_mut.ensures.value) c.requires.may)
