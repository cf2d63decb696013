use Rattle.std.proofs.Common.{◌<◌, length, subst, sym, arith}
use Rattle.core_state.specs.declared.view.View.{View}
use Rattle.core_state.specs.Views.{Owns}
use Rattle.core_state.proofs.Rooms.{lent_has, lent_is, seat_has, room-store}
use Rattle.core_state.proofs.StepPlaces.{cell_within, owned_frame, node_there}
use Rattle.core_state.proofs.kept.Kept.store.Goals as goal

pub cell_index-index-requires-clause-frame_fits : goal.cell_index-index-requires-clause-frame_fits
cell_index-index-requires-clause-frame_fits c =
    owned_frame _ _ _ c.requires.sound c.args.seat _ (seat_has c.args.self.now.snapshot.views c.args.seat c.requires.seat) _ c.requires.may.own

pub write_word-requires : goal.write_word-requires
write_word-requires c =
    subst (λ n. n < length c.args.self.now.snapshot.words) (sym c.cell_index-index.ensures)
    (cell_within _ _ _ c.requires.sound _ _ (owned_frame _ _ _ c.requires.sound c.args.seat _ (seat_has c.args.self.now.snapshot.views c.args.seat c.requires.seat) _ c.requires.may.own) c.requires.may.in_range)

pub item_mut-pool-requires : goal.item_mut-pool-requires
item_mut-pool-requires c = let a = (owned_frame _ _ _ c.requires.sound c.args.seat _ (seat_has c.args.self.now.snapshot.views c.args.seat c.requires.seat) _ c.requires.may.own) in let b = c.requires.room.frames in omega arith

pub store-requires-clause-pool : goal.store-requires-clause-pool
store-requires-clause-pool c =
    let views = c.args.self.now.snapshot.views in
    let x = c.item_mut-view.result.now in
    let own = subst (λ (v : View). Owns v c.args.frame.0) (lent_is views c.args.seat x c.requires.seat c.item_mut-view.ensures.value) c.requires.may.own in
    node_there _ _ _ c.requires.sound c.args.seat x (lent_has views c.args.seat x c.requires.seat c.item_mut-view.ensures.value) c.args.self.now.room c.args.frame.0 c.item_mut-pool.result.now c.requires.room own (let a = (owned_frame _ _ _ c.requires.sound c.args.seat _ (seat_has c.args.self.now.snapshot.views c.args.seat c.requires.seat) _ c.requires.may.own) in let b = c.requires.room.frames in omega arith) c.item_mut-pool.ensures.value

pub returns-clause-room : goal.returns-clause-room
returns-clause-room c =
    let views = c.args.self.now.snapshot.views in
    let x = c.item_mut-view.result.now in
    room-store c.args.self.now.opening views c.args.seat x c.args.self.now.room
    (lent_has views c.args.seat x c.requires.seat c.item_mut-view.ensures.value) c.requires.room
    c.args.frame c.args.cell c.args.value c.item_mut-pool.result.now _ _ (owned_frame _ _ _ c.requires.sound c.args.seat _ (seat_has c.args.self.now.snapshot.views c.args.seat c.requires.seat) _ c.requires.may.own) c.item_mut-pool.ensures.value
    c.store.ensures.view c.store.ensures.pool c.store.ensures.nodes
