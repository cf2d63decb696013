use Rattle.std.proofs.Common.{subst}
use Rattle.core_state.specs.declared.step.ScanStep.TheVariants.{Sweep}
use Rattle.core_state.specs.declared.view.View.{View}
use Rattle.core_state.specs.ScanSteps.{AllowedScan}
use Rattle.core_state.proofs.Rooms.{lent_has, lent_is}
use Rattle.core_state.proofs.RoomMoves.{node_for_sweep, room-sweep}
use Rattle.core_state.proofs.kept.Kept.sweep.Goals as goal

pub sweep-requires-clause-node : goal.sweep-requires-clause-node
sweep-requires-clause-node c =
    let o = c.args.self.now.opening in
    let views = c.args.self.now.snapshot.views in
    let x = c.item_mut-view.result.now in
    node_for_sweep o _ views c.requires.sound c.args.seat x (lent_has views c.args.seat x c.requires.seat c.item_mut-view.ensures.value) c.args.self.now.room c.requires.room c.args.frame c.args.fresh
    (subst (λ (v : View). AllowedScan o v (Sweep c.args.frame c.args.fresh)) (lent_is views c.args.seat x c.requires.seat c.item_mut-view.ensures.value) c.requires.may)

pub returns-clause-room : goal.returns-clause-room
returns-clause-room c =
    let o = c.args.self.now.opening in
    let views = c.args.self.now.snapshot.views in
    let x = c.item_mut-view.result.now in
    room-sweep o _ views c.requires.sound c.args.seat x (lent_has views c.args.seat x c.requires.seat c.item_mut-view.ensures.value) c.args.self.now.room c.requires.room c.args.frame c.args.fresh
    (subst (λ (v : View). AllowedScan o v (Sweep c.args.frame c.args.fresh)) (lent_is views c.args.seat x c.requires.seat c.item_mut-view.ensures.value) c.requires.may)
    c.word_at-found.result _ _ c.sweep.ensures.view c.sweep.ensures.nodes
