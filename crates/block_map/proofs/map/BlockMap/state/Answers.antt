use Rattle.std.proofs.Common.{refl, sym}
use Rattle.block_map.specs.Blocks.{state_told}
use Rattle.block_map.proofs.States.{state_plugged, state_unplugged, state_mixed}
use Rattle.block_map.proofs.Maps.{tested_all, tested_none, tested_not_all, tested_not_none}
use Rattle.block_map.proofs.map.BlockMap.state.Goals as goal

pub returns-then-are_all_set-clause-plugged : goal.returns-then-are_all_set-clause-plugged
returns-then-are_all_set-clause-plugged c =
    let r = tested_all c.self.inside.geometry c.self.inside.words.items c.args.self.now c.self.view_is c.device_blocks-blocks.result c.deref.result.now c.device_blocks-blocks.ensures.size c.deref.ensures.value c.args.first.0 c.args.n c.requires (c.are_all_set.ensures.0 c.if-are_all_set.true) in
    (λ z. r.0, λ z. refl)

pub returns-then-are_all_set-clause-unplugged : goal.returns-then-are_all_set-clause-unplugged
returns-then-are_all_set-clause-unplugged c =
    let r = tested_all c.self.inside.geometry c.self.inside.words.items c.args.self.now c.self.view_is c.device_blocks-blocks.result c.deref.result.now c.device_blocks-blocks.ensures.size c.deref.ensures.value c.args.first.0 c.args.n c.requires (c.are_all_set.ensures.0 c.if-are_all_set.true) in
    (λ z. cc, λ z. absurd (r.1 z))

pub returns-then-are_none_set-clause-plugged : goal.returns-then-are_none_set-clause-plugged
returns-then-are_none_set-clause-plugged c =
    let r = tested_none c.self.inside.geometry c.self.inside.words.items c.args.self.now c.self.view_is c.device_blocks-blocks.result c.deref-2.result.now c.device_blocks-blocks.ensures.size c.deref-2.ensures.value c.args.first.0 c.args.n c.requires (c.are_none_set.ensures.0 c.if-are_none_set.true) in
    (λ z. cc, λ z. absurd (r.1 z))

pub returns-then-are_none_set-clause-unplugged : goal.returns-then-are_none_set-clause-unplugged
returns-then-are_none_set-clause-unplugged c =
    let r = tested_none c.self.inside.geometry c.self.inside.words.items c.args.self.now c.self.view_is c.device_blocks-blocks.result c.deref-2.result.now c.device_blocks-blocks.ensures.size c.deref-2.ensures.value c.args.first.0 c.args.n c.requires (c.are_none_set.ensures.0 c.if-are_none_set.true) in
    (λ z. r.0, λ z. refl)

pub returns-clause-plugged : goal.returns-clause-plugged
returns-clause-plugged c =
    (λ z. cc, λ z. absurd (tested_not_all c.self.inside.geometry c.self.inside.words.items c.args.self.now c.self.view_is c.device_blocks-blocks.result c.deref.result.now c.device_blocks-blocks.ensures.size c.deref.ensures.value c.args.first.0 c.args.n c.are_all_set.result c.if-are_all_set.false c.are_all_set.ensures.1 z))

pub returns-clause-unplugged : goal.returns-clause-unplugged
returns-clause-unplugged c =
    (λ z. cc, λ z. absurd (tested_not_none c.self.inside.geometry c.self.inside.words.items c.args.self.now c.self.view_is c.device_blocks-blocks.result c.deref-2.result.now c.device_blocks-blocks.ensures.size c.deref-2.ensures.value c.args.first.0 c.args.n c.are_none_set.result c.if-are_none_set.false c.are_none_set.ensures.1 z))

pub returns-then-are_all_set-clause-state : goal.returns-then-are_all_set-clause-state
unfolding state_told
returns-then-are_all_set-clause-state c =
    let r = tested_all c.self.inside.geometry c.self.inside.words.items c.args.self.now c.self.view_is c.device_blocks-blocks.result c.deref.result.now c.device_blocks-blocks.ensures.size c.deref.ensures.value c.args.first.0 c.args.n c.requires (c.are_all_set.ensures.0 c.if-are_all_set.true) in
    sym (state_plugged c.args.self.now.plugged c.args.first.0 c.args.n r.0)

pub returns-then-are_none_set-clause-state : goal.returns-then-are_none_set-clause-state
unfolding state_told
returns-then-are_none_set-clause-state c =
    let r = tested_none c.self.inside.geometry c.self.inside.words.items c.args.self.now c.self.view_is c.device_blocks-blocks.result c.deref-2.result.now c.device_blocks-blocks.ensures.size c.deref-2.ensures.value c.args.first.0 c.args.n c.requires (c.are_none_set.ensures.0 c.if-are_none_set.true) in
    sym (state_unplugged c.args.self.now.plugged c.args.first.0 c.args.n r.0 r.1)

pub returns-clause-state : goal.returns-clause-state
unfolding state_told
returns-clause-state c =
    sym (state_mixed c.args.self.now.plugged c.args.first.0 c.args.n
    (tested_not_all c.self.inside.geometry c.self.inside.words.items c.args.self.now c.self.view_is c.device_blocks-blocks.result c.deref.result.now c.device_blocks-blocks.ensures.size c.deref.ensures.value c.args.first.0 c.args.n c.are_all_set.result c.if-are_all_set.false c.are_all_set.ensures.1)
    (tested_not_none c.self.inside.geometry c.self.inside.words.items c.args.self.now c.self.view_is c.device_blocks-blocks.result c.deref-2.result.now c.device_blocks-blocks.ensures.size c.deref-2.ensures.value c.args.first.0 c.args.n c.are_none_set.result c.if-are_none_set.false c.are_none_set.ensures.1))
