use Rattle.std.proofs.Common.{ℕ, ◌+◌, List, get_or, drop, refl}
use Rattle.std.proofs.lemmas.List.{drop_more, drop_all}
use Rattle.machine.proofs.HandedBlocks.{handing_begun, next_managed, handing_may, handing_on, handing_over}
use Rattle.machine.proofs.device_calls.hand_each.Goals as goal

pub loop-block-init : goal.loop-block-init
loop-block-init c = handing_begun c.args.g.now c.args.from c.args.to c.args.core.now c.args.blocks.now c.args.blocks.now refl c.requires.sound c.requires.may

pub frames_of-requires : goal.frames_of-requires
frames_of-requires c =
    let blocks : List ℕ = c.args.blocks.now in
    let i : ℕ = c.loop-block.block-index in
    next_managed c.args.g.now c.args.from c.args.to c.args.core.now c.loop-block.core blocks (drop i blocks) (get_or blocks i 0) (drop (i + 1) blocks) (drop_more blocks i 0 c.loop-block-test.true) c.loop-block.invariant

pub hand_over-requires-clause-may : goal.hand_over-requires-clause-may
hand_over-requires-clause-may c =
    let blocks : List ℕ = c.args.blocks.now in
    let i : ℕ = c.loop-block.block-index in
    handing_may c.args.g.now c.args.from c.args.to c.args.core.now c.loop-block.core blocks (drop i blocks) (get_or blocks i 0) (drop (i + 1) blocks)
    c.requires.apart c.requires.from c.requires.to (drop_more blocks i 0 c.loop-block-test.true) c.loop-block.invariant _ _ c.frames_of.ensures.first c.block-size.ensures.size

pub loop-block-preserved : goal.loop-block-preserved
loop-block-preserved c =
    let blocks : List ℕ = c.args.blocks.now in
    let i : ℕ = c.loop-block.block-index in
    handing_on c.args.g.now c.args.from c.args.to c.args.core.now c.loop-block.core blocks (drop i blocks) (get_or blocks i 0) (drop (i + 1) blocks)
    c.requires.apart c.requires.from c.requires.to (drop_more blocks i 0 c.loop-block-test.true) c.loop-block.invariant _ _ c.frames_of.ensures.first c.block-size.ensures.size
    c.hand_over.new.core c.hand_over.ensures.snapshot c.hand_over.ensures.opening c.hand_over.ensures.sound

pub returns-clause-handed : goal.returns-clause-handed
returns-clause-handed c =
    let blocks : List ℕ = c.args.blocks.now in
    let i : ℕ = c.loop-block.block-index in
    handing_over c.args.g.now c.args.from c.args.to c.args.core.now c.loop-block.core blocks (drop i blocks) (drop_all i blocks c.loop-block-test.false) c.loop-block.invariant
