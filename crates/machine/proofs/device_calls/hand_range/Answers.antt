use Rattle.std.proofs.Common.{◌≡◌, ℕ, ◌+◌, ◌-◌, ◌^◌, ◌<◌, ap, arith, rules}
use Rattle.std.specs.List.{range_with_len}
use Rattle.machine.proofs.HandedBlocks.{handing_begun, handing_may, handing_on, handing_over, range_next, range_over}
use Rattle.machine.proofs.device_calls.hand_range.Goals as goal

pub overflow_add-block-end : goal.overflow_add-block-end
overflow_add-block-end c =
    let most = c.block-size.ensures.within.managed.1 in
    let inside = c.requires.managed in
    let fits : c.args.first.0 + c.args.count < 2 ^ 32 = omega arith in search rules

pub loop-block-init : goal.loop-block-init
loop-block-init c =
    let first : ℕ = c.args.first.0 in
    let n : ℕ = c.args.count in
    let whole : first + n - first ≡ n = omega arith in
    handing_begun c.args.g.now c.args.from c.args.to c.args.core.now (range_with_len first n) (range_with_len first (first + n - first)) (ap (λ (k : ℕ). range_with_len first k) whole) c.requires.sound c.requires.may

pub hand_over-requires-clause-may : goal.hand_over-requires-clause-may
hand_over-requires-clause-may c =
    let last : ℕ = c.args.first.0 + c.args.count in
    let b : ℕ = c.loop-block.block in
    handing_may c.args.g.now c.args.from c.args.to c.args.core.now c.loop-block.core (range_with_len c.args.first.0 c.args.count) (range_with_len b (last - b)) b (range_with_len (b + 1) (last - (b + 1)))
    c.requires.apart c.requires.from c.requires.to (range_next b last c.loop-block-test.true) c.loop-block.invariant _ _ c.frames_of.ensures.first c.block-size.ensures.size

pub loop-block-preserved : goal.loop-block-preserved
loop-block-preserved c =
    let last : ℕ = c.args.first.0 + c.args.count in
    let b : ℕ = c.loop-block.block in
    handing_on c.args.g.now c.args.from c.args.to c.args.core.now c.loop-block.core (range_with_len c.args.first.0 c.args.count) (range_with_len b (last - b)) b (range_with_len (b + 1) (last - (b + 1)))
    c.requires.apart c.requires.from c.requires.to (range_next b last c.loop-block-test.true) c.loop-block.invariant _ _ c.frames_of.ensures.first c.block-size.ensures.size
    c.hand_over.new.core c.hand_over.ensures.snapshot c.hand_over.ensures.opening c.hand_over.ensures.sound

pub returns-clause-handed : goal.returns-clause-handed
returns-clause-handed c =
    let last : ℕ = c.args.first.0 + c.args.count in
    let b : ℕ = c.loop-block.block in
    handing_over c.args.g.now c.args.from c.args.to c.args.core.now c.loop-block.core (range_with_len c.args.first.0 c.args.count) (range_with_len b (last - b)) (range_over b last c.loop-block-test.false) c.loop-block.invariant
