use Rattle.std.proofs.Common.{rules, ◌≡◌, ℕ, ◌+◌, ◌<◌, ◌≤◌, false, sym, ◌∙◌, arith}
use Rattle.std.specs.List.{range_with_len}
use Rattle.evac_model.proofs.Members.{is_in-range_with_len}
use Rattle.evac_model.proofs.Ranges.{between_inside}
use Rattle.machine.specs.MachineInside.{setting_of, world_of}
use Rattle.machine.specs.World.{is_held}
use Rattle.machine.proofs.HeldTests.{one_fails, none_fails, range_passes}
use Rattle.machine.proofs.allowed.are_held.Goals as goal

pub returns-then-not-is_held : goal.returns-then-not-is_held
returns-then-not-is_held c =
    let a = c.args.parts.now in
    let first = c.args.first.0 in
    let b = c.loop-block.block in
    let from : first ≤ b = search rules in
    let below : b < first + c.args.n = search rules in
    let fails : c.is_held.result ≡ false = search rules in
    one_fails (λ (n : ℕ). is_held (setting_of a) (world_of a) n) (range_with_len first c.args.n) b
    (is_in-range_with_len b first c.args.n ∙ between_inside first (first + c.args.n) b from below) (sym c.is_held.ensures ∙ fails)

pub returns : goal.returns
returns c =
    let a = c.args.parts.now in
    let first = c.args.first.0 in
    let test = λ (n : ℕ). is_held (setting_of a) (world_of a) n in
    let last : first + c.args.n ≤ c.loop-block.block = omega arith in
    none_fails test (range_with_len first c.args.n) (range_passes test first c.args.n c.loop-block.block last c.loop-block.invariant)
