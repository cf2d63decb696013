use Rattle.std.proofs.Common.{◌≡◌, ℕ, ◌-◌, ◌*◌, ◌%◌, ◌^◌, ◌<◌, ◌≤◌, ◌∙◌, false, replicate, sym, ap, arith}
use Rattle.buddy.specs.FreeFrames.{FreeFrames}
use Rattle.buddy.specs.Parts.{Part, replaced}
use Rattle.buddy.proofs.Places.{RunFacts, run_order, run_in_boot, run_in_managed, managed_multiple}
use Rattle.buddy.proofs.Setting.{facts_inside, put_aside_inside, AreSet, set_value, set_kept, set_boot, set_managed}
use Rattle.buddy.proofs.runs.Runs.set_run.Goals as goal
use Rattle.buddy.proofs.runs.Runs.set_run.Goals.{Then-first-boot_frames, Else-first-boot_frames}

-- the runs as the call begins, for a run of boot blocks
base : (c : Then-first-boot_frames) → c.boot_frames-boot_frames.result ≡ c.self.inside.geometry.boot * c.self.inside.geometry.block
base c = c.boot_frames-boot_frames.ensures.frames ∙ sym (ap (λ (v : FreeFrames). v.sizes.boot * v.sizes.block) c.self.view_is)

facts : (c : Then-first-boot_frames) → RunFacts c.self.inside.geometry c.args.order c.args.first
facts c = facts_inside c.self.inside.geometry c.self.inside.online c.self.inside.boot c.self.inside.managed c.self.inside.aside.items c.self.inside.withdrawn.items c.args.self.now c.args.order c.args.first c.self.view_is c.requires.run

low : (c : Then-first-boot_frames) → c.args.first < c.self.inside.geometry.boot * c.self.inside.geometry.block
low c = omega (arith, c.if-first-boot_frames.true, base c)

pub set_run-requires-clause-runs : goal.set_run-requires-clause-runs
set_run-requires-clause-runs c =
    run_order c.self.inside.geometry c.args.order c.args.first c.self.inside.boot.top (facts (goal.at.set_run-requires-clause-runs c).Then-first-boot_frames) c.self.invariant.boot_part.block

pub set_run-requires-clause-inside : goal.set_run-requires-clause-inside
set_run-requires-clause-inside c =
    let d = (goal.at.set_run-requires-clause-inside c).Then-first-boot_frames in
    omega (arith, run_in_boot c.self.inside.geometry c.args.order c.args.first c.self.inside.boot.top (facts d) c.self.invariant.boot_part.block (low d), c.self.invariant.boot_part.room)

pub invariant_of-self : goal.invariant_of-self
invariant_of-self c =
    let d = (goal.at.invariant_of-self c).Then-first-boot_frames in
    set_kept c.self.inside.geometry c.self.inside.boot c.self.inside.managed c.set_run.new.self c.self.inside.managed c.self.inside.aside.items c.self.inside.withdrawn.items c.args.order c.args.first c.args.free c.self.invariant (facts d)
    (λ y. put_aside_inside c.self.inside.geometry c.self.inside.online c.self.inside.boot c.self.inside.managed c.self.inside.aside.items c.self.inside.withdrawn.items c.args.self.now c.args.first false c.self.invariant c.self.view_is (c.requires.present y))
    (set_boot c.self.inside.geometry c.self.inside.boot c.self.inside.managed c.set_run.new.self c.self.inside.aside.items c.self.inside.withdrawn.items c.args.order c.args.first c.args.free c.self.invariant (facts d) (low d) c.set_run.ensures)

pub returns-then-first-boot_frames : goal.returns-then-first-boot_frames
returns-then-first-boot_frames c =
    let d = (goal.at.returns-then-first-boot_frames c).Then-first-boot_frames in
    set_value c.self.inside.geometry c.self.inside.online c.self.inside.boot c.self.inside.managed c.set_run.new.self c.self.inside.managed c.self.inside.aside.items c.self.inside.withdrawn.items c.args.self.now c.args.first (2 ^ c.args.order) c.args.free c.self.view_is
    (set_boot c.self.inside.geometry c.self.inside.boot c.self.inside.managed c.set_run.new.self c.self.inside.aside.items c.self.inside.withdrawn.items c.args.order c.args.first c.args.free c.self.invariant (facts d) (low d) c.set_run.ensures)

-- the same for a run of managed blocks
base_else : (c : Else-first-boot_frames) → c.boot_frames-boot_frames.result ≡ c.self.inside.geometry.boot * c.self.inside.geometry.block
base_else c = c.boot_frames-boot_frames.ensures.frames ∙ sym (ap (λ (v : FreeFrames). v.sizes.boot * v.sizes.block) c.self.view_is)

facts_else : (c : Else-first-boot_frames) → RunFacts c.self.inside.geometry c.args.order c.args.first
facts_else c = facts_inside c.self.inside.geometry c.self.inside.online c.self.inside.boot c.self.inside.managed c.self.inside.aside.items c.self.inside.withdrawn.items c.args.self.now c.args.order c.args.first c.self.view_is c.requires.run

high : (c : Else-first-boot_frames) → c.self.inside.geometry.boot * c.self.inside.geometry.block ≤ c.args.first
high c = omega (arith, c.if-first-boot_frames.false, base_else c)

pub set_run-requires-else-first-boot_frames-clause-runs : goal.set_run-requires-else-first-boot_frames-clause-runs
set_run-requires-else-first-boot_frames-clause-runs c =
    run_order c.self.inside.geometry c.args.order c.args.first c.self.inside.managed.top (facts_else (goal.at.set_run-requires-else-first-boot_frames-clause-runs c).Else-first-boot_frames) c.self.invariant.managed_part.block

pub set_run-requires-else-first-boot_frames-clause-place : goal.set_run-requires-else-first-boot_frames-clause-place
set_run-requires-else-first-boot_frames-clause-place c =
    let d = (goal.at.set_run-requires-else-first-boot_frames-clause-place c).Else-first-boot_frames in
    ap (λ (n : ℕ). (c.args.first - n) % 2 ^ c.args.order) (base_else d)
    ∙ managed_multiple c.self.inside.geometry c.args.order c.args.first c.self.inside.managed.top (facts_else d) c.self.invariant.managed_part.block (high d)

pub set_run-requires-else-first-boot_frames-clause-inside : goal.set_run-requires-else-first-boot_frames-clause-inside
set_run-requires-else-first-boot_frames-clause-inside c =
    let d = (goal.at.set_run-requires-else-first-boot_frames-clause-inside c).Else-first-boot_frames in
    omega (arith, run_in_managed c.self.inside.geometry c.args.order c.args.first c.self.inside.managed.top (facts_else d) c.self.invariant.managed_part.block (high d), c.self.invariant.managed_part.room, base_else d)

set_high : (c : Else-first-boot_frames) (new : Part) → new ≡ record c.self.inside.managed { free = replaced (c.args.first - c.boot_frames-boot_frames.result) (2 ^ c.args.order) (replicate (2 ^ c.args.order) c.args.free) c.self.inside.managed.free } → AreSet c.self.inside.geometry c.self.inside.boot c.self.inside.managed c.self.inside.boot new c.args.first (2 ^ c.args.order) c.args.free
set_high c new e =
    set_managed c.self.inside.geometry c.self.inside.boot c.self.inside.managed new c.self.inside.aside.items c.self.inside.withdrawn.items c.args.order c.args.first c.args.free c.self.invariant (facts_else c) (high c)
    (e ∙ ap (λ (n : ℕ). record c.self.inside.managed { free = replaced (c.args.first - n) (2 ^ c.args.order) (replicate (2 ^ c.args.order) c.args.free) c.self.inside.managed.free }) (base_else c))

pub invariant_of-self-else-first-boot_frames : goal.invariant_of-self-else-first-boot_frames
invariant_of-self-else-first-boot_frames c =
    let d = (goal.at.invariant_of-self-else-first-boot_frames c).Else-first-boot_frames in
    set_kept c.self.inside.geometry c.self.inside.boot c.self.inside.managed c.self.inside.boot c.set_run-else-first-boot_frames.new.self c.self.inside.aside.items c.self.inside.withdrawn.items c.args.order c.args.first c.args.free c.self.invariant (facts_else d)
    (λ y. put_aside_inside c.self.inside.geometry c.self.inside.online c.self.inside.boot c.self.inside.managed c.self.inside.aside.items c.self.inside.withdrawn.items c.args.self.now c.args.first false c.self.invariant c.self.view_is (c.requires.present y))
    (set_high d c.set_run-else-first-boot_frames.new.self c.set_run-else-first-boot_frames.ensures)

pub returns-else-first-boot_frames : goal.returns-else-first-boot_frames
returns-else-first-boot_frames c =
    set_value c.self.inside.geometry c.self.inside.online c.self.inside.boot c.self.inside.managed c.self.inside.boot c.set_run-else-first-boot_frames.new.self c.self.inside.aside.items c.self.inside.withdrawn.items c.args.self.now c.args.first (2 ^ c.args.order) c.args.free c.self.view_is
    (set_high (goal.at.returns-else-first-boot_frames c).Else-first-boot_frames c.set_run-else-first-boot_frames.new.self c.set_run-else-first-boot_frames.ensures)
