use Rattle.std.proofs.Common.{◌≡◌, ℕ, ◌-◌, ◌*◌, ◌/◌, ◌<◌, ◌∙◌, ◌&&◌, Bool, false, leb, length, sym, ap, subst, arith}
use Rattle.std.proofs.lemmas.Bool.{le-leb, lt-leb, and_left}
use Rattle.std.proofs.lemmas.List.{get_or_read}
use Rattle.std.proofs.lemmas.Nat.{div_below}
use Rattle.evac_model.specs.Geometry.{frame_count}
use Rattle.buddy.specs.FreeFrames.{FreeFrames}
use Rattle.buddy.specs.RunsInside.{flag}
use Rattle.buddy.proofs.Places.{frames_split}
use Rattle.buddy.proofs.FrameValues.{are_apart}
use Rattle.buddy.proofs.Setting.{put_aside_now}
use Rattle.buddy.proofs.runs.Runs.is_put_aside.Goals as goal
use Rattle.buddy.proofs.runs.Runs.is_put_aside.Goals.{After-block}
use Rattle.evac_model.proofs.Bounds.{block_some}

base : (c : After-block) → c.boot_frames-boot_frames.result ≡ c.self.inside.geometry.boot * c.self.inside.geometry.block
base c = c.boot_frames-boot_frames.ensures.frames ∙ sym (ap (λ (v : FreeFrames). v.sizes.boot * v.sizes.block) c.self.view_is)

-- the block has a flag
within : (c : After-block) → (c.args.frame - c.boot_frames-boot_frames.result) / c.block.result < length c.self.inside.withdrawn.items
within c =
    let some = block_some c.self.inside.geometry c.self.invariant.within in
    let inside : c.args.frame < frame_count c.self.inside.geometry = subst (λ (v : FreeFrames). c.args.frame < frame_count v.sizes) (sym c.self.view_is) c.requires in
    let below = div_below (c.args.frame - c.boot_frames-boot_frames.result) c.self.inside.geometry.block c.self.inside.geometry.managed some (omega (arith, inside, frames_split c.self.inside.geometry, base c, c.if-boot_frames-frame.true)) in
    omega (arith, ap (λ (n : ℕ). (c.args.frame - c.boot_frames-boot_frames.result) / n) c.block.ensures.size, below, c.self.invariant.withdrawn_length)

pub returns-then-boot_frames-frame-clause-found : goal.returns-then-boot_frames-frame-clause-found
returns-then-boot_frames-frame-clause-found c =
    let d = (goal.at.returns-then-boot_frames-frame-clause-found c).After-block in
    let base_is = base d in
    get_or_read c.self.inside.withdrawn.items ((c.args.frame - c.boot_frames-boot_frames.result) / c.block.result) c.index.result.now (within d) c.index.ensures false
    ∙ ap (λ (n : ℕ). flag c.self.inside.withdrawn.items ((c.args.frame - n) / c.block.result)) base_is
    ∙ ap (λ (n : ℕ). flag c.self.inside.withdrawn.items ((c.args.frame - c.self.inside.geometry.boot * c.self.inside.geometry.block) / n)) c.block.ensures.size
    ∙ sym (ap (λ (t : Bool). t && flag c.self.inside.withdrawn.items ((c.args.frame - c.self.inside.geometry.boot * c.self.inside.geometry.block) / c.self.inside.geometry.block)) (le-leb (c.self.inside.geometry.boot * c.self.inside.geometry.block) c.args.frame (omega (arith, base_is, c.if-boot_frames-frame.true))))
    ∙ put_aside_now c.self.inside.geometry c.self.inside.online c.self.inside.boot c.self.inside.managed c.self.inside.aside.items c.self.inside.withdrawn.items c.args.self.now c.args.frame c.self.invariant c.self.view_is

pub returns-then-boot_frames-frame-clause-apart : goal.returns-then-boot_frames-frame-clause-apart
returns-then-boot_frames-frame-clause-apart c = are_apart c.self.inside.geometry c.self.inside.online c.self.inside.boot c.self.inside.managed c.self.inside.aside.items c.self.inside.withdrawn.items c.args.self.now c.self.invariant c.self.view_is

pub returns-else-boot_frames-frame-clause-found : goal.returns-else-boot_frames-frame-clause-found
returns-else-boot_frames-frame-clause-found c =
    let base_is : c.boot_frames-boot_frames.result ≡ c.self.inside.geometry.boot * c.self.inside.geometry.block = c.boot_frames-boot_frames.ensures.frames ∙ sym (ap (λ (v : FreeFrames). v.sizes.boot * v.sizes.block) c.self.view_is) in
    lt-leb c.boot_frames-boot_frames.result c.args.frame c.if-boot_frames-frame.false
    ∙ sym (and_left (leb (c.self.inside.geometry.boot * c.self.inside.geometry.block) c.args.frame) (flag c.self.inside.withdrawn.items ((c.args.frame - c.self.inside.geometry.boot * c.self.inside.geometry.block) / c.self.inside.geometry.block)) (lt-leb (c.self.inside.geometry.boot * c.self.inside.geometry.block) c.args.frame (omega (arith, base_is, c.if-boot_frames-frame.false))))
    ∙ put_aside_now c.self.inside.geometry c.self.inside.online c.self.inside.boot c.self.inside.managed c.self.inside.aside.items c.self.inside.withdrawn.items c.args.self.now c.args.frame c.self.invariant c.self.view_is

pub returns-else-boot_frames-frame-clause-apart : goal.returns-else-boot_frames-frame-clause-apart
returns-else-boot_frames-frame-clause-apart c = are_apart c.self.inside.geometry c.self.inside.online c.self.inside.boot c.self.inside.managed c.self.inside.aside.items c.self.inside.withdrawn.items c.args.self.now c.self.invariant c.self.view_is
