use Rattle.std.proofs.Common.{◌≡◌, ℕ, ◌-◌, ◌*◌, ◌<◌, ◌∙◌, Bool, List, false, take, drop, get_or, sym, ap, subst, arith}
use Rattle.evac_model.specs.declared.names.Kind.{Kind}
use Rattle.evac_model.specs.Geometry.{Sizes, frame_count}
use Rattle.evac_model.specs.Numbers.{is_in}
use Rattle.evac_model.proofs.Numbers.{is_in-numbers_where}
use Rattle.buddy.specs.FreeFrames.{FreeFrames}
use Rattle.buddy.specs.Parts.{Part}
use Rattle.buddy.specs.RunsInside.{flag, is_free, frames_of}
use Rattle.buddy.proofs.FrameFlags.{flag-run, free_in_boot, free_in_managed}
use Rattle.buddy.proofs.runs.Runs.is_free.Goals as goal
use Rattle.buddy.proofs.runs.Runs.is_free.Goals.{then-frame-boot_frames, else-frame-boot_frames}

free_there : (s : Sizes) (online : Kind) (boot managed : Part) (aside withdrawn : List Bool) (old : FreeFrames) (frame : ℕ) → frames_of s online boot managed aside withdrawn ≡ old → frame < frame_count s → is_free s boot.free managed.free frame ≡ is_in frame old.free
free_there s online boot managed aside withdrawn old frame view inside =
    sym (is_in-numbers_where (is_free s boot.free managed.free) (frame_count s) frame inside) ∙ ap (λ (v : FreeFrames). is_in frame v.free) view

-- the one flag that is copied
one_flag : (flags copied : List Bool) (place : ℕ) → copied ≡ take 1 (drop place flags) → flag flags place ≡ get_or copied 0 false
one_flag flags copied place e =
    sym (flag-run place 1 flags place (omega arith) (omega arith)) ∙ ap (λ (n : ℕ). flag (take 1 (drop place flags)) n) (omega arith) ∙ ap (λ (xs : List Bool). flag xs 0) (sym e)

pub returns : goal.returns
returns c =
    let inside : c.args.frame.0 < frame_count c.self.inside.geometry = subst (λ (v : FreeFrames). c.args.frame.0 < frame_count v.sizes) (sym c.self.view_is) c.requires in
    let base : c.boot_frames-boot_frames.result ≡ c.self.inside.geometry.boot * c.self.inside.geometry.block = c.boot_frames-boot_frames.ensures.frames ∙ sym (ap (λ (v : FreeFrames). v.sizes.boot * v.sizes.block) c.self.view_is) in
    sym (elim c.if-frame-boot_frames.branch [
      | then-frame-boot_frames w ↦
          free_in_boot c.self.inside.geometry c.self.inside.boot.free c.self.inside.managed.free c.args.frame.0 (omega (arith, w.if-frame-boot_frames.true, base))
          ∙ one_flag c.self.inside.boot.free c.if-frame-boot_frames.free c.args.frame.0 (w.free-is ∙ w.copy_run.ensures)
      | else-frame-boot_frames w ↦
          free_in_managed c.self.inside.geometry c.self.inside.boot.free c.self.inside.managed.free c.args.frame.0 (omega (arith, w.if-frame-boot_frames.false, base))
          ∙ one_flag c.self.inside.managed.free c.if-frame-boot_frames.free (c.args.frame.0 - c.self.inside.geometry.boot * c.self.inside.geometry.block)
          (w.free-is ∙ w.copy_run-else-frame-boot_frames.ensures ∙ ap (λ (n : ℕ). take 1 (drop (c.args.frame.0 - n) c.self.inside.managed.free)) base)
    ])
    ∙ free_there c.self.inside.geometry c.self.inside.online c.self.inside.boot c.self.inside.managed c.self.inside.aside.items c.self.inside.withdrawn.items c.args.self.now c.args.frame.0 c.self.view_is inside
