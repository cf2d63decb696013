use Rattle.std.proofs.Common.{◌≡◌, ◌<◌, ◌∙◌, ◌||◌, Bool, false, sym, ap, subst, arith}
use Rattle.std.proofs.lemmas.List.{get_or_read}
use Rattle.evac_model.specs.Geometry.{frame_count}
use Rattle.evac_model.specs.Numbers.{is_in}
use Rattle.evac_model.proofs.Numbers.{is_in-numbers_where}
use Rattle.buddy.specs.FreeFrames.{FreeFrames}
use Rattle.buddy.specs.RunsInside.{flag}
use Rattle.buddy.proofs.runs.Runs.has.Goals as goal

pub returns-else-is_free : goal.returns-else-is_free
returns-else-is_free c =
    let frame = c.args.frame.0 in
    let flags = c.self.inside.aside.items in
    let inside : frame < frame_count c.self.inside.geometry = subst (λ (v : FreeFrames). frame < frame_count v.sizes) (sym c.self.view_is) c.requires in
    let aside : c.index.result.now ≡ is_in frame c.args.self.now.aside =
    get_or_read flags frame c.index.result.now (omega (arith, inside, c.self.invariant.aside_length)) c.index.ensures false
    ∙ sym (is_in-numbers_where (flag flags) (frame_count c.self.inside.geometry) frame inside)
    ∙ ap (λ (v : FreeFrames). is_in frame v.aside) c.self.view_is in
    let free : is_in frame c.args.self.now.free ≡ false = sym c.is_free.ensures ∙ c.if-is_free.false in
    aside ∙ sym (ap (λ (t : Bool). t || is_in frame c.args.self.now.aside) free)
