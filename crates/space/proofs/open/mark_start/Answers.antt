use Rattle.std.proofs.Common.{◌∙◌, ◌≡◌, ◌+◌, ◌-◌, ◌<◌, ap, sym, arith, subst, get_or, length, Some}
use Rattle.std.proofs.Math.ListN.{set}
use Rattle.std.proofs.lemmas.List.{get_or_default}
use Rattle.evac_model.specs.Geometry.{frame_count}
use Rattle.evac_model.specs.declared.names.Kind.TheVariants.{Movable}
use Rattle.evac_model.specs.declared.scenario.StartPage.{StartPage}
use Rattle.page_blocks.specs.Marks.{Marks}
use Rattle.space.proofs.Opens.{marks_from, marks_none, marks_more, start_frame_there}
use Rattle.space.proofs.open.mark_start.Goals as goal

pub loop-left-init : goal.loop-left-init
loop-left-init c = record {
  left = omega arith;
  marks = c.requires.marks ∙ marks_none c.args.g.now c.args.start.now (length c.args.start.now) (omega arith);
}

pub set_out-requires : goal.set_out-requires
set_out-requires c =
    let i = c.loop-left.left - 1 in
    let p : StartPage = get_or c.args.start.now i (record { page = record { 0 = 0 }; kind = Movable; frame = record { 0 = 0 } }) in
    let l : i < length c.args.start.now = omega (arith, c.loop-left.invariant.left) in
    subst (λ (m : Marks). p.frame.0 < frame_count m.sizes) (sym c.loop-left.invariant.marks)
    (start_frame_there c.args.g.now c.args.start.now i p c.plugged.ensures.within.plugged c.requires.there l (get_or_default c.args.start.now i _ p l))

pub loop-left-preserved : goal.loop-left-preserved
loop-left-preserved c =
    let s = c.args.g.now in
    let start = c.args.start.now in
    let i = c.loop-left.left - 1 in
    let p : StartPage = get_or start i (record { page = record { 0 = 0 }; kind = Movable; frame = record { 0 = 0 } }) in
    let l : i < length start = omega (arith, c.loop-left.invariant.left) in
    let e : p ≡ get_or start i p = get_or_default start i _ p l in
    let before : c.loop-left.left ≡ i + 1 = omega arith in
    record {
      left = omega (arith, c.loop-left.invariant.left);
      marks =
          c.set_out.ensures
          ∙ ap (λ (m : Marks). let x : Marks = record m { out = set m.out p.frame.0 (Some (record { page = p.page.0; kind = p.kind })) } in x) (c.loop-left.invariant.marks ∙ ap (marks_from s start) before)
          ∙ marks_more s start i p l e (start_frame_there s start i p c.plugged.ensures.within.plugged c.requires.there l e);
    }
