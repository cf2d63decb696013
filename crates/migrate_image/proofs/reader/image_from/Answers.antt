use Rattle.std.proofs.Common.{sym, ◌∙◌, arith}
use Rattle.migrate_image.proofs.Loops.{plugged_below}
use Rattle.migrate_image.proofs.Whole.{assembled, image_takes}
use Rattle.migrate_image.proofs.reader.image_from.Goals as goal

pub frames_of-requires : goal.frames_of-requires
frames_of-requires c = plugged_below c.managed.result c.plugged.result _ _ _ c.deref.result.now c.managed.ensures.size c.deref.ensures.value c.in_ok-plugged.ensures

pub invariant_of-result : goal.invariant_of-result
invariant_of-result c =
    let whole = assembled c.args.bytes.now c.in_ok-rest.rest.now _ c.in_ok-geometry.geometry c.managed.result c.plugged.result _ c.deref.result.now _ c.in_ok-rest.ensures c.in_ok-header.ensures c.in_ok-geometry.ensures
    c.managed.ensures.size c.plugged.ensures.size c.in_ok-plugged.ensures c.deref.ensures.value c.in_ok-frames.ensures (sym c.is_empty.ensures ∙ c.if-not-is_empty.false) in
    rw (c.from_vec.ensures, c.from_vec-2.ensures) (image_takes c.args.bytes.now _ (λ i. omega (arith, c.type_inv.bytes i)) whole).image
