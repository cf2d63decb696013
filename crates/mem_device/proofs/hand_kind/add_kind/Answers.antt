use Rattle.std.proofs.Common.{sym, ap, ◌∙◌}
use Rattle.evac_model.specs.Numbers.{is_in}
use Rattle.evac_model.specs.Numbers.{united}
use Rattle.mem_device.specs.declared.hand_kind.HandKind.{HandKind}
use Rattle.mem_device.specs.HandInside.{hand_state}
use Rattle.mem_device.proofs.HandParts.{united_empty, range_inside}
use Rattle.mem_device.proofs.hand_kind.add_kind.Goals as goal

pub add_all-requires : goal.add_all-requires
add_all-requires c = λ b h. c.requires b (ap (λ (k : HandKind). is_in b (hand_state k).blocks) c.in-Set.is ∙ h)

pub set-requires : goal.set-requires
set-requires c =
    range_inside c.in-Range.first.0 c.in-Range.n c.args.map.now.sizes.managed c.if-n-gt0.true
    (λ b h. c.requires b (ap (λ (k : HandKind). is_in b (hand_state k).blocks) c.in-Range.is ∙ h))

pub returns-then-n-gt0-clause-plugged : goal.returns-then-n-gt0-clause-plugged
returns-then-n-gt0-clause-plugged c =
    c.set.ensures.plugged ∙ ap (λ (k : HandKind). united c.args.map.now.plugged (hand_state k).blocks) (sym c.in-Range.is)

pub returns-else-n-gt0-clause-plugged : goal.returns-else-n-gt0-clause-plugged
returns-else-n-gt0-clause-plugged c =
    united_empty c.args.map.now.sizes.managed c.args.map.now.plugged c.in-Range.first.0 c.in-Range.n c.geometry.ensures.rising c.if-n-gt0.false
    ∙ ap (λ (k : HandKind). united c.args.map.now.plugged (hand_state k).blocks) (sym c.in-Range.is)
