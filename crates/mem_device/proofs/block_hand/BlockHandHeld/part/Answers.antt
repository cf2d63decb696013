use Rattle.std.proofs.Common.{◌≡◌, sym, ap, ◌∙◌, arith}
use Rattle.evac_model.specs.Numbers.{without_range}
use Rattle.mem_device.specs.declared.hand_kind.HandKind.{HandKind}
use Rattle.mem_device.specs.HandState.{HandState}
use Rattle.mem_device.specs.HandInside.{hand_state}
use Rattle.mem_device.proofs.HandParts.{without_nothing}
use Rattle.mem_device.proofs.block_hand.BlockHandHeld.part.Goals as goal
use Rattle.mem_device.proofs.block_hand.BlockHandHeld.part.Goals.{in-Set, in-Range}

pub returns-clause-keeps : goal.returns-clause-keeps
returns-clause-keeps c =
    let first = c.args.first.0 in
    let n = c.args.n in
    elim c.match-self.branch [
      | in-Set w ↦
          let map = w.in-Set.map in
          let old : map.plugged ≡ c.args.self.now.blocks = sym (ap (λ (k : HandKind). (hand_state k).blocks) w.in-Set.is) ∙ ap (λ (h : HandState). h.blocks) c.self.view_is in
          rw w.self-inside-is (w.clear.ensures.plugged ∙ ap (without_range first n) old)
      | in-Range w ↦
          let room : 0 ≡ c.args.self.now.room = sym (ap (λ (k : HandKind). (hand_state k).room) w.in-Range.is) ∙ ap (λ (h : HandState). h.room) c.self.view_is in
          rw w.self-inside-is (ap (λ (h : HandState). h.blocks) c.self.view_is ∙ sym (without_nothing first n c.args.self.now.blocks (omega (arith, room, c.requires.below))))
    ]
