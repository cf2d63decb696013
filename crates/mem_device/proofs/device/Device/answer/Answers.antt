use Rattle.std.proofs.Common.{ap, ◌∙◌}
use Rattle.evac_model.specs.DeviceAnswer.{DeviceState, request_in}
use Rattle.evac_model.specs.DeviceAnswer.{unplugged_blocks}
use Rattle.mem_device.specs.Managed.{state_in}
use Rattle.mem_device.proofs.Journals.{answered_state, read_found}
use Rattle.mem_device.proofs.device.Device.answer.Goals as goal

pub invariant_of-self-2 : goal.invariant_of-self-2
invariant_of-self-2 g c =
    let k = c.answer-answer.ensures.managed in
    record {
      managed = record { within = k.within; rising = k.rising; unplugged = k.unplugged; roomy = k.roomy; backed = k.backed };
      state = answered_state c.self.inside.memory.map.sizes c.answer-answer.new.self.map.sizes c.self.inside.journal.items c.reserve.new.self.items c.push_reserved.new.self.items
          (state_in c.self.inside.memory) (state_in c.answer-answer.new.self) c.ok.result c.args.bytes.now _ c.answer-answer.result.response _
          c.answer-answer.ensures.sizes c.self.invariant.state c.reserve.ensures.items c.push_reserved.ensures.items c.from_slice.ensures
          (c.ok.ensures.value ∙ read_found c.read_request.result (request_in c.args.bytes.now) c.read_request.ensures.request) c.answer-answer.ensures.state;
      alone = c.self.invariant.alone;
    }

pub returns-clause-hand : goal.returns-clause-hand
returns-clause-hand g c =
    c.answer-answer.ensures.managed.unplugged
    ∙ ap (λ (d : DeviceState). unplugged_blocks c.answer-answer.new.self.map.sizes d.plugged)
    (answered_state c.self.inside.memory.map.sizes c.answer-answer.new.self.map.sizes c.self.inside.journal.items c.reserve.new.self.items c.push_reserved.new.self.items
    (state_in c.self.inside.memory) (state_in c.answer-answer.new.self) c.ok.result c.args.bytes.now _ c.answer-answer.result.response _
    c.answer-answer.ensures.sizes c.self.invariant.state c.reserve.ensures.items c.push_reserved.ensures.items c.from_slice.ensures
    (c.ok.ensures.value ∙ read_found c.read_request.result (request_in c.args.bytes.now) c.read_request.ensures.request) c.answer-answer.ensures.state)
