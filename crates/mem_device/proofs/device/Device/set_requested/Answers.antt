use Rattle.mem_device.proofs.Journals.{requested_state}
use Rattle.mem_device.proofs.device.Device.set_requested.Goals as goal

pub invariant_of-self-2 : goal.invariant_of-self-2
invariant_of-self-2 g c =
    let k = c.self.invariant.managed in
    let s = c.self.inside.memory.map.sizes in
    record {
      managed = record { within = k.within; rising = k.rising; unplugged = k.unplugged; roomy = k.roomy; backed = k.backed };
      state = requested_state s c.self.inside.journal.items _ _ _ c.args.size _ c.self.invariant.state c.reserve.ensures.items c.push_reserved.ensures.items;
      alone = c.self.invariant.alone;
    }
