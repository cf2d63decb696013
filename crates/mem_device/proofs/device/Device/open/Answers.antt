use Rattle.std.proofs.Common.{sym, ap, ◌∙◌, refl}
use Rattle.evac_model.specs.DeviceAnswer.{device_after, device_at_start}
use Rattle.mem_device.proofs.Hands.{unplugged_start}
use Rattle.mem_device.proofs.Journals.{started}
use Rattle.mem_device.proofs.device.Device.open.Goals as goal

pub invariant_of-result : goal.invariant_of-result
invariant_of-result g c =
    let m = c.in_ok-map.map in
    let s = c.args.g in
    let sizes = c.in_ok-map.ensures.sizes in
    let plugged = c.in_ok-map.ensures.plugged in
    record {
      managed = record {
        within = c.geometry.ensures.within;
        rising = c.geometry.ensures.rising;
        unplugged = c.requires.unplugged ∙ sym (unplugged_start s (rw sizes at c.geometry.ensures.within).plugged) ∙ rw (sizes, plugged) refl;
        roomy = rw sizes c.requires.roomy;
        backed = rw sizes c.requires.backed;
      };
      state = started s m.sizes m.plugged c.plugged_size-requested.result _ sizes plugged c.plugged_size-requested.ensures refl
          ∙ sym (ap (device_after m.sizes (device_at_start m.sizes)) c.new-3.ensures.items);
      alone = c.new-2.ensures;
    }
