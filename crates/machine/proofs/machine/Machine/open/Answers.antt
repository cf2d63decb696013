use Rattle.std.proofs.Common.{length, refl}
use Rattle.machine.specs.declared.parts.Parts.{Parts}
use Rattle.machine.proofs.Starting.{AreStartParts, machine_is}
use Rattle.machine.proofs.machine.Machine.open.Goals as goal

pub from_parts-requires : goal.from_parts-requires
from_parts-requires c =
    let a : Parts = record { core = c.in_ok-core.core; space = c.in_ok-space.space; device = c.in_ok-device.device; held = c.in_ok-held.held; owners = length c.args.budgets.now; alloc = c.args.alloc } in
    let p : AreStartParts a c.args.g c.args.online c.args.start.now c.args.budgets.now c.args.fails = record {
      opening = c.in_ok-core.ensures.opening;
      words = c.in_ok-core.ensures.words;
      views = c.in_ok-core.ensures.views;
      space = c.in_ok-space.ensures;
      sizes = c.in_ok-device.ensures.sizes;
      journal = c.in_ok-device.ensures.journal;
      backing = c.in_ok-device.ensures.backing;
      held = c.in_ok-held.ensures.blocks;
      room = c.in_ok-held.ensures.room;
      owners = refl;
    } in
    machine_is a c.args.g c.args.online c.args.start.now c.args.budgets.now c.args.fails p c.requires
