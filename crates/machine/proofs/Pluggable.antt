-- The blocks that a request plugs are blocks of the region that weren't plugged.
use Rattle.std.proofs.Common.{◌≡◌, ℕ, ◌+◌, ◌*◌, ◌≤◌, ◌||◌, nat_lt, Bool, true, false, not, if◌then◌else◌, length, refl, arith, None, Some, Option}
use Rattle.evac_model.specs.declared.device.Request.{Request}
use Rattle.evac_model.specs.declared.device.Request.TheVariants.{Plug, Unplug, UnplugAll, State}
use Rattle.evac_model.specs.declared.device.Response.{Response}
use Rattle.evac_model.specs.declared.device.Response.TheVariants.{Ack, Nack, Busy, Error}
use Rattle.evac_model.specs.Geometry.{Sizes}
use Rattle.evac_model.specs.DeviceAnswer.{DeviceState, block_at, is_good_range, are_unplugged, device_answer, plug_answer}
use Rattle.evac_model.specs.DeviceBlocks.{device_block_bytes}
use Rattle.evac_model.specs.HostCommands.{BlockRange, no_blocks, plugged_by}
use Rattle.evac_model.proofs.Bounds.{good_within}

-- they are blocks of the region that aren't plugged
pub record ArePluggable (s : Sizes) (d : DeviceState) (r : BlockRange) : Type 0 where
  pub inside : r.first + r.count ≤ s.managed
  pub unplugged : are_unplugged d.plugged r.first r.count ≡ true

-- a PLUG is acknowledged only where all its blocks aren't plugged
acknowledged : (good few free busy : Bool) (state : ℕ) → (if not good then Error else if few then Nack else if not free then Error else if busy then Busy else Ack 0) ≡ Ack state → free ≡ true
acknowledged false few free busy state is = absurd (cc)
acknowledged true true free busy state is = absurd (cc)
acknowledged true false false busy state is = absurd (cc)
acknowledged true false true busy state is = refl

module _ (s : Sizes) (d : DeviceState) (refused : Bool) where
  range_plugged : (addr count state : ℕ) → plug_answer s d refused addr count ≡ Ack state → (good : Bool) → is_good_range s addr count ≡ good
      → 1 ≤ (if good then record { first = block_at s addr; count = count } else no_blocks).count → ArePluggable s d (if good then record { first = block_at s addr; count = count } else no_blocks)
  range_plugged addr count state is true at some = record {
    inside = good_within s addr count at;
    unplugged = acknowledged (is_good_range s addr count) (nat_lt d.requested ((length d.plugged + count) * device_block_bytes s)) (are_unplugged d.plugged (block_at s addr) count) (d.migrating || refused) state is;
  }
  range_plugged addr count state is false at some = absurd (omega arith)

  plug_plugged : (addr count : ℕ) (x : Response) → plug_answer s d refused addr count ≡ x
      → 1 ≤ (plugged_by s (Some (Plug addr count)) x).count → ArePluggable s d (plugged_by s (Some (Plug addr count)) x)
  plug_plugged addr count (Ack state) is some = range_plugged addr count state is (is_good_range s addr count) refl some
  plug_plugged addr count Nack is some = absurd (omega arith)
  plug_plugged addr count Busy is some = absurd (omega arith)
  plug_plugged addr count Error is some = absurd (omega arith)

  pub request_plugged : (request : Option Request) → 1 ≤ (plugged_by s request (device_answer s d refused request)).count → ArePluggable s d (plugged_by s request (device_answer s d refused request))
  request_plugged None some = absurd (omega arith)
  request_plugged (Some (Plug addr count)) some = plug_plugged addr count (plug_answer s d refused addr count) refl some
  request_plugged (Some (Unplug addr count)) some = absurd (omega arith)
  request_plugged (Some UnplugAll) some = absurd (omega arith)
  request_plugged (Some (State addr count)) some = absurd (omega arith)
