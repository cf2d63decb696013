-- How a hand keeps its blocks.
use Rattle.std.specs.List.{range_with_len}
use Rattle.evac_model.specs.DeviceBlocks.{device_blocks}
use Rattle.mem_device.specs.HandState.{HandState}
use Rattle.mem_device.specs.declared.hand_kind.HandKind.{HandKind}
use Rattle.mem_device.specs.declared.hand_kind.HandKind.TheVariants.{Set, Range}

-- a set has room for each device block of its machine, and a plain range for none
abbrev pub hand_state : HandKind → HandState
hand_state (Set map) = record { blocks = map.plugged; room = device_blocks map.sizes }
hand_state (Range first n) = record { blocks = range_with_len first.0 n; room = 0 }
