-- The bytes of the configuration.
use Rattle.std.specs.Prelude.{◌≡◌, ℕ, ◌^◌, ◌<◌, List, ◌++◌}
use Rattle.mem_codec.specs.Fields.{le16, le64, IsPadding, zeros}
use Rattle.evac_model.specs.declared.device.Config.{Config}

-- the fields of a configuration, with what stands in its padding
unfoldable pub config_fields : Config → (padding : List ℕ) → List ℕ
config_fields c padding =
    le64 c.block_size ++ le16 c.node_id ++ padding ++ le64 c.addr ++ le64 c.region_size
    ++ le64 c.usable_region_size ++ le64 c.plugged_size ++ le64 c.requested_size

-- the numbers of the configuration fit their fields
pub record ConfigFits (c : Config) : Type 0 where
  pub block_size : c.block_size < 2 ^ 64
  pub node_id : c.node_id < 2 ^ 16
  pub addr : c.addr < 2 ^ 64
  pub region_size : c.region_size < 2 ^ 64
  pub usable_region_size : c.usable_region_size < 2 ^ 64
  pub plugged_size : c.plugged_size < 2 ^ 64
  pub requested_size : c.requested_size < 2 ^ 64

-- the bytes spell the configuration, with any padding
pub record ConfigBytes (bytes : List ℕ) (c : Config) : Type 0 where
  pub padding : List ℕ
  pub padding_is : IsPadding padding
  pub fits : ConfigFits c
  pub spelled : bytes ≡ config_fields c padding

-- the spelling that is written: zeros in the padding
abbrev pub config_bytes : Config → List ℕ
config_bytes c = config_fields c zeros
