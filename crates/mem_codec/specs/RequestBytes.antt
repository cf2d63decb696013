-- The bytes of a request: type, padding, address, number of blocks, padding.
use Rattle.std.specs.Prelude.{◌≡◌, ℕ, ◌^◌, ◌<◌, List, ◌++◌}
use Rattle.mem_codec.specs.Fields.{le16, le64, IsPadding, zeros}
use Rattle.evac_model.specs.declared.device.Request.{Request}
use Rattle.evac_model.specs.declared.device.Request.TheVariants.{Plug, Unplug, UnplugAll, State}

-- the fields of a request, with what stands in its two paddings
unfoldable pub request_fields : (kind : ℕ) (first : List ℕ) (addr count : ℕ) (second : List ℕ) → List ℕ
request_fields kind first addr count second = le16 kind ++ first ++ le64 addr ++ le16 count ++ second

-- the bytes are those of a type, an address and a number of blocks, with any paddings
pub record SpellsRequest (bytes : List ℕ) (kind addr count : ℕ) : Type 0 where
  pub first : List ℕ
  pub second : List ℕ
  pub first_is : IsPadding first
  pub second_is : IsPadding second
  pub addr_fits : addr < 2 ^ 64
  pub count_fits : count < 2 ^ 16
  pub spelled : bytes ≡ request_fields kind first addr count second

-- the bytes spell the request; those of an UNPLUG_ALL have any address and any number of blocks
abbrev pub AreRequestBytes : List ℕ → Request → Type 0
AreRequestBytes bytes (Plug addr count) = SpellsRequest bytes 0 addr count
AreRequestBytes bytes (Unplug addr count) = SpellsRequest bytes 1 addr count
AreRequestBytes bytes UnplugAll = (addr count : ℕ) × SpellsRequest bytes 2 addr count
AreRequestBytes bytes (State addr count) = SpellsRequest bytes 3 addr count

-- the spelling that is written: zeros wherever nothing is said
abbrev pub request_bytes : Request → List ℕ
request_bytes (Plug addr count) = request_fields 0 zeros addr count zeros
request_bytes (Unplug addr count) = request_fields 1 zeros addr count zeros
request_bytes UnplugAll = request_fields 2 zeros 0 0 zeros
request_bytes (State addr count) = request_fields 3 zeros addr count zeros

-- the numbers of the request fit their fields
abbrev pub RequestFits : Request → Type 0
RequestFits (Plug addr count) = (addr < 2 ^ 64) × (count < 2 ^ 16)
RequestFits (Unplug addr count) = (addr < 2 ^ 64) × (count < 2 ^ 16)
RequestFits UnplugAll = Unit {0}
RequestFits (State addr count) = (addr < 2 ^ 64) × (count < 2 ^ 16)
