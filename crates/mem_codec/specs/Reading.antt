-- What the readers answer, by the numbers at the places of the fields.
use Rattle.std.specs.Prelude.{ℕ, ◌==◌, ◌||◌, ◌&&◌, nat_lt, not, if◌then◌else◌, List, Result, Ok, Err}
use Rattle.mem_codec.specs.Fields.{le16_at, le64_at}
use Rattle.evac_model.specs.declared.device.Request.{Request}
use Rattle.evac_model.specs.declared.device.Request.TheVariants as requests
use Rattle.evac_model.specs.declared.device.Response.{Response}
use Rattle.evac_model.specs.declared.device.Response.TheVariants as responses
use Rattle.evac_model.specs.declared.device.Config.{Config}
use Rattle.mem_codec.specs.declared.fault.RequestFault.{RequestFault}
use Rattle.mem_codec.specs.declared.fault.RequestFault.TheVariants as request_faults
use Rattle.mem_codec.specs.declared.fault.ResponseFault.{ResponseFault}
use Rattle.mem_codec.specs.declared.fault.ResponseFault.TheVariants as response_faults

-- a request by its type
abbrev pub request_of : (kind addr count : ℕ) → Result Request RequestFault
request_of kind addr count =
    if kind == 0 then Ok (requests.Plug addr count)
    else if kind == 1 then Ok (requests.Unplug addr count)
    else if kind == 2 then Ok requests.UnplugAll
    else if kind == 3 then Ok (requests.State addr count)
    else Err request_faults.Kind

-- a response by its type and state
abbrev pub response_of : (kind state : ℕ) → Result Response ResponseFault
response_of kind state =
    if nat_lt 3 kind then Err response_faults.Kind
    else if nat_lt 2 state || (not (kind == 0) && not (state == 0)) then Err response_faults.State
    else if kind == 0 then Ok (responses.Ack state)
    else if kind == 1 then Ok responses.Nack
    else if kind == 2 then Ok responses.Busy
    else Ok responses.Error

-- the numbers at the places of a configuration's fields
abbrev pub config_at : List ℕ → Config
config_at bytes =
    record { block_size = le64_at 0 bytes; node_id = le16_at 8 bytes; addr = le64_at 16 bytes; region_size = le64_at 24 bytes; usable_region_size = le64_at 32 bytes; plugged_size = le64_at 40 bytes; requested_size = le64_at 48 bytes }
