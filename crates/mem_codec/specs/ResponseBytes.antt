-- The bytes of a response: type, padding, state.
use Rattle.std.specs.Prelude.{◌≡◌, ℕ, ◌≤◌, ◌<◌, ◌≢◌, ◌⊎◌, List, ◌++◌}
use Rattle.mem_codec.specs.Fields.{le16, IsPadding, zeros}
use Rattle.evac_model.specs.declared.device.Response.{Response}
use Rattle.evac_model.specs.declared.device.Response.TheVariants.{Ack, Nack, Busy, Error}

-- the fields of a response, with what stands in its padding
unfoldable pub response_fields : (kind : ℕ) (padding : List ℕ) (state : ℕ) → List ℕ
response_fields kind padding state = le16 kind ++ padding ++ le16 state

-- the bytes are those of a type and a state, with any padding
pub record SpellsResponse (bytes : List ℕ) (kind state : ℕ) : Type 0 where
  pub padding : List ℕ
  pub padding_is : IsPadding padding
  pub spelled : bytes ≡ response_fields kind padding state

-- the bytes spell the response; the state is 0 outside ACK
abbrev pub ResponseBytes : List ℕ → Response → Type 0
ResponseBytes bytes (Ack state) = (state ≤ 2) × SpellsResponse bytes 0 state
ResponseBytes bytes Nack = SpellsResponse bytes 1 0
ResponseBytes bytes Busy = SpellsResponse bytes 2 0
ResponseBytes bytes Error = SpellsResponse bytes 3 0

-- the spelling that is written: zeros in the padding
abbrev pub response_bytes : Response → List ℕ
response_bytes (Ack state) = response_fields 0 zeros state
response_bytes Nack = response_fields 1 zeros 0
response_bytes Busy = response_fields 2 zeros 0
response_bytes Error = response_fields 3 zeros 0

-- the state of an ACK is one of the three
abbrev pub HasState : Response → Type 0
HasState (Ack state) = state ≤ 2
HasState Nack = Unit {0}
HasState Busy = Unit {0}
HasState Error = Unit {0}

-- no response of this type has this state
abbrev pub IsWrongState : (kind state : ℕ) → Type 0
IsWrongState kind state = (2 < state) ⊎ ((kind ≢ 0) × (state ≢ 0))
