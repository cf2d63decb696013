-- How the bytes of a request are kept, and what their values are kept as.
use Rattle.std.specs.Prelude.{ℕ, List, length}
use Rattle.evac_model.specs.Padded.{IsPaddedTo, padded_to}
use Rattle.evac_model.specs.declared.request_bytes.RequestBytes.TheInside.{Inside}

abbrev pub IsPadded : Inside → Type 0
IsPadded a = IsPaddedTo 64 a.count a.items

abbrev pub padded : List ℕ → Inside
padded xs = record { count = length xs; items = padded_to 64 xs }
