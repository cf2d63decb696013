use Rattle.std.proofs.Common.{◌≡◌, take}
use Rattle.evac_model.proofs.request_bytes.RequestBytes.from_slice.Given as goal

abbrev pub invariant-loop-byte : goal.invariant-loop-byte
invariant-loop-byte l = l.kept ≡ take l.byte-index l.bytes
