-- A block has a byte at least.
use Rattle.std.proofs.Common.{◌*◌, ◌<◌, arith}
use Rattle.std.proofs.lemmas.Nat.{mul-le}
use Rattle.evac_model.specs.Geometry.{Sizes, IsWithinLimits, block_bytes}
use Rattle.evac_model.proofs.Bounds.{power_to_512_least}

pub bytes_some : (s : Sizes) → IsWithinLimits s → 0 < block_bytes s
bytes_some s w = mul-le 1 1 (s.cells * 8) s.block (omega (arith, power_to_512_least s.cells w.cells)) (power_to_512_least s.block w.block)
