use Rattle.std.proofs.Common.{◌++◌, take, arith}
use Rattle.evac_io.proofs.Told.{Gives-append, length-append-take}
use Rattle.evac_io.proofs.read_whole.read_all.Goals as goal

-- The bytes so far, and then those that the last read took.
pub returns-in_err-count-clause-prefix : goal.returns-in_err-count-clause-prefix
returns-in_err-count-clause-prefix g c =
    let last = c.in_err-count.ensures.prefix in (
      c.loop-bytes.bytes.items ++ take last.0 c.read_piece.new.piece,
      length-append-take c.args.limit c.loop-bytes.bytes.items _ _ _ _ (omega arith) c.read_piece.auto.piece (omega arith) last.1,
      Gives-append _ _ _ _ _ c.loop-bytes.invariant.gives last.2,
    )
