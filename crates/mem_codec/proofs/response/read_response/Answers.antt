use Rattle.std.proofs.Common.{arith}
use Rattle.mem_codec.proofs.Responses.{response_length, reader_found, reader_only}
use Rattle.mem_codec.proofs.response.read_response.Goals as goal

pub returns-then-bytes-ne-RESPONSE_BYTES-clause-only :
    goal.returns-then-bytes-ne-RESPONSE_BYTES-clause-only
returns-then-bytes-ne-RESPONSE_BYTES-clause-only c =
    λ r s. absurd (c.if-bytes-ne-RESPONSE_BYTES.true (response_length c.args.bytes.now r s))

pub returns-clause-found : goal.returns-clause-found
returns-clause-found c =
    reader_found c.args.bytes.now _ _ _ (omega arith) (λ i. omega (arith, c.type_inv.bytes i)) c.u16_at.ensures c.u16_at-2.ensures c.response_by_type.ensures

pub returns-clause-only : goal.returns-clause-only
returns-clause-only c =
    reader_only c.args.bytes.now _ _ _ c.u16_at.ensures c.u16_at-2.ensures c.response_by_type.ensures
