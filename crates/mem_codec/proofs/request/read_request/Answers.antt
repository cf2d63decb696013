use Rattle.std.proofs.Common.{arith}
use Rattle.mem_codec.proofs.Requests.{request_length, reader_found, reader_only, reader_request, request_in-length}
use Rattle.mem_codec.proofs.request.read_request.Goals as goal

pub returns-then-bytes-ne-REQUEST_BYTES-clause-only :
    goal.returns-then-bytes-ne-REQUEST_BYTES-clause-only
returns-then-bytes-ne-REQUEST_BYTES-clause-only c =
    λ r s. absurd (c.if-bytes-ne-REQUEST_BYTES.true (request_length c.args.bytes.now r s))

pub returns-clause-found : goal.returns-clause-found
returns-clause-found c =
    reader_found c.args.bytes.now _ _ _ _ (omega arith) (λ i. omega (arith, c.type_inv.bytes i)) c.u16_at.ensures c.u64_at.ensures c.u16_at-2.ensures c.request_by_type.ensures

pub returns-clause-only : goal.returns-clause-only
returns-clause-only c =
    reader_only c.args.bytes.now _ _ _ _ c.u16_at.ensures c.u64_at.ensures c.u16_at-2.ensures c.request_by_type.ensures

pub returns-then-bytes-ne-REQUEST_BYTES-clause-request :
    goal.returns-then-bytes-ne-REQUEST_BYTES-clause-request
returns-then-bytes-ne-REQUEST_BYTES-clause-request c = request_in-length c.args.bytes.now c.if-bytes-ne-REQUEST_BYTES.true

pub returns-clause-request : goal.returns-clause-request
returns-clause-request c =
    reader_request c.args.bytes.now _ _ _ _ (omega arith) c.u16_at.ensures c.u64_at.ensures c.u16_at-2.ensures c.request_by_type.ensures
