use Rattle.mem_codec.proofs.Requests.{one_request}
use Rattle.mem_codec.proofs.laws.one_request.Goals as goal

pub returns : goal.returns
returns c = one_request
