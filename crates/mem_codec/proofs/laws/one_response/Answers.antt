use Rattle.mem_codec.proofs.Responses.{one_response}
use Rattle.mem_codec.proofs.laws.one_response.Goals as goal

pub returns : goal.returns
returns c = one_response
