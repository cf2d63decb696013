use Rattle.mem_codec.proofs.Configs.{one_config}
use Rattle.mem_codec.proofs.laws.one_config.Goals as goal

pub returns : goal.returns
returns c = one_config
