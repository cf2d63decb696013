use Rattle.std.proofs.Common.{◌∙◌, ap, arith, Ok}
use Rattle.mem_codec.proofs.Configs.{config_length, config_spelled, config_at-spelled}
use Rattle.mem_codec.proofs.config.read_config.Goals as goal

pub returns-then-bytes-ne-CONFIG_BYTES-clause-only :
    goal.returns-then-bytes-ne-CONFIG_BYTES-clause-only
returns-then-bytes-ne-CONFIG_BYTES-clause-only c =
    λ x s. absurd (c.if-bytes-ne-CONFIG_BYTES.true (config_length c.args.bytes.now x s))

pub returns-clause-found : goal.returns-clause-found
returns-clause-found c =
    rw c.config_of.ensures (config_spelled c.args.bytes.now (omega arith) (λ i. omega (arith, c.type_inv.bytes i)))

pub returns-clause-only : goal.returns-clause-only
returns-clause-only c = λ x s. ap (λ y. Ok y) (c.config_of.ensures ∙ config_at-spelled c.args.bytes.now x s)
