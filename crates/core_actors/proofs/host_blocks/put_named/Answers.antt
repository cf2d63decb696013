use Rattle.core_actors.proofs.host_blocks.put_named.Goals as goal

pub returns-in_default-clause-managed : goal.returns-in_default-clause-managed
returns-in_default-clause-managed c = c.put_range.ensures.below c.args.map.now.sizes.managed c.named_range-n.ensures.inside
