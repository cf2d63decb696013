use Rattle.std.proofs.Common.{None, arith}
use Rattle.evac_model.specs.declared.device_journal.Told.TheVariants.{PopulateOk}
use Rattle.dma_listeners.specs.Listening.{blocks_below}
use Rattle.dma_listeners.proofs.Joins.{fewer_below, room_after, refused_join_written}
use Rattle.dma_listeners.proofs.registry.write_refused_join.Goals as goal

pub write_blocks-requires : goal.write_blocks-requires
write_blocks-requires c =
    omega (arith, c.requires.room, fewer_below c.args.plugged.now.sizes.managed c.args.b.0 c.args.plugged.now.plugged c.requires.rising c.requires.inside c.requires.block)

pub push-requires : goal.push-requires
push-requires c =
    omega (arith, c.requires.room, fewer_below c.args.plugged.now.sizes.managed c.args.b.0 c.args.plugged.now.plugged c.requires.rising c.requires.inside c.requires.block, room_after None PopulateOk (blocks_below c.args.plugged.now.plugged c.args.b.0) c.args.notices.now c.write_blocks.new.notices c.write_blocks.ensures)

pub write_blocks-requires-2 : goal.write_blocks-requires-2
write_blocks-requires-2 c =
    omega (arith, c.requires.room, c.push.ensures.room, fewer_below c.args.plugged.now.sizes.managed c.args.b.0 c.args.plugged.now.plugged c.requires.rising c.requires.inside c.requires.block, room_after None PopulateOk (blocks_below c.args.plugged.now.plugged c.args.b.0) c.args.notices.now c.write_blocks.new.notices c.write_blocks.ensures)

pub returns : goal.returns
returns c =
    refused_join_written c.args.plugged.now.sizes.managed c.args.b.0 c.args.plugged.now.plugged c.args.notices.now c.write_blocks.new.notices c.push.new.self c.write_blocks-2.new.notices c.requires.rising c.requires.inside c.write_blocks.ensures c.push.ensures c.write_blocks-2.ensures
