use Rattle.std.proofs.Common.{◌∙◌, ap, refl}
use Rattle.mem_codec.specs.Fields.{le16, le64, overwritten}
use Rattle.mem_codec.proofs.Configs.{config_written}
use Rattle.mem_codec.proofs.config.write_config.Goals as goal

pub returns : goal.returns
returns c =
    c.put_u64-6.ensures
    ∙ ap (overwritten 48 (le64 c.args.c.now.requested_size)) (c.put_u64-5.ensures
    ∙ ap (overwritten 40 (le64 c.args.c.now.plugged_size)) (c.put_u64-4.ensures
    ∙ ap (overwritten 32 (le64 c.args.c.now.usable_region_size)) (c.put_u64-3.ensures
    ∙ ap (overwritten 24 (le64 c.args.c.now.region_size)) (c.put_u64-2.ensures
    ∙ ap (overwritten 16 (le64 c.args.c.now.addr)) (c.put_u16.ensures
    ∙ ap (overwritten 8 (le16 c.args.c.now.node_id)) c.put_u64.ensures)))))
    ∙ config_written c.args.c.now _ refl
