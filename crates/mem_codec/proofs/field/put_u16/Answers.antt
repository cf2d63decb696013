use Rattle.std.proofs.Common.{arith}
use Rattle.mem_codec.specs.Fields.{le16}
use Rattle.mem_codec.proofs.Places.{put_mid-field}
use Rattle.mem_codec.proofs.field.put_u16.Goals as goal

pub returns : goal.returns
unfolding le16
returns c = put_mid-field c.args.place (le16 c.args.n) c.args.out.now c.write_u16.new.buf (omega arith) c.write_u16.ensures
