use Rattle.std.proofs.Common.{arith}
use Rattle.mem_codec.specs.Fields.{le64}
use Rattle.mem_codec.proofs.Places.{put_mid-field}
use Rattle.mem_codec.proofs.field.put_u64.Goals as goal

pub returns : goal.returns
unfolding le64
returns c = put_mid-field c.args.place (le64 c.args.n) c.args.out.now c.write_u64.new.buf (omega arith) c.write_u64.ensures
