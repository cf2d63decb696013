use Rattle.std.proofs.Common.{◌∙◌, ap, refl}
use Rattle.mem_codec.specs.Fields.{le16, le64, overwritten}
use Rattle.mem_codec.proofs.Requests.{request_written}
use Rattle.mem_codec.proofs.request.write_request_fields.Goals as goal

pub returns : goal.returns
returns c =
    c.put_u16-2.ensures
    ∙ ap (overwritten 16 (le16 c.args.count)) (c.put_u64.ensures ∙ ap (overwritten 8 (le64 c.args.addr)) c.put_u16.ensures)
    ∙ request_written c.args.kind c.args.addr c.args.count _ refl
