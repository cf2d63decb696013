use Rattle.std.proofs.Common.{◌∙◌, ap, refl}
use Rattle.mem_codec.specs.Fields.{le16, overwritten}
use Rattle.mem_codec.proofs.Responses.{response_written}
use Rattle.mem_codec.proofs.response.write_response_fields.Goals as goal

pub returns : goal.returns
returns c =
    c.put_u16-2.ensures
    ∙ ap (overwritten 8 (le16 c.args.state)) c.put_u16.ensures
    ∙ response_written c.args.kind c.args.state _ refl
