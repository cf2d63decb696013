use Rattle.std.proofs.Common.{◌∙◌}
use Rattle.evac_model.proofs.Rising.{searched_in}
use Rattle.evac_model.proofs.fault.has.Goals as goal

pub returns : goal.returns
returns c =
    c.is_ok.ensures.value ∙ searched_in c.args.numbers.now c.args.number c.binary_search.result c.requires c.binary_search.ensures.position
