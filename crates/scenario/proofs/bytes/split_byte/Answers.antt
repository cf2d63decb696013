use Rattle.std.proofs.Common.{◌==◌, sym}
use Rattle.std.proofs.lemmas.List.{take_rest}
use Rattle.scenario.proofs.Splits.{cut_some, cut_none}
use Rattle.scenario.proofs.bytes.split_byte.Goals as goal

pub returns-in-Some : goal.returns-in-Some
returns-in-Some c = rw take_rest ((cut_some (λ b. b == c.args.byte) c.args.text.now c.in-Some.end (sym c.in-Some.ensures)).1)

pub returns-in-None : goal.returns-in-None
returns-in-None c = cut_none (λ b. b == c.args.byte) c.args.text.now (sym c.in-None.ensures)
