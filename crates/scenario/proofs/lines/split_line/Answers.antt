use Rattle.std.proofs.Common.{◌+◌, ◌-◌, ◌<◌, length, drop, sym, arith}
use Rattle.std.proofs.lemmas.List.{take_rest, nil_from_length, length-take}
use Rattle.scenario.proofs.Splits.{split_some, split_none, positive}
use Rattle.scenario.proofs.lines.split_line.Goals as goal

pub returns-in-Some : goal.returns-in-Some
returns-in-Some c = split_some c.args.text.now _ _ c.in-Some.end (sym c.in-Some.ensures) c.without_return.ensures (take_rest c.args.text.now (c.in-Some.end + 1))

pub returns-in-None : goal.returns-in-None
returns-in-None c =
    let n = length c.args.text.now in
    let lt : 0 < n = positive n c.if-is_empty.ensures in
    split_none c.args.text.now _ lt (sym c.in-None.ensures) (nil_from_length _ (omega (arith, length-take (n - n) (drop n c.args.text.now))))
