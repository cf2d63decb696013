use Rattle.std.proofs.lemmas.Result.{MatchResult-weaker}
use Rattle.scenario.specs.Reading.{line_in}
use Rattle.scenario.proofs.Causes.{adds_line, refuses_line}
use Rattle.scenario.proofs.reader.with_text.Goals as goal

pub returns : goal.returns
returns c =
    MatchResult-weaker c.with_line.result c.with_line.ensures
    (λ made h. adds_line c.args.draft c.args.text.now (line_in c.in_ok-line.line) made c.in_ok-line.ensures h)
    (λ why h. refuses_line c.args.draft c.args.text.now (line_in c.in_ok-line.line) why c.in_ok-line.ensures h)
