use Rattle.std.proofs.Common.{ℕ, List, ◌++◌, sym, ap, ◌∙◌}
use Rattle.report.specs.Sections.{sections_text}
use Rattle.report.proofs.Lines.{text_by_sections}
use Rattle.report.proofs.text.write_report.Goals as goal

pub returns : goal.returns
returns c =
    c.from_vec.ensures
    ∙ (c.in_ok-put_report.ensures
    ∙ (ap (λ (l : List ℕ). l ++ sections_text c.args.report.now) c.new-out.ensures.items
    ∙ sym (text_by_sections c.args.report.now)))
