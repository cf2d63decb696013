use Rattle.std.proofs.Common.{◌∷◌, ◌∙◌, ap, Option, Bor, List, ℕ}
use Rattle.scenario.specs.Words.{parts_left}
use Rattle.scenario.proofs.TurnWords.{two_marks}
use Rattle.scenario.proofs.turn_line.turn_count_of.Goals as goal

pub returns-in-Some-more : goal.returns-in-Some-more
returns-in-Some-more c =
    let digits = c.split_byte.result.0.now in
    rw c.in-Some.is (two_marks _ digits c.in-Some-more.field-0.now (c.split_byte.ensures ∙ ap (λ (o : Option (Bor (List ℕ))). digits ∷ parts_left 42 o) c.in-Some-more.is))
