use Rattle.std.proofs.Common.{ap, ◌∙◌, ◌∷◌, List, ℕ}
use Rattle.scenario.proofs.Splits.{left_words}
use Rattle.scenario.proofs.words.split_word.Goals as goal

pub returns : goal.returns
returns c = c.split_byte.ensures ∙ ap (λ (ws : List (List ℕ)). c.split_byte.result.0.now ∷ ws) (left_words c.split_byte.result.1)
