-- A text is read as one line, or it isn't read for one cause.
use Rattle.std.proofs.Common.{◌≡◌, ℕ, List, Some, None, sym, ap, ◌∙◌, subst}
use Rattle.std.proofs.lemmas.Option.{none-some, same_Some}
use Rattle.evac_model.specs.declared.scenario.LineCause.TheVariants.{Word, Later, Form}
use Rattle.evac_model.specs.ScenarioLines.{Line, words, Spells}
use Rattle.evac_model.specs.ScenarioGrammar.{Reads}
use Rattle.scenario.specs.declared.ask.Ask.TheVariants.{Unknown, Later as LaterAsk, Read}
use Rattle.scenario.specs.Asking.{ask_of_words}
use Rattle.scenario.specs.Reading.{line_of}
use Rattle.scenario.specs.Judging.{IsUnread}
use Rattle.scenario.proofs.Askings.{Says, words_say}
use Rattle.scenario.proofs.Readings.{line_read, line_again}
use Rattle.scenario.proofs.Spellings.{spelled_words, spelled_by_words}

pub reads_again : (text : List ℕ) (line : Line) → Spells text line → line_of (words text) ≡ Some line
reads_again text line s = ap line_of (spelled_words text line s) ∙ line_again line s.fits

pub reads_one : (text : List ℕ) (a b : Line) → Reads text a → Reads text b → a ≡ b
reads_one text a b x y = same_Some a b (sym (reads_again text a x.spelled) ∙ reads_again text b y.spelled)

pub read_is : (text : List ℕ) (line : Line) → ask_of_words (words text) ≡ Read → line_of (words text) ≡ Some line → Reads text line
read_is text line asked e =
    let says = subst (Says (words text)) asked (words_say (words text)) in
    let spelled = line_read (words text) line e in
    record { known = says.0; built = says.1; spelled = spelled_by_words text line spelled.0 spelled.1 }

pub form_is : (text : List ℕ) → ask_of_words (words text) ≡ Read → line_of (words text) ≡ None → IsUnread text Form
form_is text asked e =
    let says = subst (Says (words text)) asked (words_say (words text)) in
    (says.0, says.1, λ line s. none-some line (sym e ∙ reads_again text line s))

pub word_is : (text : List ℕ) → ask_of_words (words text) ≡ Unknown → IsUnread text Word
word_is text asked = subst (Says (words text)) asked (words_say (words text))

pub later_is : (text : List ℕ) → ask_of_words (words text) ≡ LaterAsk → IsUnread text Later
later_is text asked = subst (Says (words text)) asked (words_say (words text))
