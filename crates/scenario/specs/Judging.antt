-- How lines are judged by those before them.
use Rattle.std.specs.Prelude.{◌≡◌, ℕ, List, map, Option, Some}
use Rattle.std.specs.Global.{Vec}
use Rattle.std.specs.List.{AllByRecursion}
use Rattle.evac_model.specs.declared.names.PageNo.{PageNo}
use Rattle.evac_model.specs.declared.call.Call.{Call}
use Rattle.evac_model.specs.declared.scenario.Scenario.{Scenario}
use Rattle.evac_model.specs.declared.scenario.Turn.{Turn}
use Rattle.evac_model.specs.declared.scenario.LineCause.{LineCause}
use Rattle.evac_model.specs.declared.scenario.LineCause.TheVariants.{Empty, Word, Later, Form, Order, Range, Page, Count}
use Rattle.evac_model.specs.Turns.{IsTurn}
use Rattle.evac_model.specs.ScenarioLines.{Line, Spells, times, words, AsksUnknown, AsksLater}
use Rattle.evac_model.specs.ScenarioGrammar.{IsInOrder, IsInRange, IsFree, HasRoom, Accepts, Refuses, after_line}
use Rattle.scenario.specs.declared.error.Refusal.{Refusal}
use Rattle.scenario.specs.declared.error.Refusal.TheVariants.{Cause, OutOfMemory}
use Rattle.scenario.specs.declared.turn_line.LineTurn.{LineTurn}
use Rattle.scenario.specs.Reading.{actor_in}

-- the scripts that vectors keep
abbrev pub scripts : Vec (Vec (PageNo × Call)) → List (List (PageNo × Call))
scripts owners = map (λ script. script.items) owners.items

-- the turns of a word
abbrev pub plain_turn : LineTurn → Turn
plain_turn t = record { actor = actor_in t.actor; count = times t.count }

-- a number of the turns is out of its range, unless memory ran out
abbrev pub RefusesTurns : List Turn → Refusal → Type 0
RefusesTurns turns (Cause Range) = ¬ AllByRecursion IsTurn turns
RefusesTurns turns (Cause cause) = ⊥
RefusesTurns turns OutOfMemory = Unit {0}

-- the line is accepted, and makes that scenario
pub record Adds (s : Option Scenario) (line : Line) (made : Scenario) : Type 0 where
  pub order : IsInOrder s line
  pub range : IsInRange s line
  pub page : IsFree s line
  pub count : HasRoom s line
  pub after : after_line s line ≡ Some made

-- a line that is read is refused for this cause
abbrev pub IsWrong : Option Scenario → Line → LineCause → Type 0
IsWrong s line Empty = ⊥
IsWrong s line Word = ⊥
IsWrong s line Later = ⊥
IsWrong s line Form = ⊥
IsWrong s line Order = ¬ IsInOrder s line
IsWrong s line Range = IsInOrder s line × (¬ IsInRange s line)
IsWrong s line Page = IsInOrder s line × IsInRange s line × (¬ IsFree s line)
IsWrong s line Count = IsInOrder s line × IsInRange s line × IsFree s line × (¬ HasRoom s line)

-- the same, unless memory ran out
abbrev pub RefusesReadLine : Option Scenario → Line → Refusal → Type 0
RefusesReadLine s line (Cause cause) = IsWrong s line cause
RefusesReadLine s line OutOfMemory = Unit {0}

-- a text isn't read as a line, for this cause
abbrev pub IsUnread : List ℕ → LineCause → Type 0
IsUnread text Empty = ⊥
IsUnread text Word = AsksUnknown (words text)
IsUnread text Later = (¬ AsksUnknown (words text)) × AsksLater (words text)
IsUnread text Form = (¬ AsksUnknown (words text)) × (¬ AsksLater (words text)) × ((line : Line) → ¬ Spells text line)
IsUnread text Order = ⊥
IsUnread text Range = ⊥
IsUnread text Page = ⊥
IsUnread text Count = ⊥

-- the same, unless memory ran out
abbrev pub RefusesToRead : List ℕ → Refusal → Type 0
RefusesToRead text (Cause cause) = IsUnread text cause
RefusesToRead text OutOfMemory = Unit {0}

-- the text is accepted as a line, and makes that scenario
pub record AddsText (s : Option Scenario) (text : List ℕ) (made : Scenario) : Type 0 where
  pub line : Line
  pub accepts : Accepts s text line
  pub after : after_line s line ≡ Some made

-- the text isn't accepted for this cause, unless memory ran out
abbrev pub RefusesText : Option Scenario → List ℕ → Refusal → Type 0
RefusesText s text (Cause cause) = Refuses s text cause
RefusesText s text OutOfMemory = Unit {0}
