-- A text is accepted as one line, or refused for one cause.
use Rattle.std.proofs.Common.{◌≡◌, ℕ, List, Option, refl, inl, inr, ◌⊎◌, subst}
use Rattle.evac_model.specs.declared.scenario.Scenario.{Scenario}
use Rattle.evac_model.specs.declared.scenario.LineCause.{LineCause}
use Rattle.evac_model.specs.declared.scenario.LineCause.TheVariants.{Empty, Word, Later, Form, Order, Range, Page, Count}
use Rattle.evac_model.specs.ScenarioLines.{Line}
use Rattle.evac_model.specs.ScenarioGrammar.{Reads, Accepts, Refuses}
use Rattle.scenario.specs.declared.error.Refusal.{Refusal}
use Rattle.scenario.specs.declared.error.Refusal.TheVariants.{Cause, OutOfMemory}
use Rattle.scenario.specs.Judging.{Adds, AddsText, IsWrong, IsUnread, RefusesReadLine, RefusesToRead, RefusesText}
use Rattle.scenario.proofs.Verdicts.{reads_one}

-- a text that isn't accepted isn't read, or is read as a line that is wrong
refused_how : (s : Option Scenario) (text : List ℕ) (cause : LineCause) → Refuses s text cause → IsUnread text cause ⊎ ((line : Line) × Reads text line × IsWrong s line cause)
refused_how s text Empty h = absurd h
refused_how s text Word h = inl h
refused_how s text Later h = inl h
refused_how s text Form h = inl h
refused_how s text Order h = inr h
refused_how s text Range h = inr (h.0, h.1, (h.2, h.3))
refused_how s text Page h = inr (h.0, h.1, (h.2, h.3, h.4))
refused_how s text Count h = inr (h.0, h.1, (h.2, h.3, h.4, h.5))

refuses_unread : (s : Option Scenario) (text : List ℕ) (cause : LineCause) → IsUnread text cause → Refuses s text cause
refuses_unread s text Word h = h
refuses_unread s text Later h = h
refuses_unread s text Form h = h
refuses_unread s text cause h = absurd h

pub refuses_to_read : (s : Option Scenario) (text : List ℕ) (why : Refusal) → RefusesToRead text why → RefusesText s text why
refuses_to_read s text (Cause cause) h = refuses_unread s text cause h
refuses_to_read s text OutOfMemory h = tt

refuses_wrong : (s : Option Scenario) (text : List ℕ) (line : Line) (cause : LineCause) → Reads text line → IsWrong s line cause → Refuses s text cause
refuses_wrong s text line Order r h = (line, r, h)
refuses_wrong s text line Range r h = (line, r, h.0, h.1)
refuses_wrong s text line Page r h = (line, r, h.0, h.1, h.2)
refuses_wrong s text line Count r h = (line, r, h.0, h.1, h.2, h.3)
refuses_wrong s text line cause r h = absurd h

pub refuses_line : (s : Option Scenario) (text : List ℕ) (line : Line) (why : Refusal) → Reads text line → RefusesReadLine s line why → RefusesText s text why
refuses_line s text line (Cause cause) r h = refuses_wrong s text line cause r h
refuses_line s text line OutOfMemory r h = tt

pub adds_line : (s : Option Scenario) (text : List ℕ) (line : Line) (made : Scenario) → Reads text line → Adds s line made → AddsText s text made
adds_line s text line made r h = record { line = line; accepts = record { reads = r; order = h.order; range = h.range; page = h.page; count = h.count }; after = h.after }

-- ---- no two of these

unread_one : (text : List ℕ) (c d : LineCause) → IsUnread text c → IsUnread text d → c ≡ d
unread_one text Word Word x y = refl
unread_one text Word Later x y = absurd (y.0 x)
unread_one text Word Form x y = absurd (y.0 x)
unread_one text Word d x y = absurd y
unread_one text Later Word x y = absurd (x.0 y)
unread_one text Later Later x y = refl
unread_one text Later Form x y = absurd (y.1 x.1)
unread_one text Later d x y = absurd y
unread_one text Form Word x y = absurd (x.0 y)
unread_one text Form Later x y = absurd (x.1 y.1)
unread_one text Form Form x y = refl
unread_one text Form d x y = absurd y
unread_one text c d x y = absurd x

wrong_one : (s : Option Scenario) (line : Line) (c d : LineCause) → IsWrong s line c → IsWrong s line d → c ≡ d
wrong_one s line Order Order x y = refl
wrong_one s line Order Range x y = absurd (x y.0)
wrong_one s line Order Page x y = absurd (x y.0)
wrong_one s line Order Count x y = absurd (x y.0)
wrong_one s line Order d x y = absurd y
wrong_one s line Range Order x y = absurd (y x.0)
wrong_one s line Range Range x y = refl
wrong_one s line Range Page x y = absurd (x.1 y.1)
wrong_one s line Range Count x y = absurd (x.1 y.1)
wrong_one s line Range d x y = absurd y
wrong_one s line Page Order x y = absurd (y x.0)
wrong_one s line Page Range x y = absurd (y.1 x.1)
wrong_one s line Page Page x y = refl
wrong_one s line Page Count x y = absurd (x.2 y.2)
wrong_one s line Page d x y = absurd y
wrong_one s line Count Order x y = absurd (y x.0)
wrong_one s line Count Range x y = absurd (y.1 x.1)
wrong_one s line Count Page x y = absurd (y.2 x.2)
wrong_one s line Count Count x y = refl
wrong_one s line Count d x y = absurd y
wrong_one s line c d x y = absurd x

unread_not_read : (text : List ℕ) (line : Line) (c : LineCause) → IsUnread text c → Reads text line → ⊥
unread_not_read text line Word x r = r.known x
unread_not_read text line Later x r = r.built x.1
unread_not_read text line Form x r = x.2 line r.spelled
unread_not_read text line c x r = x

wrong_not_accepted : (s : Option Scenario) (text : List ℕ) (line : Line) (c : LineCause) → IsWrong s line c → Accepts s text line → ⊥
wrong_not_accepted s text line Order x a = x a.order
wrong_not_accepted s text line Range x a = x.1 a.range
wrong_not_accepted s text line Page x a = x.2 a.page
wrong_not_accepted s text line Count x a = x.3 a.count
wrong_not_accepted s text line c x a = x

pub refuses_one : (s : Option Scenario) (text : List ℕ) (c d : LineCause) → Refuses s text c → Refuses s text d → c ≡ d
refuses_one s text c d x y = elim (refused_how s text c x) [
  | inl u ↦ elim (refused_how s text d y) [
    | inl v ↦ unread_one text c d u v
    | inr w ↦ absurd (unread_not_read text w.0 c u w.1)
  ]
  | inr w ↦ elim (refused_how s text d y) [
    | inl v ↦ absurd (unread_not_read text w.0 d v w.1)
    | inr z ↦ wrong_one s z.0 c d (subst (λ (l : Line). IsWrong s l c) (reads_one text w.0 z.0 w.1 z.1) w.2) z.2
  ]
]

pub refused_not_accepted : (s : Option Scenario) (text : List ℕ) (line : Line) (c : LineCause) → Refuses s text c → Accepts s text line → ⊥
refused_not_accepted s text line c x a = elim (refused_how s text c x) [
  | inl u ↦ unread_not_read text line c u a.reads
  | inr w ↦ wrong_not_accepted s text line c (subst (λ (l : Line). IsWrong s l c) (reads_one text w.0 line w.1 a.reads) w.2) a
]
