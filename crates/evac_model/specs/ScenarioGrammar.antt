-- The scenario grammar: which texts are scenarios, and else the first line that isn't accepted, and why.
use Rattle.std.specs.Prelude.{◌≡◌, ℕ, zero, suc, ◌+◌, ◌^◌, ◌<◌, ◌≤◌, ◌⊎◌, ◌==◌, Bool, true, false, List, [], ◌∷◌, ◌++◌, length, map, replicate, sum_by, Contains, Option, None, Some, MatchBool}
use Rattle.std.specs.List.{AllByRecursion}
use Rattle.std.specs.Str.Lines.{lines}
use Rattle.std.specs.Option.{unwrap_or}
use Rattle.evac_model.specs.declared.names.Kind.{Kind}
use Rattle.evac_model.specs.declared.names.Kind.TheVariants.{Movable}
use Rattle.evac_model.specs.declared.names.PageNo.{PageNo}
use Rattle.evac_model.specs.declared.call.Call.{Call}
use Rattle.evac_model.specs.declared.scenario.StartPage.{StartPage}
use Rattle.evac_model.specs.declared.scenario.Scenario.{Scenario}
use Rattle.evac_model.specs.declared.scenario.LineCause.{LineCause}
use Rattle.evac_model.specs.declared.scenario.LineCause.TheVariants.{Empty, Word, Later, Form, Order, Range, Page, Count}
use Rattle.evac_model.specs.declared.scenario.ScenarioFault.{ScenarioFault}
use Rattle.evac_model.specs.Geometry.{IsWithinLimits, IsThereAtStart, frame_count}
use Rattle.evac_model.specs.GeometryLimits.{IsCountTo65536}
use Rattle.evac_model.specs.Calls.{IsCallFor}
use Rattle.evac_model.specs.FreeRuns.{fits}
use Rattle.evac_model.specs.Turns.{IsTurn, turn_count}
use Rattle.evac_model.specs.ScenarioLines.{Line, MachineLine, OnlineLine, PageLine, FailLine, TurnsLine, DrawLine, CallLine, CommandLine, times, turns_of, Spells, words, AsksUnknown, AsksLater}

-- A line is judged by what was accepted before it: nothing, or a scenario so far.

-- the kind of pages that managed blocks are online for: movable ones where no line says it
abbrev pub online_of : Scenario → Kind
online_of s = unwrap_or s.online Movable

-- The first line is the machine's, and no other is. One line at most says what managed blocks are online for,
-- and turns are drawn by one at most.
abbrev pub IsInOrder : Option Scenario → Line → Type 0
IsInOrder None (MachineLine sizes) = Unit {0}
IsInOrder None (OnlineLine kind) = ⊥
IsInOrder None (PageLine page) = ⊥
IsInOrder None (FailLine call) = ⊥
IsInOrder None (TurnsLine turns) = ⊥
IsInOrder None (DrawLine draw) = ⊥
IsInOrder None (CallLine owner count page call) = ⊥
IsInOrder None (CommandLine command) = ⊥
IsInOrder (Some s) (MachineLine sizes) = ⊥
IsInOrder (Some s) (OnlineLine kind) = s.online ≡ None
IsInOrder (Some s) (PageLine page) = Unit {0}
IsInOrder (Some s) (FailLine call) = Unit {0}
IsInOrder (Some s) (TurnsLine turns) = Unit {0}
IsInOrder (Some s) (DrawLine draw) = s.drawn ≡ None
IsInOrder (Some s) (CallLine owner count page call) = Unit {0}
IsInOrder (Some s) (CommandLine command) = Unit {0}

-- a call of an owner that the machine takes, made 1 to 2^20 times
pub record IsCallInRange (s : Scenario) (owner count page : ℕ) (call : Call) : Type 0 where
  pub owner_least : 1 ≤ owner
  pub owner_most : owner ≤ 16
  pub count_least : 1 ≤ count
  pub count_most : count ≤ 2 ^ 20
  pub page_most : page < s.geometry.pages
  pub cells : IsCallFor s.geometry call

-- each number is in its range; the ranges of pages, frames and calls need the geometry
abbrev pub IsInRange : Option Scenario → Line → Type 0
IsInRange s (MachineLine sizes) = IsWithinLimits sizes
IsInRange s (OnlineLine kind) = Unit {0}
IsInRange s (FailLine call) = IsCountTo65536 call
IsInRange s (TurnsLine turns) = AllByRecursion IsTurn (turns_of turns)
IsInRange s (DrawLine draw) = draw.count ≤ 2 ^ 24
IsInRange s (CommandLine command) = Unit {0}
IsInRange None (PageLine p) = ⊥
IsInRange None (CallLine owner count page call) = ⊥
IsInRange (Some s) (PageLine p) = (p.page.0 < s.geometry.pages) × (p.frame.0 < frame_count s.geometry)
IsInRange (Some s) (CallLine owner count page call) = IsCallInRange s owner (times count) page call

-- a start page's page and frame were named by no line before, and the frame is there and takes the page, as
-- the lines before say what managed blocks are online for
pub record IsFreeFor (s : Scenario) (p : StartPage) : Type 0 where
  pub page : ¬ Contains (map (λ q. q.page.0) s.start) p.page.0
  pub frame : ¬ Contains (map (λ q. q.frame.0) s.start) p.frame.0
  pub there : IsThereAtStart s.geometry p.frame.0
  pub kind : fits s.geometry (online_of s) p.kind p.frame.0 ≡ true

abbrev pub IsFree : Option Scenario → Line → Type 0
IsFree s (MachineLine sizes) = Unit {0}
IsFree s (OnlineLine kind) = Unit {0}
IsFree None (PageLine p) = ⊥
IsFree (Some s) (PageLine p) = IsFreeFor s p
IsFree s (FailLine call) = Unit {0}
IsFree s (TurnsLine turns) = Unit {0}
IsFree s (DrawLine draw) = Unit {0}
IsFree s (CallLine owner count page call) = Unit {0}
IsFree s (CommandLine command) = Unit {0}

-- the calls of all scripts
abbrev pub call_count : List (List (PageNo × Call)) → ℕ
call_count scripts = sum_by length scripts

-- with this line there are at most 2^20 calls, 2^24 named turns and 256 commands
abbrev pub HasRoom : Option Scenario → Line → Type 0
HasRoom s (MachineLine sizes) = Unit {0}
HasRoom s (OnlineLine kind) = Unit {0}
HasRoom s (PageLine p) = Unit {0}
HasRoom s (FailLine call) = Unit {0}
HasRoom s (DrawLine draw) = Unit {0}
HasRoom None (TurnsLine turns) = ⊥
HasRoom None (CallLine owner count page call) = ⊥
HasRoom None (CommandLine command) = ⊥
HasRoom (Some s) (TurnsLine turns) = turn_count s.named + turn_count (turns_of turns) ≤ 2 ^ 24
HasRoom (Some s) (CallLine owner count page call) = call_count s.owners + times count ≤ 2 ^ 20
HasRoom (Some s) (CommandLine command) = length s.host + 1 ≤ 256

-- the scripts with more calls of an owner, counted from 1
abbrev pub with_calls : List (List (PageNo × Call)) → ℕ → List (PageNo × Call) → List (List (PageNo × Call))
with_calls scripts zero calls = scripts
with_calls [] (suc zero) calls = calls ∷ []
with_calls [] (suc (suc k)) calls = [] ∷ with_calls [] (suc k) calls
with_calls (script ∷ scripts) (suc zero) calls = (script ++ calls) ∷ scripts
with_calls (script ∷ scripts) (suc (suc k)) calls = script ∷ with_calls scripts (suc k) calls

-- what a line that is accepted adds
abbrev pub after_line : Option Scenario → Line → Option Scenario
after_line None (MachineLine sizes) = Some (record { geometry = sizes; online = None; start = []; fails = []; named = []; drawn = None; owners = []; host = [] })
after_line None (OnlineLine kind) = None
after_line None (PageLine p) = None
after_line None (FailLine call) = None
after_line None (TurnsLine turns) = None
after_line None (DrawLine draw) = None
after_line None (CallLine owner count page call) = None
after_line None (CommandLine command) = None
after_line (Some s) (MachineLine sizes) = Some s
after_line (Some s) (OnlineLine kind) = Some (record s { online = Some kind })
after_line (Some s) (PageLine p) = Some (record s { start = s.start ++ p ∷ [] })
after_line (Some s) (FailLine call) = Some (record s { fails = s.fails ++ call ∷ [] })
after_line (Some s) (TurnsLine turns) = Some (record s { named = s.named ++ turns_of turns })
after_line (Some s) (DrawLine draw) = Some (record s { drawn = Some draw })
after_line (Some s) (CallLine owner count page call) =
    Some (record s { owners = with_calls s.owners owner (replicate (times count) (record { 0 = page }, call)) })
after_line (Some s) (CommandLine command) = Some (record s { host = s.host ++ command ∷ [] })

-- the text spells this line, and its first words are ones that are read
pub record Reads (text : List ℕ) (line : Line) : Type 0 where
  pub known : ¬ AsksUnknown (words text)
  pub built : ¬ AsksLater (words text)
  pub spelled : Spells text line

-- the text is accepted as this line
pub record Accepts (s : Option Scenario) (text : List ℕ) (line : Line) : Type 0 where
  pub reads : Reads text line
  pub order : IsInOrder s line
  pub range : IsInRange s line
  pub page : IsFree s line
  pub count : HasRoom s line

-- The text isn't accepted for this cause: it meets this one and none before it.
abbrev pub Refuses : Option Scenario → List ℕ → LineCause → Type 0
Refuses s text Empty = ⊥
Refuses s text Word = AsksUnknown (words text)
Refuses s text Later = (¬ AsksUnknown (words text)) × AsksLater (words text)
Refuses s text Form = (¬ AsksUnknown (words text)) × (¬ AsksLater (words text)) × ((line : Line) → ¬ Spells text line)
Refuses s text Order = (line : Line) × Reads text line × (¬ IsInOrder s line)
Refuses s text Range = (line : Line) × Reads text line × IsInOrder s line × (¬ IsInRange s line)
Refuses s text Page = (line : Line) × Reads text line × IsInOrder s line × IsInRange s line × (¬ IsFree s line)
Refuses s text Count = (line : Line) × Reads text line × IsInOrder s line × IsInRange s line × IsFree s line × (¬ HasRoom s line)

-- a line that is empty or begins with '#' is ignored, and is counted
abbrev pub is_ignored : List ℕ → Bool
is_ignored [] = true
is_ignored (b ∷ bs) = b == 35

-- each of these lines is ignored or accepted, from one state to another
abbrev pub Leads : Option Scenario → List (List ℕ) → Option Scenario → Type 0
Leads s [] end = end ≡ s
Leads s (text ∷ texts) end =
    MatchBool (is_ignored text) (Leads s texts end) ((line : Line) × Accepts s text line × Leads (after_line s line) texts end)

-- the bytes are a text of that scenario
abbrev pub IsScenarioText : List ℕ → Scenario → Type 0
IsScenarioText bytes s = Leads None (lines bytes) (Some s)

-- the lines before are ignored or accepted, and this one isn't accepted
pub record RefusesLine (bytes : List ℕ) (fault : ScenarioFault) : Type 0 where
  pub front : List (List ℕ)
  pub text : List ℕ
  pub rest : List (List ℕ)
  pub state : Option Scenario
  pub whole : lines bytes ≡ front ++ text ∷ rest
  pub before : Leads None front state
  pub noted : is_ignored text ≡ false
  pub cause : Refuses state text fault.cause
  pub number : fault.line ≡ length front + 1

-- the bytes are no scenario: no line is there but ignored ones, or this is the first that isn't accepted
abbrev pub IsRefused : List ℕ → ScenarioFault → Type 0
IsRefused bytes fault =
    (Leads None (lines bytes) None × (fault ≡ record { line = 0; cause = Empty })) ⊎ RefusesLine bytes fault
