-- A scenario that is read can be run.
use Rattle.std.proofs.Common.{ℕ, zero, suc, ◌≤◌, Bool, true, false, List, [], ◌∷◌, ◌++◌, length, map, Option, Some, None, Result, Ok, Err, refl, sym, subst, arith, replicate}
use Rattle.std.specs.Prelude.{◌≡◌, IfOk, MatchBool, Contains, nat_eq}
use Rattle.std.specs.Option.{unwrap_or}
use Rattle.std.specs.List.{AllByRecursion, IsDistinct, list_any}
use Rattle.std.proofs.lemmas.Bool.{false_from_ne_true}
use Rattle.std.proofs.lemmas.Cmp.{nat_eq_equiv}
use Rattle.std.proofs.lemmas.List.{map_push, length_push, length-replicate}
use Rattle.std.proofs.lemmas.Map.Keys.{IsDistinct-push}
use Rattle.std.specs.Str.Lines.{lines}
use Rattle.evac_model.specs.declared.names.Kind.{Kind}
use Rattle.evac_model.specs.declared.names.Kind.TheVariants.{Movable, Unmovable}
use Rattle.evac_model.specs.declared.names.PageNo.{PageNo}
use Rattle.evac_model.specs.declared.call.Call.{Call}
use Rattle.evac_model.specs.declared.scenario.Scenario.{Scenario}
use Rattle.evac_model.specs.declared.scenario.StartPage.{StartPage}
use Rattle.evac_model.specs.Geometry.{Sizes}
use Rattle.evac_model.specs.FreeRuns.{fits}
use Rattle.evac_model.specs.StartPages.{AreStartPages, IsStartPage}
use Rattle.evac_model.specs.Turns.{IsTurn}
use Rattle.evac_model.specs.ScenarioLines.{Line, MachineLine, OnlineLine, PageLine, FailLine, TurnsLine, DrawLine, CallLine, CommandLine, HasBytes, times, turns_of}
use Rattle.evac_model.specs.ScenarioGrammar.{Accepts, Leads, online_of, is_ignored, after_line, with_calls, IsScenarioText}
use Rattle.scenario.specs.declared.error.ScenarioError.{ScenarioError}
use Rattle.scenario.specs.Outcomes.{IsOutcome}
use Rattle.evac_model.specs.Scenarios.{IsRunnable, IsOwnerCall}
use Rattle.scenario.proofs.Scripts.{call_count-with_calls}
use Rattle.scenario.proofs.Tables.{Contains-from_any}
use Rattle.scenario.proofs.TurnLists.{turn_count-both}

each_of_both : {X : Type 0} (P : X → Type 0) (xs ys : List X) → AllByRecursion P xs → AllByRecursion P ys → AllByRecursion P (xs ++ ys)
each_of_both P [] ys h k = k
each_of_both P (x ∷ xs) ys h k = (h.0, each_of_both P xs ys h.1 k)

each_push : {X : Type 0} (P : X → Type 0) (xs : List X) (x : X) → AllByRecursion P xs → P x → AllByRecursion P (xs ++ x ∷ [])
each_push P xs x h p = each_of_both P xs (x ∷ []) h (p, tt)

each_time : {X : Type 0} (P : X → Type 0) (n : ℕ) (x : X) → P x → AllByRecursion P (replicate n x)
each_time P zero x p = tt
each_time P (suc n) x p = (p, each_time P n x p)

distinct_push : (xs : List ℕ) (x : ℕ) → IsDistinct nat_eq xs → ¬ Contains xs x → IsDistinct nat_eq (xs ++ x ∷ [])
distinct_push xs x h new = IsDistinct-push nat_eq_equiv xs x h (false_from_ne_true (list_any (nat_eq x) xs) (λ e. new (Contains-from_any xs x e)))

one_script : (P : PageNo × Call → Type 0) (scripts : List (List (PageNo × Call))) (owner : ℕ) (calls : List (PageNo × Call)) → AllByRecursion (λ script. AllByRecursion P script) scripts → AllByRecursion P calls → AllByRecursion (λ script. AllByRecursion P script) (with_calls scripts owner calls)
one_script P scripts zero calls h p = h
one_script P [] (suc zero) calls h p = (p, tt)
one_script P [] (suc (suc k)) calls h p = (tt, one_script P [] (suc k) calls h p)
one_script P (s ∷ scripts) (suc zero) calls h p = (each_of_both P s calls h.0 p, h.1)
one_script P (s ∷ scripts) (suc (suc k)) calls h p = (h.0, one_script P scripts (suc k) calls h.1 p)

few_scripts : (scripts : List (List (PageNo × Call))) (owner most : ℕ) (calls : List (PageNo × Call)) → length scripts ≤ most → owner ≤ most → length (with_calls scripts owner calls) ≤ most
few_scripts scripts zero most calls h o = h
few_scripts [] (suc zero) most calls h o = o
few_scripts [] (suc (suc k)) zero calls h o = absurd (omega arith)
few_scripts [] (suc (suc k)) (suc most) calls h o = omega (arith, few_scripts [] (suc k) most calls (omega arith) (omega arith))
few_scripts (s ∷ scripts) (suc zero) most calls h o = h
few_scripts (s ∷ scripts) (suc (suc k)) zero calls h o = absurd (omega arith)
few_scripts (s ∷ scripts) (suc (suc k)) (suc most) calls h o = omega (arith, few_scripts scripts (suc k) most calls (omega arith) (omega arith))

-- the frame takes the page, where managed blocks are online for that kind
abbrev Fitting : Sizes → Kind → StartPage → Type 0
Fitting s online p = fits s online p.kind p.frame.0 ≡ true

-- what fits where managed blocks are online for movable pages alone fits whatever they are online for
fits_too : (s : Sizes) (online kind : Kind) (frame : ℕ) → fits s Movable kind frame ≡ true → fits s online kind frame ≡ true
fits_too s Movable kind frame e = e
fits_too s Unmovable Movable frame e = refl
fits_too s Unmovable Unmovable frame e = refl

fitting_too : (s : Sizes) (online : Kind) (start : List StartPage) → AllByRecursion (Fitting s Movable) start → AllByRecursion (Fitting s online) start
fitting_too s online [] h = tt
fitting_too s online (p ∷ start) h = (fits_too s online p.kind p.frame.0 h.0, fitting_too s online start h.1)

-- the same of the pages before the line that says it
fitting_behind : (s : Sizes) (before : Option Kind) (online : Kind) (start : List StartPage) → before ≡ None → AllByRecursion (Fitting s (unwrap_or before Movable)) start → AllByRecursion (Fitting s online) start
fitting_behind s before online start none h = fitting_too s online start (subst (λ (o : Option Kind). AllByRecursion (Fitting s (unwrap_or o Movable)) start) none h)

-- what is there can be run
abbrev Runs : Option Scenario → Type 0
Runs None = Unit {0}
Runs (Some s) = IsRunnable s

no_pages : (sizes : Sizes) → AreStartPages sizes []
unfolding IsDistinct
no_pages sizes = record { each = tt; pages = tt; frames = tt }

runs_on : (s : Option Scenario) (text : List ℕ) (line : Line) → Accepts s text line → Runs s → Runs (after_line s line)
runs_on None text (MachineLine sizes) a r = record { limits = a.range; start = no_pages sizes; kinds = tt; named = tt; turns = omega arith; drawn = tt; owners = omega arith; calls = tt; count = omega arith; commands = tt; few = omega arith }
runs_on None text (OnlineLine kind) a r = tt
runs_on None text (PageLine p) a r = tt
runs_on None text (FailLine call) a r = tt
runs_on None text (TurnsLine turns) a r = tt
runs_on None text (DrawLine draw) a r = tt
runs_on None text (CallLine owner count page call) a r = tt
runs_on None text (CommandLine command) a r = tt
runs_on (Some s) text (MachineLine sizes) a r = r
runs_on (Some s) text (OnlineLine kind) a r =
    record {
      limits = r.limits;
      start = r.start;
      kinds = fitting_behind s.geometry s.online kind s.start a.order r.kinds;
      named = r.named;
      turns = r.turns;
      drawn = r.drawn;
      owners = r.owners;
      calls = r.calls;
      count = r.count;
      commands = r.commands;
      few = r.few;
    }
runs_on (Some s) text (PageLine p) a r =
    let each = each_push (IsStartPage s.geometry) s.start p r.start.each (record { page = a.range.0; frame = a.page.there }) in
    let pages = distinct_push (map (λ q. q.page.0) s.start) p.page.0 r.start.pages a.page.page in
    let frames = distinct_push (map (λ q. q.frame.0) s.start) p.frame.0 r.start.frames a.page.frame in
    record {
      limits = r.limits;
      start = record { each = each; pages = rw map_push pages; frames = rw map_push frames };
      kinds = each_push (Fitting s.geometry (online_of s)) s.start p r.kinds a.page.kind;
      named = r.named;
      turns = r.turns;
      drawn = r.drawn;
      owners = r.owners;
      calls = r.calls;
      count = r.count;
      commands = r.commands;
      few = r.few;
    }
runs_on (Some s) text (FailLine call) a r = record {
  limits = r.limits;
  start = r.start;
  kinds = r.kinds;
  named = r.named;
  turns = r.turns;
  drawn = r.drawn;
  owners = r.owners;
  calls = r.calls;
  count = r.count;
  commands = r.commands;
  few = r.few;
}
runs_on (Some s) text (TurnsLine turns) a r =
    record {
      limits = r.limits;
      start = r.start;
      kinds = r.kinds;
      named = each_of_both IsTurn s.named (turns_of turns) r.named a.range;
      turns = omega (arith, turn_count-both s.named (turns_of turns), a.count);
      drawn = r.drawn;
      owners = r.owners;
      calls = r.calls;
      count = r.count;
      commands = r.commands;
      few = r.few;
    }
runs_on (Some s) text (DrawLine draw) a r =
    record {
      limits = r.limits;
      start = r.start;
      kinds = r.kinds;
      named = r.named;
      turns = r.turns;
      drawn = record { number = a.reads.spelled.fits.0; most = a.range };
      owners = r.owners;
      calls = r.calls;
      count = r.count;
      commands = r.commands;
      few = r.few;
    }
runs_on (Some s) text (CallLine owner count page call) a r =
    let one : PageNo × Call = (record { 0 = page }, call) in
    let own_call : IsOwnerCall s.geometry one = record { page = a.range.page_most; call = a.range.cells; numbers = a.reads.spelled.fits.3 } in
    let more = replicate (times count) one in
    record {
      limits = r.limits;
      start = r.start;
      kinds = r.kinds;
      named = r.named;
      turns = r.turns;
      drawn = r.drawn;
      owners = few_scripts s.owners owner 16 more r.owners a.range.owner_most;
      calls = one_script (IsOwnerCall s.geometry) s.owners owner more r.calls (each_time (IsOwnerCall s.geometry) (times count) one own_call);
      count = omega (arith, call_count-with_calls s.owners owner more a.range.owner_least, length-replicate (times count) one, a.count);
      commands = r.commands;
      few = r.few;
    }
runs_on (Some s) text (CommandLine command) a r =
    record {
      limits = r.limits;
      start = r.start;
      kinds = r.kinds;
      named = r.named;
      turns = r.turns;
      drawn = r.drawn;
      owners = r.owners;
      calls = r.calls;
      count = r.count;
      commands = each_push HasBytes s.host command r.commands a.reads.spelled.fits;
      few = omega (arith, length_push s.host command, a.count);
    }

either : (b : Bool) {P Q R : Type 0} → MatchBool b P Q → (P → R) → (Q → R) → R
either true h f g = f h
either false h f g = g h

runs : (texts : List (List ℕ)) (s end : Option Scenario) → Leads s texts end → Runs s → Runs end
runs [] s end led r = subst Runs (sym led) r
runs (text ∷ texts) s end led r =
    either (is_ignored text) led (λ l. runs texts s end l r) (λ a. runs texts (after_line s a.0) end a.2 (runs_on s text a.0 a.1 r))

pub text_runs : (bytes : List ℕ) (s : Scenario) → IsScenarioText bytes s → IsRunnable s
text_runs bytes s text = runs (lines bytes) None (Some s) text tt

pub outcome_runs : (bytes : List ℕ) (r : Result Scenario ScenarioError) → IsOutcome bytes r → IfOk r IsRunnable
outcome_runs bytes (Ok s) h = text_runs bytes s h
outcome_runs bytes (Err e) h = tt
