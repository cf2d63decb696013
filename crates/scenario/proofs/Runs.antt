-- Reading line after line.
use Rattle.std.proofs.Common.{◌≡◌, ℕ, ◌+◌, ◌≤◌, Bool, true, false, List, [], ◌∷◌, ◌++◌, length, Option, Some, None, Result, Ok, Err, refl, inl, inr, ◌⊎◌, sym, ap, ◌∙◌, subst, append_assoc, arith}
use Rattle.std.specs.Prelude.{MatchBool, IfOk}
use Rattle.std.specs.Str.Lines.{lines}
use Rattle.std.proofs.lemmas.List.{append-nil, length_push}
use Rattle.evac_model.specs.declared.scenario.Scenario.{Scenario}
use Rattle.evac_model.specs.declared.scenario.LineCause.{LineCause}
use Rattle.evac_model.specs.declared.scenario.LineCause.TheVariants.{Empty}
use Rattle.evac_model.specs.declared.scenario.ScenarioFault.{ScenarioFault}
use Rattle.evac_model.specs.ScenarioLines.{Line}
use Rattle.evac_model.specs.ScenarioGrammar.{Accepts, Refuses, Leads, is_ignored, after_line, RefusesLine, IsRefused, IsScenarioText}
use Rattle.scenario.specs.declared.error.ScenarioError.{ScenarioError}
use Rattle.scenario.specs.declared.error.ScenarioError.TheVariants as errors
use Rattle.scenario.specs.Lines.{IsSplit}
use Rattle.scenario.specs.Judging.{AddsText}
use Rattle.scenario.specs.Outcomes.{IsOutcome}
use Rattle.scenario.proofs.Verdicts.{reads_one}
use Rattle.scenario.proofs.Causes.{refuses_one, refused_not_accepted}

weaker : (b : Bool) {P Q P' Q' : Type 0} → MatchBool b P Q → (P → P') → (Q → Q') → MatchBool b P' Q'
weaker true h f g = f h
weaker false h f g = g h

both : (b : Bool) {P Q P' Q' R : Type 0} → MatchBool b P Q → MatchBool b P' Q' → (P → P' → R) → (Q → Q' → R) → R
both true h k f g = f h k
both false h k f g = g h k

leads_on : (s mid end : Option Scenario) (front rest : List (List ℕ)) → Leads s front mid → Leads mid rest end → Leads s (front ++ rest) end
leads_on s mid end [] rest h k = subst (λ (t : Option Scenario). Leads t rest end) h k
leads_on s mid end (text ∷ front) rest h k =
    weaker (is_ignored text) h (λ led. leads_on s mid end front rest led k) (λ a. (a.0, a.1, leads_on (after_line s a.0) mid end front rest a.2 k))

-- ---- the loop

-- the lines so far are ignored or accepted, and make this draft
pub record IsReadTo (bytes rest : List ℕ) (draft : Option Scenario) (number : ℕ) : Type 0 where
  pub front : List (List ℕ)
  pub whole : lines bytes ≡ front ++ lines rest
  pub before : Leads None front draft
  pub count : number ≡ length front
  pub room : number + length rest ≤ length bytes

pub starts : (bytes : List ℕ) → IsReadTo bytes bytes None 0
starts bytes = record { front = []; whole = refl; before = refl; count = refl; room = omega arith }

module _ (bytes rest text after : List ℕ) (draft : Option Scenario) (number : ℕ) (so_far : IsReadTo bytes rest draft number) (cut : IsSplit rest text after) where
  longer : lines bytes ≡ (so_far.front ++ text ∷ []) ++ lines after
  longer = so_far.whole ∙ ap (λ (ls : List (List ℕ)). so_far.front ++ ls) cut.lines ∙ sym (append_assoc so_far.front (text ∷ []) (lines after))

  pub goes_on_ignored : is_ignored text ≡ true → IsReadTo bytes after draft (number + 1)
  goes_on_ignored e =
      let one : Leads draft (text ∷ []) draft = rw e refl in
      record {
        front = so_far.front ++ text ∷ [];
        whole = longer;
        before = leads_on None draft draft so_far.front (text ∷ []) so_far.before one;
        count = omega (arith, so_far.count, length_push so_far.front text);
        room = omega (arith, so_far.room, cut.shorter);
      }

  pub goes_on_added : (made : Scenario) → is_ignored text ≡ false → AddsText draft text made → IsReadTo bytes after (Some made) (number + 1)
  goes_on_added made e adds =
      let one : Leads draft (text ∷ []) (Some made) = rw e (adds.line, adds.accepts, sym adds.after) in
      record {
        front = so_far.front ++ text ∷ [];
        whole = longer;
        before = leads_on None draft (Some made) so_far.front (text ∷ []) so_far.before one;
        count = omega (arith, so_far.count, length_push so_far.front text);
        room = omega (arith, so_far.room, cut.shorter);
      }

  pub is_refused : (cause : LineCause) → is_ignored text ≡ false → Refuses draft text cause → IsRefused bytes (record { line = number + 1; cause = cause })
  is_refused cause e refuses =
      inr (record {
        front = so_far.front;
        text = text;
        rest = lines after;
        state = draft;
        whole = so_far.whole ∙ ap (λ (ls : List (List ℕ)). so_far.front ++ ls) cut.lines;
        before = so_far.before;
        noted = e;
        cause = refuses;
        number = omega (arith, so_far.count);
      })

pub all_read : (bytes rest : List ℕ) (draft : Option Scenario) (number : ℕ) → IsReadTo bytes rest draft number → rest ≡ [] → Leads None (lines bytes) draft
all_read bytes rest draft number so_far e =
    let whole : lines bytes ≡ so_far.front = so_far.whole ∙ ap (λ (r : List ℕ). so_far.front ++ lines r) e ∙ append-nil so_far.front in
    rw whole so_far.before

pub is_empty : (bytes : List ℕ) (draft : Option Scenario) → Leads None (lines bytes) draft → draft ≡ None → IsRefused bytes (record { line = 0; cause = Empty })
is_empty bytes draft led e = inl (subst (λ (d : Option Scenario). Leads None (lines bytes) d) e led, refl)

-- ---- one outcome

leads_one : (texts : List (List ℕ)) (s a b : Option Scenario) → Leads s texts a → Leads s texts b → a ≡ b
leads_one [] s a b x y = x ∙ sym y
leads_one (text ∷ texts) s a b x y =
    both (is_ignored text) x y (leads_one texts s a b)
    (λ p q. leads_one texts (after_line s q.0) a b (subst (λ (l : Line). Leads (after_line s l) texts a) (reads_one text p.0 q.0 p.1.reads q.1.reads) p.2) q.2)

-- the fault is that of the first of these lines that isn't accepted; the lines are counted behind n
abbrev Faulty : Option Scenario → ℕ → List (List ℕ) → ScenarioFault → Type 0
Faulty s n [] fault = ⊥
Faulty s n (text ∷ texts) fault =
    MatchBool (is_ignored text) (Faulty s (n + 1) texts fault) (((line : Line) × Accepts s text line × Faulty (after_line s line) (n + 1) texts fault) ⊎ (Refuses s text fault.cause × (fault.line ≡ n + 1)))

faulty_behind : (front : List (List ℕ)) (s state : Option Scenario) (n k : ℕ) (rest : List (List ℕ)) (fault : ScenarioFault) → k ≡ n + length front → Leads s front state → Faulty state k rest fault → Faulty s n (front ++ rest) fault
faulty_behind [] s state n k rest fault e led h =
    let same : k ≡ n = omega arith in
    subst (λ (m : ℕ). Faulty s m rest fault) same (subst (λ (t : Option Scenario). Faulty t k rest fault) led h)
faulty_behind (text ∷ front) s state n k rest fault e led h =
    weaker (is_ignored text) led
    (λ l. faulty_behind front s state (n + 1) k rest fault (omega arith) l h)
    (λ a. inl (a.0, a.1, faulty_behind front (after_line s a.0) state (n + 1) k rest fault (omega arith) a.2 h))

is_faulty : (bytes : List ℕ) (fault : ScenarioFault) → RefusesLine bytes fault → Faulty None 0 (lines bytes) fault
is_faulty bytes fault r =
    let here : Faulty r.state (length r.front) (r.text ∷ r.rest) fault = rw r.noted (inr (r.cause, r.number)) in
    rw r.whole (faulty_behind r.front None r.state 0 (length r.front) (r.text ∷ r.rest) fault (omega arith) r.before here)

faulty_not_led : (texts : List (List ℕ)) (s end : Option Scenario) (n : ℕ) (fault : ScenarioFault) → Faulty s n texts fault → Leads s texts end → ⊥
faulty_not_led [] s end n fault x led = x
faulty_not_led (text ∷ texts) s end n fault x led =
    both (is_ignored text) x led (faulty_not_led texts s end (n + 1) fault)
    (λ p q. elim p [
      | inl a ↦ faulty_not_led texts (after_line s q.0) end (n + 1) fault (subst (λ (l : Line). Faulty (after_line s l) (n + 1) texts fault) (reads_one text a.0 q.0 a.1.reads q.1.reads) a.2) q.2
      | inr r ↦ refused_not_accepted s text q.0 fault.cause r.0 q.1
    ])

same_fault : (f g : ScenarioFault) → f.line ≡ g.line → f.cause ≡ g.cause → f ≡ g
same_fault f g e d = λ i. record { line = e i; cause = d i }

faulty_one : (texts : List (List ℕ)) (s : Option Scenario) (n : ℕ) (f g : ScenarioFault) → Faulty s n texts f → Faulty s n texts g → f ≡ g
faulty_one [] s n f g x y = absurd x
faulty_one (text ∷ texts) s n f g x y =
    both (is_ignored text) x y (faulty_one texts s (n + 1) f g)
    (λ p q. elim p [
      | inl a ↦ elim q [
        | inl b ↦ faulty_one texts (after_line s b.0) (n + 1) f g (subst (λ (l : Line). Faulty (after_line s l) (n + 1) texts f) (reads_one text a.0 b.0 a.1.reads b.1.reads) a.2) b.2
        | inr r ↦ absurd (refused_not_accepted s text a.0 g.cause r.0 a.1)
      ]
      | inr r ↦ elim q [
        | inl b ↦ absurd (refused_not_accepted s text b.0 f.cause r.0 b.1)
        | inr t ↦ same_fault f g (r.1 ∙ sym t.1) (refuses_one s text f.cause g.cause r.0 t.0)
      ]
    ])

none_some : (s : Scenario) → None ≡ Some s → ⊥
none_some s e = absurd cc

pub text_one : (bytes : List ℕ) (a b : Scenario) → IsScenarioText bytes a → IsScenarioText bytes b → a ≡ b
text_one bytes a b x y = let e = leads_one (lines bytes) None (Some a) (Some b) x y in cc

pub text_not_refused : (bytes : List ℕ) (s : Scenario) (fault : ScenarioFault) → IsScenarioText bytes s → IsRefused bytes fault → ⊥
text_not_refused bytes s fault x (inl empty) = none_some s (leads_one (lines bytes) None None (Some s) empty.0 x)
text_not_refused bytes s fault x (inr r) = faulty_not_led (lines bytes) None (Some s) 0 fault (is_faulty bytes fault r) x

pub refused_one : (bytes : List ℕ) (f g : ScenarioFault) → IsRefused bytes f → IsRefused bytes g → f ≡ g
refused_one bytes f g (inl a) (inl b) = a.1 ∙ sym b.1
refused_one bytes f g (inl a) (inr r) = absurd (faulty_not_led (lines bytes) None None 0 g (is_faulty bytes g r) a.0)
refused_one bytes f g (inr r) (inl b) = absurd (faulty_not_led (lines bytes) None None 0 f (is_faulty bytes f r) b.0)
refused_one bytes f g (inr r) (inr t) = faulty_one (lines bytes) None 0 f g (is_faulty bytes f r) (is_faulty bytes g t)

-- ---- the clauses of an outcome

pub accepted : (bytes : List ℕ) (r : Result Scenario ScenarioError) → IsOutcome bytes r → (s : Scenario) → IsScenarioText bytes s → (r ≡ Ok s) ⊎ (r ≡ Err errors.OutOfMemory)
accepted bytes (Ok t) h s text = inl (ap (λ (u : Scenario). Ok u) (text_one bytes t s h text))
accepted bytes (Err (errors.Fault f)) h s text = absurd (text_not_refused bytes s f text h)
accepted bytes (Err errors.OutOfMemory) h s text = inr refl

pub refused : (bytes : List ℕ) (r : Result Scenario ScenarioError) → IsOutcome bytes r → (f : ScenarioFault) → IsRefused bytes f → (r ≡ Err (errors.Fault f)) ⊎ (r ≡ Err errors.OutOfMemory)
refused bytes (Ok t) h f bad = absurd (text_not_refused bytes t f h bad)
refused bytes (Err (errors.Fault g)) h f bad = inl (ap (λ (u : ScenarioFault). Err (errors.Fault u)) (refused_one bytes g f h bad))
refused bytes (Err errors.OutOfMemory) h f bad = inr refl

pub faulted : (bytes : List ℕ) (r : Result Scenario ScenarioError) → IsOutcome bytes r → (f : ScenarioFault) → r ≡ Err (errors.Fault f) → IsRefused bytes f
faulted bytes r h f e = subst (IsOutcome bytes) e h

pub outcome_text : (bytes : List ℕ) (r : Result Scenario ScenarioError) → IsOutcome bytes r → IfOk r (IsScenarioText bytes)
outcome_text bytes (Ok s) h = h
outcome_text bytes (Err e) h = tt
