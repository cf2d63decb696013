-- The words of turns: what is read is spelled so, and what is spelled so is read.
use Rattle.std.proofs.Common.{◌≡◌, ℕ, false, cond, List, [], ◌∷◌, ◌++◌, length, map, Option, Some, None, refl, inl, inr, sym, ap, ◌∙◌, subst, ◌<◌, arith}
use Rattle.std.specs.Prelude.{◌==◌, codes, IfSome}
use Rattle.std.specs.List.{AllByRecursion, slice_split, join_with_byte}
use Rattle.std.specs.Fmt.{decimal}
use Rattle.std.specs.Str.{bytes_eq}
use Rattle.std.proofs.lemmas.Bool.{false_from_ne_true, cond-false, ne_eqb}
use Rattle.std.proofs.lemmas.Option.{none-some, same_Some}
use Rattle.std.proofs.lemmas.List.Elements.{All-from_recursion}
use Rattle.std.proofs.lemmas.List.Splits.{slice_split_at, slice_split_none, join_with_byte-slice_split}
use Rattle.evac_model.specs.declared.scenario.Actor.{Actor}
use Rattle.evac_model.specs.declared.scenario.Actor.TheVariants.{Owner, Host, Scanner}
use Rattle.evac_model.specs.Spelling.{actor_word, turn_word}
use Rattle.evac_model.specs.ScenarioLines.{NamedTurn, IsNumber, HasActorNumber, HasTurnNumbers}
use Rattle.scenario.specs.Numbers.{number_of}
use Rattle.scenario.specs.Reading.{◌>>=◌, actor_of, turn_count_of, ended, turn_of_parts, turn_of, turns_of}
use Rattle.scenario.proofs.Numerals.{number_is, number_again}
use Rattle.scenario.proofs.Names.{same_text}
use Rattle.scenario.proofs.Marks.{HasNo, number_has_no, star_no_digit, actor_has_no_star}
use Rattle.scenario.proofs.Splits.{some_parts}
use Rattle.scenario.proofs.Steps.{bind_some, chosen, ended_is}

-- ---- read

-- the text is the word of the actor
abbrev Acts : List ℕ → Actor → Type 0
Acts text actor = (text ≡ actor_word actor) × HasActorNumber actor

actor_read : (text : List ℕ) (actor : Actor) → actor_of text ≡ Some actor → Acts text actor
actor_read text actor e =
    let owners = number_of text >>= λ k. Some (Owner k) in
    let scanners = cond (bytes_eq text (codes "s")) (Some Scanner) owners in
    elim (chosen (bytes_eq text (codes "h")) (Some Host) scanners (Some actor) e) [
      | inl h ↦ subst (λ (a : Actor). Acts text a) (same_Some Host actor h.1) (same_text text (codes "h") h.0, tt)
      | inr h ↦ elim (chosen (bytes_eq text (codes "s")) (Some Scanner) owners (Some actor) h.1) [
        | inl h ↦ subst (λ (a : Actor). Acts text a) (same_Some Scanner actor h.1) (same_text text (codes "s") h.0, tt)
        | inr h ↦
            let n = bind_some (number_of text) (λ k. Some (Owner k)) actor h.1 in
            let is = number_is text n.0 n.1 in
            subst (λ (a : Actor). Acts text a) (same_Some (Owner n.0) actor n.2) (is.1, is.0)
      ]
    ]

-- the word is that of the turns
abbrev Turns : List ℕ → NamedTurn → Type 0
Turns word t = (word ≡ turn_word t.actor t.count) × HasTurnNumbers t

-- what is behind the actor is the count, where it is written
record IsCount (text : List ℕ) (rest : List (List ℕ)) (count : Option ℕ) : Type 0 where
  joined : (actor : Actor) → text ≡ actor_word actor → join_with_byte 42 (text ∷ rest) ≡ turn_word actor count
  fits : IfSome count IsNumber

count_read : (text : List ℕ) (rest : List (List ℕ)) (count : Option ℕ) → turn_count_of rest ≡ Some count → IsCount text rest count
count_read text [] count e = subst (λ (c : Option ℕ). IsCount text [] c) (same_Some None count e) (record { joined = λ actor h. h; fits = tt })
count_read text (digits ∷ more) count e =
    let n = bind_some (number_of digits) _ count e in
    let is = number_is digits n.0 n.1 in
    let made = ended_is (Some n.0) count more n.2 in
    let one : IsCount text (digits ∷ []) (Some n.0) = record {
      joined = λ actor h. ap (λ (t : List ℕ). t ++ 42 ∷ digits) h ∙ ap (λ (d : List ℕ). actor_word actor ++ 42 ∷ d) is.1;
      fits = is.0;
    } in
    subst (λ (c : Option ℕ). IsCount text (digits ∷ more) c) made.1 (subst (λ (ms : List (List ℕ)). IsCount text (digits ∷ ms) (Some n.0)) (sym made.0) one)

parts_read : (parts : List (List ℕ)) (t : NamedTurn) → turn_of_parts parts ≡ Some t → Turns (join_with_byte 42 parts) t
parts_read [] t e = absurd (none-some t e)
parts_read (text ∷ rest) t e =
    let a = bind_some (actor_of text) _ t e in
    let c = bind_some (turn_count_of rest) _ t a.2 in
    let acts = actor_read text a.0 a.1 in
    let count = count_read text rest c.0 c.1 in
    subst (λ (u : NamedTurn). Turns (join_with_byte 42 (text ∷ rest)) u) (same_Some (record { actor = a.0; count = c.0 }) t c.2) (count.joined a.0 acts.0, (acts.1, count.fits))

turn_read : (word : List ℕ) (t : NamedTurn) → turn_of word ≡ Some t → Turns word t
turn_read word t e = subst (λ (w : List ℕ). Turns w t) (join_with_byte-slice_split 42 word) (parts_read (slice_split (λ b. b == 42) word) t e)

-- the words are those of the turns
abbrev AllTurns : List (List ℕ) → List NamedTurn → Type 0
AllTurns ws turns = (ws ≡ map (λ t. turn_word t.actor t.count) turns) × AllByRecursion HasTurnNumbers turns

pub turns_read : (ws : List (List ℕ)) (turns : List NamedTurn) → turns_of ws ≡ Some turns → AllTurns ws turns
unfolding turns_of
turns_read [] turns e = subst (λ (ts : List NamedTurn). AllTurns [] ts) (same_Some [] turns e) (refl, tt)
turns_read (word ∷ rest) turns e =
    let t = bind_some (turn_of word) _ turns e in
    let more = bind_some (turns_of rest) _ turns t.2 in
    let one = turn_read word t.0 t.1 in
    let others = turns_read rest more.0 more.1 in
    let whole : word ∷ rest ≡ turn_word t.0.actor t.0.count ∷ map (λ t. turn_word t.actor t.count) more.0 = rw (← one.0, ← others.0) refl in
    subst (λ (ts : List NamedTurn). AllTurns (word ∷ rest) ts) (same_Some (t.0 ∷ more.0) turns more.2) (whole, (one.1, others.1))

-- ---- refused

bind_none : {A B : Type 0} (o : Option A) (f : A → Option B) → ((x : A) → f x ≡ None) → (o >>= f) ≡ None
bind_none None f h = refl
bind_none (Some x) f h = h x

not_ended : {A : Type 0} (x : A) (rest : List (List ℕ)) → 0 < length rest → ended x rest ≡ None
not_ended x rest h = cond-false (length rest == 0) (Some x) None (ne_eqb (length rest) 0 (λ e. omega arith))

-- there is a second mark in the word
pub two_marks : (parts : List (List ℕ)) (digits text : List ℕ) → parts ≡ digits ∷ slice_split (λ b. b == 42) text → turn_count_of parts ≡ None
two_marks parts digits text e =
    let more = slice_split (λ b. b == 42) text in
    ap turn_count_of e ∙ bind_none (number_of digits) (λ n. ended (Some n) more) (λ n. not_ended (Some n) more (some_parts (λ b. b == 42) text))

-- ---- again

-- a word that is no number spells none
pub number_is_no_name : (k : ℕ) (name : List ℕ) → IsNumber k → number_of name ≡ None → bytes_eq (decimal k) name ≡ false
number_is_no_name k name lt none = false_from_ne_true (bytes_eq (decimal k) name) (λ e. none-some k (sym none ∙ ap number_of (sym (same_text (decimal k) name e)) ∙ number_again k lt))

actor_again : (actor : Actor) → HasActorNumber actor → actor_of (actor_word actor) ≡ Some actor
actor_again (Owner k) h = rw (number_is_no_name k (codes "h") h refl, number_is_no_name k (codes "s") h refl, number_again k h) refl
actor_again Host h = refl
actor_again Scanner h = refl

no_star : (word : List ℕ) → HasNo 42 word → slice_split (λ b. b == 42) word ≡ word ∷ []
no_star word h = slice_split_none (λ b. b == 42) word (All-from_recursion (λ b. (b == 42) ≡ false) word h)

one_star : (word rest : List ℕ) → HasNo 42 word → HasNo 42 rest → slice_split (λ b. b == 42) (word ++ 42 ∷ rest) ≡ word ∷ rest ∷ []
one_star word rest h k =
    slice_split_at (λ b. b == 42) word 42 rest (All-from_recursion (λ b. (b == 42) ≡ false) word h) refl
    ∙ ap (λ (parts : List (List ℕ)). word ∷ parts) (no_star rest k)

turn_again : (actor : Actor) (count : Option ℕ) → HasActorNumber actor → IfSome count IsNumber → turn_of (turn_word actor count) ≡ Some (record { actor = actor; count = count })
turn_again actor None a h =
    ap turn_of_parts (no_star (actor_word actor) (actor_has_no_star actor a)) ∙ rw (actor_again actor a) refl
turn_again actor (Some n) a h =
    ap turn_of_parts (one_star (actor_word actor) (decimal n) (actor_has_no_star actor a) (number_has_no 42 n star_no_digit h)) ∙ rw (actor_again actor a, number_again n h) refl

pub turns_again : (turns : List NamedTurn) → AllByRecursion HasTurnNumbers turns → turns_of (map (λ t. turn_word t.actor t.count) turns) ≡ Some turns
unfolding turns_of
turns_again [] h = refl
turns_again (t ∷ turns) h = rw (turn_again t.actor t.count h.0.0 h.0.1, turns_again turns h.1) refl
