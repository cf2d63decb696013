-- Turns one after the other: those that are read, and those that are counted.
use Rattle.std.proofs.Common.{◌≡◌, ℕ, zero, suc, ◌+◌, ◌^◌, ◌<◌, ◌≤◌, length, get_or, List, [], ◌∷◌, ◌++◌, map, Option, Some, None, refl, sym, ap, subst, ◌∙◌, append_assoc, arith}
use Rattle.std.proofs.lemmas.List.{append-nil, map_push}
use Rattle.std.proofs.lemmas.List.Sums.{sum_by-append}
use Rattle.evac_model.specs.declared.scenario.Turn.{Turn}
use Rattle.std.specs.List.{AllByRecursion}
use Rattle.evac_model.specs.Turns.{IsTurn, turn_count}
use Rattle.scenario.specs.Judging.{plain_turn, Adds, RefusesTurns, RefusesReadLine}
use Rattle.evac_model.specs.declared.scenario.Scenario.{Scenario}
use Rattle.evac_model.specs.declared.scenario.LineCause.TheVariants.{Range, Count}
use Rattle.evac_model.specs.ScenarioLines.{NamedTurn, turns_of as turns_of_names}
use Rattle.evac_model.specs.ScenarioGrammar.{IsInRange, after_line}
use Rattle.scenario.specs.declared.error.Refusal.{Refusal}
use Rattle.scenario.specs.declared.error.Refusal.TheVariants.{Cause, OutOfMemory}
use Rattle.scenario.specs.declared.turn_line.LineTurn.{LineTurn}
use Rattle.scenario.specs.declared.turn_line.TurnsLine.{TurnsLine}
use Rattle.scenario.specs.Reading.{◌>>=◌, turn_in, turns_in, turn_of, turns_of}

pub turn_count-both : (xs ys : List Turn) → turn_count (xs ++ ys) ≡ turn_count xs + turn_count ys
turn_count-both xs ys = sum_by-append {X = Turn} (λ t. t.count) xs ys

-- the turns of a line, in both ways
pub same_turns : (turns : List LineTurn) → turns_of_names (map turn_in turns) ≡ map plain_turn turns
same_turns [] = refl
same_turns (t ∷ turns) = ap (λ (ts : List Turn). plain_turn t ∷ ts) (same_turns turns)

pub refuses_turns : (s : Scenario) (line : TurnsLine) (why : Refusal) → RefusesTurns (map plain_turn line.turns.items) why → RefusesReadLine (Some s) (turns_in line) why
refuses_turns s line (Cause Range) h = (tt, λ all. h (subst (λ (ts : List Turn). AllByRecursion IsTurn ts) (same_turns line.turns.items) all))
refuses_turns s line (Cause cause) h = absurd h
refuses_turns s line OutOfMemory h = tt

-- Turns in their ranges that are named behind others, where so many were named so far.
module _ (s : Scenario) (line : TurnsLine) (named plain : List Turn) (so_far : ℕ) (before : named ≡ s.named) (are : plain ≡ map plain_turn line.turns.items) (counted : so_far ≡ turn_count named) (fit : AllByRecursion IsTurn (map plain_turn line.turns.items)) where
  names : turns_of_names (map turn_in line.turns.items) ≡ map plain_turn line.turns.items
  names = same_turns line.turns.items

  in_range : IsInRange (Some s) (turns_in line)
  in_range = subst (λ (ts : List Turn). AllByRecursion IsTurn ts) (sym names) fit

  total : turn_count s.named + turn_count (turns_of_names (map turn_in line.turns.items)) ≡ so_far + turn_count plain
  total = omega (arith, counted, ap turn_count before, ap turn_count are, ap turn_count names)

  pub no_room : 2 ^ 24 < so_far + turn_count plain → RefusesReadLine (Some s) (turns_in line) (Cause Count)
  no_room many = (tt, in_range, tt, λ room. omega (arith, total, room, many))

  pub adds_turns : (made : Scenario) (n : ℕ) → n ≡ so_far + turn_count plain → n ≤ 2 ^ 24 → after_line (Some s) (turns_in line) ≡ Some made → Adds (Some s) (turns_in line) made
  adds_turns made n e few after = record { order = tt; range = in_range; page = tt; count = omega (arith, total, e, few); after = after }

-- a turn out of its range
pub bad_turn : (turns : List LineTurn) (i : ℕ) (d : LineTurn) → i < length turns → ¬ IsTurn (plain_turn (get_or turns i d)) → ¬ AllByRecursion IsTurn (map plain_turn turns)
bad_turn [] i d lt bad all = absurd (omega arith)
bad_turn (t ∷ turns) zero d lt bad all = bad all.0
bad_turn (t ∷ turns) (suc i) d lt bad all = bad_turn turns i d (omega arith) bad all.1

-- the turns that were read, and those that are still read
abbrev pub with_front : List NamedTurn → Option (List NamedTurn) → Option (List NamedTurn)
with_front front read = read >>= λ xs. Some (front ++ xs)

regroup : (front : List NamedTurn) (t : NamedTurn) (read : Option (List NamedTurn)) → with_front front (read >>= λ xs. Some (t ∷ xs)) ≡ with_front (front ++ t ∷ []) read
regroup front t (Some xs) = ap (λ (ys : List NamedTurn). Some ys) (simp append_assoc)
regroup front t None = refl

pub goes_on : (front : List LineTurn) (t : LineTurn) (word : List ℕ) (rest before : List (List ℕ)) (total : Option (List NamedTurn)) → before ≡ word ∷ rest → turn_of word ≡ Some (turn_in t)
    → with_front (map turn_in front) (turns_of before) ≡ total → with_front (map turn_in (front ++ t ∷ [])) (turns_of rest) ≡ total
unfolding turns_of
goes_on front t word rest before total cut h so_far =
    let one : with_front (map turn_in front) (turns_of before) ≡ with_front (map turn_in front ++ turn_in t ∷ []) (turns_of rest) = rw (cut, h) (regroup (map turn_in front) (turn_in t) (turns_of rest)) in
    ap (λ (ts : List NamedTurn). with_front ts (turns_of rest)) (map_push turn_in front t) ∙ (sym one ∙ so_far)

pub fails : (front : List NamedTurn) (word : List ℕ) (rest before : List (List ℕ)) (total : Option (List NamedTurn)) → before ≡ word ∷ rest → turn_of word ≡ None
    → with_front front (turns_of before) ≡ total → total ≡ None
unfolding turns_of
fails front word rest before total cut h so_far =
    let one : with_front front (turns_of before) ≡ None = rw (cut, h) refl in
    sym so_far ∙ one

pub is_done : (front : List NamedTurn) (rest : List (List ℕ)) (total : Option (List NamedTurn)) → rest ≡ [] → with_front front (turns_of rest) ≡ total → total ≡ Some front
unfolding turns_of
is_done front rest total e so_far =
    let one : with_front front (turns_of rest) ≡ Some front = rw e (ap (λ (ts : List NamedTurn). Some ts) (append-nil front)) in
    sym so_far ∙ one
