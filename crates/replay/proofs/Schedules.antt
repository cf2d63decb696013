-- Runs and the turns of a schedule, one after another.
use Rattle.std.proofs.Common.{◌≡◌, ℕ, zero, suc, ◌+◌, ◌-◌, ◌%◌, ◌<◌, true, List, [], ◌∷◌, ◌++◌, length, map, get_or, drop, replicate, refl, ap, sym, ◌∙◌, arith, Some, add-one}
use Rattle.std.specs.List.{range_with_len, slice_get}
use Rattle.std.proofs.Math.Seq.{drop-cons}
use Rattle.std.proofs.lemmas.List.Concat.{flat_map-cons}
use Rattle.rand_pcg.specs.Lcg.{Lcg}
use Rattle.rand_pcg.specs.Pcg.{pcg32}
use Rattle.evac_model.specs.declared.scenario.Actor.{Actor}
use Rattle.evac_model.specs.declared.scenario.Actor.TheVariants.{Owner, Host, Scanner}
use Rattle.evac_model.specs.declared.scenario.Turn.{Turn}
use Rattle.core_actors.specs.Owners.{OwnerState, owner_at_start, owner_ended}
use Rattle.machine.specs.World.{Setting}
use Rattle.replay.specs.Running.{Running, Run, owner_of, after_turn, run_after}
use Rattle.replay.specs.Schedule.{actors, named_turns, actor_for, turns_from, rounds}
use Rattle.replay.specs.Runs.{AllEnded, HaveEnded}
use Rattle.replay.proofs.Turns.{rests_at, host_rests}

-- turns behind turns
pub after_both : (r : Run) (xs ys : List Actor) → run_after (run_after r xs) ys ≡ run_after r (xs ++ ys)
after_both r [] ys = refl
after_both r (x ∷ xs) ys = after_both (run_after r (x ∷ [])) xs ys

-- a turn before others
pub after_first : (r s : Run) (x : Actor) (xs ys : List Actor) → s ≡ run_after r (x ∷ []) → ys ≡ x ∷ xs → run_after s xs ≡ run_after r ys
after_first r s x xs ys e l = ap (λ (t : Run). run_after t xs) e ∙ ap (λ (zs : List Actor). run_after r zs) (sym l)

-- some turns before others
pub after_some : (r s : Run) (xs ys zs : List Actor) → s ≡ run_after r xs → zs ≡ xs ++ ys → run_after s ys ≡ run_after r zs
after_some r s xs ys zs e l = ap (λ (t : Run). run_after t ys) e ∙ (after_both r xs ys ∙ ap (λ (us : List Actor). run_after r us) (sym l))

one_less : (n i : ℕ) → i < n → n - i ≡ suc (n - (i + 1))
one_less n i lt = omega arith

-- ---- each loop's turns begin with the next

pub replicate_first : (x : Actor) (n i : ℕ) → i < n → replicate (n - i) x ≡ x ∷ replicate (n - (i + 1)) x
replicate_first x n i lt = ap (λ (k : ℕ). replicate k x) (one_less n i lt)

pub named_first : (turns : List Turn) (i : ℕ) (d : Turn) → i < length turns → named_turns (drop i turns) ≡ replicate (get_or turns i d).count (get_or turns i d).actor ++ named_turns (drop (i + 1) turns)
named_first turns i d lt =
    rw (add-one, drop-cons turns i d lt) (flat_map-cons (λ (t : Turn). replicate t.count t.actor) (get_or turns i d) (drop (suc i) turns))

pub drawn_first : (all : List Actor) (g : Lcg) (n i : ℕ) → i < n → turns_from all g (n - i) ≡ actor_for all (pcg32 g).0 ∷ turns_from all (pcg32 g).1 (n - (i + 1))
drawn_first all g n i lt = ap (λ (k : ℕ). turns_from all g k) (one_less n i lt)

-- the owners with so many numbers from the first one on, the host and the scanner
abbrev pub actors_from : ℕ → ℕ → List Actor
actors_from first owners = map (λ k. Owner k) (range_with_len first owners) ++ Host ∷ Scanner ∷ []

pub actors_first : (n i : ℕ) → i < n → actors_from (i + 1) (n - i) ≡ Owner (i + 1) ∷ actors_from (i + 1 + 1) (n - (i + 1))
actors_first n i lt = ap (λ (k : ℕ). actors_from (i + 1) k) (one_less n i lt)

pub rounds_first : (all : List Actor) (n i : ℕ) → i < n → rounds all (n - i) ≡ all ++ rounds all (n - (i + 1))
rounds_first all n i lt = ap (λ (k : ℕ). rounds all k) (one_less n i lt)

-- ---- the actor at a place

pub owner_at : (first n place : ℕ) → place < n → get_or (actors_from first n) place Host ≡ Owner (first + place)
owner_at first zero place lt = absurd (omega arith)
owner_at first (suc n) zero lt = ap (λ (k : ℕ). Owner k) (omega arith)
owner_at first (suc n) (suc place) lt = owner_at (first + 1) n place (omega arith) ∙ ap (λ (k : ℕ). Owner k) (omega arith)

pub host_at : (first n : ℕ) → get_or (actors_from first n) n Host ≡ Host
host_at first zero = refl
host_at first (suc n) = host_at (first + 1) n

pub scanner_at : (first n : ℕ) → get_or (actors_from first n) (suc n) Host ≡ Scanner
scanner_at first zero = refl
scanner_at first (suc n) = scanner_at (first + 1) n

pub length_from : (first n : ℕ) → length (actors_from first n) ≡ n + 2
length_from first zero = refl
length_from first (suc n) = omega (arith, length_from (first + 1) n)

pub actor_is : (n word : ℕ) → get_or (actors n) (word % (n + 2)) Host ≡ actor_for (actors n) word
actor_is n word = ap (λ (k : ℕ). get_or (actors n) (word % k) Host) (sym (length_from 1 n))

-- ---- behind the end

at_or : {A : Type 0} (P : A → Type 0) (xs : List A) (i : ℕ) (d : A) → P d → ((x : A) → slice_get xs i ≡ Some x → P x) → P (get_or xs i d)
at_or P [] i d none each = none
at_or P (x ∷ xs) zero d none each = each x refl
at_or P (x ∷ xs) (suc i) d none each = at_or P xs i d none each

pub owner_has_ended : (owners : List OwnerState) (k : ℕ) → AllEnded owners → owner_ended (owner_of owners k) ≡ true
owner_has_ended owners zero all = refl
owner_has_ended owners (suc i) all = at_or (λ (a : OwnerState). owner_ended a ≡ true) owners i (owner_at_start 0 0 []) refl (all i)

ended_turn : (c : Setting) (m : Running) (x : Actor) → HaveEnded m → after_turn c m x ≡ m
ended_turn c m (Owner k) all = rests_at c m k (owner_has_ended m.owners k all.owners)
ended_turn c m Host all = host_rests c m all.host
ended_turn c m Scanner all = refl

pub ended_turns : (r : Run) (xs : List Actor) → HaveEnded r.running → run_after r xs ≡ r
ended_turns r [] all = refl
ended_turns r (x ∷ xs) all =
    ap (λ (m : Running). run_after (record r { running = m }) xs) (ended_turn r.setting r.running x all) ∙ ended_turns r xs all
