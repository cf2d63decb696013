-- How many turns a schedule has.
use Rattle.std.proofs.Common.{◌≡◌, ℕ, zero, suc, ◌+◌, ◌*◌, List, [], ◌∷◌, ◌++◌, length, map, replicate, length-append, suc-mul, mul_comm, refl, ap, ◌∙◌, arith, Option, Some, None}
use Rattle.std.specs.List.{range_with_len}
use Rattle.std.proofs.lemmas.List.{length-replicate}
use Rattle.std.proofs.lemmas.List.FromFn.{length-map-range_with_len}
use Rattle.std.proofs.lemmas.List.Concat.{flat_map-cons}
use Rattle.std.proofs.lemmas.List.Sums.{sum_by-cons}
use Rattle.rand_pcg.specs.Lcg.{Lcg}
use Rattle.rand_pcg.specs.Pcg.{pcg32}
use Rattle.evac_model.specs.declared.scenario.Actor.{Actor}
use Rattle.evac_model.specs.declared.scenario.Actor.TheVariants.{Owner, Host, Scanner}
use Rattle.evac_model.specs.declared.scenario.Drawn.{Drawn}
use Rattle.evac_model.specs.declared.scenario.Scenario.{Scenario}
use Rattle.evac_model.specs.declared.scenario.Turn.{Turn}
use Rattle.evac_model.specs.Turns.{turn_count}
use Rattle.replay.specs.Schedule.{actors, named_turns, turns_from, generator_of, drawn_turns, rounds, schedule, draw_count, round_count, turn_bound}

named_length : (turns : List Turn) → length (named_turns turns) ≡ turn_count turns
named_length [] = refl
named_length (t ∷ ts) =
    let cons = ap (λ (l : List Actor). length l) (flat_map-cons (λ (x : Turn). replicate x.count x.actor) t ts) in
    omega (arith, cons, length-append (replicate t.count t.actor) (named_turns ts), length-replicate t.count t.actor, sum_by-cons (λ (x : Turn). x.count) t ts, named_length ts)

turns_from_length : (all : List Actor) (g : Lcg) (n : ℕ) → length (turns_from all g n) ≡ n
turns_from_length all g zero = refl
turns_from_length all g (suc n) = ap suc (turns_from_length all (pcg32 g).1 n)

drawn_length : (all : List Actor) (d : Option Drawn) → length (drawn_turns all d) ≡ draw_count d
drawn_length all None = refl
drawn_length all (Some d) = turns_from_length all (generator_of d.number) d.count

pub actors_length : (owners : ℕ) → length (actors owners) ≡ owners + 2
actors_length owners =
    omega (arith, length-append (map (λ (k : ℕ). Owner k) (range_with_len 1 owners)) (Host ∷ Scanner ∷ []), length-map-range_with_len (λ (k : ℕ). Owner k) 1 owners)

rounds_length : (all : List Actor) (n : ℕ) → length (rounds all n) ≡ n * length all
rounds_length all zero = omega arith
rounds_length all (suc n) = omega (arith, length-append all (rounds all n), rounds_length all n, suc-mul n (length all))

schedule_length : (s : Scenario) (n : ℕ) → length (schedule s n) ≡ turn_count s.named + draw_count s.drawn + (length s.owners + 2) * n
schedule_length s n =
    let all : List Actor = actors (length s.owners) in
    let each : length (rounds all n) ≡ (length s.owners + 2) * n = rounds_length all n ∙ ap (λ (k : ℕ). n * k) (actors_length (length s.owners)) ∙ mul_comm n (length s.owners + 2) in
    let parts : length (schedule s n) ≡ length (named_turns s.named ++ drawn_turns all s.drawn) + length (rounds all n) = length-append (named_turns s.named ++ drawn_turns all s.drawn) (rounds all n) in
    omega (arith, each, parts, named_length s.named, drawn_length all s.drawn, length-append (named_turns s.named) (drawn_turns all s.drawn))

pub bounds_count_turns : (s : Scenario) → length (schedule s (round_count s)) ≡ turn_bound s
bounds_count_turns s = schedule_length s (round_count s)
