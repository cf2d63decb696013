-- The turns of a run: the named ones, those drawn, and then rounds.
use Rattle.std.specs.Prelude.{ℕ, zero, suc, ◌+◌, ◌*◌, ◌%◌, List, [], ◌∷◌, ◌++◌, length, map, replicate, slice_index_or, Option, None, Some}
use Rattle.std.specs.List.{flat_map, range_with_len}
use Rattle.rand_pcg.specs.Lcg.{Lcg, started, increment_of}
use Rattle.rand_pcg.specs.Pcg.{multiplier_64, pcg32}
use Rattle.evac_model.specs.declared.scenario.Actor.{Actor}
use Rattle.evac_model.specs.declared.scenario.Actor.TheVariants.{Owner, Host, Scanner}
use Rattle.evac_model.specs.declared.scenario.Drawn.{Drawn}
use Rattle.evac_model.specs.declared.scenario.Scenario.{Scenario}
use Rattle.evac_model.specs.declared.scenario.Turn.{Turn}
use Rattle.evac_model.specs.Geometry.{Sizes, frame_count}
use Rattle.evac_model.specs.Turns.{turn_count}
use Rattle.evac_model.specs.ScenarioGrammar.{call_count}

-- the actors in their order: the owners with these numbers, the host and the scanner
abbrev pub actors : ℕ → List Actor
actors owners = map (λ k. Owner k) (range_with_len 1 owners) ++ Host ∷ Scanner ∷ []

abbrev pub named_turns : List Turn → List Actor
named_turns turns = flat_map (λ t. replicate t.count t.actor) turns

-- the actor that a drawn word names: the word modulo their number is its place in their order
abbrev pub actor_for : List Actor → ℕ → Actor
actor_for all word = slice_index_or all (word % length all) Host

-- so many turns, drawn from a generator
abbrev pub turns_from : List Actor → Lcg → ℕ → List Actor
turns_from all g zero = []
turns_from all g (suc n) = actor_for all (pcg32 g).0 ∷ turns_from all (pcg32 g).1 n

-- the generator that begins with the number, on stream 0
abbrev pub generator_of : ℕ → Lcg
generator_of number = started 64 multiplier_64 number (increment_of 64 0)

abbrev pub drawn_turns : List Actor → Option Drawn → List Actor
drawn_turns all None = []
drawn_turns all (Some d) = turns_from all (generator_of d.number) d.count

-- so many rounds over all actors
abbrev pub rounds : List Actor → ℕ → List Actor
rounds all zero = []
rounds all (suc n) = all ++ rounds all n

-- the turns of a scenario, with so many rounds
abbrev pub schedule : Scenario → ℕ → List Actor
schedule s n = named_turns s.named ++ drawn_turns (actors (length s.owners)) s.drawn ++ rounds (actors (length s.owners)) n

-- ---- the bound of the turns

abbrev pub draw_count : Option Drawn → ℕ
draw_count None = 0
draw_count (Some d) = d.count

-- One more than the steps that so many calls and so many commands could make. In each round before the end some
-- owner makes a step other than a take that finds its page taken, or the host makes a step.
abbrev pub round_bound : Sizes → (calls commands : ℕ) → ℕ
round_bound s calls commands =
    1 + calls * (s.cells + 6) + commands * (frame_count s * (11 * s.cells + 36) + 9 * s.managed + 4)

-- the rounds of a scenario
abbrev pub round_count : Scenario → ℕ
round_count s = round_bound s.geometry (call_count s.owners) (length s.host)

-- the turns that a run needs at most: each round has a turn of each owner, of the host and of the scanner
abbrev pub turn_bound : Scenario → ℕ
turn_bound s = turn_count s.named + draw_count s.drawn + (length s.owners + 2) * round_count s
