use Rattle.std.proofs.Common.{◌≡◌, ◌*◌, ◌+◌, ◌≤◌, ◌^◌, ◌∙◌, List, length, ap, sym, ℕ, arith, Option}
use Rattle.evac_model.specs.Turns.{turn_count}
use Rattle.evac_model.specs.declared.scenario.Drawn.{Drawn}
use Rattle.evac_model.specs.declared.scenario.Scenario.{Scenario}
use Rattle.evac_model.specs.declared.scenario.Turn.{Turn}
use Rattle.replay.specs.ReplayInside.{ReplayState, replay_of}
use Rattle.replay.specs.Schedule.{draw_count, round_bound, round_count, turn_bound}
use Rattle.replay.proofs.Done.{most_rounds, owner_number, few_draws, few_turns}
use Rattle.replay.proofs.Ends.{runs_end_if_kept}
use Rattle.replay.proofs.MachineKept.{starts_are_kept, turns_are_kept}
use Rattle.replay.proofs.Lengths.{bounds_count_turns}
use Rattle.replay.proofs.replay.Replay.bound.Goals.{in-Some, in-None}
use Rattle.replay.proofs.replay.Replay.bound.Goals as goal

-- what the numbers are, where the replay is that of a scenario
record Numbers (c : goal.After-round_bound) (s : Scenario) : Type 0 where
  turns : c.count_turns.result ≡ turn_count s.named
  drawn : c.match-self.drawn ≡ draw_count s.drawn
  owners : c.from-actors.result ≡ length s.owners
  rounds : c.round_bound.result ≡ round_count s

numbers : (c : goal.After-round_bound) (s : Scenario) → c.args.self.now ≡ replay_of s → Numbers c s
numbers c s e = let is = c.self.view_is ∙ e in record {
  turns = c.count_turns.ensures ∙ ap (λ (l : List Turn). turn_count l) c.as_slice.ensures ∙ ap (λ (r : ReplayState). turn_count r.named) is;
  drawn =
      elim c.match-self.branch as (λ x. c.match-self.drawn ≡ draw_count c.self.inside.drawn) [
        | in-Some w ↦ w.drawn-is ∙ w.from-drawn.ensures ∙ sym (ap (λ (d : Option Drawn). draw_count d) w.in-Some.is)
        | in-None w ↦ w.drawn-is ∙ sym (ap (λ (d : Option Drawn). draw_count d) w.in-None.is)
      ]
      ∙ ap (λ (r : ReplayState). draw_count r.drawn) is;
  owners = owner_number s c.self.inside.running c.from-actors.result (ap (λ (r : ReplayState). r.run) is) (c.from-actors.ensures ∙ c.owner_count.ensures);
  rounds = c.round_bound.ensures ∙ ap (λ (r : ReplayState). round_bound r.geometry r.calls (length r.commands)) e;
}

sum_is : (c : goal.After-round_bound) (s : Scenario) → c.args.self.now ≡ replay_of s → c.count_turns.result + c.match-self.drawn + (c.from-actors.result + 2) * c.round_bound.result ≡ turn_bound s
sum_is c s e =
    let n = numbers c s e in
    ap (λ (k : ℕ). k + c.match-self.drawn + (c.from-actors.result + 2) * c.round_bound.result) n.turns
    ∙ ap (λ (k : ℕ). turn_count s.named + k + (c.from-actors.result + 2) * c.round_bound.result) n.drawn
    ∙ ap (λ (k : ℕ). turn_count s.named + draw_count s.drawn + (k + 2) * c.round_bound.result) n.owners
    ∙ ap (λ (k : ℕ). turn_count s.named + draw_count s.drawn + (length s.owners + 2) * k) n.rounds

few : (c : goal.After-round_bound) → (c.from-actors.result + 2) * c.round_bound.result ≤ 18 * most_rounds
few c =
    let s = c.self.invariant.scenario in
    let n = numbers c s (sym c.self.view_is ∙ c.self.invariant.is) in
    few_turns s c.from-actors.result c.round_bound.result c.self.invariant.runnable n.owners n.rounds

pub overflow_mul-result : goal.overflow_mul-result
overflow_mul-result c = let most = few c in omega arith

pub overflow_add-result-2 : goal.overflow_add-result-2
overflow_add-result-2 c =
    let s = c.self.invariant.scenario in
    let n = numbers c s (sym c.self.view_is ∙ c.self.invariant.is) in
    let turns : c.count_turns.result ≤ 2 ^ 24 = let a = n.turns in let b = c.self.invariant.runnable.turns in omega arith in
    let drawn : c.match-self.drawn ≤ 2 ^ 24 = let a = n.drawn in let b = few_draws s.drawn c.self.invariant.runnable.drawn in omega arith in
    let most = few c in omega arith

pub returns-clause-bound : goal.returns-clause-bound
returns-clause-bound c s e = sum_is c s e

pub returns-clause-ended : goal.returns-clause-ended
returns-clause-ended c s runnable e = (bounds_count_turns s ∙ sym (sum_is c s e), runs_end_if_kept starts_are_kept turns_are_kept s runnable)
