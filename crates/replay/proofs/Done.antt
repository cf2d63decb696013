-- A run of all turns of a schedule.
use Rattle.std.proofs.Common.{◌≡◌, ℕ, ◌+◌, ◌*◌, ◌^◌, ◌≤◌, List, ◌++◌, length, ap, sym, ◌∙◌, subst, arith, Option, Some, None}
use Rattle.std.specs.Prelude.{IfSome}
use Rattle.std.proofs.Math.Nat.{mul-le-mul}
use Rattle.evac_model.specs.declared.scenario.Drawn.{Drawn}
use Rattle.evac_model.specs.declared.scenario.Scenario.{Scenario}
use Rattle.evac_model.specs.declared.scenario.Turn.{Turn}
use Rattle.evac_model.specs.Scenarios.{IsRunnable}
use Rattle.evac_model.specs.Geometry.{Sizes, IsWithinLimits, frame_count}
use Rattle.evac_model.specs.ScenarioGrammar.{call_count}
use Rattle.evac_model.specs.Turns.{IsDraw}
use Rattle.evac_model.proofs.Bounds.{power_to_512_most}
use Rattle.replay.specs.Running.{Run, run_after, after_turns}
use Rattle.replay.specs.Keeping.{IsKept}
use Rattle.replay.specs.ReplayInside.{ReplayState, replay_of}
use Rattle.replay.specs.Runs.{setting, running_at_start, HaveEnded, IsScheduledRun}
use Rattle.replay.specs.Schedule.{actors, named_turns, drawn_turns, rounds, schedule, draw_count, round_bound, round_count}
use Rattle.replay.proofs.ActionsLeft.{turns_keep}
use Rattle.replay.proofs.Ends.{runs_end_if_kept}
use Rattle.replay.proofs.MachineKept.{starts_are_kept, turns_are_kept}
use Rattle.replay.proofs.Schedules.{after_both}
use Rattle.replay.proofs.Starts.{length-owners_from}

-- ---- numbers of a replay

pub owner_number : (s : Scenario) (r : Run) (n : ℕ) → r ≡ (replay_of s).run → n ≡ length r.running.owners → n ≡ length s.owners
owner_number s r n is count = count ∙ ap (λ (x : Run). length x.running.owners) is ∙ length-owners_from s.geometry.cells 1 s.owners

pub few_draws : (d : Option Drawn) → IfSome d IsDraw → draw_count d ≤ 2 ^ 24
few_draws None is = omega arith
few_draws (Some d) is = is.most

-- the most actions of the calls, and those that a command and all commands are counted as
abbrev most_of_calls : ℕ
most_of_calls = 1048576 * 518

abbrev most_of_command : ℕ
most_of_command = 65536 * 5668 + 9 * 65536 + 4

abbrev pub most_rounds : ℕ
most_rounds = 1 + most_of_calls + 256 * most_of_command

few_by_calls : (g : Sizes) (calls : ℕ) → IsWithinLimits g → calls ≤ 2 ^ 20 → calls * (g.cells + 6) ≤ most_of_calls
few_by_calls g calls limits few =
    let cells = power_to_512_most g.cells limits.cells in
    let some : calls ≤ 1048576 = few in
    let more : g.cells + 6 ≤ 518 = omega arith in
    mul-le-mul some more

few_by_frames : (g : Sizes) → IsWithinLimits g → frame_count g * (11 * g.cells + 36) ≤ 65536 * 5668
few_by_frames g limits =
    let cells = power_to_512_most g.cells limits.cells in
    let more : 11 * g.cells + 36 ≤ 5668 = omega arith in
    mul-le-mul limits.frames more

few_by_command : (g : Sizes) → IsWithinLimits g → frame_count g * (11 * g.cells + 36) + 9 * g.managed + 4 ≤ most_of_command
few_by_command g limits = let managed = limits.managed.1 in omega (arith, few_by_frames g limits)

few_by_commands : (g : Sizes) (commands : ℕ) → IsWithinLimits g → commands ≤ 256 → commands * (frame_count g * (11 * g.cells + 36) + 9 * g.managed + 4) ≤ 256 * most_of_command
few_by_commands g commands limits few = mul-le-mul few (few_by_command g limits)

pub few_rounds : (s : Scenario) → IsRunnable s → round_count s ≤ most_rounds
few_rounds s runnable =
    omega (arith, few_by_calls s.geometry (call_count s.owners) runnable.limits runnable.count, few_by_commands s.geometry (length s.host) runnable.limits runnable.few)

pub few_turns : (s : Scenario) (n most : ℕ) → IsRunnable s → n ≡ length s.owners → most ≡ round_count s → (n + 2) * most ≤ 18 * most_rounds
few_turns s n most runnable count is =
    let owners = runnable.owners in
    let few : n + 2 ≤ 18 = omega arith in
    let bounded : most ≤ most_rounds = subst (λ (k : ℕ). k ≤ most_rounds) (sym is) (few_rounds s runnable) in
    mul-le-mul few bounded

-- ---- all turns were made

-- the run of a replay after all its turns, with so many rounds
abbrev pub run_of_schedule : Scenario → ℕ → Run
run_of_schedule s most = run_after (replay_of s).run (schedule s most)

pub scheduled : (s : Scenario) (start named drawn last : Run) (turns : List Turn) (draws : Option Drawn) (n most : ℕ) → start ≡ (replay_of s).run → turns ≡ s.named → draws ≡ s.drawn → n ≡ length s.owners
    → named ≡ run_after start (named_turns turns) → drawn ≡ run_after named (drawn_turns (actors n) draws) → last ≡ run_after drawn (rounds (actors n) most) → last ≡ run_of_schedule s most
scheduled s start named drawn last turns draws n most is ts ds ns first second third =
    third
    ∙ ap (λ (r : Run). run_after r (rounds (actors n) most)) (second ∙ ap (λ (r : Run). run_after r (drawn_turns (actors n) draws)) (first ∙ ap (λ (r : Run). run_after r (named_turns turns)) is))
    ∙ ap (λ (r : Run). run_after r (rounds (actors n) most)) (after_both (replay_of s).run (named_turns turns) (drawn_turns (actors n) draws))
    ∙ after_both (replay_of s).run (named_turns turns ++ drawn_turns (actors n) draws) (rounds (actors n) most)
    ∙ ap (λ (l : List Turn). run_after (replay_of s).run (named_turns l ++ drawn_turns (actors n) draws ++ rounds (actors n) most)) ts
    ∙ ap (λ (d : Option Drawn). run_after (replay_of s).run (named_turns s.named ++ drawn_turns (actors n) d ++ rounds (actors n) most)) ds
    ∙ ap (λ (k : ℕ). run_after (replay_of s).run (named_turns s.named ++ drawn_turns (actors k) s.drawn ++ rounds (actors k) most)) ns

-- what such a run leaves
pub record IsDone (s : Scenario) (r : Run) : Type 0 where
  pub opened : r.setting ≡ setting s
  pub run : IsScheduledRun s r.running
  pub kept : IsKept s r.running

pub done : (s : Scenario) (r : Run) (most : ℕ) → IsRunnable s → most ≡ round_count s → r ≡ run_of_schedule s most → IsDone s r
done s r most runnable bound is = record {
  opened = ap (λ (x : Run). x.setting) is;
  run = record {
    made = ap (λ (x : Run). x.running) is ∙ ap (λ (k : ℕ). after_turns (setting s) (running_at_start s) (schedule s k)) bound;
    ended =
        subst (λ (x : Run). HaveEnded x.running) (sym is)
        (subst (λ (k : ℕ). HaveEnded (run_of_schedule s k).running) (sym bound) (runs_end_if_kept starts_are_kept turns_are_kept s runnable));
  };
  kept = subst (λ (x : Run). IsKept s x.running) (sym is) (turns_keep s (λ m actor kept. turns_are_kept s m actor runnable kept) (running_at_start s) (schedule s most) (starts_are_kept s runnable));
}

-- the turns of a replay, made one part after another
pub finished : (s : Scenario) (start : ReplayState) (named drawn last : Run) (turns : List Turn) (n most : ℕ) → IsRunnable s → start ≡ replay_of s → turns ≡ start.named → n ≡ length start.run.running.owners
    → most ≡ round_bound start.geometry start.calls (length start.commands) → named ≡ run_after start.run (named_turns turns) → drawn ≡ run_after named (drawn_turns (actors n) start.drawn) → last ≡ run_after drawn (rounds (actors n) most) → IsDone s last
finished s start named drawn last turns n most runnable is ts count bound first second third =
    done s last most runnable (bound ∙ ap (λ (r : ReplayState). round_bound r.geometry r.calls (length r.commands)) is)
    (scheduled s start.run named drawn last turns start.drawn n most (ap (λ (r : ReplayState). r.run) is) (ts ∙ ap (λ (r : ReplayState). r.named) is) (ap (λ (r : ReplayState). r.drawn) is)
    (owner_number s start.run n (ap (λ (r : ReplayState). r.run) is) count) first second third)
