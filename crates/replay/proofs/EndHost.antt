-- What a run leaves whose host has ended: each command with its line, which says what was done.
use Rattle.std.proofs.Common.{◌≡◌, ℕ, ◌≤◌, true, false, List, [], ◌∷◌, length, map, refl, sym, ap, ◌∙◌}
use Rattle.std.specs.List.{range_with_len}
use Rattle.std.proofs.lemmas.Bool.{false≢true}
use Rattle.std.proofs.lemmas.List.{length-map}
use Rattle.std.proofs.lemmas.List.FromFn.{length-range_with_len}
use Rattle.evac_model.specs.declared.host.HostCommand.{HostCommand}
use Rattle.evac_model.specs.declared.host.HostRun.{HostRun}
use Rattle.evac_model.specs.declared.scenario.Scenario.{Scenario}
use Rattle.evac_model.specs.DeviceAnswer.{device_at_start}
use Rattle.evac_model.specs.HostCommands.{host_runs}
use Rattle.evac_model.specs.Pairing.{actions_of}
use Rattle.host_work.specs.Commands.{AreDoneBy}
use Rattle.machine.specs.World.{HasFrame, is_held}
use Rattle.core_actors.specs.HostFound.{truth}
use Rattle.core_actors.specs.Hosts.{has_none, host_ended}
use Rattle.core_actors.proofs.HostEnds.{ended_did, ended_hands, ended_blocks}
use Rattle.replay.specs.HostKept.{IsHostKept}
use Rattle.replay.specs.Running.{Running}
use Rattle.replay.specs.Runs.{setting}
use Rattle.replay.proofs.HostLines.{all_told, enough_lines}

-- ---- a host that has ended

none_left : (left : List HostCommand) → has_none left ≡ true → [] ≡ left
none_left [] e = refl
none_left (c ∷ cs) e = absurd (false≢true e)

-- numbers that count as many elements as there are others
as_many : {A B : Type 0} (number : A → ℕ) (other : A → B) (xs : List A) (n : ℕ) (ys : List B) → map number xs ≡ range_with_len 0 n → map other xs ≡ ys → map number xs ≡ range_with_len 0 (length ys)
as_many number other xs n ys numbers others =
    let count : length xs ≡ n = sym (length-map xs number) ∙ (ap (λ (l : List ℕ). length l) numbers ∙ length-range_with_len 0 n) in
    let same : n ≡ length ys = sym count ∙ (sym (length-map xs other) ∙ ap (λ l. length l) others) in
    numbers ∙ ap (λ (k : ℕ). range_with_len 0 k) same

-- ---- the run whose host has ended

module _ (s : Scenario) (m : Running) (k : IsHostKept s m) (ended : host_ended m.host ≡ true) where
  abbrev runs : List HostRun
  runs = host_runs s.host m.lines

  enough : length s.host ≤ length m.lines
  enough = enough_lines s.host (length m.lines) (none_left m.host.left ended ∙ k.left)

  -- each command has its line, with its number
  pub all_commands : map (λ x. x.command) (host_runs s.host m.lines) ≡ s.host
  all_commands = all_told s.host m.lines enough

  pub all_numbers : map (λ x. x.line.no) (host_runs s.host m.lines) ≡ range_with_len 0 (length s.host)
  all_numbers = as_many (λ (x : HostRun). x.line.no) (λ (x : HostRun). x.command) runs m.host.number s.host k.kept.did.numbers all_commands

  -- they did what their lines say, each cause true of the run at its end
  pub all_done : AreDoneBy (truth (setting s) m.world) [] s.geometry (device_at_start s.geometry) (host_runs s.host m.lines) (actions_of 0 m.world.space) m.world.device
  all_done = ended_did (setting s) m.world runs m.host k.kept ended

  -- the driver holds no block, and has no frame in hand
  pub none_held_at_end : (block : ℕ) → is_held (setting s) m.world block ≡ false
  none_held_at_end block = ended_blocks (setting s) m.world runs m.host k.kept ended block

  pub none_in_hand_at_end : (frame : ℕ) → ¬ HasFrame m.world 0 frame
  none_in_hand_at_end frame = ended_hands (setting s) m.world runs m.host k.kept ended frame
