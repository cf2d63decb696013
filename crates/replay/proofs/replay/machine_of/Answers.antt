use Rattle.std.proofs.Common.{◌≡◌, ◌∙◌, ℕ, List, [], refl, ap}
use Rattle.evac_model.specs.declared.call.Call.{Call}
use Rattle.evac_model.specs.declared.names.Kind.{Kind}
use Rattle.evac_model.specs.declared.names.PageNo.{PageNo}
use Rattle.evac_model.specs.declared.scenario.Scenario.{Scenario}
use Rattle.evac_model.specs.declared.scenario.StartPage.{StartPage}
use Rattle.evac_model.specs.ScenarioGrammar.{online_of}
use Rattle.evac_model.specs.Scenarios.{IsRunnable}
use Rattle.machine.specs.Start.{MayStart, setting_at_start, world_at_start}
use Rattle.machine.specs.World.{MachineState}
use Rattle.replay.specs.Runs.{budgets_of, setting, running_at_start}
use Rattle.replay.proofs.Starts.{setting_is, may_start}
use Rattle.replay.proofs.replay.machine_of.Goals as goal

-- a machine opened with what the scenario says
module _ (s : Scenario) (online : Kind) (start : List StartPage) (budgets : List ℕ) (os : online ≡ online_of s) (ss : start ≡ s.start) (bs : budgets ≡ budgets_of s.owners) where
  may_open : IsRunnable s → MayStart s.geometry online start budgets
  may_open r = rw (os, ss, bs) (may_start s r)

  setting_with : (fails : List ℕ) → fails ≡ s.fails → setting_at_start s.geometry online start budgets fails ≡ setting s
  setting_with fails fs = rw (os, ss, bs, fs) (setting_is s)

  world_with : world_at_start s.geometry start budgets ≡ (running_at_start s).world
  world_with = rw (ss, bs) refl

pub open-requires : goal.open-requires
open-requires c =
    let lengths = c.as_slice-4.ensures.value ∙ (c.in_ok-budgets.ensures ∙ ap (λ (scripts : List (List (PageNo × Call))). budgets_of scripts) c.as_slice.ensures) in
    may_open c.args.s.now c.unwrap_or-online.result c.as_slice-3.result.now c.as_slice-4.result.now c.unwrap_or-online.ensures c.as_slice-3.ensures lengths c.requires

pub returns-clause-setting : goal.returns-clause-setting
returns-clause-setting c =
    let lengths = c.as_slice-4.ensures.value ∙ (c.in_ok-budgets.ensures ∙ ap (λ (scripts : List (List (PageNo × Call))). budgets_of scripts) c.as_slice.ensures) in
    ap (λ (m : MachineState). m.setting) c.in_ok-open.ensures
    ∙ setting_with c.args.s.now c.unwrap_or-online.result c.as_slice-3.result.now c.as_slice-4.result.now c.unwrap_or-online.ensures c.as_slice-3.ensures lengths
    c.in_ok-fails.fails (c.in_ok-fails.ensures ∙ c.as_slice-2.ensures)

pub returns-clause-world : goal.returns-clause-world
returns-clause-world c =
    let lengths = c.as_slice-4.ensures.value ∙ (c.in_ok-budgets.ensures ∙ ap (λ (scripts : List (List (PageNo × Call))). budgets_of scripts) c.as_slice.ensures) in
    ap (λ (m : MachineState). m.world) c.in_ok-open.ensures
    ∙ world_with c.args.s.now c.unwrap_or-online.result c.as_slice-3.result.now c.as_slice-4.result.now c.unwrap_or-online.ensures c.as_slice-3.ensures lengths
