-- What comes of reading a text.
use Rattle.std.specs.Prelude.{ℕ, List, Result, Ok, Err}
use Rattle.evac_model.specs.declared.scenario.Scenario.{Scenario}
use Rattle.evac_model.specs.ScenarioGrammar.{IsScenarioText, IsRefused}
use Rattle.scenario.specs.declared.error.ScenarioError.{ScenarioError}
use Rattle.scenario.specs.declared.error.ScenarioError.TheVariants.{Fault, OutOfMemory}

-- the scenario that the bytes are a text of, or the line that is refused
abbrev pub IsOutcome : List ℕ → Result Scenario ScenarioError → Type 0
IsOutcome bytes (Ok s) = IsScenarioText bytes s
IsOutcome bytes (Err (Fault fault)) = IsRefused bytes fault
IsOutcome bytes (Err OutOfMemory) = Unit {0}
