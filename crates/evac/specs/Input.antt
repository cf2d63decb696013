-- What an input is: a scenario's text of at most 2^28 bytes, or one that is refused.
use Rattle.std.specs.Prelude.{ℕ, ◌<◌, ◌≤◌, ◌⊎◌, List, length}
use Rattle.evac_model.specs.declared.scenario.Scenario.{Scenario}
use Rattle.evac_model.specs.declared.scenario.ScenarioFault.{ScenarioFault}
use Rattle.evac_model.specs.ScenarioGrammar.{IsScenarioText, IsRefused}

-- the most bytes of an input
abbrev pub input_limit : ℕ
input_limit = 268435456

-- the bytes are a text of the scenario, and no more than an input has
abbrev pub IsAccepted : List ℕ → Scenario → Type 0
IsAccepted bytes s = (length bytes ≤ input_limit) × IsScenarioText bytes s

-- the bytes are refused, at this line for this cause
abbrev pub IsRefusedWith : List ℕ → ScenarioFault → Type 0
IsRefusedWith bytes fault = (length bytes ≤ input_limit) × IsRefused bytes fault

-- the bytes are too many, or no scenario
abbrev pub IsRefusedInput : List ℕ → Type 0
IsRefusedInput bytes = (input_limit < length bytes) ⊎ ((fault : ScenarioFault) × IsRefusedWith bytes fault)
