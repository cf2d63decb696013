-- What a draft keeps, and the scenario that it is.
use Rattle.std.specs.Prelude.{◌≡◌, ◌^◌, ◌≤◌, length, map}
use Rattle.evac_model.specs.declared.scenario.Scenario.{Scenario}
use Rattle.evac_model.specs.Geometry.{frame_count}
use Rattle.evac_model.specs.Turns.{turn_count}
use Rattle.evac_model.specs.ScenarioGrammar.{call_count}
use Rattle.scenario.specs.declared.draft.Draft.TheInside.{Inside}
use Rattle.scenario.specs.Judging.{scripts}
use Rattle.scenario.specs.Tables.{HasJust}

-- the scenario so far
abbrev pub scenario_of : Inside → Scenario
scenario_of a = record { geometry = a.geometry; online = a.online; start = a.start.items; fails = a.fails.items; named = a.named.items; drawn = a.drawn; owners = scripts a.owners; host = a.host.items }

-- the tables have the pages and the frames that were named, and the turns and the calls are counted
pub record IsSound (a : Inside) : Type 0 where
  pub page_places : length a.named_pages ≡ a.geometry.pages
  pub frame_places : length a.named_frames ≡ frame_count a.geometry
  pub pages : HasJust a.named_pages (map (λ p. p.page.0) a.start.items)
  pub frames : HasJust a.named_frames (map (λ p. p.frame.0) a.start.items)
  pub turns : a.turns ≡ turn_count a.named.items
  pub few_turns : a.turns ≤ 2 ^ 24
  pub calls : a.calls ≡ call_count (scripts a.owners)
  pub few_calls : a.calls ≤ 2 ^ 20
