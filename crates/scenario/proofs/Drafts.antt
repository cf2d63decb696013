-- What a sound draft knows of the pages that were named.
use Rattle.std.proofs.Common.{◌≡◌, true, false, map, subst}
use Rattle.std.specs.Prelude.{slice_index_or}
use Rattle.evac_model.specs.declared.scenario.StartPage.{StartPage}
use Rattle.evac_model.specs.declared.scenario.Scenario.{Scenario}
use Rattle.evac_model.specs.ScenarioGrammar.{IsFreeFor}
use Rattle.scenario.specs.declared.draft.Draft.TheInside.{Inside}
use Rattle.scenario.specs.Drafts.{scenario_of, IsSound}
use Rattle.scenario.proofs.Tables.{has}

pub page_named : (a : Inside) (s : Scenario) (p : StartPage) → IsSound a → scenario_of a ≡ s → slice_index_or a.named_pages p.page.0 false ≡ true → ¬ IsFreeFor s p
page_named a s p sound e h = subst (λ (t : Scenario). ¬ IsFreeFor t p) e (λ free. free.page (has a.named_pages (map (λ q. q.page.0) a.start.items) p.page.0 sound.pages h))

pub frame_named : (a : Inside) (s : Scenario) (p : StartPage) → IsSound a → scenario_of a ≡ s → slice_index_or a.named_frames p.frame.0 false ≡ true → ¬ IsFreeFor s p
frame_named a s p sound e h = subst (λ (t : Scenario). ¬ IsFreeFor t p) e (λ free. free.frame (has a.named_frames (map (λ q. q.frame.0) a.start.items) p.frame.0 sound.frames h))
