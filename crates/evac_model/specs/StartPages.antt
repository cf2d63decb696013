-- What the pages of a start are.
use Rattle.std.specs.Prelude.{◌<◌, List, map, nat_eq}
use Rattle.std.specs.List.{AllByRecursion, IsDistinct}
use Rattle.evac_model.specs.declared.scenario.StartPage.{StartPage}
use Rattle.evac_model.specs.Geometry.{Sizes, IsThereAtStart}

-- a page of the machine, and a frame that is there at the start
pub record IsStartPage (s : Sizes) (p : StartPage) : Type 0 where
  pub page : p.page.0 < s.pages
  pub frame : IsThereAtStart s p.frame.0

-- start pages, each page and each frame once
pub record AreStartPages (s : Sizes) (start : List StartPage) : Type 0 where
  pub each : AllByRecursion (IsStartPage s) start
  pub pages : IsDistinct nat_eq (map (λ p. p.page.0) start)
  pub frames : IsDistinct nat_eq (map (λ p. p.frame.0) start)
