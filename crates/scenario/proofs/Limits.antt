-- A geometry with a broken limit is none.
use Rattle.std.proofs.Common.{◌≡◌, ℕ, Option, Result, Ok, Err, MatchResult, refl}
use Rattle.std.specs.Prelude.{MatchOption}
use Rattle.std.specs.Result.{result_ok}
use Rattle.evac_model.specs.declared.geometry.GeometryFault.{GeometryFault}
use Rattle.evac_model.specs.declared.geometry.GeometryFault.TheVariants.{Cells, Block, Boot, Managed, Plugged, Pages, Frames, TotalCells}
use Rattle.evac_model.specs.Geometry.{Sizes, IsWithinLimits, BreaksFirst}

pub broken : (s : Sizes) (f : GeometryFault) → BreaksFirst s f → ¬ IsWithinLimits s
broken s Cells h w = h.1 w.cells
broken s Block h w = h.1 w.block
broken s Boot h w = h.1 w.boot
broken s Managed h w = h.1 w.managed
broken s Plugged h w = h.1 w.plugged
broken s Pages h w = h.1 w.pages
broken s Frames h w = h.1 w.frames
broken s TotalCells h w = h.1 w.total_cells

pub kept_or_broken : (s : Sizes) (r : Result Sizes GeometryFault) (o : Option Sizes) → o ≡ result_ok r → MatchResult r (λ g. (g ≡ s) × IsWithinLimits s) (λ f. BreaksFirst s f) → MatchOption o (¬ IsWithinLimits s) (λ g. (g ≡ s) × IsWithinLimits s)
kept_or_broken s (Ok g) o e h = rw e h
kept_or_broken s (Err f) o e h = rw e (broken s f h)

pub same_sizes : (s : Sizes) (cells block boot managed plugged pages : ℕ) → cells ≡ s.cells → block ≡ s.block → boot ≡ s.boot → managed ≡ s.managed → plugged ≡ s.plugged → pages ≡ s.pages → s ≡ record { cells = cells; block = block; boot = boot; managed = managed; plugged = plugged; pages = pages }
same_sizes s cells block boot managed plugged pages e0 e1 e2 e3 e4 e5 = rw (e0, e1, e2, e3, e4, e5) refl
