-- What frames are out for.
use Rattle.std.specs.Prelude.{◌≡◌, ℕ, ◌<◌, Some}
use Rattle.evac_model.specs.Geometry.{Sizes}
use Rattle.evac_model.specs.SpaceJournal.{SpaceState, Out, out_for}

-- each frame that is out is so for a page of the machine
abbrev pub NamesPages : Sizes → SpaceState → Type 0
NamesPages s st = (frame : ℕ) (o : Out) → out_for st frame ≡ Some o → o.page < s.pages
