-- What a frame in an owner's hand is out for.
use Rattle.std.specs.Prelude.{◌≡◌, ◌≢◌, ℕ, List, ◌∷◌, Option, Some, None}
use Rattle.evac_model.specs.declared.names.FrameNo.{FrameNo}
use Rattle.evac_model.specs.declared.names.Kind.{Kind}
use Rattle.evac_model.specs.declared.names.PageNo.{PageNo}
use Rattle.evac_model.specs.declared.call.Call.{Call}
use Rattle.evac_model.specs.declared.call.Call.TheVariants.{Alloc, Free}
use Rattle.evac_model.specs.SpaceJournal.{SpaceState, out_for}

-- a frame in an owner's hand is out: that of an alloc under way for its page and kind, that of a free under way
-- for its page, and one to be given back for some page
abbrev pub IsOutForCall : SpaceState → List (PageNo × Call) → (back : Option FrameNo) → (frame : ℕ) → Type 0
IsOutForCall st ((page, Alloc kind) ∷ cs) None frame = out_for st frame ≡ Some (record { page = page.0; kind = kind })
IsOutForCall st ((page, Free) ∷ cs) None frame = (kind : Kind) × (out_for st frame ≡ Some (record { page = page.0; kind = kind }))
IsOutForCall st calls back frame = out_for st frame ≢ None
