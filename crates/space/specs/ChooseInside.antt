-- What the free runs and the caches show of a space, before and behind a lease.
use Rattle.std.specs.Prelude.{◌≡◌, ℕ, List, Option}
use Rattle.std.specs.Option.{option_map}
use Rattle.evac_model.specs.declared.names.Kind.{Kind}
use Rattle.evac_model.specs.declared.names.FrameNo.{FrameNo}
use Rattle.evac_model.specs.Geometry.{Sizes}
use Rattle.evac_model.specs.SpaceJournal.{SpaceState, Leased, after_lease}
use Rattle.buddy.specs.FreeFrames.{FreeFrames}
use Rattle.space.specs.SpaceInside.{IsSpace, runs_of}

-- the runs and the caches are those of a space
pub record AreOfSpace (st : SpaceState) (runs : FreeFrames) (caches : List (List ℕ)) : Type 0 where
  pub space : IsSpace runs.sizes runs.online st
  pub free : runs ≡ runs_of runs.sizes runs.online st
  pub cached : caches ≡ st.caches

-- the frame of a lease, and the runs and the caches behind it; or none, and both as they were
pub record IsBehindLease (s : Sizes) (online : Kind) (st : SpaceState) (kind : Kind) (lease : Option Leased) (frame : Option FrameNo) (runs : FreeFrames) (caches : List (List ℕ)) : Type 0 where
  pub leased : frame ≡ option_map (λ l. record { 0 = l.frame }) lease
  pub free : runs ≡ runs_of s online (after_lease st lease 0 kind)
  pub cached : caches ≡ (after_lease st lease 0 kind).caches
