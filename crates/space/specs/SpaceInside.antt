-- How a space is kept: what the free runs, the marks and the caches have is what its journal leaves.
use Rattle.std.specs.Prelude.{◌≡◌, ℕ, ◌+◌, ◌*◌, ◌<◌, true, false, ◌&&◌, not, List, length, None, Some}
use Rattle.std.specs.List.{list_any, concat, count_by}
use Rattle.std.specs.Option.{is_some}
use Rattle.evac_model.specs.declared.names.Kind.{Kind}
use Rattle.evac_model.specs.declared.names.Kind.TheVariants.{Movable}
use Rattle.evac_model.specs.Geometry.{Sizes, frame_count}
use Rattle.evac_model.specs.Numbers.{numbers_where, is_in, AreDistinct, IsRisingBelow}
use Rattle.evac_model.specs.FreeRuns.{fits}
use Rattle.evac_model.specs.SpaceJournal.{SpaceState, Out, out_for, is_frame_in, free_frames}
use Rattle.buddy.specs.FreeFrames.{FreeFrames}
use Rattle.frame_cache.specs.Drains.{AreCaches}

-- the frames of isolated blocks that aren't out
abbrev pub aside_frames : Sizes → SpaceState → List ℕ
aside_frames s st =
    numbers_where (λ frame. not (is_some (out_for st frame)) && is_frame_in s st.isolated frame) (frame_count s)

-- what the runs have
abbrev pub runs_of : Sizes → (online : Kind) → SpaceState → FreeFrames
runs_of s online st = record {
  sizes = s;
  online = online;
  free = free_frames s st;
  aside = aside_frames s st;
  withdrawn = st.isolated;
}

-- What always holds of a space: a cached frame is in one cache, once, and is neither out nor in an isolated
-- block; a frame that is out lies in a block that takes its kind, and is movable where the block is isolated;
-- offline blocks are isolated, and none of their frames is out.
pub record IsSpace (s : Sizes) (online : Kind) (st : SpaceState) : Type 0 where
  pub out : length st.out ≡ frame_count s
  pub isolated : IsRisingBelow s.managed st.isolated
  pub offline : IsRisingBelow s.managed st.offline
  pub offline_isolated : (block : ℕ) → is_in block st.offline ≡ true → is_in block st.isolated ≡ true
  pub emptied : (frame : ℕ) → is_frame_in s st.offline frame ≡ true → out_for st frame ≡ None
  pub fitting : (frame : ℕ) (x : Out) → out_for st frame ≡ Some x → fits s online x.kind frame ≡ true
  pub isolated_movable : (frame : ℕ) (x : Out) → is_frame_in s st.isolated frame ≡ true → out_for st frame ≡ Some x → x.kind ≡ Movable
  pub caches : AreCaches st.caches
  pub distinct : AreDistinct (concat st.caches)
  pub cached_there : (frame : ℕ) → list_any (is_in frame) st.caches ≡ true → frame < frame_count s
  pub cached_not_out : (frame : ℕ) → list_any (is_in frame) st.caches ≡ true → out_for st frame ≡ None
  pub cached_not_isolated : (frame : ℕ) → list_any (is_in frame) st.caches ≡ true → is_frame_in s st.isolated frame ≡ false

-- The actions that may follow without another lease or isolation: a return for each frame out, an undo, or
-- an offline and an online, for each isolated block, and an online for each offline one.
abbrev pub IsOwed : SpaceState → (owed : ℕ) → Type 0
IsOwed st owed = owed + length st.offline ≡ count_by is_some st.out + 2 * length st.isolated
