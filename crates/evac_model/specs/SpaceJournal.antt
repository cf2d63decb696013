-- The frame space as the fold of its journal: who has which frame, which blocks are isolated and offline,
-- what the caches hold, and which actions are possible.
use Rattle.std.specs.Prelude.{◌≡◌, ◌≢◌, ℕ, ◌+◌, ◌-◌, ◌^◌, ◌<◌, ◌≤◌, Bool, true, false, ◌==◌, ◌&&◌, ◌||◌, not, if◌then◌else◌, List, [], ◌∷◌, map, filter, take, replicate, slice_index_or, slice_set, Option, None, Some}
use Rattle.std.specs.List.{range_with_len, list_any}
use Rattle.std.specs.Option.{option_or, is_some}
use Rattle.evac_model.specs.declared.names.Kind.{Kind}
use Rattle.evac_model.specs.declared.names.Kind.TheVariants.{Movable, Unmovable}
use Rattle.evac_model.specs.declared.scenario.StartPage.{StartPage}
use Rattle.evac_model.specs.declared.space.SpaceAction.{SpaceAction}
use Rattle.evac_model.specs.declared.space.SpaceAction.TheVariants.{Lease, MoveLease, Return, Isolate, Undo, Offline, Online}
use Rattle.evac_model.specs.Geometry.{Sizes, frame_count, first_frame}
use Rattle.evac_model.specs.Numbers.{numbers_where, is_in, is_between}
use Rattle.evac_model.specs.FreeRuns.{fits, chosen_run}

-- the page that a frame is out for, leased or mapped, and its kind
pub record Out : Type 0 where
  pub page : ℕ
  pub kind : Kind

-- A space: what each frame is out for, the isolated blocks and the offline ones (which are isolated, too),
-- both rising, and the cache of each caller, the frame put last standing first. All other frames are free.
pub record SpaceState : Type 0 where
  pub out : List (Option Out)
  pub isolated : List ℕ
  pub offline : List ℕ
  pub caches : List (List ℕ)

abbrev pub out_for : SpaceState → (frame : ℕ) → Option Out
out_for st frame = slice_index_or st.out frame None

-- whether a frame is of a managed block
abbrev pub is_frame_of : Sizes → (block frame : ℕ) → Bool
is_frame_of s block frame = is_between (first_frame s block) (first_frame s block + s.block) frame

-- whether a frame is of one of those managed blocks
abbrev pub is_frame_in : Sizes → (blocks : List ℕ) → (frame : ℕ) → Bool
is_frame_in s blocks frame = list_any (λ block. is_frame_of s block frame) blocks

-- the free frames outside caches and isolated blocks, rising
abbrev pub free_frames : Sizes → SpaceState → List ℕ
free_frames s st =
    numbers_where (λ frame. not (is_some (out_for st frame)) && not (is_frame_in s st.isolated frame) && not (list_any (is_in frame) st.caches)) (frame_count s)

-- a frame that a lease for a page of the kind may give: of a block that takes it, not out, and in no isolated
-- block
pub record IsLeasable (s : Sizes) (online : Kind) (st : SpaceState) (kind : Kind) (frame : ℕ) : Type 0 where
  pub there : frame < frame_count s
  pub fitting : fits s online kind frame ≡ true
  pub not_out : out_for st frame ≡ None
  pub not_isolated : is_frame_in s st.isolated frame ≡ false

-- a lease: the frame, and the caches behind it
pub record Leased : Type 0 where
  pub frame : ℕ
  pub caches : List (List ℕ)

-- a lease from the caller's own cache: the frame put last
abbrev pub from_cache : List (List ℕ) → (who : ℕ) → List ℕ → Option Leased
from_cache caches who [] = None
from_cache caches who (frame ∷ rest) = Some (record { frame = frame; caches = slice_set caches who rest })

-- a lease from a run of that order: its lowest frame, and the others go into the caller's empty cache, in
-- falling order
abbrev pub from_run : List (List ℕ) → (who order : ℕ) → Option ℕ → Option Leased
from_run caches who order None = None
from_run caches who order (Some first) =
    Some (record { frame = first; caches = slice_set caches who (range_with_len (first + 1) (2 ^ order - 1)) })

-- a lease from a run of order 2, else of order 1, else of order 0
abbrev pub from_runs : Sizes → (online : Kind) → SpaceState → (who : ℕ) → Option Leased
from_runs s online st who =
    let run : ℕ → Option Leased = λ order. from_run st.caches who order (chosen_run s online (free_frames s st) order Movable) in
    option_or (run 2) (option_or (run 1) (run 0))

-- a space whose caches are without the frames of blocks that take a kind
abbrev pub drained : Sizes → (online kind : Kind) → SpaceState → SpaceState
drained s online kind st = record st { caches = map (filter (λ frame. not (fits s online kind frame))) st.caches }

-- a lease for a movable page: from the caller's cache, else from the runs, else from the runs once all
-- caches are drained
abbrev pub movable_lease : Sizes → (online : Kind) → SpaceState → (who : ℕ) → Option Leased
movable_lease s online st who =
    option_or (from_cache st.caches who (slice_index_or st.caches who []))
    (option_or (from_runs s online st who) (from_runs s online (drained s online Movable st) who))

-- a run of one frame, and the caches as they are
abbrev pub one_frame : List (List ℕ) → Option ℕ → Option Leased
one_frame caches None = None
one_frame caches (Some frame) = Some (record { frame = frame; caches = caches })

-- a lease for an unmovable page: from the runs of kernel blocks, else from them once their frames are
-- drained from all caches
abbrev pub kernel_run : Sizes → (online : Kind) → SpaceState → Option Leased
kernel_run s online st = one_frame st.caches (chosen_run s online (free_frames s st) 0 Unmovable)

abbrev pub lease_of : Sizes → (online : Kind) → SpaceState → (who : ℕ) → (kind : Kind) → Option Leased
lease_of s online st who Movable = movable_lease s online st who
lease_of s online st who Unmovable =
    option_or (kernel_run s online st) (kernel_run s online (drained s online Unmovable st))

-- the space behind a lease
abbrev pub after_lease : SpaceState → Option Leased → (page : ℕ) → (kind : Kind) → SpaceState
after_lease st None page kind = st
after_lease st (Some l) page kind =
    record st { out = slice_set st.out l.frame (Some (record { page = page; kind = kind })); caches = l.caches }

-- the caches behind a frame given back: the caller's cache holds 8 frames, and a ninth pushes out the one
-- that was put first
abbrev pub put_back : List (List ℕ) → (who frame : ℕ) → List (List ℕ)
put_back caches who frame = slice_set caches who (take 8 (frame ∷ slice_index_or caches who []))

-- a frame given back in an isolated block stays there
abbrev pub caches_after_return : Bool → List (List ℕ) → (who frame : ℕ) → List (List ℕ)
caches_after_return true caches who frame = caches
caches_after_return false caches who frame = put_back caches who frame

-- blocks with one more, and without one
abbrev pub with_block : Sizes → (block : ℕ) → List ℕ → List ℕ
with_block s block blocks = numbers_where (λ b. is_in b blocks || b == block) s.managed

abbrev pub without_block : (block : ℕ) → List ℕ → List ℕ
without_block block blocks = filter (λ b. not (b == block)) blocks

-- the space behind an action; the undo of an isolation frees all frames of the block that aren't out
abbrev pub after_action : Sizes → (online : Kind) → SpaceState → SpaceAction → SpaceState
after_action s online st (Lease who frame page kind) = after_lease st (lease_of s online st who kind) page.0 kind
after_action s online st (MoveLease frame page) = after_lease st (lease_of s online st 0 Movable) page.0 Movable
after_action s online st (Return who frame) =
    record st {
      out = slice_set st.out frame.0 None;
      caches = caches_after_return (is_frame_in s st.isolated frame.0) st.caches who frame.0;
    }
after_action s online st (Isolate block) =
    record st {
      isolated = with_block s block.0 st.isolated;
      caches = map (filter (λ frame. not (is_frame_of s block.0 frame))) st.caches;
    }
after_action s online st (Undo block) = record st { isolated = without_block block.0 st.isolated }
after_action s online st (Offline block) = record st { offline = with_block s block.0 st.offline }
after_action s online st (Online block) =
    record st { isolated = without_block block.0 st.isolated; offline = without_block block.0 st.offline }

-- the space behind a journal
abbrev pub space_after : Sizes → (online : Kind) → SpaceState → List SpaceAction → SpaceState
space_after s online st [] = st
space_after s online st (a ∷ actions) = space_after s online (after_action s online st a) actions

-- the frame leased is the one that the rules choose
abbrev pub Chooses : Option Leased → (frame : ℕ) → Type 0
Chooses None frame = ⊥
Chooses (Some l) frame = l.frame ≡ frame

-- no frame of a block is out, or none for an unmovable page
abbrev pub IsEmptied : Sizes → SpaceState → (block : ℕ) → Type 0
IsEmptied s st block = (frame : ℕ) → is_frame_of s block frame ≡ true → out_for st frame ≡ None

abbrev pub HasMovableAlone : Sizes → SpaceState → (block : ℕ) → Type 0
HasMovableAlone s st block =
    (frame page : ℕ) → is_frame_of s block frame ≡ true → out_for st frame ≢ Some (record { page = page; kind = Unmovable })

-- some isolated block has a frame out for the page
pub record IsOutInIsolated (s : Sizes) (st : SpaceState) (page : ℕ) : Type 0 where
  pub frame : ℕ
  pub kind : Kind
  pub isolated : is_frame_in s st.isolated frame ≡ true
  pub out : out_for st frame ≡ Some (record { page = page; kind = kind })

-- an action that the space may take
abbrev pub IsPossible : Sizes → (online : Kind) → SpaceState → SpaceAction → Type 0
IsPossible s online st (Lease who frame page kind) =
    (who ≤ 16) × (page.0 < s.pages) × Chooses (lease_of s online st who kind) frame.0
IsPossible s online st (MoveLease frame page) =
    IsOutInIsolated s st page.0 × Chooses (lease_of s online st 0 Movable) frame.0
IsPossible s online st (Return who frame) = (who ≤ 16) × (out_for st frame.0 ≢ None)
IsPossible s online st (Isolate block) =
    (block.0 < s.managed) × (is_in block.0 st.isolated ≡ false) × HasMovableAlone s st block.0
IsPossible s online st (Undo block) = (is_in block.0 st.isolated ≡ true) × (is_in block.0 st.offline ≡ false)
IsPossible s online st (Offline block) =
    (is_in block.0 st.isolated ≡ true) × (is_in block.0 st.offline ≡ false) × IsEmptied s st block.0
IsPossible s online st (Online block) = is_in block.0 st.offline ≡ true

-- each action is possible behind those before it
abbrev pub IsPossibleJournal : Sizes → (online : Kind) → SpaceState → List SpaceAction → Type 0
IsPossibleJournal s online st [] = Unit {0}
IsPossibleJournal s online st (a ∷ actions) =
    IsPossible s online st a × IsPossibleJournal s online (after_action s online st a) actions

-- the space at a scenario's start: the start pages' frames are out, the blocks that aren't plugged are
-- offline, and the 17 caches are empty
abbrev pub out_at_start : List StartPage → (frame : ℕ) → Option Out
out_at_start [] frame = None
out_at_start (p ∷ start) frame =
    if p.frame.0 == frame then Some (record { page = p.page.0; kind = p.kind }) else out_at_start start frame

abbrev pub space_at_start : Sizes → List StartPage → SpaceState
space_at_start s start = record {
  out = map (out_at_start start) (range_with_len 0 (frame_count s));
  isolated = range_with_len s.plugged (s.managed - s.plugged);
  offline = range_with_len s.plugged (s.managed - s.plugged);
  caches = replicate 17 [];
}
