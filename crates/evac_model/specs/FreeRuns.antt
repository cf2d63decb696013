-- The free runs of a machine's free frames, and which of them a lease is taken from. Nothing here says how
-- they are kept.
use Rattle.std.specs.Prelude.{ℕ, ◌+◌, ◌*◌, ◌-◌, ◌%◌, ◌^◌, Bool, ◌==◌, ◌&&◌, ◌||◌, not, nat_le, nat_lt, List, filter, flat_map, Option}
use Rattle.std.specs.List.{range_with_len, list_all, slice_get}
use Rattle.evac_model.specs.declared.names.Kind.{Kind}
use Rattle.evac_model.specs.Geometry.{Sizes, frame_count}
use Rattle.evac_model.specs.Numbers.{numbers_where, is_in}
use Rattle.evac_model.specs.Page.{is_movable}

-- Whether the frame's block takes pages of a kind: every block takes movable ones, boot blocks take
-- unmovable ones too, and so do managed blocks where they are online for them.
abbrev pub fits : Sizes → (online kind : Kind) → (frame : ℕ) → Bool
fits s online kind frame = is_movable kind || not (is_movable online) || nat_lt frame (s.boot * s.block)

-- a run of order k is 2^k frames from a multiple of 2^k on, all of them in one block
abbrev pub is_run : Sizes → (order first : ℕ) → Bool
is_run s order first = first % 2 ^ order == 0 && nat_le (2 ^ order) s.block && nat_lt first (frame_count s)

-- a run whose frames are all free
abbrev pub is_all_free : Sizes → List ℕ → (order first : ℕ) → Bool
is_all_free s free order first =
    is_run s order first && list_all (λ frame. is_in frame free) (range_with_len first (2 ^ order))

-- a free run: its frames are all free, and those of the run of the next order around it aren't, so that
-- it lies in no longer one
abbrev pub is_free_run : Sizes → List ℕ → (order first : ℕ) → Bool
is_free_run s free order first =
    is_all_free s free order first && not (is_all_free s free (order + 1) (first - first % 2 ^ (order + 1)))

-- the first frames of the free runs of an order, rising
abbrev pub free_runs : Sizes → List ℕ → (order : ℕ) → List ℕ
free_runs s free order = numbers_where (is_free_run s free order) (frame_count s)

-- the free runs of at least that order, in blocks that take the kind: the smaller first, and of one order
-- the lower first; a block's order is at most 9
abbrev pub runs_for : Sizes → (online : Kind) → List ℕ → (order : ℕ) → (kind : Kind) → List ℕ
runs_for s online free order kind =
    filter (fits s online kind) (flat_map (free_runs s free) (range_with_len order 10))

-- the first frame of the run that is chosen, if there is one
abbrev pub chosen_run : Sizes → (online : Kind) → List ℕ → (order : ℕ) → (kind : Kind) → Option ℕ
chosen_run s online free order kind = slice_get (runs_for s online free order kind) 0
