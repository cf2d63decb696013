-- The memory that a core keeps ready, so that no step takes any.
use Rattle.std.specs.Prelude.{◌≡◌, ℕ, ◌+◌, ◌*◌, ◌^◌, ◌<◌, ◌≤◌, List, [], length, slice_index_or, Option, Some, None, is_some, false}
use Rattle.std.specs.Prelude.{IsSomeAnd}
use Rattle.std.specs.List.{sum_by}
use Rattle.evac_model.specs.declared.names.FrameNo.{FrameNo}
use Rattle.evac_words.specs.Word.{bit_of}
use Rattle.core_state.specs.declared.held.Held.{Held}
use Rattle.core_state.specs.declared.opening.Opening.{Opening}
use Rattle.core_state.specs.declared.room.CellRoom.{CellRoom}
use Rattle.core_state.specs.declared.room.Room.{Room}
use Rattle.core_state.specs.declared.scan.Scan.{Scan}
use Rattle.core_state.specs.declared.scan.Swept.{Swept}
use Rattle.core_state.specs.declared.view.View.{View}
use Rattle.core_state.specs.Image.{copy_at, copy_of}
use Rattle.core_state.specs.ScanSteps.{begins_pass}
use Rattle.core_state.specs.Views.{Has, times_in_hands, times_unmarked_in}

-- one where a ticket was drawn for the held page, else 0
abbrev pub drawn_for : Option Held → ℕ
drawn_for None = 0
drawn_for (Some h) = bit_of (is_some h.ticket)

-- the entries that the view may still get: one for each ticket left, and one for a ticket drawn
abbrev pub due_of : View → ℕ
due_of v = v.left + drawn_for v.held

-- the nodes that are kept for a frame
abbrev pub nodes_of : Room → ℕ → List FrameNo
nodes_of r frame = slice_index_or r.unmarked frame []

-- the places for cells that are kept for a seat
abbrev pub cells_for : Room → ℕ → Option CellRoom
cells_for r seat = slice_index_or r.cells seat None

-- the places for cells that are kept for a frame
abbrev pub spare_for : Room → ℕ → Option (List (Option ℕ))
spare_for r frame = slice_index_or r.spare frame None

-- how many frames were swept in the pass under way
abbrev pub swept_in : Option Scan → ℕ
swept_in None = 0
swept_in (Some s) = length s.swept

-- how many frames there are up to the one that was swept last
abbrev pub come_to : Option FrameNo → ℕ
come_to None = 0
come_to (Some at) = at.0 + 1

-- A node for the frame that is swept next: in a new pass there is one among those of the last.
pub record HasNode (pool : List Swept) (frame : ℕ) (s : Scan) : Type 0 where
  pub some : 0 < length pool + length s.swept
  pub next : begins_pass s.at frame ≡ false → 0 < length pool
  pub short : length pool + length s.swept < 2 ^ 62

-- a place in the copy of the frame swept last
abbrev pub HasPlace : Scan → Type 0
HasPlace s = IsSomeAnd s.at (λ at. (at.0 < length s.image) × (length (copy_of s at.0) < (copy_at s at.0).places))

-- places for the cells of a page
pub record IsCellRoom (n : ℕ) (c : CellRoom) : Type 0 where
  pub loads : length c.loads ≡ n
  pub stores : length c.stores ≡ n

-- the places of the table can be counted in 32 bits
pub record IsSmall (o : Opening) : Type 0 where
  pub pages : o.pages ≤ 65536
  pub frames : o.frames ≤ 65536
  pub cells : o.frames * o.cells ≤ 2 ^ 22

-- There is a node for each entry to come, a node for each frame that no view has unmarked, and one for each
-- frame that wasn't swept in the pass under way. A seat that holds no page has places for the cells of one,
-- and so has a frame that is in no hand. No list is longer than a number of 64 bits says.
pub record HasRoom (o : Opening) (views : List View) (r : Room) : Type 0 where
  pub small : IsSmall o
  pub entries : sum_by due_of views ≤ length r.entries
  pub entries_short : sum_by (λ v. length v.entries) views + length r.entries < 2 ^ 34
  pub notices_short : sum_by (λ v. length v.noticed.by_right) views + length r.notices ≤ r.notices_made
  pub notices_made : r.notices_made ≤ 2 ^ 62
  pub frames : length r.unmarked ≡ o.frames
  pub nodes : (frame : ℕ) → frame < o.frames → length (nodes_of r frame) + times_unmarked_in frame views ≡ 1
  pub nodes_short : sum_by (λ v. length v.unmarked) views + sum_by (λ l. length l) r.unmarked < 2 ^ 34
  pub seats : length r.cells ≡ length views
  pub free : (seat : ℕ) (v : View) → Has views seat v → v.held ≡ None → IsSomeAnd (cells_for r seat) (IsCellRoom o.cells)
  pub spares : length r.spare ≡ o.frames
  pub spare : (frame : ℕ) → frame < o.frames → times_in_hands frame views ≡ 0 → IsSomeAnd (spare_for r frame) (λ known. length known ≡ o.cells)
  pub swept : sum_by (λ v. swept_in v.scan) views + length r.swept ≡ o.frames
  pub swept_low : (seat : ℕ) (v : View) (s : Scan) → Has views seat v → v.scan ≡ Some s → length s.swept ≤ come_to s.at
