-- How a core is opened: what the run begins with, the words, and the view of each seat.
use Rattle.std.specs.Prelude.{ℕ, ◌+◌, ◌-◌, ◌*◌, Bool, true, List, [], ◌∷◌, ◌++◌, replicate, slice_set, sum, Option, Some, None}
use Rattle.evac_model.specs.declared.names.FrameNo.{FrameNo}
use Rattle.evac_model.specs.declared.scenario.StartPage.{StartPage}
use Rattle.evac_model.specs.declared.space.SpaceAction.{SpaceAction}
use Rattle.evac_model.specs.Geometry.{Sizes, frame_count}
use Rattle.evac_model.specs.Page.{Page, new_page}
use Rattle.evac_words.specs.Table.{entry_index, table_length}
use Rattle.core_state.specs.declared.hand.HandFrame.{HandFrame}
use Rattle.core_state.specs.declared.opening.Opening.{Opening}
use Rattle.core_state.specs.declared.room.CellRoom.{CellRoom}
use Rattle.core_state.specs.declared.scan.Scan.{Scan}
use Rattle.core_state.specs.declared.view.View.{View}
use Rattle.core_state.specs.Words.{mapped_word}
use Rattle.core_state.specs.Copies.{nothing_copied}
use Rattle.core_state.specs.Views.{spent}
use Rattle.core_state.specs.Steps.{nothing_known}

-- the start pages by their numbers, with zeros and no pins; the others are unmapped
abbrev pub start_pages : Sizes → List StartPage → List Page
start_pages s [] = replicate s.pages None
start_pages s (p ∷ ps) = slice_set (start_pages s ps) p.page.0 (Some (new_page s.cells p.kind))

-- the first ticket and all bounds are 0, and the budget is that of all owners
abbrev pub opening_of : Sizes → List StartPage → List ℕ → Opening
opening_of s start budgets = record {
  cells = s.cells;
  frames = frame_count s;
  pages = s.pages;
  first = 0;
  budget = sum budgets;
  bounds = replicate s.pages 0;
  start = start_pages s start;
}

-- the entry word of a start page says its frame and its kind; all other words are 0
abbrev pub opening_words : Sizes → List StartPage → List ℕ
opening_words s [] = replicate (table_length s.pages (frame_count s) s.cells) 0
opening_words s (p ∷ ps) = slice_set (opening_words s ps) (entry_index p.page.0) (mapped_word 0 p.frame.0 p.kind)

-- ---- hands

-- the frames of the boot blocks and of the blocks that are plugged at the start
abbrev pub frames_there : Sizes → ℕ
frames_there s = (s.boot + s.plugged) * s.block

-- a frame in hand in which nothing was stored
abbrev pub fresh_frame : ℕ → HandFrame
fresh_frame cells = record { stores = nothing_known cells; aim = None }

-- so many places without a frame, and so many with one
abbrev pub empty_places : ℕ → List (Option HandFrame)
empty_places n = replicate n None

abbrev pub fresh_places : ℕ → ℕ → List (Option HandFrame)
fresh_places cells n = replicate n (Some (fresh_frame cells))

-- the frames that are there, without those of the start pages
abbrev pub free_hand : Sizes → List StartPage → List (Option HandFrame)
free_hand s [] = fresh_places s.cells (frames_there s) ++ empty_places (frame_count s - frames_there s)
free_hand s (p ∷ ps) = slice_set (free_hand s ps) p.frame.0 None

-- the frames that aren't there
abbrev pub unplugged_hand : Sizes → List (Option HandFrame)
unplugged_hand s = empty_places (frames_there s) ++ fresh_places s.cells (frame_count s - frames_there s)

-- ---- seats

-- a seat that has done nothing
abbrev pub new_view : Sizes → Option ℕ → ℕ → List Bool → List (Option HandFrame) → Option Scan → View
new_view s caller left mover hand scan = record spent { cells = s.cells; caller = caller; hand = hand; left = left; mover = mover; scan = scan }

-- the driver has the right to move every page
abbrev pub driver_view : Sizes → View
driver_view s = new_view s (Some 0) 0 (replicate s.pages true) (empty_places (frame_count s)) None

abbrev pub owner_view : Sizes → ℕ → ℕ → View
owner_view s owner left = new_view s (Some owner) left [] (empty_places (frame_count s)) None

-- the owners from a number on, with their budgets
abbrev pub owner_views : Sizes → ℕ → List ℕ → List View
owner_views s owner [] = []
owner_views s owner (n ∷ ns) = owner_view s owner n ∷ owner_views s (owner + 1) ns

abbrev pub new_scan : Sizes → Scan
new_scan s = record { at = None; image = replicate (frame_count s) (nothing_copied s.cells); swept = []; passes = 0 }

abbrev pub scanner_view : Sizes → View
scanner_view s = new_view s None 0 [] (empty_places (frame_count s)) (Some (new_scan s))

-- a seat that keeps frames, and the journal of the frame space where it keeps the free ones
abbrev pub keeper_view : Sizes → Option (List SpaceAction) → List (Option HandFrame) → View
keeper_view s journal hand = record (new_view s None 0 [] hand None) { actions = record spent.actions { journal = journal } }

-- who keeps frames at the start
abbrev pub keeper_views : Sizes → List StartPage → List View
keeper_views s start = keeper_view s (Some []) (free_hand s start) ∷ keeper_view s None (unplugged_hand s) ∷ []

-- the seats in order: the driver, the owners, the scanner, and who keeps the free and the unplugged frames
abbrev pub opening_views : Sizes → List StartPage → List ℕ → List View
opening_views s start budgets = driver_view s ∷ (owner_views s 1 budgets ++ scanner_view s ∷ keeper_views s start)

-- ---- memory

-- a node that no list uses
abbrev pub unused_node : List FrameNo
unused_node = record { 0 = 0 } ∷ []

-- places for cells that no seat uses
abbrev pub unused_cells : ℕ → CellRoom
unused_cells cells = record { loads = nothing_known cells; stores = nothing_known cells }

-- places for the cells of each frame that a start page has, and no places for the others
abbrev pub spare_at_start : Sizes → List StartPage → List (Option (List (Option ℕ)))
spare_at_start s [] = replicate (frame_count s) None
spare_at_start s (p ∷ ps) = slice_set (spare_at_start s ps) p.frame.0 (Some (nothing_known s.cells))
