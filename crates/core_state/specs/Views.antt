-- What a view has: the page that it holds, its right to move, its frames in hand. Whatever is said of
-- all views together is said by counts, so that their order doesn't matter.
use Rattle.std.specs.Prelude.{◌≡◌, ◌⊎◌, ℕ, ◌<◌, ◌==◌, if◌then◌else◌, false, is_some, List, [], length, slice_get, slice_index_or, Option, Some, None, IfSome}
use Rattle.std.specs.Prelude.{IsSomeAnd}
use Rattle.std.specs.List.{sum_by, count_by}
use Rattle.evac_words.specs.Word.{mapped_bit, frame_of, bit_of}
use Rattle.core_state.specs.declared.hand.HandFrame.{HandFrame}
use Rattle.core_state.specs.declared.held.Held.{Held}
use Rattle.core_state.specs.declared.opening.Opening.{Opening}
use Rattle.core_state.specs.declared.view.View.{View}

-- the seat i has the view v
abbrev pub Has : List View → ℕ → View → Type 0
Has views i v = slice_get views i ≡ Some v

-- the view that a joined seat is left with
abbrev pub spent : View
spent = record {
  cells = 0;
  caller = None;
  entries = [];
  held = None;
  hand = [];
  unmarked = [];
  noticed = record { by_right = []; last = None; by_ticket = 0 };
  left = 0;
  seen = 0;
  mover = [];
  actions = record { made = []; leases_refused = []; isolations_refused = []; marked = false; known = 0; journal = None; under_way = false };
  scan = None;
}

-- the view of a seat
abbrev pub view_of : List View → ℕ → View
view_of views seat = slice_index_or views seat spent

-- A view of the machine, and not the spent one: it knows the number of cells, and has a place for each
-- frame in its hand and in the scanner's image.
pub record IsSeated (o : Opening) (v : View) : Type 0 where
  pub cells : v.cells ≡ o.cells
  pub hand : length v.hand ≡ o.frames
  pub image : IfSome v.scan (λ s. length s.image ≡ o.frames)

-- one where the held page is this one, else 0
abbrev pub holds_page : ℕ → Option Held → ℕ
holds_page page None = 0
holds_page page (Some h) = if h.page.0 == page then 1 else 0

-- how many views hold the page
abbrev pub holders : ℕ → List View → ℕ
holders page views = sum_by (λ v. holds_page page v.held) views

-- one where the view has the right to move the page, else 0
abbrev pub right_to : ℕ → View → ℕ
right_to page v = bit_of (slice_index_or v.mover page false)

-- how many views have the right to move the page
abbrev pub movers : ℕ → List View → ℕ
movers page views = sum_by (λ v. right_to page v) views

-- what the view knows of the frame, where it has it in hand
abbrev pub hand_frame : View → ℕ → Option HandFrame
hand_frame v frame = slice_index_or v.hand frame None

-- one where the view has the frame in hand, else 0
abbrev pub times_in_hand : ℕ → View → ℕ
times_in_hand frame v = bit_of (is_some (hand_frame v frame))

-- how many views have the frame in hand
abbrev pub times_in_hands : ℕ → List View → ℕ
times_in_hands frame views = sum_by (λ v. times_in_hand frame v) views

-- how often the frame is among those that the view wrote and hasn't marked
abbrev pub times_unmarked : ℕ → View → ℕ
times_unmarked frame v = count_by (λ x. x.0 == frame) v.unmarked

abbrev pub times_unmarked_in : ℕ → List View → ℕ
times_unmarked_in frame views = sum_by (λ v. times_unmarked frame v) views

-- one where the word maps the frame, else 0
abbrev pub maps_to : ℕ → ℕ → ℕ
maps_to frame w = if mapped_bit w == 1 then (if frame_of w == frame then 1 else 0) else 0

-- the frame is in the view's hand, or is that of the page that it holds
abbrev pub Owns : View → ℕ → Type 0
Owns v frame = (0 < times_in_hand frame v) ⊎ IsSomeAnd v.held (λ h. maps_to frame h.word ≡ 1)

-- one where the view has the journal of the frame space, as the one that keeps the free frames has, else 0
abbrev pub keeps_journal : View → ℕ
keeps_journal v = bit_of (is_some v.actions.journal)

-- one where the view is the scanner's, else 0
abbrev pub scans : View → ℕ
scans v = bit_of (is_some v.scan)
