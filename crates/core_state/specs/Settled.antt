-- When the call on a held page is settled, said of the word found, and cell by cell of what was loaded and
-- stored. `Answered` and `Untouched` say the same of every page that may have been taken.
use Rattle.std.specs.Prelude.{◌≡◌, ◌⊎◌, ℕ, ◌+◌, ◌-◌, ◌%◌, ◌^◌, ◌<◌, ◌≤◌, min, ltb, ◌==◌, if◌then◌else◌, List, [], length, slice_get, slice_index, slice_index_or, Option, Some, None}
use Rattle.evac_model.specs.declared.names.Kind.{Kind}
use Rattle.evac_model.specs.declared.call.Call.{Call}
use Rattle.evac_model.specs.declared.call.Call.TheVariants.{Alloc, Free, Read, Write, Add, Pin, Unpin}
use Rattle.evac_model.specs.declared.reply.Reply.{Reply}
use Rattle.evac_model.specs.declared.reply.Reply.TheVariants.{Done, Values, Old, Mapped as PageMapped, NotMapped, Pinned, PinLimit, NotPinned, NoFrame}
use Rattle.evac_model.specs.Page.{Page}
use Rattle.evac_words.specs.Word.{mapped_bit, pins_of}
use Rattle.core_state.specs.declared.held.Change.{Change}
use Rattle.core_state.specs.declared.held.Change.TheVariants.{Kept, Moved, Mapped, Unmapped}
use Rattle.core_state.specs.declared.held.Held.{Held}
use Rattle.core_state.specs.declared.opening.Opening.{Opening}
use Rattle.core_state.specs.declared.view.View.{View}
use Rattle.core_state.specs.Words.{kind_in}
use Rattle.core_state.specs.Pages.{CouldBe}
use Rattle.core_state.specs.MoveSteps.{or_known}

-- ---- one cell

-- what a load says of the cell of the page as it was taken: nothing, once the page has another mapping
abbrev pub taken_from : Change → Option ℕ → Option ℕ
taken_from Kept loaded = loaded
taken_from Moved loaded = loaded
taken_from (Mapped kind) loaded = None
taken_from Unmapped loaded = None

-- what the cell has before any store: what was loaded, or 0 in a frame of zeros
abbrev pub before_stores : Change → Option ℕ → Option ℕ
before_stores Kept loaded = loaded
before_stores Moved loaded = loaded
before_stores (Mapped kind) loaded = Some 0
before_stores Unmapped loaded = None

-- the cell is left as it was taken: nothing was stored, or the very value that was loaded
abbrev pub IsCellKept : Change → Option ℕ → Option ℕ → Type 0
IsCellKept Kept stored loaded = (stored ≡ None) ⊎ (stored ≡ loaded)
IsCellKept Moved stored loaded = (stored ≡ None) ⊎ (stored ≡ loaded)
IsCellKept (Mapped kind) stored loaded = ⊥
IsCellKept Unmapped stored loaded = ⊥

-- the cell is left with the number that is wanted there, or as it was taken where none is
abbrev pub IsCellLeft : Change → Option ℕ → Option ℕ → Option ℕ → Type 0
IsCellLeft change stored loaded None = IsCellKept change stored loaded
IsCellLeft change stored loaded (Some x) = or_known stored (before_stores change loaded) ≡ Some x

abbrev pub IsLeftWith : Held → ℕ → Option ℕ → Type 0
IsLeftWith h cell wanted = IsCellLeft h.change (slice_index_or h.stores cell None) (slice_index_or h.loads cell None) wanted

-- the cell of the page as it was taken, where it is known
abbrev pub taken_cell : Held → ℕ → Option ℕ
taken_cell h cell = taken_from h.change (slice_index_or h.loads cell None)

-- ---- the page

-- the kind of the page as it was taken; none where it was unmapped
abbrev pub taken_kind : Held → Option Kind
taken_kind h = if mapped_bit h.found == 1 then Some (kind_in h.found) else None

abbrev pub kind_after : Change → Option Kind → Option Kind
kind_after Kept kind = kind
kind_after Moved kind = kind
kind_after (Mapped new) kind = Some new
kind_after Unmapped kind = None

-- the kind of the page as it is left; none where it is unmapped
abbrev pub left_kind : Held → Option Kind
left_kind h = kind_after h.change (taken_kind h)

-- the pins of the page as it is left, before the call counts its own
abbrev pub pins_kept : Change → ℕ → ℕ
pins_kept Kept pins = pins
pins_kept Moved pins = pins
pins_kept (Mapped kind) pins = 0
pins_kept Unmapped pins = 0

-- The page is left mapped with this kind, has the pins that it should have, and in each cell the number
-- that is wanted there, or what it had.
pub record Leaves (o : Opening) (h : Held) (kind : Kind) (pins should : ℕ) (wanted : ℕ → Option ℕ) : Type 0 where
  pub kind_is : left_kind h ≡ Some kind
  pub pins_are : pins ≡ should
  pub cells : (cell : ℕ) → cell < o.cells → IsLeftWith h cell (wanted cell)

-- a call that wants nothing of the cells
abbrev pub no_cell : ℕ → Option ℕ
no_cell cell = None

abbrev pub zero_cells : ℕ → Option ℕ
zero_cells cell = Some 0

abbrev pub value_at : ℕ → List ℕ → ℕ → Option ℕ
value_at first values cell = if ltb cell first then None else slice_get values (cell - first)

abbrev pub one_cell : ℕ → ℕ → ℕ → Option ℕ
one_cell at value cell = if cell == at then Some value else None

-- ---- each call

-- the values are those of the cells from the first one on, as many as the page has of them, and each is known
pub record IsRead (o : Opening) (h : Held) (first count : ℕ) (values : List ℕ) : Type 0 where
  pub long : length values ≡ min count (o.cells - first)
  pub known : (i : ℕ) → i < length values → taken_cell h (first + i) ≡ Some (slice_index values i)

-- the number is that of the cell, which is known; it is 0 where the page has no such cell
pub record IsOld (o : Opening) (h : Held) (cell old : ℕ) : Type 0 where
  pub known : cell < o.cells → taken_cell h cell ≡ Some old
  pub past : o.cells ≤ cell → old ≡ 0

-- the cells written are cells of the page
abbrev pub AreInside : Opening → ℕ → List ℕ → Type 0
AreInside o first values = (values ≡ []) ⊎ (first + length values ≤ o.cells)

-- a call on a page that was unmapped
abbrev pub SettledUnmapped : Opening → Held → Call → Reply → ℕ → Type 0
SettledUnmapped o h (Alloc kind) reply pins =
    ((reply ≡ Done) × Leaves o h kind pins 0 zero_cells) ⊎ (((at : ℕ) × (reply ≡ NoFrame at)) × (left_kind h ≡ None))
SettledUnmapped o h Free reply pins = (reply ≡ NotMapped) × (left_kind h ≡ None)
SettledUnmapped o h (Read first count) reply pins = (reply ≡ NotMapped) × (left_kind h ≡ None)
SettledUnmapped o h (Write first values) reply pins = (reply ≡ NotMapped) × (left_kind h ≡ None)
SettledUnmapped o h (Add cell value) reply pins = (reply ≡ NotMapped) × (left_kind h ≡ None)
SettledUnmapped o h Pin reply pins = (reply ≡ NotMapped) × (left_kind h ≡ None)
SettledUnmapped o h Unpin reply pins = (reply ≡ NotMapped) × (left_kind h ≡ None)

-- a call on a page that was mapped with this kind and so many pins
abbrev pub SettledMapped : Opening → Held → Kind → ℕ → Call → Reply → ℕ → Type 0
SettledMapped o h kind had (Alloc new) reply pins = (reply ≡ PageMapped) × Leaves o h kind pins had no_cell
SettledMapped o h kind had Free reply pins =
    ((had ≡ 0) × (reply ≡ Done) × (left_kind h ≡ None)) ⊎ ((0 < had) × (reply ≡ Pinned) × Leaves o h kind pins had no_cell)
SettledMapped o h kind had (Read first count) reply pins =
    ((values : List ℕ) × (reply ≡ Values values) × IsRead o h first count values) × Leaves o h kind pins had no_cell
SettledMapped o h kind had (Write first values) reply pins =
    (reply ≡ Done) × AreInside o first values × Leaves o h kind pins had (value_at first values)
SettledMapped o h kind had (Add cell value) reply pins =
    (old : ℕ) × (reply ≡ Old old) × IsOld o h cell old × Leaves o h kind pins had (one_cell cell ((old + value) % 2 ^ 64))
SettledMapped o h kind had Pin reply pins =
    ((had ≡ 63) × (reply ≡ PinLimit) × Leaves o h kind pins had no_cell) ⊎ ((¬ (had ≡ 63)) × (reply ≡ Done) × Leaves o h kind pins (had + 1) no_cell)
SettledMapped o h kind had Unpin reply pins =
    ((had ≡ 0) × (reply ≡ NotPinned) × Leaves o h kind pins had no_cell) ⊎ ((0 < had) × (reply ≡ Done) × Leaves o h kind pins (had - 1) no_cell)

abbrev pub SettledFrom : Opening → Held → Option Kind → Call → Reply → ℕ → Type 0
SettledFrom o h None call reply pins = SettledUnmapped o h call reply pins
SettledFrom o h (Some kind) call reply pins = SettledMapped o h kind (pins_of h.found) call reply pins

-- the call answers the reply, and the page is left as the call leaves it, with these pins
abbrev pub Settled : Opening → Held → Call → Reply → ℕ → Type 0
Settled o h call reply pins = SettledFrom o h (taken_kind h) call reply pins

abbrev pub SameFrom : Opening → Held → Option Kind → Type 0
SameFrom o h None = left_kind h ≡ None
SameFrom o h (Some kind) = Leaves o h kind (pins_kept h.change (pins_of h.found)) (pins_of h.found) no_cell

-- the page is left as it was taken
abbrev pub IsLeftSame : Opening → Held → Type 0
IsLeftSame o h = SameFrom o h (taken_kind h)

-- where the view holds a page, some page could be the one that was taken
abbrev pub HasPage : Opening → View → Type 0
HasPage o v = (h : Held) → v.held ≡ Some h → (m : Page) × CouldBe o h m
