-- The steps of calls: where each is allowed, on which word it acts, what it leaves there, and what the
-- seat's view is afterwards. All of this follows from the view and the word found.
use Rattle.std.specs.Prelude.{◌≡◌, ◌⊎◌, ℕ, ◌+◌, ◌-◌, ◌<◌, ◌≤◌, ◌^◌, ◌==◌, if◌then◌else◌, not, List, [], ◌∷◌, ◌++◌, filter, length, replicate, slice_index_or, slice_set, bit_or, Option, Some, None, IsSome}
use Rattle.std.specs.Prelude.{IsSomeAnd}
use Rattle.evac_model.specs.declared.names.FrameNo.{FrameNo}
use Rattle.evac_model.specs.declared.names.PageNo.{PageNo}
use Rattle.evac_model.specs.declared.call.Call.{Call}
use Rattle.evac_model.specs.declared.call.Call.TheVariants.{Alloc, Free, Read, Write, Add, Pin, Unpin}
use Rattle.evac_model.specs.declared.reply.Reply.{Reply}
use Rattle.evac_model.specs.declared.reply.Reply.TheVariants.{Done, Values, Old, Mapped, NotMapped, Pinned, PinLimit, NotPinned, NoFrame}
use Rattle.evac_model.specs.declared.entry.Entry.{Entry}
use Rattle.evac_words.specs.Word.{taken_bit, moving_bit, mapped_bit, pins_of, frame_of, bound_of}
use Rattle.evac_words.specs.Table.{entry_index, dirty_index, cell_index}
use Rattle.core_state.specs.declared.hand.HandFrame.{HandFrame}
use Rattle.core_state.specs.declared.held.Change.TheVariants.{Kept}
use Rattle.core_state.specs.declared.held.Held.{Held}
use Rattle.core_state.specs.declared.keeper.Keeper.{Keeper}
use Rattle.core_state.specs.declared.keeper.Keeper.TheVariants.{OneOwner, SharedTable}
use Rattle.core_state.specs.declared.noticed.Notice.{Notice}
use Rattle.core_state.specs.declared.noticed.Noticed.{Noticed}
use Rattle.core_state.specs.declared.opening.Opening.{Opening}
use Rattle.core_state.specs.declared.step.CallDone.{CallDone}
use Rattle.core_state.specs.declared.step.Step.{Step}
use Rattle.core_state.specs.declared.step.Step.TheVariants.{Take, Draw, Load, Store, Mark, Release}
use Rattle.core_state.specs.declared.view.View.{View}
use Rattle.core_state.specs.Words.{released_word}
use Rattle.core_state.specs.Views.{IsSeated, right_to, maps_to, times_unmarked, hand_frame, Owns}
use Rattle.core_state.specs.Pages.{number_or, Answered, Untouched}

-- a count that stands still in a core
abbrev pub counted : Keeper → ℕ → ℕ
counted OneOwner n = n
counted SharedTable n = n + 1

-- nothing known of each cell
abbrev pub nothing_known : ℕ → List (Option ℕ)
nothing_known cells = replicate cells None

-- ---- what the held page gives to a step, where one is held

abbrev pub held_page : Option Held → ℕ
held_page None = 0
held_page (Some h) = h.page.0

abbrev pub held_word : Option Held → ℕ
held_word None = 0
held_word (Some h) = h.word

abbrev pub held_ticket : Option Held → ℕ
held_ticket None = 0
held_ticket (Some h) = number_or h.ticket 0

-- ---- take

-- No page is held; a ticket is left, or the view has the right to move the page.
pub record MayTake (o : Opening) (v : View) (page : ℕ) : Type 0 where
  pub seated : IsSeated o v
  pub holds_none : v.held ≡ None
  pub in_range : page < o.pages
  pub leave : (0 < v.left) ⊎ (0 < right_to page v)

abbrev pub newly_held : ℕ → PageNo → ℕ → Held
newly_held cells page found = record { page = page; found = found; word = bit_or found 1; ticket = None; loads = nothing_known cells; stores = nothing_known cells; change = Kept }

-- the page is held exactly where the word found wasn't taken
abbrev pub held_after_take : ℕ → PageNo → ℕ → Option Held
held_after_take cells page found = if taken_bit found == 0 then Some (newly_held cells page found) else None

abbrev pub notice_of : View → PageNo → ℕ → Notice
notice_of v page found = record { page = page; word = found; known = v.actions.known }

-- the word found is noticed for each leave that the view has
abbrev pub noticed_after_take : Keeper → View → PageNo → ℕ → Noticed
noticed_after_take k v page found = record {
  by_right = if right_to page.0 v == 0 then v.noticed.by_right else v.noticed.by_right ++ notice_of v page found ∷ [];
  last = if v.left == 0 then v.noticed.last else Some (notice_of v page found);
  by_ticket = if v.left == 0 then v.noticed.by_ticket else counted k v.noticed.by_ticket;
}

abbrev pub after_take : Keeper → View → PageNo → ℕ → View
after_take k v page found = record v { held = held_after_take v.cells page found; noticed = noticed_after_take k v page found }

-- ---- draw

-- A page is held, no ticket is drawn, and one is left.
pub record MayDraw (v : View) : Type 0 where
  pub undrawn : IsSomeAnd v.held (λ h. h.ticket ≡ None)
  pub leave : 0 < v.left

abbrev pub with_ticket : Option Held → ℕ → Option Held
with_ticket None t = None
with_ticket (Some h) t = Some (record h { ticket = Some t })

abbrev pub after_draw : View → ℕ → View
after_draw v found = record v { held = with_ticket v.held found; left = v.left - 1; seen = found + 1 }

-- ---- load

-- The cell is one of the held, mapped page.
pub record MayLoad (o : Opening) (v : View) (cell : ℕ) : Type 0 where
  pub in_range : cell < o.cells
  pub mapped : IsSomeAnd v.held (λ h. mapped_bit h.word ≡ 1)

abbrev pub note : Option ℕ → List (Option ℕ) → ℕ → ℕ → List (Option ℕ)
note None loads cell value = slice_set loads cell (Some value)
note (Some stored) loads cell value = loads

-- a load is noted where the cell wasn't stored since the take
abbrev pub with_load : Option Held → ℕ → ℕ → Option Held
with_load None cell value = None
with_load (Some h) cell value = Some (record h { loads = note (slice_index_or h.stores cell None) h.loads cell value })

abbrev pub after_load : View → ℕ → ℕ → View
after_load v cell found = record v { held = with_load v.held cell found }

-- ---- store

-- The cell is one of the held page, or of a frame in hand.
pub record MayStore (o : Opening) (v : View) (frame cell value : ℕ) : Type 0 where
  pub in_range : cell < o.cells
  pub fits : value < 2 ^ 64
  pub own : Owns v frame

abbrev pub with_store : Option Held → ℕ → ℕ → ℕ → Option Held
with_store None frame cell value = None
with_store (Some h) frame cell value = Some (if maps_to frame h.word == 1 then record h { stores = slice_set h.stores cell (Some value) } else h)

abbrev pub with_hand_store : Option HandFrame → ℕ → ℕ → Option HandFrame
with_hand_store None cell value = None
with_hand_store (Some x) cell value = Some (record x { stores = slice_set x.stores cell (Some value) })

-- the frame, once, among the frames that are unmarked
abbrev pub with_unmarked : View → FrameNo → List FrameNo
with_unmarked v frame = if times_unmarked frame.0 v == 0 then v.unmarked ++ frame ∷ [] else v.unmarked

abbrev pub after_store : View → FrameNo → ℕ → ℕ → View
after_store v frame cell value = record v {
  held = with_store v.held frame.0 cell value;
  hand = slice_set v.hand frame.0 (with_hand_store (hand_frame v frame.0) cell value);
  unmarked = with_unmarked v frame;
}

-- ---- mark

abbrev pub after_mark : View → FrameNo → View
after_mark v frame = record v { unmarked = filter (λ x. not (x.0 == frame.0)) v.unmarked }

-- ---- release

-- the pins after a call that was answered `Done`
abbrev pub pins_after_done : Call → ℕ → ℕ
pins_after_done Pin pins = pins + 1
pins_after_done Unpin pins = pins - 1
pins_after_done (Alloc kind) pins = pins
pins_after_done Free pins = pins
pins_after_done (Read first count) pins = pins
pins_after_done (Write first values) pins = pins
pins_after_done (Add cell value) pins = pins

-- the pins after a call with this reply
abbrev pub pins_after : Call → Reply → ℕ → ℕ
pins_after call Done pins = pins_after_done call pins
pins_after call (Values values) pins = pins
pins_after call (Old value) pins = pins
pins_after call Mapped pins = pins
pins_after call NotMapped pins = pins
pins_after call Pinned pins = pins
pins_after call PinLimit pins = pins
pins_after call NotPinned pins = pins
pins_after call (NoFrame at) pins = pins

abbrev pub word_after_release : Option Held → Option CallDone → ℕ
word_after_release held None = released_word (held_word held) (pins_of (held_word held)) (bound_of (held_word held))
word_after_release held (Some d) = released_word (held_word held) (pins_after d.call d.reply (pins_of (held_word held))) (held_ticket held + 1)

-- the entry of a call on the held page
abbrev pub entry_of : View → CallDone → Entry
entry_of v d = record { ticket = held_ticket v.held; caller = number_or v.caller 0; call_no = length v.entries; page = record { 0 = held_page v.held }; call = d.call; reply = d.reply }

-- Without an entry: no ticket was drawn, the view has the right to move the page, and the page is as it
-- was taken.
pub record MayLetGo (o : Opening) (v : View) (h : Held) : Type 0 where
  pub still : moving_bit h.word ≡ 0
  pub undrawn : h.ticket ≡ None
  pub right : 0 < right_to h.page.0 v
  pub untouched : Untouched o h

-- With an entry: a ticket was drawn, and the call answers the reply at the page as it was taken, and
-- leaves it as the holder leaves it, with at most 63 pins.
pub record MayEnd (o : Opening) (d : CallDone) (h : Held) : Type 0 where
  pub still : moving_bit h.word ≡ 0
  pub drawn : IsSome h.ticket
  pub pins_fit : pins_after d.call d.reply (pins_of h.word) ≤ 63
  pub answered : Answered o h d.call d.reply (pins_after d.call d.reply (pins_of h.word))

-- A page is held that isn't moving, and no frame is unmarked.
abbrev pub MayRelease : Opening → View → Option CallDone → Type 0
MayRelease o v None = (v.unmarked ≡ []) × IsSomeAnd v.held (MayLetGo o v)
MayRelease o v (Some d) = (v.unmarked ≡ []) × IsSomeAnd v.held (MayEnd o d)

abbrev pub after_release : View → Option CallDone → View
after_release v None = record v { held = None }
after_release v (Some d) = record v { held = None; entries = v.entries ++ entry_of v d ∷ [] }

-- ---- any step of a call

abbrev pub Allowed : Opening → View → Step → Type 0
Allowed o v (Take page) = MayTake o v page.0
Allowed o v Draw = MayDraw v
Allowed o v (Load cell) = MayLoad o v cell
Allowed o v (Store frame cell value) = MayStore o v frame.0 cell value
Allowed o v (Mark frame) = Owns v frame.0
Allowed o v (Release end) = MayRelease o v end

-- the index of the word that the step acts on
abbrev pub word_index : Opening → View → Step → ℕ
word_index o v (Take page) = entry_index page.0
word_index o v Draw = 0
word_index o v (Load cell) = cell_index o.pages o.frames o.cells (frame_of (held_word v.held)) cell
word_index o v (Store frame cell value) = cell_index o.pages o.frames o.cells frame.0 cell
word_index o v (Mark frame) = dirty_index o.pages frame.0
word_index o v (Release end) = entry_index (held_page v.held)

abbrev pub word_after : View → Step → ℕ → ℕ
word_after v (Take page) found = bit_or found 1
word_after v Draw found = found + 1
word_after v (Load cell) found = found
word_after v (Store frame cell value) found = value
word_after v (Mark frame) found = 1
word_after v (Release end) found = word_after_release v.held end

abbrev pub view_after : Keeper → View → Step → ℕ → View
view_after k v (Take page) found = after_take k v page found
view_after k v Draw found = after_draw v found
view_after k v (Load cell) found = after_load v cell found
view_after k v (Store frame cell value) found = after_store v frame cell value
view_after k v (Mark frame) found = after_mark v frame
view_after k v (Release end) found = after_release v end
