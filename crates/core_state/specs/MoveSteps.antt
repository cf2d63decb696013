-- The steps that change the mapping of the held page: where each is allowed, on which word it acts, what
-- it leaves there, and what the seat's view is afterwards.
use Rattle.std.specs.Prelude.{◌≡◌, ℕ, ◌<◌, List, replicate, slice_index_or, slice_set, Option, Some, None, IsSome, ⊤}
use Rattle.std.specs.Prelude.{IsSomeAnd}
use Rattle.evac_model.specs.declared.names.Kind.{Kind}
use Rattle.evac_model.specs.declared.names.PageNo.{PageNo}
use Rattle.evac_words.specs.Word.{moving_bit, mapped_bit, unmovable_bit, pins_of, frame_of}
use Rattle.evac_words.specs.Table.{entry_index}
use Rattle.core_state.specs.declared.hand.Aim.{Aim}
use Rattle.core_state.specs.declared.hand.HandFrame.{HandFrame}
use Rattle.core_state.specs.declared.held.Change.{Change}
use Rattle.core_state.specs.declared.held.Change.TheVariants.{Kept, Moved, Mapped, Unmapped}
use Rattle.core_state.specs.declared.held.Held.{Held}
use Rattle.core_state.specs.declared.keeper.Keeper.{Keeper}
use Rattle.core_state.specs.declared.keeper.Keeper.TheVariants.{OneOwner, SharedTable}
use Rattle.core_state.specs.declared.opening.Opening.{Opening}
use Rattle.core_state.specs.declared.step.MoveStep.{MoveStep}
use Rattle.core_state.specs.declared.step.MoveStep.TheVariants.{Moving, Remap, Map, Unmap}
use Rattle.core_state.specs.declared.view.View.{View}
use Rattle.core_state.specs.Words.{kind_in, moving_word, remapped_word, mapped_word, unmapped_word}
use Rattle.core_state.specs.Views.{IsSeated, right_to, hand_frame, times_unmarked}
use Rattle.core_state.specs.Steps.{nothing_known, held_page, held_word}

-- over shared words, the frame is in hand for that page, with the kind that the page has after the step
abbrev pub IsAimed : Keeper → HandFrame → PageNo → Kind → Type 0
IsAimed OneOwner x page kind = ⊤
IsAimed SharedTable x page kind = x.aim ≡ Some (record { page = page; kind = kind })

abbrev pub aim_for : Keeper → PageNo → Kind → Option Aim
aim_for OneOwner page kind = None
aim_for SharedTable page kind = Some (record { page = page; kind = kind })

-- a frame that comes in hand from the held page
abbrev pub let_out : Keeper → ℕ → Held → HandFrame
let_out k cells h = record { stores = nothing_known cells; aim = aim_for k h.page (kind_in h.word) }

-- ---- begin move

-- The view has the right to move the held page, which is mapped, movable and without pins.
pub record MayBegin (v : View) (h : Held) : Type 0 where
  pub right : 0 < right_to h.page.0 v
  pub mapped : mapped_bit h.word ≡ 1
  pub movable : unmovable_bit h.word ≡ 0
  pub no_pins : pins_of h.word ≡ 0

-- what was loaded before doesn't count for the move
abbrev pub held_after_begin : View → Option Held → Option Held
held_after_begin v None = None
held_after_begin v (Some h) = Some (record h { word = moving_word h.word; loads = nothing_known v.cells })

-- ---- remap

abbrev pub or_known : Option ℕ → Option ℕ → Option ℕ
or_known None b = b
or_known (Some x) b = Some x

-- what the holder knows of a cell: what it stored, or else what it loaded
abbrev pub known_cell : Held → ℕ → Option ℕ
known_cell h cell = or_known (slice_index_or h.stores cell None) (slice_index_or h.loads cell None)

-- each cell of the held page is known, and its value is stored in the frame
abbrev pub IsCopied : Opening → Held → HandFrame → Type 0
IsCopied o h x = (cell : ℕ) → cell < o.cells → (value : ℕ) × (known_cell h cell ≡ Some value) × (slice_index_or x.stores cell None ≡ Some value)

-- The page is moving; a frame in hand, not unmarked, has the value of each cell, which was loaded since
-- the move began, or stored by the holder since the take.
pub record MayRemap (k : Keeper) (o : Opening) (h : Held) (x : HandFrame) : Type 0 where
  pub moving : moving_bit h.word ≡ 1
  pub copied : IsCopied o h x
  pub aimed : IsAimed k x h.page (kind_in h.word)

abbrev pub moved : Change → Change
moved Kept = Moved
moved Moved = Moved
moved (Mapped kind) = Mapped kind
moved Unmapped = Unmapped

abbrev pub held_after_remap : Option Held → ℕ → Option Held
held_after_remap None frame = None
held_after_remap (Some h) frame = Some (record h { word = remapped_word h.word frame; change = moved h.change })

-- the frame leaves the hand, and the page's old frame comes in its place
abbrev pub hand_after_remap : Keeper → View → Option Held → ℕ → List (Option HandFrame)
hand_after_remap k v None frame = v.hand
hand_after_remap k v (Some h) frame = slice_set (slice_set v.hand frame None) (frame_of h.word) (Some (let_out k v.cells h))

-- ---- map

-- A ticket was drawn, the held page is unmapped, and a frame in hand, not unmarked, has zeros stored in
-- all cells.
pub record MayMap (k : Keeper) (o : Opening) (h : Held) (x : HandFrame) (kind : Kind) : Type 0 where
  pub drawn : IsSome h.ticket
  pub unmapped : mapped_bit h.word ≡ 0
  pub zeros : x.stores ≡ replicate o.cells (Some 0)
  pub aimed : IsAimed k x h.page kind

abbrev pub held_after_map : View → Option Held → ℕ → Kind → Option Held
held_after_map v None frame kind = None
held_after_map v (Some h) frame kind = Some (record h { word = mapped_word h.word frame kind; loads = nothing_known v.cells; stores = nothing_known v.cells; change = Mapped kind })

-- ---- unmap

-- A ticket was drawn, and the held page is mapped without pins.
pub record MayUnmap (h : Held) : Type 0 where
  pub drawn : IsSome h.ticket
  pub mapped : mapped_bit h.word ≡ 1
  pub no_pins : pins_of h.word ≡ 0

abbrev pub held_after_unmap : View → Option Held → Option Held
held_after_unmap v None = None
held_after_unmap v (Some h) = Some (record h { word = unmapped_word h.word; loads = nothing_known v.cells; stores = nothing_known v.cells; change = Unmapped })

-- the page's frame comes in hand
abbrev pub hand_after_unmap : Keeper → View → Option Held → List (Option HandFrame)
hand_after_unmap k v None = v.hand
hand_after_unmap k v (Some h) = slice_set v.hand (frame_of h.word) (Some (let_out k v.cells h))

-- ---- any step on the mapping

-- the frame is in hand, not unmarked, and is so
abbrev pub InHand : View → ℕ → (HandFrame → Type 0) → Type 0
InHand v frame P = (times_unmarked frame v ≡ 0) × IsSomeAnd (hand_frame v frame) P

abbrev pub AllowedMove : Keeper → Opening → View → MoveStep → Type 0
AllowedMove k o v Moving = IsSeated o v × IsSomeAnd v.held (MayBegin v)
AllowedMove k o v (Remap frame) = IsSeated o v × IsSomeAnd v.held (λ h. InHand v frame.0 (MayRemap k o h))
AllowedMove k o v (Map frame kind) = IsSeated o v × IsSomeAnd v.held (λ h. InHand v frame.0 (λ x. MayMap k o h x kind))
AllowedMove k o v Unmap = IsSeated o v × IsSomeAnd v.held MayUnmap

abbrev pub move_index : View → ℕ
move_index v = entry_index (held_page v.held)

abbrev pub word_after_move : View → MoveStep → ℕ
word_after_move v Moving = moving_word (held_word v.held)
word_after_move v (Remap frame) = remapped_word (held_word v.held) frame.0
word_after_move v (Map frame kind) = mapped_word (held_word v.held) frame.0 kind
word_after_move v Unmap = unmapped_word (held_word v.held)

abbrev pub view_after_move : Keeper → View → MoveStep → View
view_after_move k v Moving = record v { held = held_after_begin v v.held }
view_after_move k v (Remap frame) = record v { held = held_after_remap v.held frame.0; hand = hand_after_remap k v v.held frame.0 }
view_after_move k v (Map frame kind) = record v { held = held_after_map v v.held frame.0 kind; hand = slice_set v.hand frame.0 None }
view_after_move k v Unmap = record v { held = held_after_unmap v v.held; hand = hand_after_unmap k v v.held }
