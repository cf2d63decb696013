-- What the driver's seat has at each place of a command.
use Rattle.std.specs.Prelude.{◌≡◌, ◌⊎◌, ℕ, ◌<◌, ◌^◌, true, [], ◌∷◌, slice_index_or, Option, None, Some, ⊤}
use Rattle.std.specs.Prelude.{IsSomeAnd}
use Rattle.evac_model.specs.declared.evacuation.MoveLease.{MoveLease}
use Rattle.evac_model.specs.declared.names.FrameNo.{FrameNo}
use Rattle.evac_model.specs.declared.names.Kind.TheVariants.{Movable}
use Rattle.evac_model.specs.SpaceJournal.{out_for, is_frame_of}
use Rattle.evac_words.specs.Word.{moving_bit, mapped_bit, unmovable_bit, pins_of, frame_of}
use Rattle.core_state.specs.declared.hand.HandFrame.{HandFrame}
use Rattle.core_state.specs.declared.held.Change.TheVariants.{Kept}
use Rattle.core_state.specs.declared.held.Held.{Held}
use Rattle.core_state.specs.declared.opening.Opening.{Opening}
use Rattle.core_state.specs.declared.view.View.{View}
use Rattle.core_state.specs.Steps.{nothing_known, MayLetGo}
use Rattle.core_state.specs.Views.{IsSeated, right_to, hand_frame, view_of}
use Rattle.evacuate.specs.declared.stage.Stage.{Stage}
use Rattle.evacuate.specs.declared.stage.Stage.TheVariants as stages
use Rattle.evacuate.specs.Tale.{frame_back}
use Rattle.machine.specs.World.{Setting, World, HasFrame, space_now, is_held}
use Rattle.core_actors.specs.declared.host_place.HostPlace.{HostPlace}
use Rattle.core_actors.specs.declared.host_place.HostPlace.TheVariants as places
use Rattle.core_actors.specs.declared.host_place.MovePlace.{MovePlace}
use Rattle.core_actors.specs.declared.host_place.MovePlace.TheVariants.{Taking, Beginning, Loading, Storing, Marking, Remapping, Releasing}
use Rattle.core_actors.specs.Fits.{unmarked_by}
use Rattle.core_actors.specs.Hosts.{HostState}

-- ---- the frame that is in the driver's hand for a page

-- the target until the page is remapped, and then the old frame, for a page
abbrev pub frame_moving : MoveLease → MovePlace → FrameNo
frame_moving lease Taking = lease.target
frame_moving lease Beginning = lease.target
frame_moving lease (Loading cell) = lease.target
frame_moving lease (Storing cell value) = lease.target
frame_moving lease Marking = lease.target
frame_moving lease Remapping = lease.target
frame_moving lease (Releasing None) = lease.from
frame_moving lease (Releasing (Some word)) = lease.target

-- the frame in hand, and the page that it is out for
pub record ForPage : Type 0 where
  pub frame : ℕ
  pub page : ℕ

abbrev pub for_page_at : Stage → Option ForPage
for_page_at stages.Isolating = None
for_page_at (stages.Leasing after) = None
for_page_at (stages.Moving lease) = None
for_page_at (stages.Returning attempt) = Some (record { frame = (frame_back attempt).0; page = attempt.lease.page.0 })
for_page_at (stages.Undoing cause) = None
for_page_at stages.Emptied = None
for_page_at (stages.Failed cause) = None

abbrev pub for_page_in : HostState → HostPlace → Option ForPage
for_page_in h places.Asking = None
for_page_in h places.Evacuating = for_page_at h.evacuation.stage
for_page_in h (places.Moving lease at) = Some (record { frame = (frame_moving lease at).0; page = lease.page.0 })
for_page_in h places.TakingAway = None
for_page_in h (places.Zeroing frame cell) = None
for_page_in h (places.MarkingZeros frame) = None
for_page_in h (places.PuttingOnline result) = None

abbrev pub for_page : HostState → Option ForPage
for_page h = for_page_in h h.place

-- the frame is in the driver's hand, and out for the page as a movable one
pub record IsInHandFor (c : Setting) (w : World) (x : ForPage) : Type 0 where
  pub in_hand : HasFrame w 0 x.frame
  pub out : out_for (space_now c w) x.frame ≡ Some (record { page = x.page; kind = Movable })

abbrev pub HasForPage : Setting → World → Option ForPage → Type 0
HasForPage c w None = ⊤
HasForPage c w (Some x) = IsInHandFor c w x

-- the frame is that one
abbrev pub IsThatFrame : Option ForPage → (frame : ℕ) → Type 0
IsThatFrame None frame = ⊥
IsThatFrame (Some x) frame = frame ≡ x.frame

-- the frame is of a block that the driver holds
pub record IsOfHeldBlock (c : Setting) (w : World) (frame : ℕ) : Type 0 where
  pub block : ℕ
  pub held : is_held c w block ≡ true
  pub in_block : is_frame_of c.sizes block frame ≡ true

-- ---- the page that is held

-- The page of a move is held as it was taken: it was free, lies in its frame, and is movable and without pins. No ticket was
-- drawn for it and nothing stored in it. `moving` is 1 once the move has begun.
pub record IsHeldToMove (cells : ℕ) (lease : MoveLease) (moving : ℕ) (h : Held) : Type 0 where
  pub page : h.page ≡ lease.page
  pub undrawn : h.ticket ≡ None
  pub change : h.change ≡ Kept
  pub stores : h.stores ≡ nothing_known cells
  pub mapped : mapped_bit h.word ≡ 1
  pub frame : frame_of h.word ≡ lease.from.0
  pub movable : unmovable_bit h.word ≡ 0
  pub no_pins : pins_of h.word ≡ 0
  pub moving_now : moving_bit h.word ≡ moving

-- the values loaded of the first n cells are those stored in the target
abbrev pub AreCopied : (n : ℕ) → Held → HandFrame → Type 0
AreCopied n h x =
    (cell : ℕ) → cell < n → (value : ℕ) × (slice_index_or h.loads cell None ≡ Some value) × (slice_index_or x.stores cell None ≡ Some value)

-- the page is being moved, and its first n cells are copied
abbrev pub IsCopying : Opening → View → MoveLease → (n : ℕ) → Type 0
IsCopying o v lease n =
    IsSomeAnd v.held (λ h. IsHeldToMove o.cells lease 1 h × IsSomeAnd (hand_frame v lease.target.0) (AreCopied n h))

-- that value was loaded of the cell
abbrev pub HasLoaded : View → (cell value : ℕ) → Type 0
HasLoaded v cell value = IsSomeAnd v.held (λ h. slice_index_or h.loads cell None ≡ Some value)

-- ---- the view

-- no page is held and no frame unmarked
abbrev pub Rests : View → Type 0
Rests v = (v.held ≡ None) × (v.unmarked ≡ [])

abbrev pub IsMovingAt : Opening → View → MoveLease → MovePlace → Type 0
IsMovingAt o v lease Taking = Rests v
IsMovingAt o v lease Beginning = (v.unmarked ≡ []) × IsSomeAnd v.held (IsHeldToMove o.cells lease 0)
IsMovingAt o v lease (Loading cell) = (v.unmarked ≡ unmarked_by cell lease.target) × (cell < o.cells) × IsCopying o v lease cell
IsMovingAt o v lease (Storing cell value) =
    (v.unmarked ≡ unmarked_by cell lease.target) × (cell < o.cells) × (value < 2 ^ 64) × IsCopying o v lease cell × HasLoaded v cell value
IsMovingAt o v lease Marking = (v.unmarked ≡ lease.target ∷ []) × IsCopying o v lease o.cells
IsMovingAt o v lease Remapping = (v.unmarked ≡ []) × IsCopying o v lease o.cells
IsMovingAt o v lease (Releasing found) = (v.unmarked ≡ []) × IsSomeAnd v.held (MayLetGo o v)

abbrev pub IsViewAt : Opening → View → HostPlace → Type 0
IsViewAt o v places.Asking = Rests v
IsViewAt o v places.Evacuating = Rests v
IsViewAt o v (places.Moving lease at) = IsMovingAt o v lease at
IsViewAt o v places.TakingAway = Rests v
IsViewAt o v (places.Zeroing frame cell) = (v.held ≡ None) × (v.unmarked ≡ unmarked_by cell frame)
IsViewAt o v (places.MarkingZeros frame) = (v.held ≡ None) × (v.unmarked ≡ frame ∷ [])
IsViewAt o v (places.PuttingOnline result) = Rests v

-- A driver makes no calls, so it draws no ticket, and it may move each page.
pub record IsDriver (o : Opening) (v : View) : Type 0 where
  pub seated : IsSeated o v
  pub no_entries : v.entries ≡ []
  pub no_tickets : v.left ≡ 0
  pub rights : (page : ℕ) → page < o.pages → 0 < right_to page v

-- The driver's seat has its place's page and marks. In its hand are the frames of the blocks that it holds, and the one of
-- the page that is being moved.
pub record HostSeat (c : Setting) (w : World) (h : HostState) : Type 0 where
  pub driver : IsDriver c.opening (view_of w.snapshot.views 0)
  pub view : IsViewAt c.opening (view_of w.snapshot.views 0) h.place
  pub has : HasForPage c w (for_page h)
  pub hand : (frame : ℕ) → HasFrame w 0 frame → IsOfHeldBlock c w frame ⊎ IsThatFrame (for_page h) frame
