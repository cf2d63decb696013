-- What an owner's seat has at each place of its script.
use Rattle.std.specs.Prelude.{◌≡◌, ◌≢◌, ℕ, ◌+◌, ◌<◌, ◌==◌, if◌then◌else◌, Bool, true, false, is_some, List, [], ◌∷◌, ◌++◌, map, length, take, drop, slice_index_or, bit_or, Option, Some, None}
use Rattle.std.specs.Prelude.{IsSomeAnd}
use Rattle.std.specs.List.{enumerate_from, AllByRecursion}
use Rattle.evac_model.specs.declared.names.FrameNo.{FrameNo}
use Rattle.evac_model.specs.declared.names.Kind.{Kind}
use Rattle.evac_model.specs.declared.names.PageNo.{PageNo}
use Rattle.evac_model.specs.declared.call.Call.{Call}
use Rattle.evac_model.specs.declared.call.Call.TheVariants.{Alloc, Free, Read, Write, Add, Pin, Unpin}
use Rattle.evac_model.specs.Geometry.{Sizes}
use Rattle.evac_model.specs.Scripts.{numbered_call}
use Rattle.evac_words.specs.Word.{taken_bit, mapped_bit}
use Rattle.core_state.specs.declared.hand.HandFrame.{HandFrame}
use Rattle.core_state.specs.declared.held.Change.{Change}
use Rattle.core_state.specs.declared.held.Change.TheVariants.{Kept, Mapped, Unmapped}
use Rattle.core_state.specs.declared.held.Held.{Held}
use Rattle.core_state.specs.declared.opening.Opening.{Opening}
use Rattle.core_state.specs.declared.view.View.{View}
use Rattle.core_state.specs.Words.{mapped_word, unmapped_word}
use Rattle.core_state.specs.Views.{IsSeated, hand_frame}
use Rattle.core_state.specs.Steps.{nothing_known}
use Rattle.core_actors.specs.declared.action.LeaseSeen.{LeaseSeen}
use Rattle.core_actors.specs.declared.action.LeaseSeen.TheVariants.{NotAsked, Got, Refused}
use Rattle.core_actors.specs.declared.place.Place.{Place}
use Rattle.core_actors.specs.declared.place.Place.TheVariants.{Between, InCall}
use Rattle.core_actors.specs.declared.place.CallPlace.{CallPlace}
use Rattle.core_actors.specs.declared.place.CallPlace.TheVariants as places
use Rattle.core_actors.specs.CallSteps.{IsCallOf, first_cell, values_of, is_freed, leased_frame, frame_back}
use Rattle.core_actors.specs.Places.{frame_in}
use Rattle.core_actors.specs.Owners.{OwnerState}
use Rattle.core_actors.specs.Counts.{IsUnderWay}

-- the values, known for the cells from the first one on
abbrev pub known_from : ℕ → ℕ → List ℕ → List (Option ℕ)
known_from cells first xs = take first (nothing_known cells) ++ map (λ x. Some x) xs ++ drop (first + length xs) (nothing_known cells)

-- ---- the mapping

abbrev pub mapped_to : (kind : Kind) → LeaseSeen → Change
mapped_to kind NotAsked = Kept
mapped_to kind (Got frame) = Mapped kind
mapped_to kind (Refused at) = Kept

-- what the call does to the mapping of its page
abbrev pub change_by : Call → LeaseSeen → (found : ℕ) → Change
change_by (Alloc kind) lease found = if mapped_bit found == 1 then Kept else mapped_to kind lease
change_by Free lease found = if is_freed found then Unmapped else Kept
change_by (Read first count) lease found = Kept
change_by (Write first values) lease found = Kept
change_by (Add cell value) lease found = Kept
change_by Pin lease found = Kept
change_by Unpin lease found = Kept

abbrev pub frame_or_0 : Option FrameNo → ℕ
frame_or_0 None = 0
frame_or_0 (Some frame) = frame.0

abbrev pub word_with : Change → LeaseSeen → (found : ℕ) → ℕ
word_with Kept lease found = bit_or found 1
word_with (Mapped kind) lease found = mapped_word (bit_or found 1) (frame_or_0 (leased_frame lease)) kind
word_with Unmapped lease found = unmapped_word (bit_or found 1)
word_with other lease found = bit_or found 1

-- ---- what a seat has

-- What is known of the page that is held: the word found, which was free, what was done to its mapping and the word
-- since then, whether the ticket is drawn, and the values loaded and stored, from the first cell of the call on.
pub record PageHeld : Type 0 where
  pub found : ℕ
  pub change : Change
  pub word : ℕ
  pub drawn : Bool
  pub loads : List ℕ
  pub stores : List ℕ

-- The tickets drawn for the call under way, the frames unmarked, the page held, the frame in hand, and how many of
-- its first cells are zeroed.
pub record SeatHas : Type 0 where
  pub tickets : ℕ
  pub unmarked : List FrameNo
  pub page : Option PageHeld
  pub frame : Option FrameNo
  pub zeros : ℕ

-- nothing but a frame in hand
abbrev pub just_frame : Option FrameNo → SeatHas
just_frame frame = record { tickets = 0; unmarked = []; page = None; frame = frame; zeros = 0 }

-- a frame in which so many values are stored is unmarked, if there are any
abbrev pub unmarked_by : ℕ → FrameNo → List FrameNo
unmarked_by stored frame = if stored == 0 then [] else frame ∷ []

-- a leased frame, with so many zeros, and before its mark or behind it
abbrev pub zeroed : FrameNo → ℕ → SeatHas
zeroed frame zeros = record { tickets = 0; unmarked = unmarked_by zeros frame; page = None; frame = Some frame; zeros = zeros }

-- the page as it was found
abbrev pub as_found : (found : ℕ) → Bool → (loads stores : List ℕ) → PageHeld
as_found found drawn loads stores = record { found = found; change = Kept; word = bit_or found 1; drawn = drawn; loads = loads; stores = stores }

-- the page with its values, and no frame in hand
abbrev pub with_cells : (found : ℕ) → (loads stores : List ℕ) → List FrameNo → SeatHas
with_cells found loads stores unmarked =
    record { tickets = 1; unmarked = unmarked; page = Some (as_found found true loads stores); frame = None; zeros = 0 }

-- what a call stores in a page with that word
abbrev pub stored_by : Call → (found : ℕ) → List ℕ → List ℕ
stored_by call found loads = if mapped_bit found == 1 then values_of loads call else []

-- the page of a call that has done all but its release
abbrev pub page_done : Call → LeaseSeen → (found : ℕ) → List ℕ → PageHeld
page_done call lease found loads = record {
  found = found;
  change = change_by call lease found;
  word = word_with (change_by call lease found) lease found;
  drawn = true;
  loads = loads;
  stores = stored_by call found loads;
}

-- what the seat has at a place of a call; of a leased frame all cells are zeroed from its mark on
abbrev pub has_in : (cells : ℕ) → Call → CallPlace → SeatHas
has_in cells call (places.Zero frame cell) = zeroed frame cell
has_in cells call (places.MarkZeros frame) = zeroed frame cells
has_in cells call (places.Take lease) = record { tickets = 0; unmarked = []; page = None; frame = leased_frame lease; zeros = cells }
has_in cells call (places.Draw lease found) = record { tickets = 0; unmarked = []; page = Some (as_found found false [] []); frame = leased_frame lease; zeros = cells }
has_in cells call (places.Load found loads) = with_cells found loads [] []
has_in cells call (places.Store found loads i) = with_cells found loads (take i (values_of loads call)) (unmarked_by i (frame_in found))
has_in cells call (places.Mark found loads) = with_cells found loads (values_of loads call) (unmarked_by (length (values_of loads call)) (frame_in found))
has_in cells call (places.Map frame kind found) = record { tickets = 1; unmarked = []; page = Some (as_found found true [] []); frame = Some frame; zeros = cells }
has_in cells call (places.Unmap found) = with_cells found [] [] []
has_in cells call (places.Release lease found loads) =
    record { tickets = 1; unmarked = []; page = Some (page_done call lease found loads); frame = frame_back call lease found; zeros = 0 }

abbrev pub has_at : (cells : ℕ) → Place → List (PageNo × Call) → SeatHas
has_at cells (Between back) left = just_frame back
has_at cells (InCall at) [] = just_frame None
has_at cells (InCall at) (c ∷ cs) = has_in cells c.1 at

-- what the owner's seat has
abbrev pub seat_has : OwnerState → SeatHas
seat_has a = has_at a.cells a.place a.left

-- ---- how a view has it

-- The page of the call is held, and nothing is known of it but this.
pub record IsHeldAs (cells : ℕ) (c : PageNo × Call) (p : PageHeld) (h : Held) : Type 0 where
  pub page : h.page ≡ c.0
  pub found : h.found ≡ p.found
  pub free : taken_bit p.found ≡ 0
  pub word : h.word ≡ p.word
  pub drawn : is_some h.ticket ≡ p.drawn
  pub loads : h.loads ≡ known_from cells (first_cell c.1) p.loads
  pub stores : h.stores ≡ known_from cells (first_cell c.1) p.stores
  pub change : h.change ≡ p.change

abbrev pub Holds : (cells : ℕ) → List (PageNo × Call) → Option PageHeld → Option Held → Type 0
Holds cells left None held = held ≡ None
Holds cells [] (Some p) held = held ≡ None
Holds cells (c ∷ cs) (Some p) held = IsSomeAnd held (IsHeldAs cells c p)

-- a frame of that many cells, and zeros are stored in so many from the first one on
pub record IsZeroed (cells zeros : ℕ) (x : HandFrame) : Type 0 where
  pub sized : length x.stores ≡ cells
  pub are_zero : (cell : ℕ) → cell < cells → cell < zeros → slice_index_or x.stores cell None ≡ Some 0

abbrev pub HasInHand : View → Option FrameNo → (HandFrame → Type 0) → Type 0
HasInHand v None P = (frame : ℕ) → hand_frame v frame ≡ None
HasInHand v (Some f) P = ((frame : ℕ) → frame ≢ f.0 → hand_frame v frame ≡ None) × IsSomeAnd (hand_frame v f.0) P

-- The view has this, where these calls aren't ended: a ticket is left for each of them but the one whose ticket is
-- drawn, and no other page is held and no other frame in hand.
pub record IsSeatWith (cells : ℕ) (calls : List (PageNo × Call)) (x : SeatHas) (v : View) : Type 0 where
  pub left : v.left + x.tickets ≡ length calls
  pub unmarked : v.unmarked ≡ x.unmarked
  pub held : Holds cells calls x.page v.held
  pub hand : HasInHand v x.frame (IsZeroed cells x.zeros)

-- The view is of the owner's seat, and its entries are those of the calls of the script that ended, in order and
-- numbered from 0.
pub record IsSeatOf (s : Sizes) (o : Opening) (script : List (PageNo × Call)) (v : View) (a : OwnerState) : Type 0 where
  pub cells : o.cells ≡ s.cells
  pub owner_cells : a.cells ≡ s.cells
  pub pages : o.pages ≡ s.pages
  pub calls : AllByRecursion (λ c. IsCallOf s c) a.left
  pub seated : IsSeated o v
  pub caller : v.caller ≡ Some a.owner
  pub callers : AllByRecursion (λ e. e.caller ≡ a.owner) v.entries
  pub entries : map numbered_call v.entries ++ enumerate_from (length v.entries) a.left ≡ enumerate_from 0 script

-- The view is that of the owner at its place in the script: what moving on in the script changes, and what a step does.
pub record Fits (s : Sizes) (o : Opening) (script : List (PageNo × Call)) (v : View) (a : OwnerState) : Type 0 where
  pub belongs : IsSeatOf s o script v a
  pub under_way : IsUnderWay a
  pub has : IsSeatWith o.cells a.left (seat_has a) v
