-- A seat that is split in two, and a seat that is joined into another. No word is touched. What is said
-- here of a frame in hand leaves open what it is for, and of the actions of the seats no more is said than
-- which of them has the journal of the frame space.
use Rattle.std.specs.Prelude.{◌≡◌, ◌⊎◌, ℕ, ◌+◌, ◌<◌, ◌≤◌, max, List, [], ◌∷◌, ◌++◌, slice_set, Option, Some, None, IsSome}
use Rattle.core_state.specs.declared.hand.HandFrame.{HandFrame}
use Rattle.core_state.specs.declared.held.Held.{Held}
use Rattle.core_state.specs.declared.opening.Opening.{Opening}
use Rattle.core_state.specs.declared.view.View.{View}
use Rattle.core_state.specs.Views.{IsSeated, spent, right_to, hand_frame, times_in_hand, keeps_journal}
use Rattle.core_state.specs.HandOvers.{IsAtRest}
use Rattle.core_state.specs.Rearranged.{HasStored}

-- A seat that holds no page and has nothing unmarked is split: what is given away are tickets, rights,
-- frames in hand, and the scanner's part or not; entries and notices are kept. Tickets that are given
-- away go to a caller, whose number may be another. Both parts have seen what the seat had seen.
pub record Splits (o : Opening) (v kept given : View) : Type 0 where
  pub rests : IsAtRest o v
  pub kept_rests : IsAtRest o kept
  pub given_rests : IsAtRest o given
  pub entries : kept.entries ≡ v.entries
  pub no_entries : given.entries ≡ []
  pub noticed : kept.noticed ≡ v.noticed
  pub no_notices : given.noticed ≡ spent.noticed
  pub caller : kept.caller ≡ v.caller
  pub given_caller : 0 < given.left → IsSome given.caller
  pub left : kept.left + given.left ≡ v.left
  pub seen : kept.seen ≡ v.seen
  pub given_seen : given.seen ≡ v.seen
  pub rights : (page : ℕ) → right_to page kept + right_to page given ≡ right_to page v
  pub in_hand : (frame : ℕ) → times_in_hand frame kept + times_in_hand frame given ≡ times_in_hand frame v
  pub stored : (frame : ℕ) (x : HandFrame) → hand_frame kept frame ≡ Some x → HasStored v frame x.stores
  pub given_stored : (frame : ℕ) (x : HandFrame) → hand_frame given frame ≡ Some x → HasStored v frame x.stores
  pub scan : ((kept.scan ≡ v.scan) × (given.scan ≡ None)) ⊎ ((kept.scan ≡ None) × (given.scan ≡ v.scan))
  pub journal : keeps_journal kept + keeps_journal given ≡ keeps_journal v

-- the given part has a seat of its own, behind the others
abbrev pub views_after_split : List View → ℕ → (kept given : View) → List View
views_after_split views seat kept given = slice_set views seat kept ++ given ∷ []

-- the number that is there, or else the other
abbrev pub caller_of_both : Option ℕ → Option ℕ → Option ℕ
caller_of_both None other = other
caller_of_both (Some c) other = Some c

-- A seat that holds no page and has nothing unmarked is joined into another, which gets its entries,
-- tickets, rights, frames in hand, and its notices of takes by the right to move, behind its own. That
-- seat may hold a page, but not one that the joined seat has the right to move. It gets the number of
-- the joined seat's caller where it has none of its own. The last notice of a take by a ticket, the
-- count of those takes and the scanner's part are its own.
pub record Joins (o : Opening) (v joined both : View) : Type 0 where
  pub rests : IsAtRest o joined
  pub seated : IsSeated o both
  pub held : both.held ≡ v.held
  pub no_right : (h : Held) → v.held ≡ Some h → right_to h.page.0 joined ≡ 0
  pub unmarked : both.unmarked ≡ v.unmarked
  pub entries : both.entries ≡ v.entries ++ joined.entries
  pub by_right : both.noticed.by_right ≡ v.noticed.by_right ++ joined.noticed.by_right
  pub last : both.noticed.last ≡ v.noticed.last
  pub by_ticket : both.noticed.by_ticket ≡ v.noticed.by_ticket
  pub caller : both.caller ≡ caller_of_both v.caller joined.caller
  pub left : both.left ≡ v.left + joined.left
  pub seen : both.seen ≡ max v.seen joined.seen
  pub rights : (page : ℕ) → right_to page both ≡ right_to page v + right_to page joined
  pub in_hand : (frame : ℕ) → times_in_hand frame both ≡ times_in_hand frame v + times_in_hand frame joined
  pub stored : (frame : ℕ) (x : HandFrame) → hand_frame both frame ≡ Some x → HasStored v frame x.stores ⊎ HasStored joined frame x.stores
  pub scan : both.scan ≡ v.scan
  pub journal : keeps_journal both ≤ keeps_journal v + keeps_journal joined

-- the joined seat is left spent
abbrev pub views_after_join : List View → (seat joined : ℕ) → View → List View
views_after_join views seat joined both = slice_set (slice_set views seat both) joined spent
