-- How a history and a space journal go together, worked out by hand: what is accepted, and what isn't.
use Rattle.std.specs.Prelude.{ℕ, List, [], ◌∷◌, map}
use Rattle.evac_model.specs.declared.names.Kind.{Kind}
use Rattle.evac_model.specs.declared.names.Kind.TheVariants.{Movable, Unmovable}
use Rattle.evac_model.specs.declared.call.Call.{Call}
use Rattle.evac_model.specs.declared.call.Call.TheVariants.{Alloc, Free, Read}
use Rattle.evac_model.specs.declared.entry.Entry.{Entry}
use Rattle.evac_model.specs.declared.reply.Reply.{Reply}
use Rattle.evac_model.specs.declared.reply.Reply.TheVariants.{Done, Values, Mapped, NotMapped, NoFrame}
use Rattle.evac_model.specs.declared.scenario.StartPage.{StartPage}
use Rattle.evac_model.specs.declared.space.SpaceAction.{SpaceAction}
use Rattle.evac_model.specs.declared.space.SpaceAction.TheVariants.{Lease, Isolate}
use Rattle.evac_model.specs.Geometry.{Sizes}
use Rattle.evac_model.specs.State.{start_state}
use Rattle.evac_model.specs.SpaceJournal.{space_at_start, space_after}
use Rattle.evac_model.specs.History.{IsLegal, after_entries}
use Rattle.evac_model.specs.Scripts.{entries_of}
use Rattle.evac_model.specs.Pairing.{AreMadeBy, IsRefusedAt, ArePaired, AreOutForPages, AreUnplugged}
use Rattle.evac_model.specs.Examples.{small, return}

abbrev pub entry : (ticket caller call_no page : ℕ) → Call → Reply → Entry
entry ticket caller call_no page call reply = record {
  ticket = ticket;
  caller = caller;
  call_no = call_no;
  page = record { 0 = page };
  call = call;
  reply = reply;
}

abbrev pub lease_for : (who frame page : ℕ) → (kind : Kind) → SpaceAction
lease_for who frame page kind = Lease who (record { 0 = frame }) (record { 0 = page }) kind

-- owner 1 maps page 5, reads it, finds it mapped twice, can't free page 6, and frees page 5
abbrev pub calls : List Entry
calls =
    entry 0 1 0 5 (Alloc Movable) Done ∷ entry 1 1 1 5 (Read 0 1) (Values (0 ∷ [])) ∷ entry 2 1 2 5 (Alloc Movable) Mapped
    ∷ entry 3 1 3 5 (Alloc Movable) Mapped ∷ entry 4 1 4 6 Free NotMapped ∷ entry 5 1 5 5 Free Done ∷ []

-- one boot frame and one managed frame, which have pages 0 and 1 at the start
abbrev pub full : Sizes
full = record { cells = 1; block = 1; boot = 1; managed = 1; plugged = 1; pages = 3 }

abbrev pub start_page : (page frame : ℕ) → (kind : Kind) → StartPage
start_page page frame kind = record { page = record { 0 = page }; kind = kind; frame = record { 0 = frame } }

abbrev pub full_start : List StartPage
full_start = start_page 0 0 Movable ∷ start_page 1 1 Movable ∷ []

-- owner 2 frees page 1, owner 1 maps page 2 to its frame, so that owner 2 gets none, until owner 1 frees page 2
abbrev pub page_1_freed : Entry
page_1_freed = entry 0 2 0 1 Free Done

abbrev pub page_2_mapped : Entry
page_2_mapped = entry 1 1 0 2 (Alloc Movable) Done

abbrev pub alloc_refused : Entry
alloc_refused = entry 2 2 1 1 (Alloc Movable) (NoFrame 2)

abbrev pub page_2_freed : Entry
page_2_freed = entry 3 1 1 2 Free Done

abbrev pub page_1_mapped : Entry
page_1_mapped = entry 4 2 2 1 (Alloc Movable) Done

abbrev pub history : List Entry
history = page_1_freed ∷ page_2_mapped ∷ alloc_refused ∷ page_2_freed ∷ page_1_mapped ∷ []

abbrev pub journal_of_full : List SpaceAction
journal_of_full = return 2 1 ∷ lease_for 1 1 2 Movable ∷ return 1 1 ∷ lease_for 2 1 1 Movable ∷ []

abbrev pub IsRefusedThere : (at : ℕ) → Type 0
IsRefusedThere at =
    IsRefusedAt full Movable (space_at_start full full_start) journal_of_full (entries_of 2 history) alloc_refused Movable at

-- the frames of these start pages are out, and those pages are mapped
abbrev pub LieIn : (frames pages : List StartPage) → Type 0
LieIn frames pages = AreOutForPages (space_at_start full frames) (start_state 1 pages)

abbrev pub AreUnpluggedBut : List ℕ → Type 0
AreUnpluggedBut plugged = AreUnplugged small (space_at_start small []) (map (λ b. record { 0 = b }) plugged)

pub record PairingsOfSmall : Type 0 where
  -- one alloc that found its page mapped had a frame and gave it back; or neither had one
  pub one_had_a_frame : AreMadeBy calls (lease_for 1 8 5 Movable ∷ lease_for 1 9 5 Movable ∷ return 1 9 ∷ return 1 8 ∷ [])
  pub neither_had_a_frame : AreMadeBy calls (lease_for 1 8 5 Movable ∷ return 1 8 ∷ [])
  -- it kept its frame, or gave another one back
  pub frame_kept : ¬ AreMadeBy calls (lease_for 1 8 5 Movable ∷ lease_for 1 9 5 Movable ∷ return 1 8 ∷ [])
  pub other_frame : ¬ AreMadeBy calls (lease_for 1 8 5 Movable ∷ lease_for 1 9 5 Movable ∷ return 1 8 ∷ return 1 9 ∷ [])
  -- the first lease is for another page or of another kind, or by another caller
  pub other_page : ¬ AreMadeBy calls (lease_for 1 8 6 Movable ∷ lease_for 1 9 5 Movable ∷ return 1 9 ∷ return 1 8 ∷ [])
  pub other_kind : ¬ AreMadeBy calls (lease_for 1 8 5 Unmovable ∷ lease_for 1 9 5 Movable ∷ return 1 9 ∷ return 1 8 ∷ [])
  pub other_caller : ¬ AreMadeBy calls (lease_for 2 8 5 Movable ∷ lease_for 1 9 5 Movable ∷ return 1 9 ∷ return 1 8 ∷ [])
  -- the free that was refused gave a frame back, too
  pub refused_free : ¬ AreMadeBy calls (lease_for 1 8 5 Movable ∷ lease_for 1 9 5 Movable ∷ return 1 9 ∷ return 1 10 ∷ return 1 8 ∷ [])
  -- the actions of the second alloc come before those of the first
  pub other_order : ¬ AreMadeBy calls (lease_for 1 9 5 Movable ∷ return 1 9 ∷ lease_for 1 8 5 Movable ∷ return 1 8 ∷ [])
  -- an action of a caller without entries
  pub without_entries : ¬ AreMadeBy [] (Isolate (record { 0 = 0 }) ∷ [])
  -- a legal history and its journal
  pub legal : IsLegal 1 (start_state 1 full_start) history
  pub paired : ArePaired full Movable (space_at_start full full_start) history journal_of_full
  -- no frame is free at the places 0, 2 and 4, but owner 2 gave one back behind 0, and leased one before 4
  pub before_its_return : ¬ IsRefusedThere 0
  pub one_is_free : ¬ IsRefusedThere 1
  pub refused_there : IsRefusedThere 2
  pub free_again : ¬ IsRefusedThere 3
  pub behind_its_lease : ¬ IsRefusedThere 4
  pub past_the_end : ¬ IsRefusedThere 5
  -- each mapped page has one frame, with its kind, and no other frame is out
  pub out_for_pages : LieIn full_start full_start
  pub out_at_end : AreOutForPages (space_after full Movable (space_at_start full full_start) journal_of_full) (after_entries 1 (start_state 1 full_start) history)
  pub out_for_none : ¬ LieIn full_start (start_page 0 0 Movable ∷ [])
  pub without_frame : ¬ LieIn full_start (start_page 2 0 Movable ∷ full_start)
  pub with_two_frames : ¬ LieIn (start_page 0 0 Movable ∷ start_page 0 1 Movable ∷ []) (start_page 0 0 Movable ∷ [])
  pub of_other_kind : ¬ LieIn full_start (start_page 0 0 Unmovable ∷ start_page 1 1 Movable ∷ [])
  -- of the blocks 0 to 3 the last is offline
  pub plugged : AreUnpluggedBut (0 ∷ 1 ∷ 2 ∷ [])
  pub one_not_named : ¬ AreUnpluggedBut (0 ∷ 2 ∷ [])
  pub all_named : ¬ AreUnpluggedBut (0 ∷ 1 ∷ 2 ∷ 3 ∷ [])
