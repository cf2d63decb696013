-- How the words and the views stand at the opening. It may have any pages, any first ticket, any bounds
-- that aren't above it, and any budget that keeps tickets below 2^33.
use Rattle.std.specs.Prelude.{◌≡◌, ℕ, ◌+◌, ◌<◌, ◌≤◌, ◌^◌, List, [], length, replicate, slice_index, slice_index_or, Some, None, IsSome}
use Rattle.std.specs.List.{sum_by}
use Rattle.evac_words.specs.Word.{taken_bit, bound_of}
use Rattle.core_state.specs.declared.hand.HandFrame.{HandFrame}
use Rattle.core_state.specs.declared.opening.Opening.{Opening}
use Rattle.core_state.specs.declared.scan.Scan.{Scan}
use Rattle.core_state.specs.declared.view.View.{View}
use Rattle.core_state.specs.Words.{next_ticket_of, entry_word_of, dirty_word_of}
use Rattle.core_state.specs.Views.{Has, IsSeated, movers, hand_frame, times_in_hands, keeps_journal, scans}
use Rattle.core_state.specs.Parts.{Shaped, all_left}
use Rattle.core_state.specs.Pages.{page_cells, FreeShows}
use Rattle.core_state.specs.Frames.{times_mapped}
use Rattle.core_state.specs.Copies.{nothing_copied}
use Rattle.core_state.specs.Image.{copy_at}

-- a seat of the machine that has done nothing; it may have tickets, frames in hand and a right to move
pub record IsNew (o : Opening) (v : View) : Type 0 where
  pub seated : IsSeated o v
  pub held : v.held ≡ None
  pub entries : v.entries ≡ []
  pub by_right : v.noticed.by_right ≡ []
  pub last : v.noticed.last ≡ None
  pub unmarked : v.unmarked ≡ []
  pub seen : v.seen ≡ 0
  pub caller : 0 < v.left → IsSome v.caller
  pub hand : (frame : ℕ) (x : HandFrame) → hand_frame v frame ≡ Some x → x.stores ≡ replicate o.cells None
  pub copies : (s : Scan) (frame : ℕ) → v.scan ≡ Some s → frame < o.frames → copy_at s frame ≡ nothing_copied o.cells
  pub swept : (s : Scan) → v.scan ≡ Some s → s.swept ≡ []

pub record Opens (o : Opening) (words : List ℕ) (views : List View) : Type 0 where
  pub shaped : Shaped o words
  pub first_is : next_ticket_of words ≡ o.first
  pub budget_is : all_left views ≡ o.budget
  pub budget_small : o.first + o.budget < 2 ^ 33
  pub free : (page : ℕ) → page < o.pages → taken_bit (entry_word_of words page) ≡ 0
  pub bound_is : (page : ℕ) → page < o.pages → bound_of (entry_word_of words page) ≡ slice_index o.bounds page
  pub bound_low : (page : ℕ) → page < o.pages → slice_index o.bounds page ≤ o.first
  pub shows : (page : ℕ) → page < o.pages → FreeShows o words (entry_word_of words page) (slice_index_or o.start page None)
  pub sized : (page : ℕ) → page < o.pages → length (page_cells o.cells (slice_index_or o.start page None)) ≡ o.cells
  pub clean : (frame : ℕ) → frame < o.frames → dirty_word_of o words frame ≡ 0
  pub each_once : (frame : ℕ) → frame < o.frames → times_mapped o frame words + times_in_hands frame views ≡ 1
  pub no_other : (frame : ℕ) → o.frames ≤ frame → times_mapped o frame words + times_in_hands frame views ≡ 0
  pub one_mover : (page : ℕ) → movers page views ≤ 1
  pub one_scanner : sum_by scans views ≤ 1
  pub one_journal : sum_by keeps_journal views ≤ 1
  pub new : (i : ℕ) (v : View) → Has views i v → IsNew o v
