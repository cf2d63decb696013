-- The words of the table by what they are, and an entry word after each step on it.
use Rattle.std.specs.Prelude.{ℕ, ◌+◌, ◌*◌, ◌==◌, List, take, drop, slice_index}
use Rattle.evac_model.specs.declared.names.Kind.{Kind}
use Rattle.evac_model.specs.declared.names.Kind.TheVariants.{Movable, Unmovable}
use Rattle.evac_model.specs.Page.{kind_of}
use Rattle.evac_words.specs.Word.{taken_bit, moving_bit, mapped_bit, unmovable_bit, pins_of, frame_of, bound_of}
use Rattle.evac_words.specs.Table.{entry_index, dirty_index, cell_index}
use Rattle.core_state.specs.declared.opening.Opening.{Opening}

-- word 0
abbrev pub next_ticket_of : List ℕ → ℕ
next_ticket_of words = slice_index words 0

abbrev pub entry_word_of : List ℕ → ℕ → ℕ
entry_word_of words page = slice_index words (entry_index page)

abbrev pub dirty_word_of : Opening → List ℕ → ℕ → ℕ
dirty_word_of o words frame = slice_index words (dirty_index o.pages frame)

abbrev pub cells_of_frame : Opening → List ℕ → ℕ → List ℕ
cells_of_frame o words frame = take o.cells (drop (cell_index o.pages o.frames o.cells frame 0) words)

-- the kind that an entry word says
abbrev pub kind_in : ℕ → Kind
kind_in w = kind_of (unmovable_bit w == 0)

abbrev pub unmovable_for : Kind → ℕ
unmovable_for Movable = 0
unmovable_for Unmovable = 1

-- the entry word that says this
abbrev pub packed : ℕ → ℕ → ℕ → ℕ → ℕ → ℕ → ℕ → ℕ
packed taken moving mapped unmovable pins frame bound =
    taken + 2 * moving + 4 * mapped + 8 * unmovable + 16 * pins + 1024 * frame + 1073741824 * bound

-- the word without the taken bit, with these pins and this bound
abbrev pub released_word : ℕ → ℕ → ℕ → ℕ
released_word w pins bound = packed 0 (moving_bit w) (mapped_bit w) (unmovable_bit w) pins (frame_of w) bound

-- the word with the moving bit
abbrev pub moving_word : ℕ → ℕ
moving_word w = packed (taken_bit w) 1 (mapped_bit w) (unmovable_bit w) (pins_of w) (frame_of w) (bound_of w)

-- the word with another frame, without the moving bit
abbrev pub remapped_word : ℕ → ℕ → ℕ
remapped_word w frame = packed (taken_bit w) 0 (mapped_bit w) (unmovable_bit w) (pins_of w) frame (bound_of w)

-- the word of a page that is mapped to the frame, with no pins
abbrev pub mapped_word : ℕ → ℕ → Kind → ℕ
mapped_word w frame kind = packed (taken_bit w) 0 1 (unmovable_for kind) 0 frame (bound_of w)

-- the word of an unmapped page
abbrev pub unmapped_word : ℕ → ℕ
unmapped_word w = packed (taken_bit w) 0 0 0 0 0 (bound_of w)
