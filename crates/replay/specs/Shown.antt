-- What the words need, so that pages can be read from them.
use Rattle.std.specs.Prelude.{◌≡◌, ℕ, ◌<◌, List, length}
use Rattle.evac_words.specs.Word.{mapped_bit, frame_of}
use Rattle.evac_words.specs.Table.{table_length}
use Rattle.core_state.specs.declared.opening.Opening.{Opening}
use Rattle.core_state.specs.Room.{IsSmall}
use Rattle.core_state.specs.Words.{entry_word_of}

-- the table is one of a machine, with all its words, and each mapped page lies in a frame of it
pub record MapsInside (o : Opening) (words : List ℕ) : Type 0 where
  pub small : IsSmall o
  pub cells : 0 < o.cells
  pub long : length words ≡ table_length o.pages o.frames o.cells
  pub frames : (page : ℕ) → page < o.pages → mapped_bit (entry_word_of words page) ≡ 1 → frame_of (entry_word_of words page) < o.frames
