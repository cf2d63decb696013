-- The entry word that a mover found for a page that is out in a frame: why it didn't move the page.
use Rattle.std.specs.Prelude.{ℕ, Bool, ◌==◌, ◌&&◌, ◌||◌, not, nat_lt}
use Rattle.evac_words.specs.Word.{taken_bit, mapped_bit, unmovable_bit, pins_of, frame_of}

-- whether the word maps the frame
abbrev pub maps : (word frame : ℕ) → Bool
maps word frame = mapped_bit word == 1 && frame_of word == frame

-- a busy page: somebody holds it, or it doesn't lie in the frame
abbrev pub is_busy : (word frame : ℕ) → Bool
is_busy word frame = taken_bit word == 1 || not (maps word frame)

-- a pinned page: nobody holds it, it lies in the frame, and it is a movable one with pins
abbrev pub is_pinned : (word frame : ℕ) → Bool
is_pinned word frame = not (is_busy word frame) && not (unmovable_bit word == 1) && nat_lt 0 (pins_of word)
