-- The entry word of a page. Bit 0 says that a seat holds the page, bit 1 that the page is being moved,
-- bit 2 that it is mapped, bit 3 that it cannot be moved. Bits 4 to 9 are its pins, 10 to 29 its frame,
-- and 30 to 63 its bound: one more than the greatest ticket of the page, or 0.
use Rattle.std.specs.Prelude.{ℕ, ◌+◌, ◌*◌, ◌/◌, ◌%◌, ◌^◌, ◌<◌, ◌≤◌, Bool, if◌then◌else◌, ◌==◌, Option, None, Some}
use Rattle.evac_words.specs.declared.flags.Flags.{Flags}

abbrev pub taken_bit : ℕ → ℕ
taken_bit w = w % 2

abbrev pub moving_bit : ℕ → ℕ
moving_bit w = w / 2 % 2

abbrev pub mapped_bit : ℕ → ℕ
mapped_bit w = w / 4 % 2

abbrev pub unmovable_bit : ℕ → ℕ
unmovable_bit w = w / 8 % 2

abbrev pub pins_of : ℕ → ℕ
pins_of w = w / 16 % 64

abbrev pub frame_of : ℕ → ℕ
frame_of w = w / 1024 % 1048576

abbrev pub bound_of : ℕ → ℕ
bound_of w = w / 1073741824

-- what a word says
abbrev pub flags_of : ℕ → Flags
flags_of w = record {
  taken = taken_bit w == 1;
  moving = moving_bit w == 1;
  mapped = mapped_bit w == 1;
  unmovable = unmovable_bit w == 1;
  pins = pins_of w;
  frame = frame_of w;
  bound = bound_of w;
}

abbrev pub bit_of : Bool → ℕ
bit_of b = if b then 1 else 0

-- the word that says this
abbrev pub word_of : Flags → ℕ
word_of f =
    bit_of f.taken + 2 * bit_of f.moving + 4 * bit_of f.mapped + 8 * bit_of f.unmovable
    + 16 * f.pins + 1024 * f.frame + 1073741824 * f.bound

-- each number has room in the word
pub record FitsWord (f : Flags) : Type 0 where
  pub pins_fit : f.pins ≤ 63
  pub frame_fits : f.frame < 2 ^ 20
  pub bound_fits : f.bound < 2 ^ 34

-- the bound of a page after its holder has let it go, with a ticket or without
abbrev pub bound_after : ℕ → Option ℕ → ℕ
bound_after w None = bound_of w
bound_after w (Some ticket) = ticket + 1
