-- What a word has under a mask of one bit.
use Rattle.std.proofs.Common.{◌≡◌, ℕ, ◌*◌, bit_and}
use Rattle.std.proofs.lemmas.Nat.Bits.{and_pow}
use Rattle.evac_words.specs.Word.{moving_bit, mapped_bit, unmovable_bit}

pub and_moving : (w : ℕ) → bit_and w 2 ≡ moving_bit w * 2
and_moving w = and_pow w 1

pub and_mapped : (w : ℕ) → bit_and w 4 ≡ mapped_bit w * 4
and_mapped w = and_pow w 2

pub and_unmovable : (w : ℕ) → bit_and w 8 ≡ unmovable_bit w * 8
and_unmovable w = and_pow w 3
