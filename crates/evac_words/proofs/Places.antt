-- Where the words of the table lie: apart, and inside it.
use Rattle.std.proofs.Common.{◌≡◌, ℕ, ◌<◌, refl, ap, arith}
use Rattle.std.proofs.lemmas.Nat.{mul-add-lt, same_from_place}
use Rattle.evac_words.specs.Table.{cell_index, table_length, Place, next_ticket, entry_word, dirty_word, cell_word, HasPlace, index_of}

module _ (pages frames cells : ℕ) where
  pub index_of-lt : (p : Place) → HasPlace pages frames cells p → index_of pages frames cells p < table_length pages frames cells
  index_of-lt next_ticket has = omega arith
  index_of-lt (entry_word page) has = omega arith
  index_of-lt (dirty_word frame) has = omega arith
  index_of-lt (cell_word frame cell) has = omega (arith, mul-add-lt frame cells cell frames has.0 has.1)

  cells_apart : (f c g d : ℕ) → c < cells → d < cells → cell_index pages frames cells f c ≡ cell_index pages frames cells g d → cell_word f c ≡ cell_word g d
  cells_apart f c g d c_fits d_fits same =
      let same_cell = same_from_place f c g d cells c_fits d_fits (omega arith) in
      cc

  pub index_of-apart : (p q : Place) → HasPlace pages frames cells p → HasPlace pages frames cells q → index_of pages frames cells p ≡ index_of pages frames cells q → p ≡ q
  index_of-apart next_ticket next_ticket hp hq same = refl
  index_of-apart next_ticket (entry_word q) hp hq same = absurd (omega arith)
  index_of-apart next_ticket (dirty_word q) hp hq same = absurd (omega arith)
  index_of-apart next_ticket (cell_word g d) hp hq same = absurd (omega arith)
  index_of-apart (entry_word p) next_ticket hp hq same = absurd (omega arith)
  index_of-apart (entry_word p) (entry_word q) hp hq same = let e : p ≡ q = omega arith in ap entry_word e
  index_of-apart (entry_word p) (dirty_word q) hp hq same = absurd (omega arith)
  index_of-apart (entry_word p) (cell_word g d) hp hq same = absurd (omega arith)
  index_of-apart (dirty_word p) next_ticket hp hq same = absurd (omega arith)
  index_of-apart (dirty_word p) (entry_word q) hp hq same = absurd (omega arith)
  index_of-apart (dirty_word p) (dirty_word q) hp hq same = let e : p ≡ q = omega arith in ap dirty_word e
  index_of-apart (dirty_word p) (cell_word g d) hp hq same = absurd (omega arith)
  index_of-apart (cell_word f c) next_ticket hp hq same = absurd (omega arith)
  index_of-apart (cell_word f c) (entry_word q) hp hq same = absurd (omega arith)
  index_of-apart (cell_word f c) (dirty_word q) hp hq same = absurd (omega arith)
  index_of-apart (cell_word f c) (cell_word g d) hp hq same = cells_apart f c g d hp.1 hq.1 same
