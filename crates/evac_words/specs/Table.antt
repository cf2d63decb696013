-- Where the words of the table lie: word 0 is the next ticket, then come one entry word for each page,
-- one dirty word for each frame, and the cells, frame by frame.
use Rattle.std.specs.Prelude.{ℕ, ◌+◌, ◌*◌, ◌<◌}

abbrev pub entry_index : ℕ → ℕ
entry_index page = 1 + page

abbrev pub dirty_index : ℕ → ℕ → ℕ
dirty_index pages frame = 1 + pages + frame

abbrev pub cell_index : ℕ → ℕ → ℕ → ℕ → ℕ → ℕ
cell_index pages frames cells frame cell = 1 + pages + frames + frame * cells + cell

abbrev pub table_length : ℕ → ℕ → ℕ → ℕ
table_length pages frames cells = 1 + pages + frames + frames * cells

-- what a word of the table is
pub data Place : Type 0 where
  next_ticket : Place
  entry_word : ℕ → Place
  dirty_word : ℕ → Place
  cell_word : ℕ → ℕ → Place

-- the table with so many pages, frames and cells to a frame has this place
abbrev pub HasPlace : ℕ → ℕ → ℕ → Place → Type 0
HasPlace pages frames cells next_ticket = Unit {0}
HasPlace pages frames cells (entry_word page) = page < pages
HasPlace pages frames cells (dirty_word frame) = frame < frames
HasPlace pages frames cells (cell_word frame cell) = (frame < frames) × (cell < cells)

abbrev pub index_of : ℕ → ℕ → ℕ → Place → ℕ
index_of pages frames cells next_ticket = 0
index_of pages frames cells (entry_word page) = entry_index page
index_of pages frames cells (dirty_word frame) = dirty_index pages frame
index_of pages frames cells (cell_word frame cell) = cell_index pages frames cells frame cell
