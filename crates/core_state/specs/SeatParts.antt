-- A way to split a seat, and a way to join one into another.
use Rattle.std.specs.Prelude.{ℕ, suc, ◌+◌, ◌-◌, ◌&&◌, ◌||◌, not, max, Bool, List, [], ◌∷◌, ◌++◌, if◌then◌else◌, Option, Some, None}
use Rattle.core_state.specs.declared.hand.HandFrame.{HandFrame}
use Rattle.core_state.specs.declared.view.View.{View}
use Rattle.core_state.specs.Views.{spent}
use Rattle.core_state.specs.SeatMoves.{caller_of_both}

-- ---- a split

-- the frames in hand that are picked by number
abbrev pub frames_where : (ℕ → Bool) → List (Option HandFrame) → List (Option HandFrame)
frames_where pick [] = []
frames_where pick (x ∷ xs) = (if pick 0 then x else None) ∷ frames_where (λ i. pick (suc i)) xs

-- the rights to the pages that are picked by number
abbrev pub rights_where : (ℕ → Bool) → List Bool → List Bool
rights_where pick [] = []
rights_where pick (x ∷ xs) = (pick 0 && x) ∷ rights_where (λ i. pick (suc i)) xs

-- the view without so many tickets, and without these frames and rights
abbrev pub kept_part : View → ℕ → (frames pages : ℕ → Bool) → View
kept_part v tickets frames pages = record v {
  hand = frames_where (λ i. not (frames i)) v.hand;
  left = v.left - tickets;
  mover = rights_where (λ i. not (pages i)) v.mover;
}

-- those tickets, frames and rights, for a seat with this caller
abbrev pub given_part : View → Option ℕ → ℕ → (frames pages : ℕ → Bool) → View
given_part v caller tickets frames pages = record spent {
  cells = v.cells;
  caller = caller;
  hand = frames_where frames v.hand;
  left = tickets;
  seen = v.seen;
  mover = rights_where pages v.mover;
}

-- ---- a join

abbrev pub frame_of_both : Option HandFrame → Option HandFrame → Option HandFrame
frame_of_both None y = y
frame_of_both (Some x) y = Some x

-- the frames of both hands
abbrev pub hand_of_both : List (Option HandFrame) → List (Option HandFrame) → List (Option HandFrame)
hand_of_both [] ys = ys
hand_of_both (x ∷ xs) [] = x ∷ xs
hand_of_both (x ∷ xs) (y ∷ ys) = frame_of_both x y ∷ hand_of_both xs ys

-- the rights of both
abbrev pub rights_of_both : List Bool → List Bool → List Bool
rights_of_both [] ys = ys
rights_of_both (x ∷ xs) [] = x ∷ xs
rights_of_both (x ∷ xs) (y ∷ ys) = (x || y) ∷ rights_of_both xs ys

-- the view once another was joined into it
abbrev pub joined_view : View → View → View
joined_view v w = record v {
  caller = caller_of_both v.caller w.caller;
  entries = v.entries ++ w.entries;
  hand = hand_of_both v.hand w.hand;
  noticed = record v.noticed { by_right = v.noticed.by_right ++ w.noticed.by_right };
  left = v.left + w.left;
  seen = max v.seen w.seen;
  mover = rights_of_both v.mover w.mover;
}
