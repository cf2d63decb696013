-- Frames that go from the hand of one seat to that of another: where this is allowed, and the views
-- afterwards. No word is touched.
use Rattle.std.specs.Prelude.{◌≡◌, ℕ, ◌+◌, ◌<◌, ◌≤◌, List, [], ◌++◌, take, drop, replicate, slice_set, Option, None, IsSome}
use Rattle.core_state.specs.declared.hand.HandFrame.{HandFrame}
use Rattle.core_state.specs.declared.opening.Opening.{Opening}
use Rattle.core_state.specs.declared.view.View.{View}
use Rattle.core_state.specs.Views.{IsSeated, hand_frame}

-- a view that holds no page and has marked each frame that it wrote
pub record IsAtRest (o : Opening) (v : View) : Type 0 where
  pub seated : IsSeated o v
  pub holds_none : v.held ≡ None
  pub all_marked : v.unmarked ≡ []

-- both views are at rest, and the one has n frames from `first` on in hand
pub record MayHandOver (o : Opening) (giver receiver : View) (first n : ℕ) : Type 0 where
  pub giver_rests : IsAtRest o giver
  pub receiver_rests : IsAtRest o receiver
  pub in_range : first + n ≤ o.frames
  pub in_hand : (frame : ℕ) → first ≤ frame → frame < first + n → IsSome (hand_frame giver frame)

-- a hand without those frames
abbrev pub hand_without : List (Option HandFrame) → (first n : ℕ) → List (Option HandFrame)
hand_without hand first n = take first hand ++ replicate n None ++ drop (first + n) hand

-- a hand with those frames of another, and what was stored in them
abbrev pub hand_with : List (Option HandFrame) → List (Option HandFrame) → (first n : ℕ) → List (Option HandFrame)
hand_with hand given first n = take first hand ++ take n (drop first given) ++ drop (first + n) hand

abbrev pub views_after_hand_over : List View → (from to : ℕ) → (giver receiver : View) → (first n : ℕ) → List View
views_after_hand_over views from to giver receiver first n =
    slice_set (slice_set views from (record giver { hand = hand_without giver.hand first n }))
    to (record receiver { hand = hand_with receiver.hand giver.hand first n })
