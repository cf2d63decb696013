-- Views in place of others, where no word is touched: frames went from hand to hand, a seat was split,
-- seats were joined, or the views stand in another order. Together they have what the views before had.
use Rattle.std.specs.Prelude.{◌≡◌, ◌⊎◌, ℕ, ◌<◌, ◌≤◌, List, slice_get, Option, Some, IsSome}
use Rattle.std.specs.List.{sum_by}
use Rattle.evac_model.specs.declared.entry.Entry.{Entry}
use Rattle.core_state.specs.declared.hand.HandFrame.{HandFrame}
use Rattle.core_state.specs.declared.held.Held.{Held}
use Rattle.core_state.specs.declared.noticed.Notice.{Notice}
use Rattle.core_state.specs.declared.opening.Opening.{Opening}
use Rattle.core_state.specs.declared.scan.Scan.{Scan}
use Rattle.core_state.specs.declared.view.View.{View}
use Rattle.core_state.specs.Views.{Has, spent, IsSeated, holders, right_to, movers, hand_frame, times_in_hands, times_unmarked, times_unmarked_in, Owns, scans, keeps_journal}
use Rattle.core_state.specs.Parts.{uses, all_left}
use Rattle.core_state.specs.NoticedWords.{HasEntry}

-- some view is so
pub record SomeView (views : List View) (P : View → Type 0) : Type 0 where
  pub seat : ℕ
  pub view : View
  pub has : Has views seat view
  pub is : P view

-- The view goes on holding a page as another did: with no fewer tickets left, with the same right to
-- that page, and with the number of a caller, where the other had one.
pub record GoesOn (before after : View) (h : Held) : Type 0 where
  pub held_before : before.held ≡ Some h
  pub held_after : after.held ≡ Some h
  pub caller : IsSome before.caller → IsSome after.caller
  pub left : before.left ≤ after.left
  pub right : right_to h.page.0 after ≡ right_to h.page.0 before

-- the view before has tickets left, and the one after has the number of a caller where it has one
pub record KeepsCaller (before after : View) : Type 0 where
  pub left : 0 < before.left
  pub caller : IsSome before.caller → IsSome after.caller

-- the view has the frame in hand, with this stored in it
abbrev pub HasStored : View → ℕ → List (Option ℕ) → Type 0
HasStored v frame stores = (x : HandFrame) × (hand_frame v frame ≡ Some x) × (x.stores ≡ stores)

-- the frame was unmarked there, and is the view's own where it was the other's
pub record KeepsUnmarked (before after : View) (frame : ℕ) : Type 0 where
  pub unmarked : 0 < times_unmarked frame before
  pub own : Owns before frame → Owns after frame

-- the word is among those of the view's takes by the right to move
abbrev pub HasNotice : View → Notice → Type 0
HasNotice v c = (k : ℕ) × (slice_get v.noticed.by_right k ≡ Some c)

-- What the view has, a view among these had: the page that it holds, its leave to draw tickets, its
-- notices, its frames in hand with what was stored in them, its unmarked frames, and the scanner's part.
-- It has seen no later ticket than they. It is one of them, or seated, or spent.
pub record HadBefore (o : Opening) (views : List View) (v : View) : Type 0 where
  pub holds : (h : Held) → v.held ≡ Some h → SomeView views (λ w. GoesOn w v h)
  pub caller : 0 < v.left → SomeView views (λ w. KeepsCaller w v)
  pub seen : (n : ℕ) → ((i : ℕ) (w : View) → Has views i w → w.seen ≤ n) → v.seen ≤ n
  pub by_right : (c : Notice) → HasNotice v c → SomeView views (λ w. HasNotice w c)
  pub last : (c : Notice) → v.noticed.last ≡ Some c → SomeView views (λ w. w.noticed.last ≡ Some c)
  pub stored : (frame : ℕ) (x : HandFrame) → hand_frame v frame ≡ Some x → SomeView views (λ w. HasStored w frame x.stores)
  pub unmarked : (frame : ℕ) → 0 < times_unmarked frame v → SomeView views (λ w. KeepsUnmarked w v frame)
  pub scan : (s : Scan) → v.scan ≡ Some s → SomeView views (λ w. w.scan ≡ Some s)
  pub places : SomeView views (λ w. w ≡ v) ⊎ (IsSeated o v ⊎ (v ≡ spent))

-- Taken together, the other views have the same entries, held pages, rights, tickets, frames in hand and
-- unmarked frames, no more scanners, no more views with the journal of the frame space, and nothing that
-- no view had before. Their number and their order don't matter.
pub record Rearranged (o : Opening) (views other : List View) : Type 0 where
  pub entries : (e : Entry) → HasEntry views e → HasEntry other e
  pub no_new_entry : (e : Entry) → HasEntry other e → HasEntry views e
  pub holders : (page : ℕ) → holders page other ≡ holders page views
  pub movers : (page : ℕ) → movers page other ≡ movers page views
  pub uses : (t : ℕ) → uses t other ≡ uses t views
  pub left : all_left other ≡ all_left views
  pub in_hands : (frame : ℕ) → times_in_hands frame other ≡ times_in_hands frame views
  pub unmarked : (frame : ℕ) → times_unmarked_in frame other ≡ times_unmarked_in frame views
  pub scanners : sum_by scans other ≤ sum_by scans views
  pub journals : sum_by keeps_journal other ≤ sum_by keeps_journal views
  pub each : (i : ℕ) (v : View) → Has other i v → HadBefore o views v
