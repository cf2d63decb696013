-- What holds of the world between any two actions.
use Rattle.std.specs.Prelude.{◌≡◌, ◌≢◌, ◌↔◌, ℕ, suc, ◌+◌, ◌<◌, ◌≤◌, ◌||◌, true, false, List, [], length, Some, None}
use Rattle.evac_model.specs.DeviceAnswer.{device_at_start}
use Rattle.evac_model.specs.Geometry.{IsWithinLimits, frame_count}
use Rattle.evac_model.specs.DeviceJournal.{AreAnswered}
use Rattle.evac_model.specs.Numbers.{is_in}
use Rattle.evac_model.specs.SpaceJournal.{out_for, is_frame_of, is_frame_in, IsPossibleJournal}
use Rattle.evac_words.specs.Word.{mapped_bit, frame_of}
use Rattle.core_state.specs.declared.view.View.{View}
use Rattle.core_state.specs.HandOvers.{IsAtRest}
use Rattle.core_state.specs.Sound.{Sound}
use Rattle.core_state.specs.Views.{Has, view_of, hand_frame}
use Rattle.core_state.specs.Words.{entry_word_of, kind_in}
use Rattle.space.specs.SpaceInside.{IsSpace}
use Rattle.machine.specs.World.{Setting, World, scanner_seat, free_seat, unplugged_seat, IsOwnerSeat, HasFrame, space_now, unplugged_now, is_held}

-- The parts of a setting go together: the words are those of a machine of these sizes, and the frame space is one of it.
pub record IsSetting (c : Setting) : Type 0 where
  pub limits : IsWithinLimits c.sizes
  pub pages : c.opening.pages ≡ c.sizes.pages
  pub frames : c.opening.frames ≡ frame_count c.sizes
  pub cells : c.opening.cells ≡ c.sizes.cells
  pub space : IsSpace c.sizes c.online c.space
  pub owners : c.owners ≤ 16

-- no seat but the driver's has the right to move a page
abbrev pub IsQuiet : List View → Type 0
IsQuiet views = (i : ℕ) (v : View) → Has views (suc i) v → v.mover ≡ []

-- The snapshot is sound, each action of the frame space was possible, and each response is the device's answer by the
-- actions before it. Who keeps the free frames has exactly those in hand that are neither out nor in an offline block,
-- who keeps the unplugged ones has those of the blocks that aren't plugged, the driver has those of the blocks that it
-- holds, and the scanner has none. The offline blocks are the unplugged ones and those that the driver holds. A mapped
-- page's frame is out for it, with its kind, and a frame in an owner's hand is out.
pub record IsConsistent (c : Setting) (w : World) : Type 0 where
  pub sound : Sound c.opening w.snapshot.words w.snapshot.views
  pub seats : length w.snapshot.views ≡ c.owners + 4
  pub quiet : IsQuiet w.snapshot.views
  pub keeper_rests : IsAtRest c.opening (view_of w.snapshot.views (free_seat c))
  pub unplugged_rests : IsAtRest c.opening (view_of w.snapshot.views (unplugged_seat c))
  pub possible : IsPossibleJournal c.sizes c.online c.space w.space
  pub answered : AreAnswered c.sizes (device_at_start c.sizes) c.backing w.device
  pub free : (frame : ℕ) → frame < frame_count c.sizes → HasFrame w (free_seat c) frame ↔ ((out_for (space_now c w) frame ≡ None) × (is_frame_in c.sizes (space_now c w).offline frame ≡ false))
  pub unplugged : (frame : ℕ) → frame < frame_count c.sizes → HasFrame w (unplugged_seat c) frame ↔ (is_frame_in c.sizes (unplugged_now c w) frame ≡ true)
  pub driver : (block frame : ℕ) → is_held c w block ≡ true → is_frame_of c.sizes block frame ≡ true → HasFrame w 0 frame
  pub scanner : (frame : ℕ) → hand_frame (view_of w.snapshot.views (scanner_seat c)) frame ≡ None
  pub offline : (block : ℕ) → is_in block (space_now c w).offline ≡ (is_in block (unplugged_now c w) || is_held c w block)
  pub mapped : (page : ℕ) → page < c.sizes.pages → mapped_bit (entry_word_of w.snapshot.words page) ≡ 1 → out_for (space_now c w) (frame_of (entry_word_of w.snapshot.words page)) ≡ Some (record { page = page; kind = kind_in (entry_word_of w.snapshot.words page) })
  pub in_hand : (seat frame : ℕ) → IsOwnerSeat c seat → HasFrame w seat frame → out_for (space_now c w) frame ≢ None
