-- When the cause of a failed evacuation was met, by what was asked and told.
use Rattle.std.specs.Prelude.{◌≡◌, ℕ, true, List, [], ◌∷◌, length, reverse, Contains, Option, Some}
use Rattle.std.specs.List.{AllByRecursion}
use Rattle.evac_model.specs.declared.names.BlockNo.{BlockNo}
use Rattle.evac_model.specs.declared.names.FrameNo.{FrameNo}
use Rattle.evac_model.specs.declared.names.PageNo.{PageNo}
use Rattle.evac_model.specs.declared.evacuation.EvacCause.{EvacCause}
use Rattle.evac_model.specs.declared.evacuation.EvacCause.TheVariants.{Unmovable, Pinned, NoTarget, Busy}
use Rattle.evac_model.specs.Geometry.{Sizes}
use Rattle.evac_model.specs.SpaceJournal.{is_frame_of}
use Rattle.evacuate.specs.declared.action.EvacAction.TheVariants.{Isolate, Lease, Move}
use Rattle.evacuate.specs.declared.seen.EvacSeen.TheVariants as seen
use Rattle.evacuate.specs.declared.stage.Attempt.{Attempt}
use Rattle.evacuate.specs.Found.{is_busy, is_pinned}
use Rattle.evacuate.specs.Tale.{Exchange, Tale, IsMovedOrBusy, WasFound, first_busy}

-- As many rounds as words, and in each round its word was found for the page, which was out in that frame;
-- the word says that the page was busy.
abbrev pub AreFound : FrameNo → PageNo → List (List Attempt) → (words : List ℕ) → Type 0
AreFound frame page [] [] = Unit {0}
AreFound frame page [] (word ∷ words) = ⊥
AreFound frame page (r ∷ rounds) [] = ⊥
AreFound frame page (r ∷ rounds) (word ∷ words) =
    WasFound r frame page word × (is_busy word frame.0 ≡ true) × AreFound frame page rounds words

-- the page's isolation was refused
pub record IsUnmovable (b : BlockNo) (log : List Exchange) (frame : FrameNo) (page : PageNo) : Type 0 where
  pub told : Contains log (record { asked = Isolate b; told = seen.Refused frame page })

-- The mover found this word for the page, and the word says that the page was pinned; it was the newest
-- attempt of its round, and the pages before it were moved or busy.
pub record WasPinned (tale : Tale) (log : List Exchange) (frame : FrameNo) (page : PageNo) (word : ℕ) : Type 0 where
  pub target : FrameNo
  pub told : Contains log (record { asked = Move (record { from = frame; page = page; target = target }); told = seen.Found word })
  pub pinned : is_pinned word frame.0 ≡ true
  pub before : List Attempt
  pub newest : tale.attempts ≡ record { lease = record { from = frame; page = page; target = target }; found = Some word } ∷ before
  pub at_once : AllByRecursion IsMovedOrBusy before

-- A target was asked for, and there was none for the page; the pages before it were moved or busy.
pub record HadNoTarget (b : BlockNo) (tale : Tale) (log : List Exchange) (frame : FrameNo) (page : PageNo) (at : ℕ) : Type 0 where
  pub after : Option FrameNo
  pub told : Contains log (record { asked = Lease b after; told = seen.NoTarget frame page at })
  pub at_once : AllByRecursion IsMovedOrBusy tale.attempts

-- The page was busy in each of five rounds, by its five words, the first of them found in the first round. It
-- is the first busy page of the fifth, whose pages were all moved or busy.
pub record WasBusyInFive (tale : Tale) (frame : FrameNo) (page : PageNo) (words : List ℕ) : Type 0 where
  pub target : FrameNo
  pub first : first_busy tale.attempts ≡ Some (record { from = frame; page = page; target = target })
  pub five : length words ≡ 5
  pub found : AreFound frame page (tale.attempts ∷ tale.rounds) (reverse words)
  pub round_over : AllByRecursion IsMovedOrBusy tale.attempts

abbrev pub IsFound : BlockNo → Tale → (log : List Exchange) → EvacCause → Type 0
IsFound b tale log (Unmovable frame page) = IsUnmovable b log frame page
IsFound b tale log (Pinned frame page word) = WasPinned tale log frame page word
IsFound b tale log (NoTarget frame page at) = HadNoTarget b tale log frame page at
IsFound b tale log (Busy frame page words) = WasBusyInFive tale frame page words

-- the frame that a cause names
abbrev pub frame_of_cause : EvacCause → FrameNo
frame_of_cause (Unmovable frame page) = frame
frame_of_cause (Pinned frame page word) = frame
frame_of_cause (NoTarget frame page at) = frame
frame_of_cause (Busy frame page words) = frame

-- The cause was met: its frame is of the block, and what it says was told.
pub record IsCauseMet (s : Sizes) (b : BlockNo) (tale : Tale) (log : List Exchange) (cause : EvacCause) : Type 0 where
  pub in_block : is_frame_of s b.0 (frame_of_cause cause).0 ≡ true
  pub found : IsFound b tale log cause
