-- An evacuation as it is told: rounds over the frames of a block, in each of them an attempt to move each
-- page, and what was asked and told of all this, in order.
use Rattle.std.specs.Prelude.{◌≡◌, ℕ, Bool, true, ◌&&◌, nat_lt, if◌then◌else◌, List, [], ◌∷◌, ◌++◌, length, Contains, Option, None, Some}
use Rattle.std.specs.List.{AllByRecursion}
use Rattle.std.specs.Option.{option_or, is_some}
use Rattle.evac_model.specs.declared.names.BlockNo.{BlockNo}
use Rattle.evac_model.specs.declared.names.FrameNo.{FrameNo}
use Rattle.evac_model.specs.declared.names.PageNo.{PageNo}
use Rattle.evac_model.specs.declared.evacuation.MoveLease.{MoveLease}
use Rattle.evac_model.specs.Geometry.{Sizes}
use Rattle.evac_model.specs.SpaceJournal.{is_frame_of}
use Rattle.evacuate.specs.declared.action.EvacAction.{EvacAction}
use Rattle.evacuate.specs.declared.action.EvacAction.TheVariants.{Isolate, Lease, Move, GiveBack}
use Rattle.evacuate.specs.declared.seen.EvacSeen.{EvacSeen}
use Rattle.evacuate.specs.declared.seen.EvacSeen.TheVariants.{Isolated, Leased, NoneLeft, Moved, Found, Done}
use Rattle.evacuate.specs.declared.stage.Attempt.{Attempt}
use Rattle.evacuate.specs.Found.{is_busy}

-- an action, and what it gave
pub record Exchange : Type 0 where
  pub asked : EvacAction
  pub told : EvacSeen

-- The rounds that ended with a busy page, the newest first, and the attempts of the round under way or of
-- the last one, the newest first.
pub record Tale : Type 0 where
  pub rounds : List (List Attempt)
  pub attempts : List Attempt

abbrev pub nothing_tried : Tale
nothing_tried = record { rounds = []; attempts = [] }

-- ---- what was asked and told

-- the frame of the newest attempt
abbrev pub last_frame : List Attempt → Option FrameNo
last_frame [] = None
last_frame (a ∷ attempts) = Some a.lease.from

-- what came of a page, as it is told
abbrev pub told_of : Option ℕ → EvacSeen
told_of None = Moved
told_of (Some word) = Found word

-- the frame that is given back: the old one of a page that was moved, else the target
abbrev pub frame_left : MoveLease → Option ℕ → FrameNo
frame_left lease None = lease.from
frame_left lease (Some word) = lease.target

abbrev pub frame_back : Attempt → FrameNo
frame_back a = frame_left a.lease a.found

-- an attempt on the next frame behind another
abbrev pub attempt_log : BlockNo → Option FrameNo → Attempt → List Exchange
attempt_log b after a =
    record { asked = Lease b after; told = Leased a.lease }
    ∷ record { asked = Move a.lease; told = told_of a.found }
    ∷ record { asked = GiveBack (frame_back a); told = Done } ∷ []

abbrev pub attempts_log : BlockNo → List Attempt → List Exchange
attempts_log b [] = []
attempts_log b (a ∷ attempts) = attempts_log b attempts ++ attempt_log b (last_frame attempts) a

-- the end of a round: no later frame is out
abbrev pub round_end : BlockNo → List Attempt → Exchange
round_end b attempts = record { asked = Lease b (last_frame attempts); told = NoneLeft }

abbrev pub rounds_log : BlockNo → List (List Attempt) → List Exchange
rounds_log b [] = []
rounds_log b (r ∷ rounds) = rounds_log b rounds ++ (attempts_log b r ++ round_end b r ∷ [])

-- all of it: the block was isolated, and then came the rounds
abbrev pub tale_log : BlockNo → Tale → List Exchange
tale_log b tale =
    record { asked = Isolate b; told = Isolated } ∷ (rounds_log b tale.rounds ++ attempts_log b tale.attempts)

-- ---- the rules of a round

-- whether a frame lies behind another
abbrev pub is_behind : Option FrameNo → (frame : ℕ) → Bool
is_behind None frame = true
is_behind (Some last) frame = nat_lt last.0 frame

-- whether a frame is of the block, and behind another
abbrev pub is_next : Sizes → BlockNo → Option FrameNo → (frame : ℕ) → Bool
is_next s b after frame = is_frame_of s b.0 frame && is_behind after frame

-- a round goes over frames of the block, rising
abbrev pub AreInOrder : Sizes → BlockNo → List Attempt → Type 0
AreInOrder s b [] = Unit {0}
AreInOrder s b (a ∷ attempts) = (is_next s b (last_frame attempts) a.lease.from.0 ≡ true) × AreInOrder s b attempts

-- the page was moved, or the word found says that it was busy
abbrev pub IsFoundBusy : (frame : ℕ) → Option ℕ → Type 0
IsFoundBusy frame None = Unit {0}
IsFoundBusy frame (Some word) = is_busy word frame ≡ true

abbrev pub IsMovedOrBusy : Attempt → Type 0
IsMovedOrBusy a = IsFoundBusy a.lease.from.0 a.found

abbrev pub IsMoved : Attempt → Type 0
IsMoved a = a.found ≡ None

-- the page of a busy attempt
abbrev pub busy_lease : MoveLease → Option ℕ → Option MoveLease
busy_lease lease None = None
busy_lease lease (Some word) = Some lease

-- the first page of a round that was busy
abbrev pub first_busy : List Attempt → Option MoveLease
first_busy [] = None
first_busy (a ∷ attempts) = option_or (first_busy attempts) (busy_lease a.lease a.found)

-- in a round, this word was found for the page, which was out in that frame
pub record WasFound (attempts : List Attempt) (frame : FrameNo) (page : PageNo) (word : ℕ) : Type 0 where
  pub target : FrameNo
  pub there : Contains attempts (record { lease = record { from = frame; page = page; target = target }; found = Some word })

-- the same of some word
abbrev pub WasBusy : List Attempt → FrameNo → PageNo → Type 0
WasBusy attempts frame page = (word : ℕ) × WasFound attempts frame page word

-- ---- the rules of rounds

-- A round of them: it went over frames of the block, moved some pages, and found at least one busy.
pub record IsRound (s : Sizes) (b : BlockNo) (attempts : List Attempt) : Type 0 where
  pub in_order : AreInOrder s b attempts
  pub moved_or_busy : AllByRecursion IsMovedOrBusy attempts
  pub one_busy : is_some (first_busy attempts) ≡ true

-- in the round before, if there was one, the page was busy in that frame
abbrev pub WasBusyBefore : List (List Attempt) → FrameNo → PageNo → Type 0
WasBusyBefore [] frame page = Unit {0}
WasBusyBefore (r ∷ rounds) frame page = WasBusy r frame page

-- no frame of the block is leased while it is isolated: those out in a round were out for the same pages in
-- the round before, and were not moved in it
abbrev pub WereBusyBefore : List Attempt → List (List Attempt) → Type 0
WereBusyBefore attempts [] = Unit {0}
WereBusyBefore attempts (r ∷ rounds) =
    AllByRecursion (λ a. WasBusy r a.lease.from a.lease.page) attempts × WereBusyBefore r rounds

-- whether another round is made behind the one under way: a page was busy in it, and it isn't the fifth
abbrev pub is_repeated : Tale → Bool
is_repeated tale = is_some (first_busy tale.attempts) && nat_lt (length tale.rounds) 4

-- behind the last frame of a round, the next one begins
abbrev pub round_over : Tale → Tale
round_over tale = if is_repeated tale then record { rounds = tale.attempts ∷ tale.rounds; attempts = [] } else tale
