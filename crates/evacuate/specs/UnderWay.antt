-- An evacuation, and the tale of what it asked and was told.
use Rattle.std.specs.Prelude.{◌≡◌, ℕ, ◌≤◌, true, List, [], ◌∷◌, ◌++◌, length, None, Some, slice_index_or}
use Rattle.std.specs.List.{AllByRecursion}
use Rattle.evac_model.specs.declared.names.BlockNo.{BlockNo}
use Rattle.evac_model.specs.declared.evacuation.EvacCause.{EvacCause}
use Rattle.evac_model.specs.declared.evacuation.EvacCause.TheVariants as cause
use Rattle.evac_model.specs.Geometry.{Sizes}
use Rattle.evacuate.specs.declared.action.EvacAction.TheVariants as action
use Rattle.evacuate.specs.declared.seen.EvacSeen.{EvacSeen}
use Rattle.evacuate.specs.declared.seen.EvacSeen.TheVariants as seen
use Rattle.evacuate.specs.declared.stage.Attempt.{Attempt}
use Rattle.evacuate.specs.declared.stage.Stage.{Stage}
use Rattle.evacuate.specs.declared.stage.Stage.TheVariants.{Isolating, Leasing, Moving, Returning, Undoing, Emptied, Failed}
use Rattle.evacuate.specs.Tale.{Exchange, Tale, nothing_tried, last_frame, told_of, tale_log, round_end, round_over, is_next, AreInOrder, IsMoved, IsMovedOrBusy, first_busy, IsRound, WasBusyBefore, WereBusyBefore}
use Rattle.evacuate.specs.Causes.{IsCauseMet}
use Rattle.evacuate.specs.Evacuating.{Evacuating, place_of, words_of, is_answer, action_of}

-- ---- what was asked and told

-- a target asked for behind the newest attempt
abbrev pub lease_told : BlockNo → Tale → EvacSeen → Exchange
lease_told b tale told = record { asked = action.Lease b (last_frame tale.attempts); told = told }

-- behind the attempts, what led to a cause
abbrev pub led_to : BlockNo → Tale → EvacCause → List Exchange
led_to b tale (cause.Unmovable frame page) = []
led_to b tale (cause.Pinned frame page word) = []
led_to b tale (cause.NoTarget frame page at) = lease_told b tale (seen.NoTarget frame page at) ∷ []
led_to b tale (cause.Busy frame page words) = round_end b tale.attempts ∷ []

-- all of a failed evacuation: the isolation was refused, or undone
abbrev pub failed_log : BlockNo → Tale → EvacCause → List Exchange
failed_log b tale (cause.Unmovable frame page) = record { asked = action.Isolate b; told = seen.Refused frame page } ∷ []
failed_log b tale why = (tale_log b tale ++ led_to b tale why) ++ record { asked = action.Undo b; told = seen.Done } ∷ []

-- all that was asked and told, by where the evacuation stands
abbrev pub log_at : BlockNo → Tale → Stage → List Exchange
log_at b tale Isolating = []
log_at b tale (Leasing after) = tale_log b tale
log_at b tale (Moving lease) = tale_log b tale ++ lease_told b tale (seen.Leased lease) ∷ []
log_at b tale (Returning a) =
    tale_log b tale ++ lease_told b tale (seen.Leased a.lease) ∷ record { asked = action.Move a.lease; told = told_of a.found } ∷ []
log_at b tale (Undoing why) = tale_log b tale ++ led_to b tale why
log_at b tale Emptied = tale_log b tale ++ round_end b tale.attempts ∷ []
log_at b tale (Failed why) = failed_log b tale why

abbrev pub log_of : Evacuating → Tale → List Exchange
log_of st tale = log_at st.block tale st.stage

-- ---- what was kept

-- the word found is kept for its frame and round
abbrev pub IsKept : Sizes → BlockNo → (words : List (List ℕ)) (round : ℕ) → Attempt → Type 0
IsKept s b words round a =
    (word : ℕ) → a.found ≡ Some word → slice_index_or (words_of words (place_of s b a.lease.from)) round 0 ≡ word

abbrev pub AreKept : Sizes → BlockNo → (words : List (List ℕ)) → List (List Attempt) → Type 0
AreKept s b words [] = Unit {0}
AreKept s b words (r ∷ rounds) = AllByRecursion (IsKept s b words (length rounds)) r × AreKept s b words rounds

-- the round under way: each page was moved or busy, and the first busy one and the words found are kept
pub record IsInRound (st : Evacuating) (tale : Tale) : Type 0 where
  pub moved_or_busy : AllByRecursion IsMovedOrBusy tale.attempts
  pub busy : st.busy ≡ first_busy tale.attempts
  pub kept : AreKept st.sizes st.block st.words (tale.attempts ∷ tale.rounds)

-- the next attempt is one on a frame behind those before, for a page that was busy in the round before
pub record IsNextAttempt (st : Evacuating) (tale : Tale) (a : Attempt) : Type 0 where
  pub next : is_next st.sizes st.block (last_frame tale.attempts) a.lease.from.0 ≡ true
  pub before : WasBusyBefore tale.rounds a.lease.from a.lease.page

-- what holds where the evacuation stands; a refused isolation isn't undone
abbrev pub Stands : Evacuating → Tale → Stage → Type 0
Stands st tale Isolating = (tale ≡ nothing_tried) × (st.busy ≡ None)
Stands st tale (Leasing after) = (after ≡ last_frame tale.attempts) × IsInRound st tale
Stands st tale (Moving lease) = IsNextAttempt st tale (record { lease = lease; found = None }) × IsInRound st tale
Stands st tale (Returning a) =
    IsNextAttempt st tale a × (is_answer (record st { stage = Moving a.lease }) (told_of a.found) ≡ true) × IsInRound st tale
Stands st tale (Undoing (cause.Unmovable frame page)) = ⊥
Stands st tale (Undoing why) = IsCauseMet st.sizes st.block tale (log_at st.block tale (Undoing why)) why
Stands st tale Emptied = AllByRecursion IsMoved tale.attempts
Stands st tale (Failed why) = IsCauseMet st.sizes st.block tale (log_at st.block tale (Failed why)) why

-- The evacuation goes by its tale: at most four rounds ended with a busy page before the one under way, each
-- a round over the block, and what holds where it stands. The words have a list for each frame of the block, with
-- a place for each of five rounds.
pub record GoesBy (st : Evacuating) (tale : Tale) : Type 0 where
  pub frames : st.sizes.block ≤ length st.words
  pub places : AllByRecursion (λ row. length row ≡ 5) st.words
  pub few : length tale.rounds ≤ 4
  pub counted : st.round ≡ length tale.rounds
  pub rounds : AllByRecursion (IsRound st.sizes st.block) tale.rounds
  pub in_order : AreInOrder st.sizes st.block tale.attempts
  pub busy_before : WereBusyBefore tale.attempts tale.rounds
  pub stands : Stands st tale st.stage

-- ---- one answer more

-- while a block is isolated, no frame of it is leased: one that is out was out before, for the same page
abbrev pub LeasedWasBusy : Tale → EvacSeen → Type 0
LeasedWasBusy tale (seen.Leased lease) = WasBusyBefore tale.rounds lease.from lease.page
LeasedWasBusy tale _ = Unit {0}

-- an attempt counts once its frame is given back
abbrev pub tale_at : Tale → Stage → EvacSeen → Tale
tale_at tale (Leasing after) seen.NoneLeft = round_over tale
tale_at tale (Returning a) seen.Done = record tale { attempts = a ∷ tale.attempts }
tale_at tale _ _ = tale

abbrev pub tale_after : Evacuating → Tale → EvacSeen → Tale
tale_after st tale told = tale_at tale st.stage told

-- behind an answer the evacuation goes by the longer tale, whose log has what was asked and told behind the rest
pub record GoesOnBy (st after : Evacuating) (tale : Tale) (told : EvacSeen) : Type 0 where
  pub goes_by : GoesBy after (tale_after st tale told)
  pub log : log_of after (tale_after st tale told) ≡ log_of st tale ++ record { asked = action_of st; told = told } ∷ []

-- ---- the ends

-- The block is empty: no later frame was out in the last round, and each of its pages was moved.
pub record HasEmptied (b : BlockNo) (tale : Tale) (log : List Exchange) : Type 0 where
  pub moved : AllByRecursion IsMoved tale.attempts
  pub whole : log ≡ tale_log b tale ++ round_end b tale.attempts ∷ []

-- The block isn't isolated, for a cause that was met.
pub record HasFailed (s : Sizes) (b : BlockNo) (tale : Tale) (log : List Exchange) (why : EvacCause) : Type 0 where
  pub met : IsCauseMet s b tale log why
  pub whole : log ≡ failed_log b tale why
