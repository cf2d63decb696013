-- What an evacuation keeps, which answers fit what it asked, and what it does next.
use Rattle.std.specs.Prelude.{ℕ, ◌+◌, ◌-◌, Bool, true, false, ◌||◌, nat_lt, if◌then◌else◌, List, [], replicate, Option, None, Some, slice_index_or, slice_set}
use Rattle.std.specs.Option.{option_or}
use Rattle.evac_model.specs.declared.names.BlockNo.{BlockNo}
use Rattle.evac_model.specs.declared.names.FrameNo.{FrameNo}
use Rattle.evac_model.specs.declared.evacuation.MoveLease.{MoveLease}
use Rattle.evac_model.specs.declared.evacuation.EvacCause.{EvacCause}
use Rattle.evac_model.specs.declared.evacuation.EvacCause.TheVariants as cause
use Rattle.evac_model.specs.Geometry.{Sizes, first_frame}
use Rattle.evac_model.specs.SpaceJournal.{is_frame_of}
use Rattle.evacuate.specs.declared.action.EvacAction.{EvacAction}
use Rattle.evacuate.specs.declared.action.EvacAction.TheVariants as action
use Rattle.evacuate.specs.declared.seen.EvacSeen.{EvacSeen}
use Rattle.evacuate.specs.declared.seen.EvacSeen.TheVariants as seen
use Rattle.evacuate.specs.declared.stage.Stage.{Stage}
use Rattle.evacuate.specs.declared.stage.Stage.TheVariants.{Isolating, Leasing, Moving, Returning, Undoing, Emptied, Failed}
use Rattle.evacuate.specs.Found.{is_busy, is_pinned}
use Rattle.evacuate.specs.Tale.{frame_back, is_next}

-- The machine's sizes and the block; where the evacuation stands; how many rounds ended; the first page that
-- was busy in the round under way; and the words found: for each frame of the block, in order, that of each round.
pub record Evacuating : Type 0 where
  pub sizes : Sizes
  pub block : BlockNo
  pub stage : Stage
  pub round : ℕ
  pub busy : Option MoveLease
  pub words : List (List ℕ)

-- no word for any of at most 512 frames
abbrev pub no_words : List (List ℕ)
no_words = replicate 512 (replicate 5 0)

-- the evacuation of a block before its first action
abbrev pub evacuation_at_start : Sizes → BlockNo → Evacuating
evacuation_at_start s b = record { sizes = s; block = b; stage = Isolating; round = 0; busy = None; words = no_words }

-- ---- what it asks

abbrev pub action_at : BlockNo → Stage → EvacAction
action_at b Isolating = action.Isolate b
action_at b (Leasing after) = action.Lease b after
action_at b (Moving lease) = action.Move lease
action_at b (Returning attempt) = action.GiveBack (frame_back attempt)
action_at b (Undoing cause) = action.Undo b
action_at b Emptied = action.Emptied
action_at b (Failed cause) = action.Failed cause

abbrev pub action_of : Evacuating → EvacAction
action_of st = action_at st.block st.stage

-- ---- what may be told of it

-- whether the answer fits the action: it names the block's next frame, and a word found says why the page
-- wasn't moved
abbrev pub answers : Sizes → BlockNo → Stage → EvacSeen → Bool
answers s b Isolating seen.Isolated = true
answers s b Isolating (seen.Refused frame page) = is_frame_of s b.0 frame.0
answers s b (Leasing after) (seen.Leased lease) = is_next s b after lease.from.0
answers s b (Leasing after) seen.NoneLeft = true
answers s b (Leasing after) (seen.NoTarget from page at) = is_next s b after from.0
answers s b (Moving lease) seen.Moved = true
answers s b (Moving lease) (seen.Found word) = is_busy word lease.from.0 || is_pinned word lease.from.0
answers s b (Returning attempt) seen.Done = true
answers s b (Undoing cause) seen.Done = true
answers s b _ _ = false

abbrev pub is_answer : Evacuating → EvacSeen → Bool
is_answer st told = answers st.sizes st.block st.stage told

-- ---- what it keeps of it

-- the place of a frame in its block
abbrev pub place_of : Sizes → BlockNo → FrameNo → ℕ
place_of s b frame = frame.0 - first_frame s b.0

-- the words found for a frame, one a round
abbrev pub words_of : (words : List (List ℕ)) (place : ℕ) → List ℕ
words_of words place = slice_index_or words place []

-- the words, once this one was found for a frame in a round
abbrev pub with_word : (words : List (List ℕ)) (place round word : ℕ) → List (List ℕ)
with_word words place round word = slice_set words place (slice_set (words_of words place) round word)

-- the cause of a page that was the first busy one of the fifth round
abbrev pub busy_cause : Evacuating → MoveLease → EvacCause
busy_cause st lease = cause.Busy lease.from lease.page (words_of st.words (place_of st.sizes st.block lease.from))

-- No later frame is out: the round is over. Without a busy page the block is empty; with one, another round
-- follows, but for the fifth.
abbrev pub round_ended : Evacuating → Option MoveLease → Evacuating
round_ended st None = record st { stage = Emptied }
round_ended st (Some lease) =
    if nat_lt st.round 4
    then record st { stage = Leasing None; round = st.round + 1; busy = None }
    else record st { stage = Undoing (busy_cause st lease) }

-- the target of a page that wasn't moved is given back: the page was pinned, or busy
abbrev pub not_moved : Evacuating → MoveLease → (word : ℕ) → Evacuating
not_moved st lease word =
    if is_pinned word lease.from.0
    then record st { stage = Undoing (cause.Pinned lease.from lease.page word) }
    else record st {
      stage = Leasing (Some lease.from);
      busy = option_or st.busy (Some lease);
      words = with_word st.words (place_of st.sizes st.block lease.from) st.round word;
    }

abbrev pub attempt_over : Evacuating → MoveLease → Option ℕ → Evacuating
attempt_over st lease None = record st { stage = Leasing (Some lease.from) }
attempt_over st lease (Some word) = not_moved st lease word

abbrev pub after_answer : Evacuating → Stage → EvacSeen → Evacuating
after_answer st Isolating seen.Isolated = record st { stage = Leasing None }
after_answer st Isolating (seen.Refused frame page) = record st { stage = Failed (cause.Unmovable frame page) }
after_answer st (Leasing after) (seen.Leased lease) = record st { stage = Moving lease }
after_answer st (Leasing after) seen.NoneLeft = round_ended st st.busy
after_answer st (Leasing after) (seen.NoTarget from page at) = record st { stage = Undoing (cause.NoTarget from page at) }
after_answer st (Moving lease) seen.Moved = record st { stage = Returning (record { lease = lease; found = None }) }
after_answer st (Moving lease) (seen.Found word) = record st { stage = Returning (record { lease = lease; found = Some word }) }
after_answer st (Returning attempt) seen.Done = attempt_over st attempt.lease attempt.found
after_answer st (Undoing why) seen.Done = record st { stage = Failed why }
after_answer st _ _ = st

-- what doesn't answer the action changes nothing
abbrev pub evacuation_after : Evacuating → EvacSeen → Evacuating
evacuation_after st told = if is_answer st told then after_answer st st.stage told else st
