-- When what an evacuation was told is true of the frame space's journal and of the words that the driver's takes found, each of its
-- attempts, and the cause for which it failed.
use Rattle.std.specs.Prelude.{◌≡◌, ◌<◌, ◌≤◌, ℕ, suc, Bool, true, false, List, [], ◌∷◌, ◌++◌, length, map, filter, take, slice_get, Option, None, Some, ⊤}
use Rattle.std.specs.List.{AllByRecursion, sum_by}
use Rattle.std.specs.List.Sorted.{IsNonDecreasing}
use Rattle.evac_model.specs.declared.evacuation.EvacCause.{EvacCause}
use Rattle.evac_model.specs.declared.evacuation.EvacCause.TheVariants.{Unmovable, Pinned, NoTarget, Busy}
use Rattle.evac_model.specs.declared.names.BlockNo.{BlockNo}
use Rattle.evac_model.specs.declared.names.FrameNo.{FrameNo}
use Rattle.evac_model.specs.declared.names.Kind.{Kind}
use Rattle.evac_model.specs.declared.names.Kind.TheVariants as kinds
use Rattle.evac_model.specs.declared.names.PageNo.{PageNo}
use Rattle.evac_model.specs.declared.space.SpaceAction.{SpaceAction}
use Rattle.evac_model.specs.declared.space.SpaceAction.TheVariants as space
use Rattle.evac_model.specs.Geometry.{Sizes}
use Rattle.evac_model.specs.Numbers.{is_in}
use Rattle.evac_model.specs.Pairing.{actions_of}
use Rattle.evac_model.specs.SpaceJournal.{SpaceState, IsLeasable, out_for, is_frame_of, space_after}
use Rattle.evac_words.specs.Word.{bound_of}
use Rattle.evacuate.specs.Causes.{frame_of_cause}
use Rattle.evacuate.specs.declared.stage.Attempt.{Attempt}
use Rattle.evacuate.specs.Found.{is_busy, is_pinned}
use Rattle.host_work.specs.Evacuated.{WasEvacuated}
use Rattle.host_work.specs.Requests.{Evacuates}

-- what a frame space began with, and its whole journal
pub record SpaceRun : Type 0 where
  pub sizes : Sizes
  pub online : Kind
  pub start : SpaceState
  pub journal : List SpaceAction

-- how the frame space stood at a place of the journal, behind so many actions, and what the driver had done there
abbrev pub stood : SpaceRun → (place : ℕ) → SpaceState
stood r place = space_after r.sizes r.online r.start (take place r.journal)

abbrev pub driver_did : SpaceRun → (place : ℕ) → List SpaceAction
driver_did r place = actions_of 0 (take place r.journal)

-- ---- leases of targets, and the takes behind them

abbrev pub is_target : SpaceAction → Bool
is_target (space.MoveLease target page) = true
is_target _ = false

-- how many targets were leased
abbrev pub targets_in : List SpaceAction → ℕ
targets_in actions = length (filter is_target actions)

-- The driver takes a page once for each target that it leases, and so its takes are numbered as these leases are, from 0. This is
-- the number of the one for which a target is leased at that place.
abbrev pub take_number_at : SpaceRun → (place : ℕ) → ℕ
take_number_at r place = targets_in (driver_did r place)

-- what is said of an entry word that the driver's take of that number found for a page
abbrev pub Finds : Type 1
Finds = (number : ℕ) → PageNo → (word : ℕ) → Type 0

-- ---- attempts of an evacuation

-- At that place, in the midst of what the evacuation did behind what the driver had done before, its block was isolated and the frame
-- out for the page, as a movable one.
pub record WasOutAt (r : SpaceRun) (before : List SpaceAction) (b : BlockNo) (own : List SpaceAction) (frame : FrameNo) (page : PageNo) (place : ℕ) : Type 0 where
  pub inside : place ≤ length r.journal
  pub part : List SpaceAction
  pub rest : List SpaceAction
  pub parts : own ≡ part ++ rest
  pub done : driver_did r place ≡ before ++ part
  pub isolated : is_in b.0 (stood r place).isolated ≡ true
  pub out : out_for (stood r place) frame.0 ≡ Some (record { page = page.0; kind = kinds.Movable })

-- There the evacuation leased that target for the page.
pub record WasTriedAt (r : SpaceRun) (before : List SpaceAction) (b : BlockNo) (own : List SpaceAction) (frame : FrameNo) (page : PageNo) (target : FrameNo) (place : ℕ) : Type 0 where
  pub was_out : WasOutAt r before b own frame page place
  pub more : List SpaceAction
  pub next : was_out.rest ≡ space.MoveLease target page ∷ more
  pub leased : slice_get r.journal place ≡ Some (space.MoveLease target page)

-- Behind that lease, the take that belongs to it found the word for the page.
pub record WasFoundAt (r : SpaceRun) (finds : Finds) (before : List SpaceAction) (b : BlockNo) (own : List SpaceAction) (frame : FrameNo) (page : PageNo) (word place : ℕ) : Type 0 where
  pub target : FrameNo
  pub tried : WasTriedAt r before b own frame page target place
  pub found : finds (take_number_at r place) page word

-- ---- the causes

-- where the driver had done just what it did before the evacuation, the frame was out for the page, as an unmovable one
pub record UnmovableHolds (r : SpaceRun) (before : List SpaceAction) (frame : FrameNo) (page : PageNo) : Type 0 where
  pub place : ℕ
  pub inside : place ≤ length r.journal
  pub done : driver_did r place ≡ before
  pub out : out_for (stood r place) frame.0 ≡ Some (record { page = page.0; kind = kinds.Unmovable })

-- the word was found for the page in an attempt of the evacuation, and says that it was pinned
pub record PinnedHolds (r : SpaceRun) (finds : Finds) (before : List SpaceAction) (b : BlockNo) (own : List SpaceAction) (frame : FrameNo) (page : PageNo) (word : ℕ) : Type 0 where
  pub place : ℕ
  pub found : WasFoundAt r finds before b own frame page word place
  pub pinned : is_pinned word frame.0 ≡ true

-- at that place the page was out in the frame, and no frame was free for it
pub record NoTargetHolds (r : SpaceRun) (before : List SpaceAction) (b : BlockNo) (own : List SpaceAction) (frame : FrameNo) (page : PageNo) (at : ℕ) : Type 0 where
  pub was_out : WasOutAt r before b own frame page at
  pub none_free : (free : ℕ) → ¬ IsLeasable r.sizes r.online (stood r at) kinds.Movable free

-- Each word was found for the page in an attempt of its own, one behind the other, from that place of the journal on, and says that
-- it was busy.
abbrev pub AreFoundFrom : SpaceRun → Finds → (before : List SpaceAction) → BlockNo → (own : List SpaceAction) → FrameNo → PageNo → (from : ℕ) → (words : List ℕ) → Type 0
AreFoundFrom r finds before b own frame page from [] = ⊤
AreFoundFrom r finds before b own frame page from (word ∷ words) =
    (place : ℕ)
    × (from ≤ place)
    × WasFoundAt r finds before b own frame page word place
    × (is_busy word frame.0 ≡ true)
    × AreFoundFrom r finds before b own frame page (suc place) words

-- The page was busy in five attempts of the evacuation; the bounds of the words don't fall.
pub record BusyHolds (r : SpaceRun) (finds : Finds) (before : List SpaceAction) (b : BlockNo) (own : List SpaceAction) (frame : FrameNo) (page : PageNo) (words : List ℕ) : Type 0 where
  pub five : length words ≡ 5
  pub found : AreFoundFrom r finds before b own frame page 0 words
  pub rising : IsNonDecreasing (map bound_of words)

abbrev pub HoldsFor : SpaceRun → Finds → (before : List SpaceAction) → BlockNo → (own : List SpaceAction) → EvacCause → Type 0
HoldsFor r finds before b own (Unmovable frame page) = UnmovableHolds r before frame page
HoldsFor r finds before b own (Pinned frame page word) = PinnedHolds r finds before b own frame page word
HoldsFor r finds before b own (NoTarget frame page at) = NoTargetHolds r before b own frame page at
HoldsFor r finds before b own (Busy frame page words) = BusyHolds r finds before b own frame page words

-- The evacuation of the block, which did this behind what the driver had done before, met the cause: it is true of the journal and
-- of the words that were found.
pub record IsCauseTrue (r : SpaceRun) (finds : Finds) (before : List SpaceAction) (b : BlockNo) (own : List SpaceAction) (cause : EvacCause) : Type 0 where
  pub in_block : is_frame_of r.sizes b.0 (frame_of_cause cause).0 ≡ true
  pub holds : HoldsFor r finds before b own cause

abbrev pub HasTrueCause : SpaceRun → Finds → (before : List SpaceAction) → BlockNo → (own : List SpaceAction) → Option EvacCause → Type 0
HasTrueCause r finds before b own None = ⊤
HasTrueCause r finds before b own (Some cause) = IsCauseTrue r finds before b own cause

-- ---- all attempts of an evacuation

-- how many attempts these rounds made
abbrev pub tried_in : List (List Attempt) → ℕ
tried_in rounds = sum_by (λ (attempts : List Attempt). length attempts) rounds

-- no word that was found for the page in these rounds has a bound above that of this one
abbrev pub IsNotAbove : PageNo → (word : ℕ) → Attempt → Type 0
IsNotAbove page word a = (old : ℕ) → a.lease.page ≡ page → a.found ≡ Some old → bound_of old ≤ bound_of word

abbrev pub AreNotAbove : List (List Attempt) → PageNo → (word : ℕ) → Type 0
AreNotAbove rounds page word = AllByRecursion (AllByRecursion (IsNotAbove page word)) rounds

-- the take of that number found the word for the page, behind those of the rounds before
pub record IsFoundBehind (finds : Finds) (number : ℕ) (rounds : List (List Attempt)) (page : PageNo) (word : ℕ) : Type 0 where
  pub found : finds number page word
  pub late : AreNotAbove rounds page word

-- At that place the page of the attempt was out in its frame, and its target was leased; and the word that is said to be found for
-- it was found by the take of that lease, behind those of the rounds before.
pub record IsTrueAttempt (r : SpaceRun) (finds : Finds) (before : List SpaceAction) (b : BlockNo) (own : List SpaceAction) (rounds : List (List Attempt)) (a : Attempt) (place : ℕ) : Type 0 where
  pub tried : WasTriedAt r before b own a.lease.from a.lease.page a.lease.target place
  pub word : (word : ℕ) → a.found ≡ Some word → IsFoundBehind finds (take_number_at r place) rounds a.lease.page word

-- The attempts of a round, the newest first, each at a place of its own, from `begin` on and before `end`.
abbrev pub AreTrueAttempts : SpaceRun → Finds → (before : List SpaceAction) → BlockNo → (own : List SpaceAction) → List (List Attempt) → (begin end : ℕ) → List Attempt → Type 0
AreTrueAttempts r finds before b own rounds begin end [] = begin ≤ end
AreTrueAttempts r finds before b own rounds begin end (a ∷ attempts) =
    (place : ℕ)
    × (place < end)
    × IsTrueAttempt r finds before b own rounds a place
    × AreTrueAttempts r finds before b own rounds begin place attempts

-- Rounds, the newest first, before `end`. Each has a part of the journal of its own, behind those of the rounds before.
abbrev pub AreTrueRounds : SpaceRun → Finds → (before : List SpaceAction) → BlockNo → (own : List SpaceAction) → (end : ℕ) → List (List Attempt) → Type 0
AreTrueRounds r finds before b own end [] = ⊤
AreTrueRounds r finds before b own end (attempts ∷ rounds) =
    (begin : ℕ)
    × AreTrueAttempts r finds before b own rounds begin end attempts
    × AreTrueRounds r finds before b own begin rounds

-- What the evacuation did behind the place where no frame was free, if that is its cause: it ended at once.
abbrev pub DidBehind : SpaceRun → (before own behind : List SpaceAction) → EvacCause → Type 0
DidBehind r before own behind (Unmovable frame page) = ⊤
DidBehind r before own behind (Pinned frame page word) = ⊤
DidBehind r before own behind (NoTarget frame page at) = driver_did r at ++ behind ≡ before ++ own
DidBehind r before own behind (Busy frame page words) = ⊤

-- nothing but the undo of its isolation
abbrev pub EndedThere : SpaceRun → (before : List SpaceAction) → BlockNo → (own : List SpaceAction) → Option EvacCause → Type 0
EndedThere r before b own None = ⊤
EndedThere r before b own (Some cause) = DidBehind r before own (space.Undo b ∷ []) cause

-- An evacuation of the block went by a tale of what it was told, to its end. Each attempt of the tale was made, at a place of the
-- journal of its own, in the tale's order, and a word that is told of it was found by its take; and a cause that the evacuation
-- failed for is true. That a page was moved is said by the tale, and by the frame that came back.
pub record WasTrulyEvacuated (r : SpaceRun) (finds : Finds) (before : List SpaceAction) (b : BlockNo) (cause : Option EvacCause) (own : List SpaceAction) : Type 0 where
  pub told : WasEvacuated r.sizes b cause own
  pub attempts : AreTrueRounds r finds before b own (length r.journal) (told.tale.attempts ∷ told.tale.rounds)
  pub cause_holds : HasTrueCause r finds before b own cause
  pub ended : EndedThere r before b own cause

abbrev pub by_truth : SpaceRun → Finds → Evacuates
by_truth r finds before b cause own = WasTrulyEvacuated r finds before b cause own
