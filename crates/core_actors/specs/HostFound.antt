-- What the evacuation under way found: that what it was told is true of the frame space's journal and of the words that the driver's
-- takes found.
use Rattle.std.specs.Prelude.{◌≡◌, ◌≤◌, ℕ, suc, ◌+◌, List, [], ◌∷◌, ◌++◌, length, slice_get, None, Some, ⊤}
use Rattle.evac_model.specs.declared.evacuation.EvacCause.{EvacCause}
use Rattle.evac_model.specs.declared.evacuation.MoveLease.{MoveLease}
use Rattle.evac_model.specs.declared.names.BlockNo.{BlockNo}
use Rattle.evac_model.specs.declared.names.PageNo.{PageNo}
use Rattle.evac_model.specs.declared.space.SpaceAction.{SpaceAction}
use Rattle.evac_model.specs.declared.space.SpaceAction.TheVariants as space
use Rattle.evac_model.specs.Pairing.{actions_of}
use Rattle.core_state.specs.declared.noticed.Notice.{Notice}
use Rattle.core_state.specs.Views.{view_of}
use Rattle.evacuate.specs.declared.stage.Attempt.{Attempt}
use Rattle.evacuate.specs.declared.stage.Stage.{Stage}
use Rattle.evacuate.specs.declared.stage.Stage.TheVariants as stages
use Rattle.evacuate.specs.Evacuating.{Evacuating}
use Rattle.evacuate.specs.Tale.{Tale}
use Rattle.evacuate.specs.UnderWay.{log_of}
use Rattle.host_work.specs.Evacuated.{space_actions}
use Rattle.host_work.specs.Requests.{Evacuates}
use Rattle.host_work.specs.Truth.{SpaceRun, targets_in, take_number_at, Finds, WasTriedAt, IsCauseTrue, DidBehind, IsFoundBehind, IsTrueAttempt, AreTrueRounds, by_truth}
use Rattle.machine.specs.World.{Setting, World}
use Rattle.core_actors.specs.declared.host_place.HostPlace.{HostPlace}
use Rattle.core_actors.specs.declared.host_place.HostPlace.TheVariants as places
use Rattle.core_actors.specs.declared.host_place.MovePlace.{MovePlace}
use Rattle.core_actors.specs.declared.host_place.MovePlace.TheVariants.{Taking, Beginning, Loading, Storing, Marking, Remapping, Releasing}
use Rattle.core_actors.specs.Hosts.{HostState}

-- ---- what there is to be true of

-- the frame space of a world, with its journal
abbrev pub space_run : Setting → World → SpaceRun
space_run c w = record { sizes = c.sizes; online = c.online; start = c.space; journal = w.space }

-- the takes of the driver, by its rights to move the pages, in order, with the words that they found
abbrev pub takes_of : World → List Notice
takes_of w = (view_of w.snapshot.views 0).noticed.by_right

-- the take of that number found that word for the page
abbrev pub DriverFound : World → Finds
DriverFound w number page word = (known : ℕ) × (slice_get (takes_of w) number ≡ Some (record { page = page; word = word; known = known }))

-- what an evacuation of a block may have done: by a tale, and with a cause that is true of that world
abbrev pub truth : Setting → World → Evacuates
truth c w = by_truth (space_run c w) (DriverFound w)

-- what an evacuation did to the frame space
abbrev pub evacuation_did : Evacuating → Tale → List SpaceAction
evacuation_did e t = space_actions (log_of e t)

-- ---- by where the evacuation stands

-- Behind the attempts of the round the page of the lease was out in its frame, and its target was leased, the last one that the
-- driver leased.
pub record IsTrueMoving (r : SpaceRun) (before : List SpaceAction) (b : BlockNo) (own : List SpaceAction) (end : ℕ) (lease : MoveLease) : Type 0 where
  pub place : ℕ
  pub behind : end ≤ place
  pub tried : WasTriedAt r before b own lease.from lease.page lease.target place
  pub last : suc (take_number_at r place) ≡ targets_in (before ++ own)

-- the attempt whose frame is to be given back was made behind those of the round
pub record IsTrueReturning (r : SpaceRun) (finds : Finds) (before : List SpaceAction) (b : BlockNo) (own : List SpaceAction) (rounds : List (List Attempt)) (end : ℕ) (a : Attempt) : Type 0 where
  pub place : ℕ
  pub behind : end ≤ place
  pub attempt : IsTrueAttempt r finds before b own rounds a place

-- the cause is true, and the evacuation did just this behind the place where no frame was free, if that is its cause
pub record IsTrueEnd (r : SpaceRun) (finds : Finds) (before : List SpaceAction) (b : BlockNo) (own behind : List SpaceAction) (cause : EvacCause) : Type 0 where
  pub holds : IsCauseTrue r finds before b own cause
  pub did : DidBehind r before own behind cause

-- with the rounds before the one under way, and the place of the journal before which its attempts were made
abbrev pub IsTrueAt : SpaceRun → Finds → (before : List SpaceAction) → BlockNo → (own : List SpaceAction) → List (List Attempt) → (end : ℕ) → Stage → Type 0
IsTrueAt r finds before b own rounds end stages.Isolating = ⊤
IsTrueAt r finds before b own rounds end (stages.Leasing after) = ⊤
IsTrueAt r finds before b own rounds end (stages.Moving lease) = IsTrueMoving r before b own end lease
IsTrueAt r finds before b own rounds end (stages.Returning a) = IsTrueReturning r finds before b own rounds end a
IsTrueAt r finds before b own rounds end (stages.Undoing cause) = IsTrueEnd r finds before b own [] cause
IsTrueAt r finds before b own rounds end stages.Emptied = ⊤
IsTrueAt r finds before b own rounds end (stages.Failed cause) = IsTrueEnd r finds before b own (space.Undo b ∷ []) cause

-- Behind what the driver had done before, the evacuation did what its log says, and what it was told is true: the attempts that
-- count were made before a place of the journal.
pub record HasToldTrue (c : Setting) (w : World) (e : Evacuating) (t : Tale) : Type 0 where
  pub before : List SpaceAction
  pub did : actions_of 0 w.space ≡ before ++ evacuation_did e t
  pub end : ℕ
  pub inside : end ≤ length w.space
  pub rounds : AreTrueRounds (space_run c w) (DriverFound w) before e.block (evacuation_did e t) end (t.attempts ∷ t.rounds)
  pub stage : IsTrueAt (space_run c w) (DriverFound w) before e.block (evacuation_did e t) t.rounds end e.stage

-- the word was found by the take of the last lease of a target
pub record IsFoundLast (w : World) (rounds : List (List Attempt)) (page : PageNo) (word : ℕ) : Type 0 where
  pub number : ℕ
  pub last : suc number ≡ targets_in (actions_of 0 w.space)
  pub behind : IsFoundBehind (DriverFound w) number rounds page word

-- the word for which a page is let go was found
abbrev pub IsTrueMove : World → Tale → MoveLease → MovePlace → Type 0
IsTrueMove w t lease Taking = ⊤
IsTrueMove w t lease Beginning = ⊤
IsTrueMove w t lease (Loading cell) = ⊤
IsTrueMove w t lease (Storing cell value) = ⊤
IsTrueMove w t lease Marking = ⊤
IsTrueMove w t lease Remapping = ⊤
IsTrueMove w t lease (Releasing None) = ⊤
IsTrueMove w t lease (Releasing (Some word)) = IsFoundLast w t.rounds lease.page word

abbrev pub IsTruePlace : Setting → World → HostState → Tale → HostPlace → Type 0
IsTruePlace c w h t places.Asking = ⊤
IsTruePlace c w h t places.Evacuating = HasToldTrue c w h.evacuation t
IsTruePlace c w h t (places.Moving lease at) = HasToldTrue c w h.evacuation t × IsTrueMove w t lease at
IsTruePlace c w h t places.TakingAway = HasToldTrue c w h.evacuation t
IsTruePlace c w h t (places.Zeroing frame cell) = ⊤
IsTruePlace c w h t (places.MarkingZeros frame) = ⊤
IsTruePlace c w h t (places.PuttingOnline result) = ⊤

-- Where a block is being emptied, all that its evacuation was told is true.
pub record HostFound (c : Setting) (w : World) (h : HostState) (t : Tale) : Type 0 where
  pub place : IsTruePlace c w h t h.place

-- the takes that are still to be made: that of the page for which a target was just leased
abbrev pub takes_left : HostPlace → ℕ
takes_left (places.Moving lease Taking) = 1
takes_left _ = 0

-- The driver made as many takes as it leased targets, but for the one that is still to be made.
abbrev pub HasTakes : World → HostState → Type 0
HasTakes w h = length (takes_of w) + takes_left h.place ≡ targets_in (actions_of 0 w.space)
