-- How the entries of each owner, and its call under way, go with the space's journal.
use Rattle.std.specs.Prelude.{◌≡◌, ◌≤◌, ℕ, suc, ◌<◌, nat_lt, ⊤, List, [], ◌∷◌, ◌++◌, length, filter, take, drop, slice_get, Contains, Option, Some, None}
use Rattle.evac_model.specs.declared.names.FrameNo.{FrameNo}
use Rattle.evac_model.specs.declared.names.Kind.{Kind}
use Rattle.evac_model.specs.declared.names.PageNo.{PageNo}
use Rattle.evac_model.specs.declared.call.Call.{Call}
use Rattle.evac_model.specs.declared.call.Call.TheVariants.{Alloc}
use Rattle.evac_model.specs.declared.entry.Entry.{Entry}
use Rattle.evac_model.specs.declared.reply.Reply.TheVariants.{NoFrame}
use Rattle.evac_model.specs.declared.scenario.Scenario.{Scenario}
use Rattle.evac_model.specs.declared.space.SpaceAction.{SpaceAction}
use Rattle.evac_model.specs.declared.space.SpaceAction.TheVariants as space
use Rattle.evac_model.specs.Pairing.{actions_of, AreMadeBy}
use Rattle.evac_model.specs.ScenarioGrammar.{online_of}
use Rattle.evac_model.specs.SpaceJournal.{IsLeasable}
use Rattle.core_state.specs.declared.view.View.{View}
use Rattle.core_state.specs.Views.{Has}
use Rattle.core_actors.specs.declared.action.LeaseSeen.{LeaseSeen}
use Rattle.core_actors.specs.declared.action.LeaseSeen.TheVariants.{NotAsked, Got, Refused}
use Rattle.core_actors.specs.Owners.{OwnerState}
use Rattle.core_actors.specs.Places.{lease_seen, frame_owed}
use Rattle.machine.specs.World.{space_at}
use Rattle.replay.specs.Running.{Running}
use Rattle.replay.specs.Runs.{setting}

-- the lease of an alloc, if it gave a frame
abbrev pub leased_for : (who : ℕ) → PageNo → (kind : Kind) → LeaseSeen → List SpaceAction
leased_for who page kind NotAsked = []
leased_for who page kind (Got frame) = space.Lease who frame page kind ∷ []
leased_for who page kind (Refused at) = []

-- what the call under way has done to the space
abbrev pub made_under_way : (who : ℕ) → List (PageNo × Call) → LeaseSeen → List SpaceAction
made_under_way who ((page, Alloc kind) ∷ cs) lease = leased_for who page kind lease
made_under_way who calls lease = []

-- the return that is still to be made for the call that ended last
abbrev pub owed : (who : ℕ) → Option FrameNo → List SpaceAction
owed who None = []
owed who (Some frame) = space.Return who frame ∷ []

-- An owner's actions, with the return that it owes, are those of the entries, and behind them that of its call
-- under way.
pub record AreMadeSoFar (who : ℕ) (a : OwnerState) (entries : List Entry) (actions : List SpaceAction) : Type 0 where
  pub ended : List SpaceAction
  pub made : AreMadeBy entries ended
  pub whole : actions ++ owed who (frame_owed a.place) ≡ ended ++ made_under_way who a.left (lease_seen a.place)

-- behind the first `at` actions no frame was free for a page of that kind
pub record HadNoFrame (s : Scenario) (journal : List SpaceAction) (kind : Kind) (at : ℕ) : Type 0 where
  pub in_journal : at ≤ length journal
  pub none_free : (frame : ℕ) → ¬ IsLeasable s.geometry (online_of s) (space_at (setting s) (take at journal)) kind frame

-- The lease of the call of an entry was refused there: the owner's actions before are those of the entries
-- before, and those behind are of the entries behind and of the call under way.
pub record WasRefusedAt (s : Scenario) (journal : List SpaceAction) (who : ℕ) (a : OwnerState) (entries : List Entry) (ticket : ℕ) (kind : Kind) (at : ℕ) : Type 0 where
  pub none : HadNoFrame s journal kind at
  pub before : AreMadeBy (filter (λ x. nat_lt x.ticket ticket) entries) (actions_of who (take at journal))
  pub behind : AreMadeSoFar who a (filter (λ x. nat_lt ticket x.ticket) entries) (actions_of who (drop at journal))

-- The lease of the call under way was refused there: the owner made no action since.
pub record IsRefusedSince (s : Scenario) (journal : List SpaceAction) (who : ℕ) (entries : List Entry) (kind : Kind) (at : ℕ) : Type 0 where
  pub none : HadNoFrame s journal kind at
  pub before : AreMadeBy entries (actions_of who (take at journal))
  pub behind : actions_of who (drop at journal) ≡ []

abbrev pub IsRefusedNow : Scenario → List SpaceAction → (who : ℕ) → List Entry → List (PageNo × Call) → LeaseSeen → Type 0
IsRefusedNow s journal who entries ((page, Alloc kind) ∷ cs) (Refused at) = IsRefusedSince s journal who entries kind at
IsRefusedNow s journal who entries calls lease = ⊤

-- the calls of one owner, with these entries so far
pub record AreOwnersCallsMade (s : Scenario) (journal : List SpaceAction) (who : ℕ) (a : OwnerState) (entries : List Entry) : Type 0 where
  pub made : AreMadeSoFar who a entries (actions_of who journal)
  pub refused : (e : Entry) (kind : Kind) (at : ℕ) → Contains entries e → e.call ≡ Alloc kind → e.reply ≡ NoFrame at → WasRefusedAt s journal who a entries e.ticket kind at
  pub now : IsRefusedNow s journal who entries a.left (lease_seen a.place)

-- each owner's actions are those of its calls, and nobody else makes any but the driver
pub record AreCallsMade (s : Scenario) (m : Running) : Type 0 where
  pub owners : (i : ℕ) (a : OwnerState) (v : View) → slice_get m.owners i ≡ Some a → Has m.world.snapshot.views (suc i) v → AreOwnersCallsMade s m.world.space (suc i) a v.entries
  pub others : (who : ℕ) → length m.owners < who → actions_of who m.world.space ≡ []
