-- What holds of a run between any two turns.
use Rattle.std.specs.Prelude.{◌≡◌, ℕ, ◌<◌, ⊤, suc, List, [], ◌∷◌, length, slice_get, Some}
use Rattle.std.specs.List.{AllByRecursion}
use Rattle.evac_model.specs.declared.scenario.Scenario.{Scenario}
use Rattle.evac_model.specs.declared.names.PageNo.{PageNo}
use Rattle.evac_model.specs.declared.call.Call.{Call}
use Rattle.evac_model.specs.declared.entry.Entry.{Entry}
use Rattle.evac_model.specs.ScenarioLines.{HasNumbers}
use Rattle.evac_model.specs.Scripts.{script_of}
use Rattle.core_state.specs.declared.held.Held.{Held}
use Rattle.core_state.specs.declared.opening.Opening.{Opening}
use Rattle.core_state.specs.declared.view.View.{View}
use Rattle.core_state.specs.HandOvers.{IsAtRest}
use Rattle.core_state.specs.Views.{Has}
use Rattle.core_actors.specs.Owners.{OwnerState}
use Rattle.core_actors.specs.Fits.{Fits}
use Rattle.machine.specs.Consistent.{IsConsistent}
use Rattle.replay.specs.Running.{Running}
use Rattle.replay.specs.Runs.{opening, setting}
use Rattle.replay.specs.FramesInHand.{AreFramesInHand}
use Rattle.replay.specs.CallsMade.{AreCallsMade}
use Rattle.replay.specs.HostKept.{IsHostKept}

-- the tickets of the entries rise
abbrev pub AreRising : List Entry → Type 0
AreRising [] = ⊤
AreRising (e ∷ es) = AllByRecursion (λ x. e.ticket < x.ticket) es × AreRising es

-- The tickets of the view's entries rise and are below `seen`; a ticket drawn is above them.
pub record IsInOrder (v : View) : Type 0 where
  pub rising : AreRising v.entries
  pub seen : AllByRecursion (λ e. e.ticket < v.seen) v.entries
  pub drawn : (h : Held) (t : ℕ) → v.held ≡ Some h → h.ticket ≡ Some t → (t < v.seen) × AllByRecursion (λ e. e.ticket < t) v.entries

-- each call's numbers have 64 bits
abbrev pub HaveNumbers : List (PageNo × Call) → Type 0
HaveNumbers calls = AllByRecursion (λ c. HasNumbers c.1) calls

-- a seat that makes no calls: it may have frames in hand
pub record IsIdle (o : Opening) (v : View) : Type 0 where
  pub rests : IsAtRest o v
  pub entries : v.entries ≡ []

-- Each owner's seat is as its script has it, and those behind the owners' make no calls. The tickets of every seat are in order.
pub record AreSeatsKept (s : Scenario) (m : Running) : Type 0 where
  pub owners : length m.owners ≡ length s.owners
  pub fits : (i : ℕ) (a : OwnerState) (v : View) → slice_get m.owners i ≡ Some a → Has m.world.snapshot.views (suc i) v → (a.owner ≡ suc i) × Fits s.geometry (opening s) (script_of s.owners (suc i)) v a × HaveNumbers a.left
  pub in_order : (i : ℕ) (v : View) → Has m.world.snapshot.views i v → IsInOrder v
  pub others : (i : ℕ) (v : View) → Has m.world.snapshot.views i v → length s.owners < i → IsIdle (opening s) v

-- The world is consistent, the seats of owners and the driver's are kept, frames in owners' hands are out for their calls,
-- each owner's leases and returns are those of its calls, and the commands of the host did what their lines say.
pub record IsKept (s : Scenario) (m : Running) : Type 0 where
  pub world : IsConsistent (setting s) m.world
  pub seats : AreSeatsKept s m
  pub frames : AreFramesInHand s m
  pub calls : AreCallsMade s m
  pub host : IsHostKept s m
