-- The driver's seat: it has no entries and draws no ticket, and holds no page once the host has ended.
use Rattle.std.proofs.Common.{◌≡◌, true, [], sym, ap, ◌∙◌, subst, None}
use Rattle.std.proofs.lemmas.Option.{get_or_from_slice_get}
use Rattle.evac_model.specs.declared.scenario.Scenario.{Scenario}
use Rattle.evac_model.specs.HostCommands.{host_runs}
use Rattle.core_state.specs.declared.view.View.{View}
use Rattle.core_state.specs.Views.{Has, view_of, spent}
use Rattle.core_actors.specs.Hosts.{host_ended}
use Rattle.core_actors.proofs.HostEnds.{ended_rests, draws_none}
use Rattle.replay.specs.HostKept.{IsHostKept}
use Rattle.replay.specs.Keeping.{IsInOrder}
use Rattle.replay.specs.Running.{Running}
use Rattle.replay.specs.Runs.{setting}
use Rattle.replay.proofs.InOrder.{undrawn_in_order}

module _ (s : Scenario) (m : Running) (k : IsHostKept s m) (v : View) (has : Has m.world.snapshot.views 0 v) where
  is_driver : view_of m.world.snapshot.views 0 ≡ v
  is_driver = get_or_from_slice_get m.world.snapshot.views 0 v spent has

  pub driver_entries : v.entries ≡ []
  driver_entries = ap (λ (u : View). u.entries) (sym is_driver) ∙ k.kept.seat.driver.no_entries

  pub driver_in_order : IsInOrder v
  driver_in_order = subst IsInOrder is_driver (undrawn_in_order (view_of m.world.snapshot.views 0) k.kept.seat.driver.no_entries (draws_none (setting s) m.world m.host k.kept.seat))

  pub driver_lets_go : host_ended m.host ≡ true → v.held ≡ None
  driver_lets_go ended = ap (λ (u : View). u.held) (sym is_driver) ∙ (ended_rests (setting s) m.world (host_runs s.host m.lines) m.host k.kept ended).0
