use Rattle.std.proofs.Common.{◌≡◌, ◌∙◌, List, [], refl, sym, subst}
use Rattle.evac_model.specs.declared.host.HostLine.{HostLine}
use Rattle.evac_model.specs.declared.scenario.Scenario.{Scenario}
use Rattle.core_actors.specs.Hosts.{HostState}
use Rattle.core_actors.specs.Owners.{OwnerState}
use Rattle.machine.specs.World.{World}
use Rattle.replay.specs.Keeping.{IsKept}
use Rattle.replay.specs.Running.{Running}
use Rattle.replay.specs.Runs.{running_at_start}
use Rattle.replay.proofs.MachineKept.{starts_are_kept}
use Rattle.replay.proofs.replay.joined.Goals as goal

-- the parts of a run, each as it is at the start
running_is : (s : Scenario) (world : World) (owners : List OwnerState) (host : HostState) (lines : List HostLine)
    → world ≡ (running_at_start s).world → owners ≡ (running_at_start s).owners → host ≡ (running_at_start s).host → lines ≡ []
    → (let m : Running = record { world = world; owners = owners; host = host; lines = lines } in m) ≡ running_at_start s
running_is s world owners host lines ws us hs ls = rw (ws, us, hs, ls) refl

pub invariant_of-result : goal.invariant_of-result
invariant_of-result c =
    let a = c.args in
    let r = c.requires in
    let owned = c.from_vec.ensures ∙ r.owned in
    let is = running_is r.scenario a.machine.world c.from_vec.result a.host.state c.new.result.items r.world owned r.hosted c.new.ensures.items in
    record {
      scenario = r.scenario;
      runnable = r.runnable;
      set = r.set;
      kept = subst (λ (m : Running). IsKept r.scenario m) (sym is) (starts_are_kept r.scenario r.runnable);
    }
