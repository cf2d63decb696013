-- What holds of a run holds behind a turn, where it holds behind each action of an actor that hasn't ended.
use Rattle.std.proofs.Common.{◌≡◌, ℕ, zero, suc, ◌<◌, Bool, true, false, if◌then◌else◌, [], length, refl, ap, arith}
use Rattle.std.proofs.lemmas.List.{get_or_past}
use mathlib.Core.Logic.{dite}
use native.Mathlib.Decide.{dec_lt}
use Rattle.evac_model.specs.declared.scenario.Actor.{Actor}
use Rattle.evac_model.specs.declared.scenario.Actor.TheVariants.{Owner, Host, Scanner}
use Rattle.core_actors.specs.Hosts.{host_action, host_ended}
use Rattle.core_actors.specs.Owners.{OwnerState, owner_at_start, owner_ended, next_action}
use Rattle.machine.specs.Made.{made}
use Rattle.machine.specs.World.{Setting}
use Rattle.replay.specs.Running.{Running, owner_of, owner_acted, host_acted, after_turn}

module _ (c : Setting) (m : Running) (P : Running → Type 0) where
  -- the run behind the next action of an owner
  abbrev behind_owner : ℕ → Running
  behind_owner i = owner_acted m (suc i) (made c (suc i) m.world (next_action (owner_of m.owners (suc i))))

  -- the run behind the next action of the host
  abbrev behind_host : Running
  behind_host = host_acted c m (made c 0 m.world (host_action m.host))

  module _ (now : P m) (owners : (i : ℕ) → i < length m.owners → owner_ended (owner_of m.owners (suc i)) ≡ false → P (behind_owner i)) (host : host_ended m.host ≡ false → P behind_host) where
    -- an owner that isn't there has ended
    owner_goes : (i : ℕ) → owner_ended (owner_of m.owners (suc i)) ≡ false → P (behind_owner i)
    owner_goes i going = dite (dec_lt i (length m.owners))
        (λ below. owners i below going)
        (λ past. let none : owner_ended (owner_of m.owners (suc i)) ≡ true = ap (λ (a : OwnerState). owner_ended a) (get_or_past m.owners i (owner_at_start 0 0 []) (omega arith)) in absurd (cc))

    owner_turn : (i : ℕ) (b : Bool) → owner_ended (owner_of m.owners (suc i)) ≡ b → P (if b then m else behind_owner i)
    owner_turn i true ended = now
    owner_turn i false going = owner_goes i going

    host_turn : (b : Bool) → host_ended m.host ≡ b → P (if b then m else behind_host)
    host_turn true ended = now
    host_turn false going = host going

    pub turn_cases : (actor : Actor) → P (after_turn c m actor)
    turn_cases (Owner zero) = now
    turn_cases (Owner (suc i)) = owner_turn i (owner_ended (owner_of m.owners (suc i))) refl
    turn_cases Host = host_turn (host_ended m.host) refl
    turn_cases Scanner = now
