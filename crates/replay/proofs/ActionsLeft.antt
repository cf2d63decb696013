-- The actions that all owners and the host may still make: no turn raises them, and an action lowers them, but for
-- a take that finds its page taken.
use Rattle.std.proofs.Common.{◌≡◌, ◌⊎◌, ◌↔◌, ℕ, suc, ◌+◌, ◌<◌, ◌≤◌, true, false, List, [], ◌∷◌, refl, ap, ◌∙◌, arith, inl, inr, ⊎_elim, Some, subst, sym}
use Rattle.std.specs.List.{sum_by, slice_get}
use native.Mathlib.Decide.{ℕ_discrete}
use mathlib.Core.Logic.{dite}
use Rattle.evac_model.specs.declared.scenario.Actor.{Actor}
use Rattle.evac_model.specs.declared.scenario.Actor.TheVariants.{Owner, Host}
use Rattle.evac_model.specs.declared.scenario.Scenario.{Scenario}
use Rattle.evac_model.specs.HostCommands.{host_runs}
use Rattle.evac_model.specs.Scenarios.{IsRunnable}
use Rattle.evac_words.specs.Word.{taken_bit}
use Rattle.core_state.specs.declared.step.Step.{Step}
use Rattle.core_state.specs.declared.step.Step.TheVariants.{Take, Draw, Load, Store, Mark, Release}
use Rattle.core_state.proofs.Lists.{sum_by_replaced}
use Rattle.machine.specs.declared.action.Action.{Action}
use Rattle.machine.specs.declared.action.Action.TheVariants as actions
use Rattle.machine.specs.declared.action.Heard.{Heard}
use Rattle.machine.specs.declared.action.Heard.TheVariants.{Word}
use Rattle.machine.specs.Made.{made}
use Rattle.machine.specs.World.{Setting, World}
use Rattle.core_actors.specs.HostCounts.{host_actions_left}
use Rattle.core_actors.specs.Hosts.{host_ended}
use Rattle.core_actors.specs.Places.{word_in}
use Rattle.core_actors.specs.Owners.{OwnerState, owner_ended, next_action, owner_after}
use Rattle.core_actors.specs.Counts.{actions_left, FindsTakenBy, FindsTaken}
use Rattle.core_actors.proofs.HostCounts.{host_fewer, none_left}
use Rattle.core_actors.proofs.Left.{actions_fewer, again}
use Rattle.replay.specs.Running.{Running, after_turn, after_turns}
use Rattle.replay.specs.Runs.{setting}
use Rattle.replay.specs.Keeping.{IsKept}
use Rattle.replay.proofs.Acting.{setting_fits, owner_fits, host_may_act}
use Rattle.replay.proofs.Turns.{found_by, found_at, heard_at, TurnOf, rests, acts, host_acts, turn_of, owners_after, host_stays, owners_stay, host_after_turn}

abbrev pub owner_actions_left : List OwnerState → ℕ
owner_actions_left owners = sum_by actions_left owners

abbrev pub all_actions_left : Running → ℕ
all_actions_left m = owner_actions_left m.owners + host_actions_left m.host

-- a host has no action left just where it has ended
pub host_none_left : (s : Scenario) (m : Running) → IsKept s m → (host_actions_left m.host ≡ 0) ↔ (host_ended m.host ≡ true)
host_none_left s m kept = none_left (setting s) m.world m.host kept.host.kept.tale kept.host.kept.space

-- ---- takes that find their page taken

step_finds_taken_or_not : (step : Step) (found : ℕ) → FindsTakenBy step found ⊎ ¬ FindsTakenBy step found
step_finds_taken_or_not (Take page) found = dite (ℕ_discrete (taken_bit found) 1) (λ e. inl e) (λ n. inr n)
step_finds_taken_or_not Draw found = inr (λ h. h)
step_finds_taken_or_not (Load cell) found = inr (λ h. h)
step_finds_taken_or_not (Store frame cell value) found = inr (λ h. h)
step_finds_taken_or_not (Mark frame) found = inr (λ h. h)
step_finds_taken_or_not (Release end) found = inr (λ h. h)

finds_taken_or_not : (x : Action) (found : ℕ) → FindsTaken x found ⊎ ¬ FindsTaken x found
finds_taken_or_not (actions.Step step) found = step_finds_taken_or_not step found
finds_taken_or_not (actions.Move step) found = inr (λ h. h)
finds_taken_or_not (actions.Space call) found = inr (λ h. h)
finds_taken_or_not (actions.Block call) found = inr (λ h. h)
finds_taken_or_not (actions.Device call) found = inr (λ h. h)
finds_taken_or_not actions.Ended found = inr (λ h. h)

module _ (c : Setting) (seat : ℕ) (w : World) where
  -- a take is heard of by the word that it finds
  finds_what_it_hears : (x : Action) (word : ℕ) → (made c seat w x).heard ≡ Word word → FindsTaken x word → FindsTaken x (found_by c seat w x)
  finds_what_it_hears (actions.Step (Take page)) word e taken = ap (λ (h : Heard). taken_bit (word_in h)) e ∙ taken
  finds_what_it_hears (actions.Step Draw) word e taken = taken
  finds_what_it_hears (actions.Step (Load cell)) word e taken = taken
  finds_what_it_hears (actions.Step (Store frame cell value)) word e taken = taken
  finds_what_it_hears (actions.Step (Mark frame)) word e taken = taken
  finds_what_it_hears (actions.Step (Release end)) word e taken = taken
  finds_what_it_hears (actions.Move step) word e taken = taken
  finds_what_it_hears (actions.Space call) word e taken = taken
  finds_what_it_hears (actions.Block call) word e taken = taken
  finds_what_it_hears (actions.Device call) word e taken = taken
  finds_what_it_hears actions.Ended word e taken = taken

  -- a take that finds its page taken is made again
  take_again : (a : OwnerState) (x : Action) → next_action a ≡ x → FindsTaken x (found_by c seat w x) → owner_after a (made c seat w x).heard ≡ a
  take_again a (actions.Step (Take page)) is taken = again a (found_by c seat w (actions.Step (Take page))) (subst (λ (y : Action). FindsTaken y (found_by c seat w (actions.Step (Take page)))) (sym is) taken)
  take_again a (actions.Step Draw) is taken = absurd taken
  take_again a (actions.Step (Load cell)) is taken = absurd taken
  take_again a (actions.Step (Store frame cell value)) is taken = absurd taken
  take_again a (actions.Step (Mark frame)) is taken = absurd taken
  take_again a (actions.Step (Release end)) is taken = absurd taken
  take_again a (actions.Move step) is taken = absurd taken
  take_again a (actions.Space call) is taken = absurd taken
  take_again a (actions.Block call) is taken = absurd taken
  take_again a (actions.Device call) is taken = absurd taken
  take_again a actions.Ended is taken = absurd taken

-- ---- an action, and a turn

module _ (s : Scenario) (m : Running) (kept : IsKept s m) where
  module _ (i : ℕ) (a : OwnerState) (at : slice_get m.owners i ≡ Some a) (going : owner_ended a ≡ false) where
    left_after : all_actions_left (after_turn (setting s) m (Owner (suc i))) + actions_left a ≡ all_actions_left m + actions_left (owner_after a (heard_at (setting s) m i a))
    left_after =
        let new : OwnerState = owner_after a (heard_at (setting s) m i a) in
        let sum = ap owner_actions_left (owners_after (setting s) m i a at going) in
        let host = ap host_actions_left (host_stays (setting s) m (suc i)) in
        omega (arith, sum, host, sum_by_replaced actions_left m.owners i a new at)

    -- an action, which is no take that finds its page taken, lowers them
    pub action_lowers : ¬ FindsTaken (next_action a) (found_at (setting s) m i a) → all_actions_left (after_turn (setting s) m (Owner (suc i))) < all_actions_left m
    action_lowers free =
        let fits = (owner_fits s m kept i a at).1 in
        let heard : Heard = heard_at (setting s) m i a in
        let fewer = actions_fewer a heard fits.under_way going (λ word e taken. free (finds_what_it_hears (setting s) (suc i) m.world (next_action a) word e taken)) in
        omega (arith, left_after, fewer)

    action_keeps : FindsTaken (next_action a) (found_at (setting s) m i a) → all_actions_left (after_turn (setting s) m (Owner (suc i))) ≤ all_actions_left m
    action_keeps taken =
        let same = ap actions_left (take_again (setting s) (suc i) m.world a (next_action a) refl taken) in
        omega (arith, left_after, same)

    action_never_raises : all_actions_left (after_turn (setting s) m (Owner (suc i))) ≤ all_actions_left m
    action_never_raises = ⊎_elim action_keeps (λ free. let l = action_lowers free in omega arith) (finds_taken_or_not (next_action a) (found_at (setting s) m i a))

  -- an action of the host lowers them
  pub host_lowers : IsRunnable s → host_ended m.host ≡ false → all_actions_left (after_turn (setting s) m Host) < all_actions_left m
  host_lowers r going =
      let owners = ap owner_actions_left (owners_stay (setting s) m) in
      let host = ap host_actions_left (host_after_turn (setting s) m going) in
      let fewer = host_fewer (setting s) m.world (host_runs s.host m.lines) m.host (setting_fits s r) kept.world kept.host.kept going (host_may_act s m r kept going) in
      omega (arith, owners, host, fewer)

  pub turn_never_raises : IsRunnable s → (actor : Actor) → all_actions_left (after_turn (setting s) m actor) ≤ all_actions_left m
  turn_never_raises r actor = by_kind (turn_of (setting s) m actor) where
    by_kind : TurnOf (setting s) m actor → all_actions_left (after_turn (setting s) m actor) ≤ all_actions_left m
    by_kind (rests e) = let same = ap all_actions_left e in omega arith
    by_kind (acts i a is at going) =
        let same = ap (λ (x : Actor). all_actions_left (after_turn (setting s) m x)) is in
        omega (arith, same, action_never_raises i a at going)
    by_kind (host_acts is going) =
        let same = ap (λ (x : Actor). all_actions_left (after_turn (setting s) m x)) is in
        omega (arith, same, host_lowers r going)

-- ---- turns

-- each turn keeps the run, as its law says
abbrev pub TurnsKeep : Scenario → Type 0
TurnsKeep s = (m : Running) (actor : Actor) → IsKept s m → IsKept s (after_turn (setting s) m actor)

module _ (s : Scenario) (keep : TurnsKeep s) where
  pub turns_keep : (m : Running) (xs : List Actor) → IsKept s m → IsKept s (after_turns (setting s) m xs)
  turns_keep m [] kept = kept
  turns_keep m (x ∷ xs) kept = turns_keep (after_turn (setting s) m x) xs (keep m x kept)

  pub turns_never_raise : IsRunnable s → (m : Running) (xs : List Actor) → IsKept s m → all_actions_left (after_turns (setting s) m xs) ≤ all_actions_left m
  turns_never_raise r m [] kept = omega arith
  turns_never_raise r m (x ∷ xs) kept =
      omega (arith, turns_never_raise r (after_turn (setting s) m x) xs (keep m x kept), turn_never_raises s m kept r x)
