-- What a turn does: it leaves the run, or makes the next action of an owner or of the host, where it hasn't ended.
use Rattle.std.proofs.Common.{◌≡◌, ℕ, zero, suc, ◌-◌, ◌<◌, ◌≤◌, cond, if◌then◌else◌, Bool, true, false, List, [], ◌∷◌, ◌++◌, length, get_or, set, refl, sym, ap, ◌∙◌, arith, Some}
use Rattle.std.specs.List.{slice_get}
use Rattle.std.proofs.lemmas.List.{get_or_past}
use Rattle.std.proofs.lemmas.Option.{get_or_from_slice_get, slice_get-get_or}
use mathlib.Core.Logic.{dite}
use native.Mathlib.Decide.{dec_lt}
use Rattle.evac_model.specs.declared.host.HostLine.{HostLine}
use Rattle.evac_model.specs.declared.scenario.Actor.{Actor}
use Rattle.evac_model.specs.declared.scenario.Actor.TheVariants.{Owner, Host, Scanner}
use Rattle.core_state.specs.Views.{view_of}
use Rattle.core_state.specs.Stepped.{word_found}
use Rattle.machine.specs.declared.action.Action.{Action}
use Rattle.machine.specs.declared.action.Action.TheVariants as actions
use Rattle.machine.specs.declared.action.Heard.{Heard}
use Rattle.machine.specs.Made.{Made, made}
use Rattle.machine.specs.World.{Setting, World, device_now}
use Rattle.core_actors.specs.HostHears.{host_after, line_after}
use Rattle.core_actors.specs.Hosts.{HostState, host_ended, host_action}
use Rattle.core_actors.specs.Owners.{OwnerState, owner_at_start, owner_ended, next_action, owner_after}
use Rattle.replay.specs.Running.{Running, owner_of, owner_acted, line_list, plugged_behind, host_acted, after_turn, after_turns}

-- turns, and then turns
pub after_turns-append : (c : Setting) (m : Running) (xs ys : List Actor) → after_turns c m (xs ++ ys) ≡ after_turns c (after_turns c m xs) ys
after_turns-append c m [] ys = refl
after_turns-append c m (x ∷ xs) ys = after_turns-append c (after_turn c m x) xs ys

-- ---- what an action finds and gives

-- the word that a step on a word finds; 0 of any other action
abbrev pub found_by : Setting → (seat : ℕ) → World → Action → ℕ
found_by c seat w (actions.Step step) = word_found c.opening w.snapshot.words (view_of w.snapshot.views seat) step
found_by c seat w (actions.Move step) = 0
found_by c seat w (actions.Space call) = 0
found_by c seat w (actions.Block call) = 0
found_by c seat w (actions.Device call) = 0
found_by c seat w actions.Ended = 0

-- ---- owners

-- one that isn't there has ended
pub none_ended : (owners : List OwnerState) (k : ℕ) → (0 < k → length owners < k) → owner_ended (owner_of owners k) ≡ true
none_ended owners zero past = refl
none_ended owners (suc i) past = ap owner_ended (get_or_past owners i (owner_at_start 0 0 []) (let lt = past (omega arith) in omega arith))

-- one that is read at its place
pub owner_read : (owners : List OwnerState) (k : ℕ) (a : OwnerState) → 0 < k → k ≤ length owners → a ≡ get_or owners (k - 1) a → owner_of owners k ≡ a
owner_read owners zero a some few is = absurd (omega arith)
owner_read owners (suc i) a some few is =
    let place : suc i - 1 ≡ i = omega arith in
    let read : a ≡ get_or owners i a = is ∙ ap (λ (j : ℕ). get_or owners j a) place in
    get_or_from_slice_get owners i a (owner_at_start 0 0 []) (slice_get-get_or owners i a (omega arith) ∙ ap (λ (x : OwnerState). Some x) (sym read))

-- ---- turns

module _ (c : Setting) (m : Running) where
  -- the next action of the owner with the number after i, the word that it finds, and what the owner hears of it
  abbrev pub made_at : ℕ → OwnerState → Made
  made_at i a = made c (suc i) m.world (next_action a)

  abbrev pub found_at : ℕ → OwnerState → ℕ
  found_at i a = found_by c (suc i) m.world (next_action a)

  abbrev pub heard_at : ℕ → OwnerState → Heard
  heard_at i a = (made_at i a).heard

  -- what the host's next action gives
  abbrev pub host_made : Made
  host_made = made c 0 m.world (host_action m.host)

  pub data TurnOf (actor : Actor) : Type 0 where
    rests : after_turn c m actor ≡ m → TurnOf actor
    acts : (i : ℕ) (a : OwnerState) → actor ≡ Owner (suc i) → slice_get m.owners i ≡ Some a → owner_ended a ≡ false → TurnOf actor
    host_acts : actor ≡ Host → host_ended m.host ≡ false → TurnOf actor

  -- the run behind the next action of an owner that stands so
  abbrev behind_owner : ℕ → OwnerState → Running
  behind_owner i a = record m { world = (made_at i a).world; owners = set m.owners (suc i - 1) (owner_after a (heard_at i a)) }

  -- the run behind the next action of the host
  abbrev behind_host : Running
  behind_host = host_acted c m host_made

  -- an owner that has ended rests
  pub rests_at : (k : ℕ) → owner_ended (owner_of m.owners k) ≡ true → after_turn c m (Owner k) ≡ m
  rests_at k ended = ap (λ (b : Bool). cond b m (owner_acted m k (made c k m.world (next_action (owner_of m.owners k))))) ended

  by_end : (i : ℕ) (a : OwnerState) (b : Bool) → slice_get m.owners i ≡ Some a → owner_ended a ≡ b → TurnOf (Owner (suc i))
  by_end i a true at ended = rests (rests_at (suc i) (ap owner_ended (get_or_from_slice_get m.owners i a (owner_at_start 0 0 []) at) ∙ ended))
  by_end i a false at going = acts i a refl at going

  -- a host that has ended rests
  pub host_rests : host_ended m.host ≡ true → after_turn c m Host ≡ m
  host_rests ended = ap (λ (b : Bool). cond b m behind_host) ended

  host_by_end : (b : Bool) → host_ended m.host ≡ b → TurnOf Host
  host_by_end true ended = rests (host_rests ended)
  host_by_end false going = host_acts refl going

  pub turn_of : (actor : Actor) → TurnOf actor
  turn_of (Owner zero) = rests refl
  turn_of (Owner (suc i)) = dite (dec_lt i (length m.owners))
      (λ below. by_end i (owner_of m.owners (suc i)) (owner_ended (owner_of m.owners (suc i))) (slice_get-get_or m.owners i (owner_at_start 0 0 []) below) refl)
      (λ past. rests (rests_at (suc i) (none_ended m.owners (suc i) (λ some. omega arith))))
  turn_of Host = host_by_end (host_ended m.host) refl
  turn_of Scanner = rests refl

  -- a turn of an owner that hasn't ended makes its next action
  turn_acts : (i : ℕ) (a : OwnerState) → slice_get m.owners i ≡ Some a → owner_ended a ≡ false → after_turn c m (Owner (suc i)) ≡ behind_owner i a
  turn_acts i a at going =
      let is : owner_of m.owners (suc i) ≡ a = get_or_from_slice_get m.owners i a (owner_at_start 0 0 []) at in
      ap (λ (b : Bool). cond b m (behind_owner i (owner_of m.owners (suc i)))) (ap owner_ended is ∙ going) ∙ ap (λ (x : OwnerState). behind_owner i x) is

  -- the owners after it
  pub owners_after : (i : ℕ) (a : OwnerState) → slice_get m.owners i ≡ Some a → owner_ended a ≡ false → (after_turn c m (Owner (suc i))).owners ≡ set m.owners i (owner_after a (heard_at i a))
  owners_after i a at going =
      let place : suc i - 1 ≡ i = omega arith in
      ap (λ (n : Running). n.owners) (turn_acts i a at going) ∙ ap (λ (k : ℕ). set m.owners k (owner_after a (heard_at i a))) place

  -- a turn of an owner leaves the host
  pub host_stays : (k : ℕ) → (after_turn c m (Owner k)).host ≡ m.host
  host_stays k = by_bit (owner_ended (owner_of m.owners k)) where
    by_bit : (b : Bool) → (if b then m else owner_acted m k (made c k m.world (next_action (owner_of m.owners k)))).host ≡ m.host
    by_bit true = refl
    by_bit false = refl

  -- a turn of the host leaves the owners
  pub owners_stay : (after_turn c m Host).owners ≡ m.owners
  owners_stay = by_bit (host_ended m.host) where
    by_bit : (b : Bool) → (if b then m else behind_host).owners ≡ m.owners
    by_bit true = refl
    by_bit false = refl

  -- a turn of a host that hasn't ended makes its next action
  pub host_after_turn : host_ended m.host ≡ false → (after_turn c m Host).host ≡ host_after (plugged_behind c host_made) m.host host_made.heard
  host_after_turn going = ap (λ (b : Bool). (cond b m behind_host).host) going

-- ---- a turn that was made

module _ (c : Setting) (m : Running) (action : Action) (w : World) (heard : Heard) where
  abbrev given : Made
  given = record { world = w; heard = heard }

  -- What an owner's action gave, and the owner that heard of it, are what its turn leaves. The owner is read before the
  -- action and again behind it.
  pub owner_turn_made : (k : ℕ) (a later b : OwnerState) → owner_of m.owners k ≡ a → owner_of m.owners k ≡ later → owner_ended a ≡ false → action ≡ next_action a → given ≡ made c k m.world action → b ≡ owner_after later heard
      → (let n : Running = record m { world = w; owners = set m.owners (k - 1) b } in n) ≡ after_turn c m (Owner k)
  owner_turn_made k a later b is is_later going next gives hears =
      let all : Made = made c k m.world (next_action (owner_of m.owners k)) in
      let same : given ≡ all = gives ∙ ap (λ (x : Action). made c k m.world x) (next ∙ ap next_action (sym is)) in
      ap (λ (x : OwnerState). let n : Running = record m { world = w; owners = set m.owners (k - 1) x } in n) (hears ∙ ap (λ (x : OwnerState). owner_after x heard) (sym is_later))
      ∙ ap (λ (x : Made). owner_acted m k x) same
      ∙ sym (ap (λ (b : Bool). cond b m (owner_acted m k all)) (ap owner_ended is ∙ going))

  -- The same of the host, with the line that it gave. It is told which blocks are plugged behind the action.
  pub host_turn_made : (plugged : List ℕ) (h : HostState) (lines : List HostLine) → host_ended m.host ≡ false → action ≡ host_action m.host → given ≡ made c 0 m.world action → plugged ≡ (device_now c w).plugged
      → h ≡ host_after plugged m.host heard → lines ≡ m.lines ++ line_list (line_after plugged m.host heard)
      → (let n : Running = record { world = w; owners = m.owners; host = h; lines = lines } in n) ≡ after_turn c m Host
  host_turn_made plugged h lines going next gives known hears ends =
      let all : Made = made c 0 m.world (host_action m.host) in
      let same : given ≡ all = gives ∙ ap (λ (x : Action). made c 0 m.world x) next in
      ap (λ (x : HostState). let n : Running = record { world = w; owners = m.owners; host = x; lines = lines } in n) hears
      ∙ ap (λ (l : List HostLine). let n : Running = record { world = w; owners = m.owners; host = host_after plugged m.host heard; lines = l } in n) ends
      ∙ ap (λ (l : List ℕ). let n : Running = record { world = w; owners = m.owners; host = host_after l m.host heard; lines = m.lines ++ line_list (line_after l m.host heard) } in n) known
      ∙ ap (λ (x : Made). host_acted c m x) same
      ∙ sym (ap (λ (b : Bool). cond b m (host_acted c m all)) going)
