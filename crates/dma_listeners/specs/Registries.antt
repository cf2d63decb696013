-- The listeners of a device, each under its key.
use Rattle.std.specs.Prelude.{◌≡◌, ◌≢◌, ℕ, ◌<◌, ◌≤◌, Bool, true, if◌then◌else◌, List, [], ◌∷◌, length, Option, None, Some, is_some, IsSomeAnd, IfSome, Result, Ok, Err, slice_index_or}
use Rattle.evac_model.specs.Counts.{WhereTold}
use Rattle.evac_model.specs.Numbers.{is_in, numbers_where, with_range, without_range}
use Rattle.evac_model.specs.Notices.{below, refused_join_notices}
use Rattle.dma_listeners.specs.declared.fault.RefusedBy.{RefusedBy}
use Rattle.dma_listeners.specs.declared.fault.JoinFault.{JoinFault}
use Rattle.dma_listeners.specs.declared.fault.JoinFault.TheVariants.{Refused, OutOfMemory}
use Rattle.dma_listeners.specs.Drafts.{Draft, IsWritten}
use Rattle.dma_listeners.specs.Listening.{exactly, IsChanged, IsRefused, IsChangedAt, IsRefusedAt, Fits}

-- a registry: the listener under each key from 0 on, or none
module _ {L : Type 0} where
  abbrev pub listener_at : List (Option L) → (key : ℕ) → Option L
  listener_at r key = slice_index_or r key None

  abbrev pub is_live : List (Option L) → (key : ℕ) → Bool
  is_live r key = is_some (listener_at r key)

  -- the keys below an end that have a listener, rising, and all of them
  abbrev pub keys_below : List (Option L) → (end : ℕ) → List ℕ
  keys_below r end = numbers_where (is_live r) end

  abbrev pub live_keys : List (Option L) → List ℕ
  live_keys r = keys_below r (length r)

  -- the key alone, where it has a listener
  abbrev pub live_key : List (Option L) → (key : ℕ) → List ℕ
  live_key r key = if is_live r key then key ∷ [] else []

  -- each listener passes
  abbrev pub EachListener : (L → Type 0) → List (Option L) → Type 0
  EachListener P r = (key : ℕ) → IfSome (listener_at r key) P

  -- the other keys have what they had
  abbrev pub OthersKept : (key : ℕ) → (old new : List (Option L)) → Type 0
  OthersKept key old new = (other : ℕ) → other ≢ key → listener_at new other ≡ listener_at old other

-- each listener maps exactly these blocks
abbrev pub MapExactly : {L : Type 0} → (mapped : L → List ℕ) → (plugged : List ℕ) → List (Option L) → Type 0
MapExactly mapped plugged r = EachListener (λ l. mapped l ≡ plugged) r

-- the key that refused, where one did
abbrev pub refuser : Result (Unit {0}) RefusedBy → Option ℕ
refuser (Ok _) = None
refuser (Err e) = Some e.key

module _ {L : Type 0} (mapped : L → List ℕ) (refusals : L → ℕ) (limit : L → Option ℕ) (room : L → ℕ) where
  -- the listeners with keys below an end were changed, and the others are as they were
  pub record AreChangedBelow (change : List ℕ → List ℕ) (end : ℕ) (old new : List (Option L)) : Type 0 where
    pub below : (key : ℕ) → key < end → IsChangedAt mapped refusals limit room change (listener_at old key) (listener_at new key)
    pub above : (key : ℕ) → end ≤ key → listener_at new key ≡ listener_at old key
    pub size : length new ≡ length old

  -- the same up to a key, whose listener refused
  pub record AreStoppedAt (change : List ℕ → List ℕ) (end : ℕ) (old new : List (Option L)) : Type 0 where
    pub below : (key : ℕ) → key < end → IsChangedAt mapped refusals limit room change (listener_at old key) (listener_at new key)
    pub here : IsRefusedAt mapped refusals limit room (listener_at old end) (listener_at new end)
    pub above : (key : ℕ) → end < key → listener_at new key ≡ listener_at old key
    pub size : length new ≡ length old

  -- where limits are told, so many more blocks fit in the listeners with keys below an end
  abbrev pub FitBelow : (n end : ℕ) → List (Option L) → Type 0
  FitBelow n end r = (key : ℕ) → key < end → IfSome (listener_at r key) (Fits mapped refusals limit room n)

  -- each listener was changed, and none came or left
  pub record AreChanged (change : List ℕ → List ℕ) (old new : List (Option L)) : Type 0 where
    pub each : (key : ℕ) → IsChangedAt mapped refusals limit room change (listener_at old key) (listener_at new key)
    pub keys : live_keys new ≡ live_keys old

  -- A range was refused under a key: those before mapped it and discarded it again, the one there refused, the others are
  -- as they were.
  pub record AreRolledBack (first n key : ℕ) (old new : List (Option L)) : Type 0 where
    pub before : (k : ℕ) → k < key → IsChangedAt mapped refusals limit room (λ xs. without_range first n (with_range first n xs)) (listener_at old k) (listener_at new k)
    pub here : IsRefusedAt mapped refusals limit room (listener_at old key) (listener_at new key)
    pub behind : (k : ℕ) → key < k → listener_at new k ≡ listener_at old k
    pub keys : live_keys new ≡ live_keys old

  -- a listener was given a key that no other has, and maps exactly the plugged blocks
  pub record HasJoined (plugged : List ℕ) (key : ℕ) (l : L) (old new : List (Option L)) : Type 0 where
    pub vacant : listener_at old key ≡ None
    pub here : IsSomeAnd (listener_at new key) (IsChanged mapped refusals limit room (exactly plugged) l)
    pub others : OthersKept key old new

  -- A listener refused to map the plugged block b: it was told of those before, and then to discard them. Where a limit
  -- is told, those before are exactly as many.
  pub record IsJoinRefusedAt (plugged : List ℕ) (old new : Draft) (l after : L) (b : ℕ) : Type 0 where
    pub block : is_in b plugged ≡ true
    pub told : IsWritten old new (refused_join_notices plugged b)
    pub refused : IsRefused mapped refusals limit room l after
    pub exact : WhereTold (limit l) (λ most. length (below b plugged) ≡ most)

  -- why a listener didn't join
  abbrev pub IsNotJoined : (plugged : List ℕ) → (old new : Draft) → (l : L) → JoinFault L → Type 0
  IsNotJoined plugged old new l (Refused after) = (b : ℕ) × IsJoinRefusedAt plugged old new l after b
  IsNotJoined plugged old new l (OutOfMemory after) = (after ≡ l) × (new ≡ old)
