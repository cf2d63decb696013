-- Rounds: the first busy page of a round, and pages that were busy in round after round.
use Rattle.std.proofs.Common.{◌≡◌, ℕ, suc, ◌<◌, true, List, [], ◌∷◌, Option, None, Some, refl, sym, subst, ◌∙◌, arith}
use Rattle.std.specs.List.{AllByRecursion, Contains}
use Rattle.std.specs.Option.{option_or}
use Rattle.evac_model.specs.declared.names.BlockNo.{BlockNo}
use Rattle.evac_model.specs.declared.evacuation.MoveLease.{MoveLease}
use Rattle.evac_model.specs.Geometry.{Sizes}
use Rattle.evac_model.proofs.Lists.{all_weaker}
use Rattle.evacuate.specs.declared.stage.Attempt.{Attempt}
use Rattle.evacuate.specs.Tale.{last_frame, is_next, AreInOrder, IsMoved, busy_lease, first_busy, WasBusyBefore, WereBusyBefore}
use Rattle.evacuate.proofs.Frames.{next_behind}

pub contains_head : {X : Type 0} → (x : X) (xs : List X) → Contains (x ∷ xs) x
contains_head x xs = (0, omega arith, refl)

pub contains_tail : {X : Type 0} → (x y : X) (xs : List X) → Contains xs x → Contains (y ∷ xs) x
contains_tail x y xs h = (suc h.0, omega (arith, h.1), h.2)

-- ---- the first busy page

attempt_moved : (a : Attempt) (found : Option ℕ) → busy_lease a.lease found ≡ None → found ≡ None
attempt_moved a None h = refl
attempt_moved a (Some word) h = cc

or_none : (x y : Option MoveLease) → option_or x y ≡ None → (x ≡ None) × (y ≡ None)
or_none None y h = (refl, h)
or_none (Some x) y h = cc

-- a round without a busy page moved each one
pub all_moved : (attempts : List Attempt) → first_busy attempts ≡ None → AllByRecursion IsMoved attempts
all_moved [] h = tt
all_moved (a ∷ attempts) h =
    let both = or_none (first_busy attempts) (busy_lease a.lease a.found) h in
    (attempt_moved a a.found both.1, all_moved attempts both.0)

-- the first busy page was busy, by the word found for it
pub record IsAttempted (attempts : List Attempt) (lease : MoveLease) : Type 0 where
  pub word : ℕ
  pub there : Contains attempts (record { lease = lease; found = Some word })

attempted_here : (l : MoveLease) (found : Option ℕ) (attempts : List Attempt) (lease : MoveLease) → busy_lease l found ≡ Some lease → IsAttempted (record { lease = l; found = found } ∷ attempts) lease
attempted_here l None attempts lease h = cc
attempted_here l (Some word) attempts lease h =
    let same : l ≡ lease = cc in
    let all : MoveLease → List Attempt = λ x. record { lease = x; found = Some word } ∷ attempts in
    subst (λ (x : MoveLease). IsAttempted (all x) lease) (sym same)
    (record { word = word; there = contains_head (record { lease = lease; found = Some word }) attempts })

attempted_tail : (a : Attempt) (attempts : List Attempt) (lease : MoveLease) → IsAttempted attempts lease → IsAttempted (a ∷ attempts) lease
attempted_tail a attempts lease h =
    record { word = h.word; there = contains_tail (record { lease = lease; found = Some h.word }) a attempts h.there }

mutual_first : (a : Attempt) (attempts : List Attempt) (lease : MoveLease) (before : Option MoveLease) → first_busy attempts ≡ before → option_or before (busy_lease a.lease a.found) ≡ Some lease → ((first_busy attempts ≡ Some lease) → IsAttempted attempts lease) → IsAttempted (a ∷ attempts) lease
mutual_first a attempts lease None e h go = attempted_here a.lease a.found attempts lease h
mutual_first a attempts lease (Some x) e h go = attempted_tail a attempts lease (go (e ∙ h))

pub first_attempted : (attempts : List Attempt) (lease : MoveLease) → first_busy attempts ≡ Some lease → IsAttempted attempts lease
first_attempted [] lease h = cc
first_attempted (a ∷ attempts) lease h =
    mutual_first a attempts lease (first_busy attempts) refl h (λ e. first_attempted attempts lease e)

-- ---- the order of a round

-- the frames of a round lie below the next one
pub all_below : (s : Sizes) (b : BlockNo) (frame : ℕ) (attempts : List Attempt) → AreInOrder s b attempts → is_next s b (last_frame attempts) frame ≡ true → AllByRecursion (λ (a : Attempt). a.lease.from.0 < frame) attempts
all_below s b frame [] order next = tt
all_below s b frame (a ∷ attempts) order next =
    let here : a.lease.from.0 < frame = next_behind s b a.lease.from frame next in
    (here, all_weaker (λ (x : Attempt). x.lease.from.0 < a.lease.from.0) (λ (x : Attempt). x.lease.from.0 < frame) (λ x l. omega arith) attempts (all_below s b a.lease.from.0 attempts order.1 order.0))

-- ---- rounds behind one another

-- the next attempt is on a page that was busy before
pub busy_before_more : (a : Attempt) (attempts : List Attempt) (rounds : List (List Attempt)) → WasBusyBefore rounds a.lease.from a.lease.page → WereBusyBefore attempts rounds → WereBusyBefore (a ∷ attempts) rounds
busy_before_more a attempts [] before h = tt
busy_before_more a attempts (r ∷ rounds) before h = ((before, h.0), h.1)

pub busy_before_none : (attempts : List Attempt) (rounds : List (List Attempt)) → WereBusyBefore attempts rounds → WereBusyBefore [] (attempts ∷ rounds)
busy_before_none attempts rounds h = (tt, h)
