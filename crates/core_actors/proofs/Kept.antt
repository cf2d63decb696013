-- How an owner is kept, before and after its next action.
use Rattle.std.proofs.Common.{◌≡◌, ℕ, zero, suc, eq-eqb, ne_eqb, ◌+◌, ◌<◌, ◌≤◌, ◌==◌, ◌&&◌, Bool, true, false, if◌then◌else◌, List, [], ◌∷◌, length, drop, get_or, refl, sym, ap, ◌∙◌, subst, arith, Option, Some, None}
use Rattle.std.specs.List.{AllByRecursion}
use Rattle.std.proofs.Math.Bool.{and-true}
use mathlib.Core.Logic.{dite}
use native.Mathlib.Decide.{dec_lt}
use Rattle.evac_model.specs.declared.names.FrameNo.{FrameNo}
use Rattle.evac_model.specs.declared.names.PageNo.{PageNo}
use Rattle.evac_model.specs.declared.call.Call.{Call}
use Rattle.evac_model.specs.Geometry.{Sizes}
use Rattle.evac_model.specs.Calls.{IsCallFor}
use Rattle.machine.specs.declared.action.Heard.{Heard}
use Rattle.core_actors.specs.CallSteps.{first_cell, load_count, values_of}
use Rattle.core_actors.specs.declared.place.Place.{Place}
use Rattle.core_actors.specs.declared.place.Place.TheVariants.{Between, InCall}
use Rattle.core_actors.specs.declared.place.CallPlace.{CallPlace}
use Rattle.core_actors.specs.declared.place.CallPlace.TheVariants.{Zero, MarkZeros, Take, Draw, Load, Store, Mark, Map, Unmap, Release}
use Rattle.core_actors.specs.Places.{first_action, action_at, behind_first, place_behind, calls_behind, frame_owed, ends_call}
use Rattle.core_actors.specs.Owners.{OwnerState, owner_ended, are_none, is_nothing, next_action, owner_after}
use Rattle.core_actors.specs.Actions.{ends_with_next}
use Rattle.core_actors.specs.Counts.{ComesTo, IsPlaced, IsUnderWay}
use Rattle.core_actors.proofs.Cases.{same_either}
use Rattle.core_actors.proofs.HeldCells.{loads_within, stores_within}

-- ---- lists

drop_nothing : (n : ℕ) → ◌≡◌ {A = List (PageNo × Call)} (drop n []) []
drop_nothing zero = refl
drop_nothing (suc n) = refl

pub one_more_dropped : (xs : List (PageNo × Call)) (i : ℕ) → drop 1 (drop i xs) ≡ drop (i + 1) xs
one_more_dropped [] i = ap (λ (l : List (PageNo × Call)). drop 1 l) (drop_nothing i) ∙ sym (drop_nothing (i + 1))
one_more_dropped (x ∷ xs) zero = refl
one_more_dropped (x ∷ xs) (suc i) = let e : suc i + 1 ≡ suc (i + 1) = omega arith in one_more_dropped xs i ∙ ap (λ (k : ℕ). drop k (x ∷ xs)) (sym e)

pub some_before_end : (xs : List (PageNo × Call)) (i : ℕ) → i < length xs → are_none (drop i xs) ≡ false
some_before_end [] i lt = absurd (omega arith)
some_before_end (x ∷ xs) zero lt = refl
some_before_end (x ∷ xs) (suc i) lt = some_before_end xs i (omega arith)

pub none_at_end : (xs : List (PageNo × Call)) (i : ℕ) → length xs ≤ i → are_none (drop i xs) ≡ true
none_at_end [] i le = ap are_none (drop_nothing i)
none_at_end (x ∷ xs) zero le = absurd (omega arith)
none_at_end (x ∷ xs) (suc i) le = none_at_end xs i (omega arith)

pub before_end : (xs : List (PageNo × Call)) (i : ℕ) → are_none (drop i xs) ≡ false → i < length xs
before_end xs i some = dite (dec_lt i (length xs)) (λ lt. lt) (λ past. absurd (let none = none_at_end xs i (omega arith) in cc))

-- the script from a call on
drop_here : (xs : List (PageNo × Call)) (i : ℕ) (x : PageNo × Call) → i < length xs → x ≡ get_or xs i x → drop i xs ≡ x ∷ drop (i + 1) xs
drop_here [] i x lt e = absurd (omega arith)
drop_here (y ∷ ys) zero x lt e = ap (λ (z : PageNo × Call). z ∷ ys) (sym e)
drop_here (y ∷ ys) (suc i) x lt e = let next : suc i + 1 ≡ suc (i + 1) = omega arith in drop_here ys i x (omega arith) e ∙ ap (λ (k : ℕ). x ∷ drop k (y ∷ ys)) (sym next)

pub all_here : (P : PageNo × Call → Type 0) (xs : List (PageNo × Call)) (i : ℕ) (x : PageNo × Call) → AllByRecursion P xs → i < length xs → x ≡ get_or xs i x → P x
all_here P [] i x all lt e = absurd (omega arith)
all_here P (y ∷ ys) zero x all lt e = subst P (sym e) all.0
all_here P (y ∷ ys) (suc i) x all lt e = all_here P ys i x all.1 (omega arith) e

-- ---- the call under way

-- the cells of a call are few
pub cells_low : (s : Sizes) (call : Call) → IsCallFor s call → s.cells ≤ 512 → first_cell call + load_count call + length (values_of [] call) ≤ 4294967296
cells_low s call fits few = omega (arith, loads_within s call fits, stores_within s [] call fits)

free_between : (place : Place) (back : Option FrameNo) → place ≡ Between back → is_nothing (frame_owed place) ≡ true → place ≡ Between None
free_between place None e free = e
free_between place (Some frame) e free = absurd (let f = subst (λ (p : Place). is_nothing (frame_owed p) ≡ true) e free in cc)

module _ (owner cells : ℕ) (xs : List (PageNo × Call)) (i : ℕ) (x : PageNo × Call) (lt : i < length xs) (is : x ≡ get_or xs i x) (place : Place) where
  abbrev in_script : OwnerState
  in_script = record { owner = owner; cells = cells; left = drop i xs; place = place }

  abbrev with_call : Place → OwnerState
  with_call p = record { owner = owner; cells = cells; left = x ∷ drop (i + 1) xs; place = p }

  stands : (p : Place) → place ≡ p → in_script ≡ with_call p
  stands p e = let d = drop_here xs i x lt is in λ j. record { owner = owner; cells = cells; left = d j; place = e j }

  pub comes_here : (at : CallPlace) → place ≡ InCall at → IsPlaced cells place (drop i xs) → ComesTo cells x.1 at
  comes_here at e placed = subst IsUnderWay (stands (InCall at) e) placed

  pub begins_here : (back : Option FrameNo) → place ≡ Between back → is_nothing (frame_owed place) ≡ true → next_action in_script ≡ first_action x
  begins_here back e free = ap next_action (stands (Between None) (free_between place back e free))

  pub goes_here : (at : CallPlace) → place ≡ InCall at → next_action in_script ≡ action_at x at
  goes_here at e = ap next_action (stands (InCall at) e)

  pub begun_here : (heard : Heard) (back : Option FrameNo) → place ≡ Between back → is_nothing (frame_owed place) ≡ true → (owner_after in_script heard).place ≡ behind_first cells x.1 heard
  begun_here heard back e free = ap (λ (a : OwnerState). (owner_after a heard).place) (stands (Between None) (free_between place back e free))

  pub gone_here : (heard : Heard) (at : CallPlace) → place ≡ InCall at → (owner_after in_script heard).place ≡ place_behind cells x.1 at heard
  gone_here heard at e = ap (λ (a : OwnerState). (owner_after a heard).place) (stands (InCall at) e)

-- ---- the end

ends_if_none : (owner cells : ℕ) (back : Option FrameNo) (left : List (PageNo × Call)) → ends_with_next (record { owner = owner; cells = cells; left = left; place = Between back }) ≡ are_none left
ends_if_none owner cells None [] = refl
ends_if_none owner cells None (c ∷ cs) = refl
ends_if_none owner cells (Some frame) [] = refl
ends_if_none owner cells (Some frame) (c ∷ cs) = refl

none_here : (xs : List (PageNo × Call)) (i : ℕ) → i ≤ length xs → (i == length xs) ≡ are_none (drop i xs)
none_here xs i le = dite (dec_lt i (length xs))
    (λ lt. ne_eqb i (length xs) (λ e. absurd (omega arith)) ∙ sym (some_before_end xs i lt))
    (λ past. eq-eqb i (length xs) (omega arith) ∙ sym (none_at_end xs i (omega arith)))

pub ends_between : (owner cells : ℕ) (xs : List (PageNo × Call)) (i : ℕ) (place : Place) (back : Option FrameNo) → i ≤ length xs → place ≡ Between back
    → (i == length xs) ≡ ends_with_next (record { owner = owner; cells = cells; left = drop i xs; place = place })
ends_between owner cells xs i place back le e =
    none_here xs i le ∙ sym (ap (λ (p : Place). ends_with_next (record { owner = owner; cells = cells; left = drop i xs; place = p })) e ∙ ends_if_none owner cells back (drop i xs))

-- where no frame is to be given back, it has ended just behind its last call
pub ended_here : (owner cells : ℕ) (xs : List (PageNo × Call)) (i : ℕ) (place : Place) → i ≤ length xs → is_nothing (frame_owed place) ≡ true
    → (i == length xs) ≡ owner_ended (record { owner = owner; cells = cells; left = drop i xs; place = place })
ended_here owner cells xs i place le free =
    none_here xs i le ∙ sym (ap (λ (b : Bool). are_none (drop i xs) && b) free ∙ and-true (are_none (drop i xs)))

-- ---- the owner after its next action

pub calls_end : (c : PageNo × Call) (cs : List (PageNo × Call)) (at : CallPlace) → (if ends_call (InCall at) then cs else c ∷ cs) ≡ calls_behind c cs at
calls_end c cs (Zero frame cell) = refl
calls_end c cs (MarkZeros frame) = refl
calls_end c cs (Take lease) = refl
calls_end c cs (Draw lease found) = refl
calls_end c cs (Load found loads) = refl
calls_end c cs (Store found loads i) = refl
calls_end c cs (Mark found loads) = refl
calls_end c cs (Map frame kind found) = refl
calls_end c cs (Unmap found) = refl
calls_end c cs (Release lease found loads) = refl

module _ (owner cells : ℕ) (heard : Heard) where
  abbrev state : Place → List (PageNo × Call) → OwnerState
  state place left = record { owner = owner; cells = cells; left = left; place = place }

  heard_at : (place : Place) (left l : List (PageNo × Call)) (r : Place) → r ≡ (owner_after (state place left) heard).place → l ≡ (if ends_call place then drop 1 left else left) → state r l ≡ owner_after (state place left) heard
  heard_at (Between (Some frame)) left l r e f = λ i. state (e i) (f i)
  heard_at (Between None) [] l r e f = λ i. state (e i) (f i)
  heard_at (Between None) (c ∷ cs) l r e f = λ i. state (e i) (f i)
  heard_at (InCall at) [] l r e f = let g : l ≡ [] = f ∙ same_either (ends_call (InCall at)) [] in λ i. state (e i) (g i)
  heard_at (InCall at) (c ∷ cs) l r e f = let g : l ≡ calls_behind c cs at = f ∙ calls_end c cs at in λ i. state (e i) (g i)

-- the owner with the place behind its action, and with the calls that are left then
pub heard_state : (a : OwnerState) (heard : Heard) (l : List (PageNo × Call)) (r : Place) → r ≡ (owner_after a heard).place → l ≡ (if ends_call a.place then drop 1 a.left else a.left)
    → ◌≡◌ {A = OwnerState} (record { owner = a.owner; cells = a.cells; left = l; place = r }) (owner_after a heard)
heard_state a heard l r e f = heard_at a.owner a.cells heard a.place a.left l r e f
