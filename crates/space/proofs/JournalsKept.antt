-- A space that is kept with its journal, behind one more action.
use Rattle.evac_model.specs.declared.names.Kind.{Kind}
use Rattle.space.proofs.Opens.{space_at_start_is_space}
use Rattle.std.proofs.Common.{◌≡◌, ℕ, ◌+◌, ◌≤◌, List, [], ◌∷◌, ◌++◌, refl, sym, ap, ◌∙◌, subst, arith}
use Rattle.evac_model.specs.declared.scenario.StartPage.{StartPage}
use Rattle.evac_model.specs.declared.space.SpaceAction.{SpaceAction}
use Rattle.evac_model.specs.Geometry.{Sizes, IsWithinLimits}
use Rattle.evac_model.specs.SpaceJournal.{space_at_start, IsPossible, IsPossibleJournal}
use Rattle.space.specs.JournaledSpace.{JournaledSpace, space_state, with_action, AreStartFrames}
use Rattle.space.specs.KeptSpace.{KeptSpace, behind}
use Rattle.space.specs.KeptJournal.{journaled, left_by, IsLeftBy}
use Rattle.space.specs.SpaceInside.{IsSpace, IsOwed}
use Rattle.space.proofs.Journals.{space_after-append, possible-append}
use Rattle.space.proofs.SpaceLaws.{space_behind}

-- what is kept, behind one more action
pub left_by-with_action : (v : JournaledSpace) (a : SpaceAction) → behind a (left_by v) ≡ left_by (with_action a v)
left_by-with_action v a =
    λ i. record { sizes = v.sizes; online = v.online; state = sym (space_after-append v.sizes v.online v.opening v.journal a) i }

possible_left : (v : JournaledSpace) (k : KeptSpace) (used owed room : ℕ) (a : SpaceAction) → IsLeftBy v k used owed room → IsPossible v.sizes v.online (space_state v) a → IsPossible k.sizes k.online k.state a
possible_left v k used owed room a h here =
    let P : KeptSpace → Type 0 = λ x. IsPossible x.sizes x.online x.state a in subst P (sym h.left) here

within_same : (k next : KeptSpace) → next ≡ k → IsWithinLimits k.sizes → IsWithinLimits next.sizes
within_same k next e h = let P : KeptSpace → Type 0 = λ x. IsWithinLimits x.sizes in subst P (sym e) h

space_same : (k next : KeptSpace) → next ≡ k → IsSpace k.sizes k.online k.state → IsSpace next.sizes next.online next.state
space_same k next e h = let P : KeptSpace → Type 0 = λ x. IsSpace x.sizes x.online x.state in subst P (sym e) h

pub left_behind : (v : JournaledSpace) (k next : KeptSpace) (used owed room used2 owed2 room2 : ℕ) (a : SpaceAction) → IsLeftBy v k used owed room → next ≡ behind a k → IsPossible v.sizes v.online (space_state v) a → IsOwed next.state owed2 → used2 + owed2 ≤ room2 → IsLeftBy (with_action a v) next used2 owed2 room2
left_behind v k next used owed room used2 owed2 room2 a h e here owed_for enough = record {
  within = within_same (behind a k) next e h.within;
  space = space_same (behind a k) next e (space_behind k.sizes k.online k.state a h.within h.space (possible_left v k used owed room a h here));
  left = e ∙ ap (behind a) h.left ∙ left_by-with_action v a;
  possible = possible-append v.sizes v.online v.opening v.journal a h.possible here;
  owed_for = owed_for;
  enough = enough;
}

pub journaled-with_action : (k next : KeptSpace) (start : List StartPage) (journal journal2 : List SpaceAction) (a : SpaceAction) (v : JournaledSpace) → journaled k start journal ≡ v → next ≡ behind a k → journal2 ≡ journal ++ a ∷ [] → journaled next start journal2 ≡ with_action a v
journaled-with_action k next start journal journal2 a v e en ej =
    (λ i. record { sizes = (en i).sizes; online = (en i).online; opening = space_at_start (en i).sizes start; journal = ej i })
    ∙ ap (with_action a) e

pub left_opened : (k : KeptSpace) (start : List StartPage) (journal : List SpaceAction) (used owed room : ℕ) (v : JournaledSpace) → journaled k start journal ≡ v → IsLeftBy (journaled k start journal) k used owed room → IsLeftBy v k used owed room
left_opened k start journal used owed room v e h = let P : JournaledSpace → Type 0 = λ x. IsLeftBy x k used owed room in subst P e h

-- the invariant behind an action
pub left_next : (k next : KeptSpace) (start : List StartPage) (journal journal2 : List SpaceAction) (used owed room used2 owed2 room2 : ℕ) (a : SpaceAction) (v : JournaledSpace) → journaled k start journal ≡ v → IsLeftBy v k used owed room → next ≡ behind a k → journal2 ≡ journal ++ a ∷ [] → IsPossible v.sizes v.online (space_state v) a → IsOwed next.state owed2 → used2 + owed2 ≤ room2 → IsLeftBy (journaled next start journal2) next used2 owed2 room2
left_next k next start journal journal2 used owed room used2 owed2 room2 a v e h en ej here owed_for enough =
    let P : JournaledSpace → Type 0 = λ x. IsLeftBy x next used2 owed2 room2 in
    subst P (sym (journaled-with_action k next start journal journal2 a v e en ej)) (left_behind v k next used owed room used2 owed2 room2 a h en here owed_for enough)

-- the invariant where only the room for the journal changed
pub left_same : (k next : KeptSpace) (start : List StartPage) (journal journal2 : List SpaceAction) (used owed room used2 room2 : ℕ) → IsLeftBy (journaled k start journal) k used owed room → next ≡ k → journal2 ≡ journal → used2 + owed ≤ room2 → IsLeftBy (journaled next start journal2) next used2 owed room2
left_same k next start journal journal2 used owed room used2 room2 h en ej enough =
    let P : KeptSpace → List SpaceAction → Type 0 = λ x xs. IsLeftBy (journaled x start xs) x used2 owed room2 in
    subst (λ (x : KeptSpace). P x journal2) (sym en) (subst (P k) (sym ej) (record {
      within = h.within;
      space = h.space;
      left = h.left;
      possible = h.possible;
      owed_for = h.owed_for;
      enough = enough;
    }))

-- a space that is opened
pub left_at_start : (k : KeptSpace) (s : Sizes) (online : Kind) (start pages : List StartPage) (journal : List SpaceAction) (used owed room : ℕ) → IsWithinLimits s → AreStartFrames s online start → k ≡ record { sizes = s; online = online; state = space_at_start s start } → pages ≡ start → journal ≡ [] → used ≡ 0 → IsOwed k.state owed → owed ≤ room → IsLeftBy (journaled k pages journal) k used owed room
left_at_start k s online start pages journal used owed room within starts e ep ej eu owed_for enough =
    let opened : KeptSpace = record { sizes = s; online = online; state = space_at_start s start } in
    let left : KeptSpace → List StartPage → List SpaceAction → Type 0 = λ x ps xs. x ≡ left_by (journaled x ps xs) in
    let possible : List SpaceAction → Type 0 = λ xs. IsPossibleJournal k.sizes k.online (space_at_start k.sizes pages) xs in
    record {
      within = within_same opened k e within;
      space = space_same opened k e (space_at_start_is_space s online start within.plugged starts);
      left = subst (λ (xs : List SpaceAction). left k pages xs) (sym ej) (subst (λ (ps : List StartPage). left k ps []) (sym ep) (subst (λ (x : KeptSpace). left x start []) (sym e) refl));
      possible = subst possible (sym ej) tt;
      owed_for = owed_for;
      enough = omega (arith, enough, eu);
    }
