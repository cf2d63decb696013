-- A free frame that the rules choose comes into an actor's hand, where it is out for a page: by a lease, or as the target
-- of a move.
use Rattle.std.proofs.Common.{◌≡◌, ◌≢◌, ℕ, ◌<◌, true, List, [], ◌∷◌, ◌++◌, length, get_or-set_same, get_or-set_other, sym, ap, ◌∙◌, subst, arith, true≢false, Option, Some, None, is_some, IsSome}
use Rattle.std.proofs.lemmas.Option.{none-some}
use mathlib.Core.Logic.{dite}
use native.Mathlib.Decide.{ℕ_discrete}
use Rattle.evac_model.specs.declared.names.Kind.{Kind}
use Rattle.evac_model.specs.declared.space.SpaceAction.{SpaceAction}
use Rattle.evac_model.specs.SpaceJournal.{Out, SpaceState, Leased, IsLeasable, out_for, is_frame_of, lease_of, after_lease, after_action, IsPossible, IsPossibleJournal}
use Rattle.core_state.specs.declared.hand.HandFrame.{HandFrame}
use Rattle.core_state.specs.declared.view.View.{View}
use Rattle.core_state.specs.HandOvers.{IsAtRest, MayHandOver, views_after_hand_over}
use Rattle.core_state.specs.Views.{view_of, hand_frame}
use Rattle.space.proofs.Journals.{space_after-append}
use Rattle.space.proofs.SpaceLaws.{possible_goes_on}
use Rattle.space.specs.SpaceInside.{IsSpace}
use Rattle.machine.specs.Consistent.{IsSetting, IsConsistent}
use Rattle.machine.specs.Made.{handed}
use Rattle.machine.specs.World.{Setting, World, free_seat, IsOwnerSeat, IsActorSeat, HasFrame, space_at, space_now, is_held}
use Rattle.machine.proofs.HandedFrames.{other_after, IsSnapshotKept, handed_kept}
use Rattle.machine.proofs.OneFrame.{IsMoved, moved_kept, held_still, one_handed, giver_gone, giver_still, receiver_has, receiver_still}
use Rattle.machine.proofs.Quiet.{actor_there}
use Rattle.machine.proofs.SpaceNow.{space_is, lease_is_free, lease_is_plugged}

-- an actor at rest takes the frame that the rules choose for it, by an action that puts the frame out for a page
pub record IsTaking (c : Setting) (w : World) (seat : ℕ) (l : Leased) (action : SpaceAction) : Type 0 where
  pub actor : IsActorSeat c seat
  pub rests : IsAtRest c.opening (view_of w.snapshot.views seat)
  pub page : ℕ
  pub kind : Kind
  pub chosen : lease_of c.sizes c.online (space_now c w) seat kind ≡ Some l
  pub possible : IsPossible c.sizes c.online (space_now c w) action
  pub behind : after_action c.sizes c.online (space_now c w) action ≡ after_lease (space_now c w) (Some l) page kind

module _ (c : Setting) (w : World) (seat : ℕ) (l : Leased) (action : SpaceAction) (set : IsSetting c) (kept : IsConsistent c w) (t : IsTaking c w seat l action) where
  abbrev st : SpaceState
  st = space_now c w

  abbrev free : ℕ
  free = free_seat c

  abbrev journal : List SpaceAction
  journal = w.space ++ action ∷ []

  abbrev then : SpaceState
  then = space_at c journal

  abbrev views : List View
  views = views_after_hand_over w.snapshot.views free seat (view_of w.snapshot.views free) (view_of w.snapshot.views seat) l.frame 1

  abbrev taken : World
  taken = record w { snapshot = handed w.snapshot free seat l.frame; space = journal }

  is_space : IsSpace c.sizes c.online st
  is_space = space_is c w set kept

  leasable : IsLeasable c.sizes c.online st t.kind l.frame
  leasable = lease_is_free c w set kept seat t.kind l t.chosen

  -- ---- the seats

  apart : free ≢ seat
  apart = let high = t.actor in omega arith

  free_there : free < length w.snapshot.views
  free_there = let seats = kept.seats in omega arith

  mine_there : seat < length w.snapshot.views
  mine_there = actor_there c w seat kept t.actor

  free_has : HasFrame w free l.frame
  free_has = (kept.free l.frame leasable.there).1 (leasable.not_out, lease_is_plugged c w set kept seat t.kind l t.chosen)

  pub taken_hands : MayHandOver c.opening (view_of w.snapshot.views free) (view_of w.snapshot.views seat) l.frame 1
  taken_hands = one_handed c.opening (view_of w.snapshot.views free) (view_of w.snapshot.views seat) l.frame kept.keeper_rests t.rests free_has

  snapshot_kept : IsSnapshotKept c w (handed w.snapshot free seat l.frame)
  snapshot_kept = let high = t.actor in handed_kept c w kept free seat l.frame 1 apart (omega arith) (omega arith) taken_hands

  -- ---- the space then

  behind : then ≡ after_lease st (Some l) t.page t.kind
  behind = space_after-append c.sizes c.online c.space w.space action ∙ t.behind

  pub taken_here : out_for then l.frame ≡ Some (record { page = t.page; kind = t.kind })
  taken_here =
      let low = leasable.there in
      let long = is_space.out in
      ap (λ (x : SpaceState). out_for x l.frame) behind ∙ get_or-set_same st.out l.frame (Some (record { page = t.page; kind = t.kind })) None (omega arith)

  pub taken_out : (f : ℕ) → f ≢ l.frame → out_for then f ≡ out_for st f
  taken_out f ne = ap (λ (x : SpaceState). out_for x f) behind ∙ get_or-set_other st.out l.frame f (Some (record { page = t.page; kind = t.kind })) None ne

  pub taken_offline : then.offline ≡ st.offline
  taken_offline = ap (λ (x : SpaceState). x.offline) behind

  possible : IsPossibleJournal c.sizes c.online c.space journal
  possible = (possible_goes_on c.sizes c.online c.space w.space action).1 (kept.possible, t.possible)

  -- ---- the frames then

  had_still : (f : ℕ) → f ≢ l.frame → hand_frame (view_of views seat) f ≡ hand_frame (view_of w.snapshot.views seat) f
  had_still = receiver_still c.opening w.snapshot.views free seat apart free_there mine_there l.frame taken_hands

  -- an owner's frames are out
  in_hand_out : IsOwnerSeat c seat → (f : ℕ) → IsSome (hand_frame (view_of views seat) f) → out_for then f ≢ None
  in_hand_out owner f some = dite (ℕ_discrete f l.frame)
      (λ same none. none-some _ (sym none ∙ (ap (λ (g : ℕ). out_for then g) same ∙ taken_here)))
      (λ ne. subst (λ (o : Option Out). o ≢ None) (sym (taken_out f ne)) (kept.in_hand seat f owner (subst (λ (x : Option HandFrame). IsSome x) (had_still f ne) some)))

  -- the driver has the frames that it had
  driver_has : seat ≡ 0 → (block f : ℕ) → is_held c w block ≡ true → is_frame_of c.sizes block f ≡ true → IsSome (hand_frame (view_of views seat) f)
  driver_has is block f held its = dite (ℕ_discrete f l.frame)
      (λ same. subst (λ (g : ℕ). IsSome (hand_frame (view_of views seat) g)) (sym same)
      (subst (λ (x : Option HandFrame). IsSome x) (sym (receiver_has c.opening w.snapshot.views free seat apart free_there mine_there l.frame taken_hands)) free_has))
      (λ ne. subst (λ (x : Option HandFrame). IsSome x) (sym (had_still f ne)) (subst (λ (i : ℕ). HasFrame w i f) (sym is) (kept.driver block f held its)))

  moved : IsMoved c w seat l.frame views journal
  moved = record {
    actor = t.actor;
    snapshot = snapshot_kept;
    others = λ other not_mine not_free. other_after w.snapshot.views free seat apart free_there mine_there l.frame 1 other not_free not_mine;
    possible = possible;
    offline = taken_offline;
    out = taken_out;
    free = giver_still c.opening w.snapshot.views free seat apart free_there mine_there l.frame taken_hands;
    here = (
      (λ had. absurd (true≢false (sym had ∙ ap (λ (x : Option HandFrame). is_some x) (giver_gone c.opening w.snapshot.views free seat apart free_there mine_there l.frame taken_hands)))),
      (λ q. absurd (none-some _ (sym q.0 ∙ taken_here))),
    );
    unmapped = λ q low on same. none-some _ (sym leasable.not_out ∙ (ap (λ (f : ℕ). out_for st f) (sym same) ∙ kept.mapped q low on));
    in_no_hand = λ other own ne had. kept.in_hand other l.frame own had leasable.not_out;
    in_hand = in_hand_out;
    driver = driver_has;
  }

  pub taken_kept : IsConsistent c taken
  taken_kept = moved_kept c w kept seat l.frame views journal moved

  pub taken_held : (block : ℕ) → is_held c taken block ≡ is_held c w block
  taken_held = held_still c w kept seat l.frame views journal moved
