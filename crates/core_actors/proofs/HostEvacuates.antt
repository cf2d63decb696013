-- What each action of an evacuation leaves: an isolation, a target, a frame given back, an isolation undone.
use Rattle.std.proofs.Common.{◌≡◌, ◌≢◌, ◌||◌, ◌&&◌, ◌==◌, not, ℕ, zero, suc, ◌<◌, Bool, true, false, true≢false, List, [], ◌∷◌, ◌++◌, length, get_or, get_or-set_other, set, refl, sym, ap, ◌∙◌, subst, arith, Option, Some, None}
use Rattle.std.proofs.Math.Bool.{or-false}
use Rattle.std.proofs.lemmas.Bool.{eqb-true, both_ways}
use Rattle.std.proofs.lemmas.Option.{none-some}
use Rattle.evac_model.specs.declared.evacuation.EvacCause.{EvacCause}
use Rattle.evac_model.specs.declared.evacuation.EvacCause.TheVariants as cause
use Rattle.evac_model.specs.declared.evacuation.MoveLease.{MoveLease}
use Rattle.evac_model.specs.declared.names.FrameNo.{FrameNo}
use Rattle.evac_model.specs.declared.names.Kind.TheVariants.{Movable}
use Rattle.evac_model.specs.declared.names.PageNo.{PageNo}
use Rattle.evac_model.specs.declared.space.SpaceAction.TheVariants as space
use Rattle.evac_model.specs.Geometry.{Sizes}
use Rattle.evac_model.specs.Numbers.{is_in}
use Rattle.evac_model.specs.SpaceJournal.{SpaceState, Out, Leased, out_for, is_frame_of, is_frame_in, lease_of, after_lease, after_action, HasMovableAlone}
use Rattle.evacuate.specs.declared.seen.EvacSeen.TheVariants as seen
use Rattle.evacuate.specs.declared.stage.Attempt.{Attempt}
use Rattle.evacuate.specs.declared.stage.Stage.{Stage}
use Rattle.evacuate.specs.declared.stage.Stage.TheVariants.{Isolating, Leasing, Moving, Returning, Undoing, Emptied, Failed}
use Rattle.evacuate.specs.Evacuating.{Evacuating, action_at, round_ended, attempt_over}
use Rattle.evacuate.specs.Tale.{Tale, frame_back, round_over}
use Rattle.space.specs.Refusals.{first_unmovable, next_out}
use Rattle.space.proofs.BlockFrames.{frame_in_from, is_in-with_block, is_in-without_block}
use Rattle.space.proofs.Journals.{space_after-append}
use Rattle.space.proofs.NextOut.{movable_none, unmovable_in_block}
use Rattle.machine.specs.Consistent.{IsSetting, IsConsistent}
use Rattle.machine.specs.Made.{Made, handed, isolate_made, target_made, noted, return_made, made}
use Rattle.machine.specs.MayMake.{MayIsolate, MayTarget, MayUndo, MayMake}
use Rattle.machine.specs.World.{Setting, World, free_seat, space_now, device_now}
use Rattle.machine.proofs.NotesKept.{undo_kept}
use Rattle.machine.proofs.SpaceNow.{space_is, lease_is_free}
use Rattle.core_actors.specs.declared.host_place.HostPlace.TheVariants as places
use Rattle.core_actors.specs.Hosts.{HostState, evac_action}
use Rattle.core_actors.specs.HostHears.{seen_in, told}
use Rattle.core_actors.specs.HostSpace.{has_isolated, IsEmptying, HostSpace, tale_told}
use Rattle.core_actors.proofs.HostAnswers.{next_is_next}
use Rattle.core_actors.proofs.HostTales.{IsRoundAt, standing, out_isolated, out_fewer, leased_before, out_leased, round_ends, given_back}
use Rattle.core_actors.proofs.HostGoesOn.{IsLeft, host_at, in_command, told_space}

-- ---- places of a list

-- one that has something, where another was emptied
still_there : (out : List (Option Out)) (f frame : ℕ) (x : Out) → get_or (set out f None) frame None ≡ Some x → (frame ≢ f) × (get_or out frame None ≡ Some x)
still_there [] f frame x is = absurd (none-some x is)
still_there (y ∷ out) zero zero x is = absurd (none-some x is)
still_there (y ∷ out) zero (suc frame) x is = ((λ e. absurd (omega arith)), is)
still_there (y ∷ out) (suc f) zero x is = ((λ e. absurd (omega arith)), is)
still_there (y ∷ out) (suc f) (suc frame) x is = let later = still_there out f frame x is in ((λ e. later.0 (omega arith)), later.1)

-- a test that is dropped, where it holds of none of the rest
dropped : (x y : Bool) → (y ≡ true → x ≡ false) → ((x || y) && not y) ≡ (x || false)
dropped true true apart = absurd (both_ways true (apart refl) refl)
dropped true false apart = refl
dropped false true apart = refl
dropped false false apart = refl

-- ---- what a world's next action is told

-- the host behind an action of its evacuation
abbrev pub IsToldBy : Setting → HostState → Tale → Stage → Made → Type 0
IsToldBy c h t stage x =
    HostSpace c x.world
    (told (device_now c x.world).plugged h (seen_in (action_at h.evacuation.block stage) x.heard)).state
    (tale_told h t (seen_in (action_at h.evacuation.block stage) x.heard))

module _ (c : Setting) (w : World) (h : HostState) (e : Evacuating) (t : Tale) (set : IsSetting c) (kept : IsConsistent c w) where
  abbrev st : SpaceState
  st = space_now c w

  -- the host, with its evacuation at that stage
  abbrev host : Stage → HostState
  host stage = host_at h e places.Evacuating stage

  abbrev IsBefore : Stage → Type 0
  IsBefore stage = HostSpace c w (host stage) t × IsEmptying c w (host stage) t

  -- ---- nothing changes in the frame space

  left_alone : (stage : Stage) (after : Evacuating) (next : Tale) (on : Bool) → has_isolated stage ≡ on → IsBefore stage → IsRoundAt st (standing e stage) after next on → IsLeft st st (standing e stage) after next on
  left_alone stage after next on same before round = record {
    round = round;
    offline = refl;
    isolated = λ b. before.0.isolated b ∙ ap (λ (x : Bool). is_in b st.offline || (x && b == e.block.0)) same;
  }

  -- ---- the block is isolated

  isolated_left : IsBefore Isolating → e.block.0 < c.sizes.managed → HasMovableAlone c.sizes st e.block.0 → IsLeft st (after_action c.sizes c.online st (space.Isolate e.block)) (standing e Isolating) (standing e (Leasing None)) t true
  isolated_left before managed alone = record {
    round = record {
      sizes = refl;
      block = refl;
      isolated = refl;
      space = out_isolated st e t before.1.goes_by.stands.0 (subst (λ (s : Sizes). HasMovableAlone s st e.block.0) (sym before.1.sizes) alone);
    };
    offline = refl;
    isolated = λ b.
        is_in-with_block c.sizes e.block.0 st.isolated b (space_is c w set kept).isolated managed
        ∙ ap (λ (x : Bool). x || b == e.block.0) (before.0.isolated b ∙ or-false (is_in b st.offline));
  }

  isolating : (first : Option (FrameNo × PageNo)) → first_unmovable c.sizes st e.block.0 ≡ first → IsBefore Isolating → MayIsolate c 0 w e.block → IsToldBy c (host Isolating) t Isolating (isolate_made w e.block first)
  isolating None none before may =
      told_space c w (host Isolating) (standing e Isolating) t set (in_command c w (host Isolating) t before.0 before.1) before.1.sizes before.1.goes_by
      w.snapshot (w.space ++ space.Isolate e.block ∷ []) seen.Isolated true (after_action c.sizes c.online st (space.Isolate e.block))
      (space_after-append c.sizes c.online c.space w.space (space.Isolate e.block)) refl tt
      (isolated_left before may.managed (movable_none c.sizes st e.block.0 none)) (λ off. absurd (true≢false off))
  isolating (Some at) some before may =
      told_space c w (host Isolating) (standing e Isolating) t set (in_command c w (host Isolating) t before.0 before.1) before.1.sizes before.1.goes_by
      w.snapshot w.space (seen.Refused at.0 at.1) false st refl
      (ap (λ (s : Sizes). is_frame_of s e.block.0 (at.0).0) before.1.sizes ∙ unmovable_in_block c.sizes st e.block.0 at some) tt
      (left_alone Isolating (standing e (Failed (cause.Unmovable at.0 at.1))) t false refl before (record { sizes = refl; block = refl; isolated = refl; space = tt })) (λ off. kept)

  -- ---- the next page gets a target

  module _ (after : Option FrameNo) (before : IsBefore (Leasing after)) (may : MayTarget c 0 w e.block) where
    abbrev asking : Evacuating
    asking = standing e (Leasing after)

    in_sizes : (next : Option (FrameNo × PageNo)) → next_out c.sizes st e.block.0 after ≡ next → next_out e.sizes st e.block.0 after ≡ next
    in_sizes next is = ap (λ (s : Sizes). next_out s st e.block.0 after) before.1.sizes ∙ is

    none_targeted : next_out c.sizes st e.block.0 after ≡ None → IsLeft st st asking (round_ended asking e.busy) (round_over t) true
    none_targeted none =
        left_alone (Leasing after) (round_ended asking e.busy) (round_over t) true refl before
        (round_ends st asking t after before.1.goes_by.stands.0 before.1.space (in_sizes None none) before.1.goes_by.stands.1.busy before.1.goes_by.counted)

    -- the frame that it gets lies in no isolated block
    module _ (at : FrameNo × PageNo) (l : Leased) (is : next_out c.sizes st e.block.0 after ≡ Some at) (chosen : lease_of c.sizes c.online st 0 Movable ≡ Some l) where
      abbrev later : SpaceState
      later = after_lease st (Some l) (at.1).0 Movable

      abbrev leased : MoveLease
      leased = record { from = at.0; page = at.1; target = record { 0 = l.frame } }

      still_out : (frame : ℕ) (x : Out) → is_frame_of e.sizes e.block.0 frame ≡ true → out_for later frame ≡ Some x → out_for st frame ≡ Some x
      still_out frame x its out =
          let in_block : is_frame_of c.sizes e.block.0 frame ≡ true = ap (λ (s : Sizes). is_frame_of s e.block.0 frame) (sym before.1.sizes) ∙ its in
          let there : is_frame_in c.sizes st.isolated frame ≡ true = frame_in_from c.sizes st.isolated e.block.0 frame may.isolated in_block in
          let other : frame ≢ l.frame = λ same. both_ways _ (lease_is_free c w set kept 0 Movable l chosen).not_isolated (ap (λ (f : ℕ). is_frame_in c.sizes st.isolated f) (sym same) ∙ there) in
          sym (get_or-set_other st.out l.frame frame (Some (record { page = (at.1).0; kind = Movable })) None other) ∙ out

      targeted_left : IsLeft st later asking (standing e (Moving leased)) t true
      targeted_left = record {
        round = record {
          sizes = refl;
          block = refl;
          isolated = refl;
          space = out_fewer st later (standing e (Moving leased)) t still_out (out_leased st e t after before.1.goes_by.stands.0 before.1.space at (record { 0 = l.frame }) (in_sizes (Some at) is));
        };
        offline = refl;
        isolated = λ b. before.0.isolated b;
      }

    targeting : (next : Option (FrameNo × PageNo)) (l : Option Leased) → next_out c.sizes st e.block.0 after ≡ next → lease_of c.sizes c.online st 0 Movable ≡ l → IsToldBy c (host (Leasing after)) t (Leasing after) (target_made c w next l)
    targeting None l none chosen =
        told_space c w (host (Leasing after)) asking t set (in_command c w (host (Leasing after)) t before.0 before.1) before.1.sizes before.1.goes_by
        w.snapshot w.space seen.NoneLeft true st refl refl tt (none_targeted none) (λ off. absurd (true≢false off))
    targeting (Some at) None some chosen =
        told_space c w (host (Leasing after)) asking t set (in_command c w (host (Leasing after)) t before.0 before.1) before.1.sizes before.1.goes_by
        w.snapshot w.space (seen.NoTarget at.0 at.1 (length w.space)) true st refl
        (next_is_next e.sizes st e.block after at (in_sizes (Some at) some)) tt
        (left_alone (Leasing after) (standing e (Undoing (cause.NoTarget at.0 at.1 (length w.space)))) t true refl before (record { sizes = refl; block = refl; isolated = refl; space = tt }))
        (λ off. absurd (true≢false off))
    targeting (Some at) (Some l) some chosen =
        told_space c w (host (Leasing after)) asking t set (in_command c w (host (Leasing after)) t before.0 before.1) before.1.sizes before.1.goes_by
        (handed w.snapshot (free_seat c) 0 l.frame) (w.space ++ space.MoveLease (record { 0 = l.frame }) at.1 ∷ []) (seen.Leased (leased at l some chosen)) true (later at l some chosen)
        (space_after-append c.sizes c.online c.space w.space (space.MoveLease (record { 0 = l.frame }) at.1) ∙ ap (λ (x : Option Leased). after_lease st x (at.1).0 Movable) chosen)
        (next_is_next e.sizes st e.block after at (in_sizes (Some at) some))
        (leased_before st e t after before.1.goes_by.stands.0 before.1.space at (record { 0 = l.frame }) (in_sizes (Some at) some))
        (targeted_left at l some chosen) (λ off. absurd (true≢false off))

  -- ---- a frame is given back

  returning : (attempt : Attempt) → IsBefore (Returning attempt) → IsToldBy c (host (Returning attempt)) t (Returning attempt) (return_made c 0 w (frame_back attempt))
  returning attempt before =
      let later : SpaceState = after_action c.sizes c.online st (space.Return 0 (frame_back attempt)) in
      let left : IsLeft st later (standing e (Returning attempt)) (attempt_over (standing e (Returning attempt)) attempt.lease attempt.found) (record t { attempts = attempt ∷ t.attempts }) true = record {
        round = given_back st later (standing e (Returning attempt)) t attempt.lease attempt.found before.1.space (λ frame x its out. still_there st.out (frame_back attempt).0 frame x out);
        offline = refl;
        isolated = λ b. before.0.isolated b;
      } in
      told_space c w (host (Returning attempt)) (standing e (Returning attempt)) t set (in_command c w (host (Returning attempt)) t before.0 before.1) before.1.sizes before.1.goes_by
      (handed w.snapshot 0 (free_seat c) (frame_back attempt).0) (w.space ++ space.Return 0 (frame_back attempt) ∷ []) seen.Done true later
      (space_after-append c.sizes c.online c.space w.space (space.Return 0 (frame_back attempt))) refl tt left (λ off. absurd (true≢false off))

  -- ---- the isolation is undone

  undoing : (why : EvacCause) → IsBefore (Undoing why) → MayUndo c 0 w e.block → IsToldBy c (host (Undoing why)) t (Undoing why) (noted w (space.Undo e.block))
  undoing why before may =
      let later : SpaceState = after_action c.sizes c.online st (space.Undo e.block) in
      let left : IsLeft st later (standing e (Undoing why)) (standing e (Failed why)) t false = record {
        round = record { sizes = refl; block = refl; isolated = refl; space = tt };
        offline = refl;
        isolated = λ b.
            is_in-without_block c.sizes.managed e.block.0 st.isolated b (space_is c w set kept).isolated
            ∙ (ap (λ (x : Bool). x && not (b == e.block.0)) (before.0.isolated b)
            ∙ dropped (is_in b st.offline) (b == e.block.0) (λ same. ap (λ (k : ℕ). is_in k st.offline) (eqb-true b e.block.0 same) ∙ may.there));
      } in
      told_space c w (host (Undoing why)) (standing e (Undoing why)) t set (in_command c w (host (Undoing why)) t before.0 before.1) before.1.sizes before.1.goes_by
      w.snapshot (w.space ++ space.Undo e.block ∷ []) seen.Done false later (space_after-append c.sizes c.online c.space w.space (space.Undo e.block)) refl tt left
      (λ off. undo_kept c w e.block set kept may)

  -- ---- any of these

  pub told_behind : (stage : Stage) → HostSpace c w (host stage) t → MayMake c 0 w (evac_action (action_at e.block stage)) → IsToldBy c (host stage) t stage (made c 0 w (evac_action (action_at e.block stage)))
  told_behind Isolating space may = isolating (first_unmovable c.sizes st e.block.0) refl (space, space.place.0) may
  told_behind (Leasing after) space may = targeting after (space, space.place.0) may (next_out c.sizes st e.block.0 after) (lease_of c.sizes c.online st 0 Movable) refl refl
  told_behind (Moving lease) space may = absurd space.place.1
  told_behind (Returning attempt) space may = returning attempt (space, space.place.0)
  told_behind (Undoing why) space may = undoing why (space, space.place.0) may
  told_behind Emptied space may = absurd space.place.1
  told_behind (Failed why) space may = absurd space.place.1
