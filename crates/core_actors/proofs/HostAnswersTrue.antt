-- What an evacuation was told stays true with each answer to it, where that answer is true.
use Rattle.std.specs.Prelude.{⊤}
use Rattle.std.proofs.Common.{◌≡◌, ℕ, suc, ◌+◌, ◌≤◌, Bool, true, false, nat_lt, if◌then◌else◌, List, [], ◌∷◌, ◌++◌, length, take, append_assoc, append-nil, le_refl, refl, sym, ap, ◌∙◌, subst, arith, Option, Some, None}
use Rattle.std.specs.List.{slice_get}
use Rattle.std.specs.Option.{option_or}
use Rattle.std.proofs.lemmas.Bool.{false≢true}
use Rattle.std.proofs.lemmas.Option.{none-some, same_Some, slice_get_within}
use Rattle.std.proofs.Math.Seq.{take-append_seam}
use Rattle.evac_model.specs.declared.evacuation.EvacCause.{EvacCause}
use Rattle.evac_model.specs.declared.evacuation.EvacCause.TheVariants as cause
use Rattle.evac_model.specs.declared.evacuation.MoveLease.{MoveLease}
use Rattle.evac_model.specs.declared.names.BlockNo.{BlockNo}
use Rattle.evac_model.specs.declared.names.FrameNo.{FrameNo}
use Rattle.evac_model.specs.declared.names.Kind.TheVariants.{Movable, Unmovable}
use Rattle.evac_model.specs.declared.names.PageNo.{PageNo}
use Rattle.evac_model.specs.declared.space.SpaceAction.{SpaceAction}
use Rattle.evac_model.specs.declared.space.SpaceAction.TheVariants as space
use Rattle.evac_model.specs.Geometry.{Sizes}
use Rattle.evac_model.specs.Numbers.{is_in}
use Rattle.evac_model.specs.Pairing.{actions_of}
use Rattle.evac_model.specs.SpaceJournal.{SpaceState, IsLeasable, out_for, is_frame_of, space_after}
use Rattle.core_state.proofs.Lists.{at_last}
use Rattle.evacuate.specs.declared.seen.EvacSeen.{EvacSeen}
use Rattle.evacuate.specs.declared.seen.EvacSeen.TheVariants as seen
use Rattle.evacuate.specs.declared.stage.Stage.{Stage}
use Rattle.evacuate.specs.declared.stage.Stage.TheVariants.{Isolating, Leasing, Moving, Returning, Undoing, Failed}
use Rattle.evacuate.specs.Evacuating.{Evacuating, action_at, action_of, answers, is_answer, place_of, with_word, busy_cause, round_ended, attempt_over, after_answer, evacuation_after}
use Rattle.evacuate.specs.Found.{is_pinned}
use Rattle.evacuate.specs.Tale.{Tale, is_repeated}
use Rattle.evacuate.specs.UnderWay.{GoesBy, LeasedWasBusy, tale_at, tale_after, GoesOnBy}
use Rattle.evacuate.proofs.Steps.{goes_on}
use Rattle.host_work.specs.Evacuated.{space_action}
use Rattle.host_work.specs.Truth.{stood, driver_did, targets_in, take_number_at, WasOutAt, NoTargetHolds, IsFoundBehind, IsTrueAttempt, AreTrueRounds}
use Rattle.host_work.proofs.TruthGrows.{targets_append, attempts_later}
use Rattle.machine.specs.World.{Setting, World, space_now}
use Rattle.core_actors.specs.HostFound.{space_run, DriverFound, evacuation_did, IsTrueEnd, IsTrueAt, HasToldTrue, IsFoundLast}
use Rattle.core_actors.proofs.HostMakes.{did_more}
use Rattle.core_actors.proofs.HostRoundsTrue.{longer_adds, take_adds, end_adds, tried_adds, attempt_adds, rounds_adds, busy_true}
use Rattle.core_actors.proofs.HostTales.{standing}
use Rattle.core_actors.proofs.HostTruths.{Adds}

-- ---- answers

-- The answer is true of the frame space as it stood when the action was made, or of the words that the driver's takes found. Where a
-- target was leased, the journal has its lease next.
abbrev pub IsTrueAnswer : Setting → (w x : World) → Evacuating → Tale → Stage → EvacSeen → Type 0
IsTrueAnswer c w x e t Isolating (seen.Refused frame page) = out_for (space_now c w) frame.0 ≡ Some (record { page = page.0; kind = Unmovable })
IsTrueAnswer c w x e t (Leasing after) (seen.Leased lease) =
    (is_in e.block.0 (space_now c w).isolated ≡ true)
    × (out_for (space_now c w) lease.from.0 ≡ Some (record { page = lease.page.0; kind = Movable }))
    × (x.space ≡ w.space ++ space.MoveLease lease.target lease.page ∷ [])
IsTrueAnswer c w x e t (Leasing after) (seen.NoTarget from page at) =
    (at ≡ length w.space)
    × (is_in e.block.0 (space_now c w).isolated ≡ true)
    × (out_for (space_now c w) from.0 ≡ Some (record { page = page.0; kind = Movable }))
    × ((free : ℕ) → ¬ IsLeasable c.sizes c.online (space_now c w) Movable free)
IsTrueAnswer c w x e t (Moving lease) (seen.Found word) = IsFoundLast x t.rounds lease.page word
IsTrueAnswer c w x e t _ _ = ⊤

-- What is known behind an answer: what was told before it is true, the evacuation goes by the longer tale, and the driver did what was
-- asked and told.
record IsTold (c : Setting) (w x : World) (e : Evacuating) (t : Tale) (stage : Stage) (what : EvacSeen) (after : Evacuating) (next : Tale) : Type 0 where
  told : HasToldTrue c w (standing e stage) t
  goes_by : GoesBy after next
  log : evacuation_did (standing e stage) t ++ space_action (action_at e.block stage) what ≡ evacuation_did after next
  made : actions_of 0 x.space ≡ actions_of 0 w.space ++ space_action (action_at e.block stage) what

module _ (c : Setting) (w x : World) (e : Evacuating) (t : Tale) (adds : Adds c w x) (sizes : e.sizes ≡ c.sizes) where
  -- ---- the journal before the action

  before_it : take (length w.space) x.space ≡ w.space
  before_it = ap (λ (j : List SpaceAction). take (length w.space) j) adds.space ∙ take-append_seam w.space adds.more

  stood_there : stood (space_run c x) (length w.space) ≡ space_now c w
  stood_there = ap (λ (j : List SpaceAction). space_after c.sizes c.online c.space j) before_it

  did_there : driver_did (space_run c x) (length w.space) ≡ actions_of 0 w.space
  did_there = ap (λ (j : List SpaceAction). actions_of 0 j) before_it

  -- ---- what stays true

  module _ {stage : Stage} {what : EvacSeen} {after : Evacuating} {next : Tale} (m : IsTold c w x e t stage what after next) where
    abbrev before : List SpaceAction
    before = m.told.before

    abbrev own : List SpaceAction
    own = evacuation_did (standing e stage) t

    abbrev more : List SpaceAction
    more = space_action (action_at e.block stage) what

    -- what the evacuation did with the action
    abbrev now : List SpaceAction
    now = evacuation_did after next

    did_now : actions_of 0 x.space ≡ before ++ now
    did_now = m.made ∙ (ap (λ (l : List SpaceAction). l ++ more) m.told.did ∙ (append_assoc before own more ∙ ap (λ (l : List SpaceAction). before ++ l) m.log))

    -- an evacuation that fails did this last
    end_still : (why : EvacCause) → IsTrueEnd (space_run c w) (DriverFound w) before e.block own [] why → IsTrueEnd (space_run c x) (DriverFound x) before e.block now more why
    end_still why is = end_adds c w x adds before e.block own more now m.log [] more refl why is

    rounds_still : AreTrueRounds (space_run c x) (DriverFound x) before e.block now m.told.end (t.attempts ∷ t.rounds)
    rounds_still = rounds_adds c w x adds before e.block own more now m.log m.told.end (t.attempts ∷ t.rounds) m.told.rounds

    -- the page was out in the frame right before the action
    abbrev out_there : (frame : FrameNo) (page : PageNo) → is_in e.block.0 (space_now c w).isolated ≡ true → out_for (space_now c w) frame.0 ≡ Some (record { page = page.0; kind = Movable }) → WasOutAt (space_run c x) before e.block now frame page (length w.space)
    out_there frame page isolated out = record {
      inside = longer_adds c w x adds;
      part = own;
      rest = more;
      parts = sym m.log;
      done = did_there ∙ m.told.did;
      isolated = ap (λ (st : SpaceState). is_in e.block.0 st.isolated) stood_there ∙ isolated;
      out = ap (λ (st : SpaceState). out_for st frame.0) stood_there ∙ out;
    }

    -- the attempts that count now were made before that place
    told_to : (end : ℕ) → end ≤ length x.space → AreTrueRounds (space_run c x) (DriverFound x) before after.block now end (next.attempts ∷ next.rounds)
        → IsTrueAt (space_run c x) (DriverFound x) before after.block now next.rounds end after.stage → HasToldTrue c x after next
    told_to end inside rounds at = record { before = before; did = did_now; end = end; inside = inside; rounds = rounds; stage = at }

    -- where no attempt more counts
    told_on : AreTrueRounds (space_run c x) (DriverFound x) before after.block now m.told.end (next.attempts ∷ next.rounds)
        → IsTrueAt (space_run c x) (DriverFound x) before after.block now next.rounds m.told.end after.stage → HasToldTrue c x after next
    told_on rounds at = told_to m.told.end (omega (arith, m.told.inside, longer_adds c w x adds)) rounds at

  in_sizes : (frame : FrameNo) → is_frame_of e.sizes e.block.0 frame.0 ≡ true → is_frame_of c.sizes e.block.0 frame.0 ≡ true
  in_sizes frame its = subst (λ (s : Sizes). is_frame_of s e.block.0 frame.0 ≡ true) sizes its

  -- ---- the isolation was refused

  refused : (frame : FrameNo) (page : PageNo) → is_frame_of e.sizes e.block.0 frame.0 ≡ true → IsTrueAnswer c w x e t Isolating (seen.Refused frame page)
      → IsTold c w x e t Isolating (seen.Refused frame page) (standing e (Failed (cause.Unmovable frame page))) t → HasToldTrue c x (standing e (Failed (cause.Unmovable frame page))) t
  refused frame page its is m = told_on m (rounds_still m) (record {
    holds = record {
      in_block = in_sizes frame its;
      holds = record {
        place = length w.space;
        inside = longer_adds c w x adds;
        done = did_there ∙ (m.told.did ∙ append-nil m.told.before);
        out = ap (λ (st : SpaceState). out_for st frame.0) stood_there ∙ is;
      };
    };
    did = tt;
  })

  -- ---- a target was leased

  -- the take for it is the next one
  next_take : (lease : MoveLease) → actions_of 0 x.space ≡ actions_of 0 w.space ++ space.MoveLease lease.target lease.page ∷ [] → suc (take_number_at (space_run c x) (length w.space)) ≡ targets_in (actions_of 0 x.space)
  next_take lease made =
      let here : take_number_at (space_run c x) (length w.space) ≡ targets_in (actions_of 0 w.space) = ap (λ (l : List SpaceAction). targets_in l) did_there in
      let one : targets_in (actions_of 0 x.space) ≡ targets_in (actions_of 0 w.space) + 1 =
      ap (λ (l : List SpaceAction). targets_in l) made ∙ targets_append (actions_of 0 w.space) (space.MoveLease lease.target lease.page ∷ []) in
      omega (arith, here, one)

  leased : (after : Option FrameNo) (lease : MoveLease) → IsTrueAnswer c w x e t (Leasing after) (seen.Leased lease) → IsTold c w x e t (Leasing after) (seen.Leased lease) (standing e (Moving lease)) t
      → HasToldTrue c x (standing e (Moving lease)) t
  leased after lease is m =
      let action : SpaceAction = space.MoveLease lease.target lease.page in
      told_on m (rounds_still m) (record {
        place = length w.space;
        behind = m.told.inside;
        tried = record {
          was_out = out_there m lease.from lease.page is.0 is.1;
          more = [];
          next = refl;
          leased = ap (λ (j : List SpaceAction). slice_get j (length w.space)) is.2 ∙ at_last w.space action;
        };
        last = next_take lease m.made ∙ ap (λ (l : List SpaceAction). targets_in l) (did_now m);
      })

  -- ---- no frame was free

  no_target : (after : Option FrameNo) (from : FrameNo) (page : PageNo) (at : ℕ) → IsTrueAnswer c w x e t (Leasing after) (seen.NoTarget from page at)
      → IsTold c w x e t (Leasing after) (seen.NoTarget from page at) (standing e (Undoing (cause.NoTarget from page at))) t → HasToldTrue c x (standing e (Undoing (cause.NoTarget from page at))) t
  no_target after from page at is m = told_on m (rounds_still m) (record {
    holds = record {
      in_block = in_sizes from m.goes_by.stands.in_block;
      holds =
          subst (λ (n : ℕ). NoTargetHolds (space_run c x) m.told.before e.block (evacuation_did (standing e (Undoing (cause.NoTarget from page at))) t) from page n) (sym is.0) (record {
            was_out = out_there m from page is.1 is.2;
            none_free = λ free. subst (λ (st : SpaceState). ¬ IsLeasable c.sizes c.online st Movable free) (sym stood_there) (is.3 free);
          });
    };
    did =
        ap (λ (n : ℕ). driver_did (space_run c x) n ++ []) is.0
        ∙ (append-nil (driver_did (space_run c x) (length w.space))
        ∙ (did_there ∙ (m.told.did ∙ ap (λ (l : List SpaceAction). m.told.before ++ l) (sym (append-nil (own m)) ∙ m.log))));
  })

  -- ---- a round is over

  abbrev over : Bool → Tale
  over repeated = if repeated then record { rounds = t.attempts ∷ t.rounds; attempts = [] } else t

  -- a new round begins behind all that was done
  rounds_over : (done mine : List SpaceAction) (end : ℕ) (repeated : Bool) → AreTrueRounds (space_run c x) (DriverFound x) done e.block mine end (t.attempts ∷ t.rounds)
      → AreTrueRounds (space_run c x) (DriverFound x) done e.block mine end ((over repeated).attempts ∷ (over repeated).rounds)
  rounds_over done mine end true all = (end, le_refl end, all)
  rounds_over done mine end false all = all

  abbrev next_round : Evacuating
  next_round = record e { stage = Leasing None; round = e.round + 1; busy = None }

  given_up : (frame : Option FrameNo) (lease : MoveLease) (repeated : Bool) → IsTold c w x e t (Leasing frame) seen.NoneLeft (standing e (Undoing (busy_cause e lease))) (over repeated) → HasToldTrue c x (standing e (Undoing (busy_cause e lease))) (over repeated)
  given_up frame lease repeated m =
      let all = rounds_over m.told.before (now m) m.told.end repeated (rounds_still m) in
      told_on m all (record {
        holds = record {
          in_block = in_sizes lease.from m.goes_by.stands.in_block;
          holds = busy_true (space_run c x) (DriverFound x) m.told.before e.block (now m) lease.from lease.page (over repeated) _ m.told.end m.goes_by.stands.found all;
        };
        did = tt;
      })

  with_busy : (frame : Option FrameNo) (lease : MoveLease) (fewer repeated : Bool)
      → IsTold c w x e t (Leasing frame) seen.NoneLeft (if fewer then next_round else standing e (Undoing (busy_cause e lease))) (over repeated)
      → HasToldTrue c x (if fewer then next_round else standing e (Undoing (busy_cause e lease))) (over repeated)
  with_busy frame lease true repeated m = told_on m (rounds_over m.told.before (now m) m.told.end repeated (rounds_still m)) tt
  with_busy frame lease false repeated m = given_up frame lease repeated m

  round_done : (frame : Option FrameNo) (busy : Option MoveLease) (repeated : Bool) → IsTold c w x e t (Leasing frame) seen.NoneLeft (round_ended e busy) (over repeated) → HasToldTrue c x (round_ended e busy) (over repeated)
  round_done frame None repeated m = told_on m (rounds_over m.told.before (now m) m.told.end repeated (rounds_still m)) tt
  round_done frame (Some lease) repeated m = with_busy frame lease (nat_lt e.round 4) repeated m

  -- ---- a page was moved, or not

  -- the take of the last lease of a target is the one for the page
  its_word : (lease : MoveLease) (what : EvacSeen) {after : Evacuating} {next : Tale} (m : IsTold c w x e t (Moving lease) what after next) (word : ℕ) → IsFoundLast x t.rounds lease.page word
      → IsFoundBehind (DriverFound x) (take_number_at (space_run c x) m.told.stage.place) t.rounds lease.page word
  its_word lease what m word is =
      let at = m.told.stage in
      let none_more : actions_of 0 x.space ≡ m.told.before ++ own m = m.made ∙ (append-nil (actions_of 0 w.space) ∙ m.told.did) in
      let same : suc is.number ≡ suc (take_number_at (space_run c x) at.place) =
      is.last ∙ (ap (λ (l : List SpaceAction). targets_in l) none_more ∙ sym (ap suc (take_adds c w x adds at.place at.tried.was_out.inside) ∙ m.told.stage.last)) in
      subst (λ (n : ℕ). IsFoundBehind (DriverFound x) n t.rounds lease.page word) (omega (arith, same)) is.behind

  came : (lease : MoveLease) (found : Option ℕ) (what : EvacSeen) → ((word : ℕ) → found ≡ Some word → IsFoundLast x t.rounds lease.page word)
      → IsTold c w x e t (Moving lease) what (standing e (Returning (record { lease = lease; found = found }))) t → HasToldTrue c x (standing e (Returning (record { lease = lease; found = found }))) t
  came lease found what is m = told_on m (rounds_still m) (record {
    place = m.told.stage.place;
    behind = m.told.stage.behind;
    attempt = record {
      tried = tried_adds c w x adds m.told.before e.block (own m) (more m) (now m) m.log lease.from lease.page lease.target m.told.stage.place m.told.stage.tried;
      word = λ word some. its_word lease what m word (is word some);
    };
  })

  -- ---- a frame is given back

  abbrev tried : MoveLease → Option ℕ → Tale
  tried lease found = record t { attempts = record { lease = lease; found = found } ∷ t.attempts }

  -- it is an attempt of the round now, and was made at that place
  module _ (lease : MoveLease) (found : Option ℕ) {after : Evacuating} (m : IsTold c w x e t (Returning (record { lease = lease; found = found })) seen.Done after (tried lease found)) where
    made_there : IsTrueAttempt (space_run c x) (DriverFound x) m.told.before e.block (now m) t.rounds (record { lease = lease; found = found }) m.told.stage.place
    made_there = attempt_adds c w x adds m.told.before e.block (own m) (more m) (now m) m.log t.rounds (record { lease = lease; found = found }) m.told.stage.place m.told.stage.attempt

    within : suc m.told.stage.place ≤ length x.space
    within = slice_get_within x.space m.told.stage.place (space.MoveLease lease.target lease.page) made_there.tried.leased

    rounds_tried : AreTrueRounds (space_run c x) (DriverFound x) m.told.before e.block (now m) (suc m.told.stage.place) ((tried lease found).attempts ∷ t.rounds)
    rounds_tried =
        let old = rounds_still m in (
          old.0,
          (
            m.told.stage.place,
            le_refl (suc m.told.stage.place),
            made_there,
            attempts_later (space_run c x) (DriverFound x) m.told.before e.block (now m) t.rounds old.0 m.told.end m.told.stage.place m.told.stage.behind t.attempts old.1,
          ),
          old.2,
        )

    tried_on : IsTrueAt (space_run c x) (DriverFound x) m.told.before after.block (now m) t.rounds (suc m.told.stage.place) after.stage → after.block ≡ e.block → HasToldTrue c x after (tried lease found)
    tried_on at same =
        told_to m (suc m.told.stage.place) within
        (subst (λ (b : BlockNo). AreTrueRounds (space_run c x) (DriverFound x) m.told.before b (now m) (suc m.told.stage.place) ((tried lease found).attempts ∷ t.rounds)) (sym same) rounds_tried) at

  abbrev busy_on : MoveLease → (word : ℕ) → Evacuating
  busy_on lease word = record e { stage = Leasing (Some lease.from); busy = option_or e.busy (Some lease); words = with_word e.words (place_of e.sizes e.block lease.from) e.round word }

  by_pinned : (lease : MoveLease) (word : ℕ) (pinned : Bool)
      → IsTold c w x e t (Returning (record { lease = lease; found = Some word })) seen.Done (if pinned then standing e (Undoing (cause.Pinned lease.from lease.page word)) else busy_on lease word) (tried lease (Some word))
      → HasToldTrue c x (if pinned then standing e (Undoing (cause.Pinned lease.from lease.page word)) else busy_on lease word) (tried lease (Some word))
  by_pinned lease word true m =
      let attempt = made_there lease (Some word) m in
      tried_on lease (Some word) m (record {
        holds = record {
          in_block = in_sizes lease.from m.goes_by.stands.in_block;
          holds = record {
            place = m.told.stage.place;
            found = record { target = lease.target; tried = attempt.tried; found = (attempt.word word refl).found };
            pinned = m.goes_by.stands.found.pinned;
          };
        };
        did = tt;
      }) refl
  by_pinned lease word false m = tried_on lease (Some word) m tt refl

  given_back : (lease : MoveLease) (found : Option ℕ) → IsTold c w x e t (Returning (record { lease = lease; found = found })) seen.Done (attempt_over e lease found) (tried lease found) → HasToldTrue c x (attempt_over e lease found) (tried lease found)
  given_back lease None m = tried_on lease None m tt refl
  given_back lease (Some word) m = by_pinned lease word (is_pinned word lease.from.0) m

  -- ---- any answer

  told_by : (stage : Stage) (what : EvacSeen) → answers e.sizes e.block stage what ≡ true → IsTrueAnswer c w x e t stage what → IsTold c w x e t stage what (after_answer e stage what) (tale_at t stage what) → HasToldTrue c x (after_answer e stage what) (tale_at t stage what)
  told_by Isolating seen.Isolated fits is m = told_on m (rounds_still m) tt
  told_by Isolating (seen.Refused frame page) fits is m = refused frame page fits is m
  told_by (Leasing after) (seen.Leased lease) fits is m = leased after lease is m
  told_by (Leasing after) seen.NoneLeft fits is m = round_done after e.busy (is_repeated t) m
  told_by (Leasing after) (seen.NoTarget from page at) fits is m = no_target after from page at is m
  told_by (Moving lease) seen.Moved fits is m = came lease None seen.Moved (λ word some. absurd (none-some word some)) m
  told_by (Moving lease) (seen.Found word) fits is m = came lease (Some word) (seen.Found word) (λ other some. subst (λ (n : ℕ). IsFoundLast x t.rounds lease.page n) (same_Some word other some) is) m
  told_by (Returning a) seen.Done fits is m = given_back a.lease a.found m
  told_by (Undoing why) seen.Done fits is m = told_on m (rounds_still m) (end_still m why m.told.stage)
  told_by _ _ fits is m = absurd (false≢true fits)

-- Behind a true answer, all that the evacuation was told is true.
pub told_true : (c : Setting) (w x : World) (e : Evacuating) (t : Tale) (what : EvacSeen) → e.sizes ≡ c.sizes → GoesBy e t → is_answer e what ≡ true → LeasedWasBusy t what → HasToldTrue c w e t → Adds c w x
    → actions_of 0 x.space ≡ actions_of 0 w.space ++ space_action (action_of e) what → IsTrueAnswer c w x e t e.stage what
    → HasToldTrue c x (evacuation_after e what) (tale_after e t what)
told_true c w x e t what sizes goes_by fits busy told adds made is =
    let after : Evacuating = after_answer e e.stage what in
    let goes : GoesOnBy e after t what = subst (λ (b : Bool). GoesOnBy e (if b then after else e) t what) fits (goes_on e t what goes_by fits busy) in
    subst (λ (b : Bool). HasToldTrue c x (if b then after else e) (tale_after e t what)) (sym fits)
    (told_by c w x e t adds sizes e.stage what fits is (record { told = told; goes_by = goes.goes_by; log = did_more e after t what goes; made = made }))
