-- An evacuation leases a target for each attempt of its tale.
use Rattle.std.proofs.Common.{◌≡◌, ◌≢◌, ℕ, ◌+◌, List, [], ◌∷◌, ◌++◌, length, refl, sym, ap, ◌∙◌, subst, arith, Option, None, Some}
use Rattle.std.proofs.lemmas.Grind.{flat_map-append}
use Rattle.std.proofs.lemmas.List.Sums.{sum_by-cons}
use Rattle.evac_model.specs.declared.evacuation.EvacCause.{EvacCause}
use Rattle.evac_model.specs.declared.evacuation.EvacCause.TheVariants.{Unmovable, Pinned, NoTarget, Busy}
use Rattle.evac_model.specs.declared.evacuation.MoveLease.{MoveLease}
use Rattle.evac_model.specs.declared.names.BlockNo.{BlockNo}
use Rattle.evac_model.specs.declared.names.FrameNo.{FrameNo}
use Rattle.evac_model.specs.declared.space.SpaceAction.{SpaceAction}
use Rattle.evac_model.specs.declared.space.SpaceAction.TheVariants as space
use Rattle.evacuate.specs.declared.stage.Attempt.{Attempt}
use Rattle.evacuate.specs.declared.stage.Stage.{Stage}
use Rattle.evacuate.specs.Evacuating.{Evacuating}
use Rattle.evacuate.specs.Tale.{Exchange, Tale, last_frame, attempt_log, attempts_log, round_end, rounds_log, tale_log}
use Rattle.evacuate.specs.UnderWay.{led_to, log_at}
use Rattle.host_work.specs.Evacuated.{space_action, space_actions, end_by}
use Rattle.host_work.specs.Truth.{SpaceRun, targets_in, Finds, tried_in, AreTrueRounds, by_truth}
use Rattle.host_work.proofs.TruthGrows.{targets_append}

-- how many targets were leased by what was asked and told
abbrev leased_in : List Exchange → ℕ
leased_in log = targets_in (space_actions log)

leased_append : (xs ys : List Exchange) → leased_in (xs ++ ys) ≡ leased_in xs + leased_in ys
leased_append xs ys =
    ap (λ (l : List SpaceAction). targets_in l) (flat_map-append (λ (x : Exchange). space_action x.asked x.told) xs ys)
    ∙ targets_append (space_actions xs) (space_actions ys)

one_leased : (b : BlockNo) (after : Option FrameNo) (lease : MoveLease) (found : Option ℕ) → leased_in (attempt_log b after (record { lease = lease; found = found })) ≡ 1
one_leased b after lease None = refl
one_leased b after lease (Some word) = refl

leased_by_attempts : (b : BlockNo) (attempts : List Attempt) → leased_in (attempts_log b attempts) ≡ length attempts
leased_by_attempts b [] = refl
leased_by_attempts b (a ∷ attempts) =
    let both = leased_append (attempts_log b attempts) (attempt_log b (last_frame attempts) a) in
    omega (arith, both, leased_by_attempts b attempts, one_leased b (last_frame attempts) a.lease a.found)

leased_by_rounds : (b : BlockNo) (rounds : List (List Attempt)) → leased_in (rounds_log b rounds) ≡ tried_in rounds
leased_by_rounds b [] = refl
leased_by_rounds b (r ∷ rounds) =
    let all = leased_append (rounds_log b rounds) (attempts_log b r ++ round_end b r ∷ []) in
    let last = leased_append (attempts_log b r) (round_end b r ∷ []) in
    let none : leased_in (round_end b r ∷ []) ≡ 0 = refl in
    omega (arith, all, last, none, leased_by_rounds b rounds, leased_by_attempts b r, sum_by-cons (λ (l : List Attempt). length l) r rounds)

leased_by_tale : (b : BlockNo) (t : Tale) → leased_in (tale_log b t) ≡ tried_in (t.attempts ∷ t.rounds)
leased_by_tale b t =
    let both : leased_in (tale_log b t) ≡ leased_in (rounds_log b t.rounds) + leased_in (attempts_log b t.attempts) = leased_append (rounds_log b t.rounds) (attempts_log b t.attempts) in
    omega (arith, both, leased_by_rounds b t.rounds, leased_by_attempts b t.attempts, sum_by-cons (λ (l : List Attempt). length l) t.attempts t.rounds)

-- what led to a cause leased none
none_led : (b : BlockNo) (t : Tale) (cause : EvacCause) → leased_in (led_to b t cause) ≡ 0
none_led b t (Unmovable frame page) = refl
none_led b t (Pinned frame page word) = refl
none_led b t (NoTarget frame page at) = refl
none_led b t (Busy frame page words) = refl

-- a tale with what leases none behind it
behind_tale : (b : BlockNo) (t : Tale) (more : List Exchange) → leased_in more ≡ 0 → leased_in (tale_log b t ++ more) ≡ tried_in (t.attempts ∷ t.rounds)
behind_tale b t more none = let both = leased_append (tale_log b t) more in omega (arith, both, none, leased_by_tale b t)

undone_behind : (b : BlockNo) (t : Tale) (cause : EvacCause) (undo : Exchange) → leased_in (undo ∷ []) ≡ 0 → leased_in ((tale_log b t ++ led_to b t cause) ++ undo ∷ []) ≡ tried_in (t.attempts ∷ t.rounds)
undone_behind b t cause undo none =
    let both = leased_append (tale_log b t ++ led_to b t cause) (undo ∷ []) in
    omega (arith, both, none, behind_tale b t (led_to b t cause) (none_led b t cause))

-- one whose isolation was refused leased none, and made no attempt
none_behind : (part more : List SpaceAction) (a : SpaceAction) → [] ≢ part ++ a ∷ more
none_behind [] more a is = absurd (cc)
none_behind (x ∷ part) more a is = absurd (cc)

none_tried : (r : SpaceRun) (F : Finds) (before : List SpaceAction) (b : BlockNo) (end : ℕ) (rounds : List (List Attempt)) → AreTrueRounds r F before b [] end rounds → tried_in rounds ≡ 0
none_tried r F before b end [] all = refl
none_tried r F before b end ([] ∷ rounds) all = omega (arith, sum_by-cons (λ (l : List Attempt). length l) [] rounds, none_tried r F before b all.0 rounds all.2)
none_tried r F before b end ((a ∷ attempts) ∷ rounds) all =
    let at = all.1.2.tried in
    absurd (none_behind at.was_out.part at.more (space.MoveLease a.lease.target a.lease.page) (at.was_out.parts ∙ ap (λ (l : List SpaceAction). at.was_out.part ++ l) at.next))

module _ (r : SpaceRun) (F : Finds) (before : List SpaceAction) (b : BlockNo) (own : List SpaceAction) where
  by_cause : (cause : Option EvacCause) (e : Evacuating) (t : Tale) → AreTrueRounds r F before b own (length r.journal) (t.attempts ∷ t.rounds) → own ≡ space_actions (log_at e.block t (end_by cause)) → targets_in own ≡ tried_in (t.attempts ∷ t.rounds)
  by_cause None e t all made = ap (λ (l : List SpaceAction). targets_in l) made ∙ behind_tale e.block t (round_end e.block t.attempts ∷ []) refl
  by_cause (Some (Unmovable frame page)) e t all made =
      ap (λ (l : List SpaceAction). targets_in l) made
      ∙ sym (none_tried r F before b (length r.journal) (t.attempts ∷ t.rounds) (subst (λ (l : List SpaceAction). AreTrueRounds r F before b l (length r.journal) (t.attempts ∷ t.rounds)) made all))
  by_cause (Some (Pinned frame page word)) e t all made = ap (λ (l : List SpaceAction). targets_in l) made ∙ undone_behind e.block t (Pinned frame page word) _ refl
  by_cause (Some (NoTarget frame page at)) e t all made = ap (λ (l : List SpaceAction). targets_in l) made ∙ undone_behind e.block t (NoTarget frame page at) _ refl
  by_cause (Some (Busy frame page words)) e t all made = ap (λ (l : List SpaceAction). targets_in l) made ∙ undone_behind e.block t (Busy frame page words) _ refl

  pub leased_for_each : (cause : Option EvacCause) (h : by_truth r F before b cause own) → targets_in own ≡ tried_in (h.told.tale.attempts ∷ h.told.tale.rounds)
  leased_for_each cause h =
      by_cause cause h.told.evacuation h.told.tale h.attempts
      (h.told.made ∙ ap (λ (st : Stage). space_actions (log_at h.told.evacuation.block h.told.tale st)) h.told.ended)
