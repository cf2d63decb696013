-- What is true of a frame space's journal is true of every longer one, and what is true of the words that were found is true
-- of more words.
use Rattle.std.proofs.Common.{◌≡◌, ◌≤◌, ℕ, suc, ◌+◌, List, [], ◌∷◌, ◌++◌, length, filter, length-append, append_assoc, append-nil, sym, ap, ◌∙◌, subst, arith, Option, None, Some}
use Rattle.std.proofs.lemmas.List.{take-append-le}
use Rattle.std.proofs.lemmas.List.Elements.{filter-append}
use Rattle.evac_model.specs.declared.device.Response.{Response}
use Rattle.evac_model.specs.declared.device_journal.DeviceAction.{DeviceAction}
use Rattle.evac_model.specs.declared.evacuation.EvacCause.{EvacCause}
use Rattle.evac_model.specs.declared.evacuation.EvacCause.TheVariants.{Unmovable, Pinned, NoTarget, Busy}
use Rattle.evac_model.specs.declared.host.HostCommand.{HostCommand}
use Rattle.evac_model.specs.declared.host.HostCommand.TheVariants.{Request, Config}
use Rattle.evac_model.specs.declared.host.HostResult.{HostResult}
use Rattle.evac_model.specs.declared.host.HostResult.TheVariants as results
use Rattle.evac_model.specs.declared.host.HostRun.{HostRun}
use Rattle.evac_model.specs.declared.names.BlockNo.{BlockNo}
use Rattle.evac_model.specs.declared.names.FrameNo.{FrameNo}
use Rattle.evac_model.specs.declared.names.Kind.TheVariants as kinds
use Rattle.evac_model.specs.declared.names.PageNo.{PageNo}
use Rattle.evac_model.specs.declared.space.SpaceAction.{SpaceAction}
use Rattle.evac_model.specs.declared.space.SpaceAction.TheVariants as space
use Rattle.evac_model.specs.declared.tried.Tried.{Tried}
use Rattle.evac_model.specs.DeviceAnswer.{DeviceState, request_in, device_after}
use Rattle.evac_model.specs.Geometry.{Sizes}
use Rattle.evac_model.specs.Numbers.{is_in}
use Rattle.evac_model.specs.Pairing.{actions_of}
use Rattle.evac_model.specs.SpaceJournal.{SpaceState, IsLeasable, out_for, space_after}
use Rattle.core_state.proofs.Lists.{at_longer}
use Rattle.evacuate.specs.declared.stage.Attempt.{Attempt}
use Rattle.host_work.specs.Commands.{IsDoneBy, AreDoneBy}
use Rattle.host_work.specs.Evacuated.{WasEvacuated}
use Rattle.host_work.specs.Requests.{Evacuates, block_no, blocks_to_empty, AreTakenAway, WasSent, WasNotSent}
use Rattle.host_work.specs.Truth.{SpaceRun, stood, driver_did, is_target, targets_in, take_number_at, Finds, WasOutAt, WasTriedAt, WasFoundAt, UnmovableHolds, NoTargetHolds, AreFoundFrom, HoldsFor, IsCauseTrue, HasTrueCause, DidBehind, EndedThere, IsFoundBehind, IsTrueAttempt, AreTrueAttempts, AreTrueRounds, by_truth}

-- the same frame space with more in its journal
abbrev pub grown : SpaceRun → List SpaceAction → SpaceRun
grown r more = record r { journal = r.journal ++ more }

-- one set of found words says what the other says, and maybe more
abbrev pub FindsMore : (F G : Finds) → Type 0
FindsMore F G = (number : ℕ) (page : PageNo) (word : ℕ) → F number page word → G number page word

-- ---- places of the journal

module _ (r : SpaceRun) (more : List SpaceAction) (place : ℕ) (inside : place ≤ length r.journal) where
  pub stood_grown : stood (grown r more) place ≡ stood r place
  stood_grown = ap (λ (l : List SpaceAction). space_after r.sizes r.online r.start l) (take-append-le place r.journal more inside)

  pub did_grown : driver_did (grown r more) place ≡ driver_did r place
  did_grown = ap (λ (l : List SpaceAction). actions_of 0 l) (take-append-le place r.journal more inside)

  pub take_number_at_grown : take_number_at (grown r more) place ≡ take_number_at r place
  take_number_at_grown = ap (λ (l : List SpaceAction). targets_in l) did_grown

  pub inside_grown : place ≤ length (r.journal ++ more)
  inside_grown = omega (arith, inside, length-append r.journal more)

-- the targets of one list behind another
pub targets_append : (xs ys : List SpaceAction) → targets_in (xs ++ ys) ≡ targets_in xs + targets_in ys
targets_append xs ys = ap (λ (l : List SpaceAction). length l) (filter-append is_target xs ys) ∙ length-append (filter is_target xs) (filter is_target ys)

-- ---- the causes

module _ (r : SpaceRun) (more before : List SpaceAction) where
  pub was_out_at_grown : (b : BlockNo) (own own_more : List SpaceAction) (frame : FrameNo) (page : PageNo) (place : ℕ) → WasOutAt r before b own frame page place → WasOutAt (grown r more) before b (own ++ own_more) frame page place
  was_out_at_grown b own own_more frame page place h =
      let same = stood_grown r more place h.inside in
      record {
        inside = inside_grown r more place h.inside;
        part = h.part;
        rest = h.rest ++ own_more;
        parts = ap (λ (l : List SpaceAction). l ++ own_more) h.parts ∙ append_assoc h.part h.rest own_more;
        done = did_grown r more place h.inside ∙ h.done;
        isolated = ap (λ (st : SpaceState). is_in b.0 st.isolated) same ∙ h.isolated;
        out = ap (λ (st : SpaceState). out_for st frame.0) same ∙ h.out;
      }

  pub was_tried_grown : (b : BlockNo) (own own_more : List SpaceAction) (frame : FrameNo) (page : PageNo) (target : FrameNo) (place : ℕ) → WasTriedAt r before b own frame page target place → WasTriedAt (grown r more) before b (own ++ own_more) frame page target place
  unfolding was_out_at_grown
  was_tried_grown b own own_more frame page target place h = record {
    was_out = was_out_at_grown b own own_more frame page place h.was_out;
    more = h.more ++ own_more;
    next = ap (λ (l : List SpaceAction). l ++ own_more) h.next;
    leased = at_longer r.journal more place (space.MoveLease target page) h.leased;
  }

  was_unmovable_grown : (frame : FrameNo) (page : PageNo) → UnmovableHolds r before frame page → UnmovableHolds (grown r more) before frame page
  was_unmovable_grown frame page h = record {
    place = h.place;
    inside = inside_grown r more h.place h.inside;
    done = did_grown r more h.place h.inside ∙ h.done;
    out = ap (λ (st : SpaceState). out_for st frame.0) (stood_grown r more h.place h.inside) ∙ h.out;
  }

  had_no_target_grown : (b : BlockNo) (own own_more : List SpaceAction) (frame : FrameNo) (page : PageNo) (at : ℕ) → NoTargetHolds r before b own frame page at → NoTargetHolds (grown r more) before b (own ++ own_more) frame page at
  had_no_target_grown b own own_more frame page at h = record {
    was_out = was_out_at_grown b own own_more frame page at h.was_out;
    none_free = λ free leasable. h.none_free free (subst (λ (st : SpaceState). IsLeasable r.sizes r.online st kinds.Movable free) (stood_grown r more at h.was_out.inside) leasable);
  }

module _ (r : SpaceRun) (more : List SpaceAction) (F G : Finds) (finds : FindsMore F G) (before : List SpaceAction) (b : BlockNo) where
  was_found_grown : (own own_more : List SpaceAction) (frame : FrameNo) (page : PageNo) (word place : ℕ) → WasFoundAt r F before b own frame page word place → WasFoundAt (grown r more) G before b (own ++ own_more) frame page word place
  was_found_grown own own_more frame page word place h = record {
    target = h.target;
    tried = was_tried_grown r more before b own own_more frame page h.target place h.tried;
    found = subst (λ (number : ℕ). G number page word) (sym (take_number_at_grown r more place h.tried.was_out.inside)) (finds (take_number_at r place) page word h.found);
  }

  are_found_grown : (own own_more : List SpaceAction) (frame : FrameNo) (page : PageNo) (from : ℕ) (words : List ℕ) → AreFoundFrom r F before b own frame page from words → AreFoundFrom (grown r more) G before b (own ++ own_more) frame page from words
  are_found_grown own own_more frame page from [] all = tt
  are_found_grown own own_more frame page from (word ∷ words) all = (
    all.0,
    all.1,
    was_found_grown own own_more frame page word all.0 all.2,
    all.3,
    are_found_grown own own_more frame page (suc all.0) words all.4,
  )

  holds_grown : (own own_more : List SpaceAction) (cause : EvacCause) → HoldsFor r F before b own cause → HoldsFor (grown r more) G before b (own ++ own_more) cause
  holds_grown own own_more (Unmovable frame page) h = was_unmovable_grown r more before frame page h
  holds_grown own own_more (Pinned frame page word) h = record {
    place = h.place;
    found = was_found_grown own own_more frame page word h.place h.found;
    pinned = h.pinned;
  }
  holds_grown own own_more (NoTarget frame page at) h = had_no_target_grown r more before b own own_more frame page at h
  holds_grown own own_more (Busy frame page words) h = record {
    five = h.five;
    found = are_found_grown own own_more frame page 0 words h.found;
    rising = h.rising;
  }

  pub true_grown : (own own_more : List SpaceAction) (cause : EvacCause) → IsCauseTrue r F before b own cause → IsCauseTrue (grown r more) G before b (own ++ own_more) cause
  true_grown own own_more cause h = record { in_block = h.in_block; holds = holds_grown own own_more cause h.holds }

-- words that were found from a place on were found from an earlier place on, too
pub found_from : (r : SpaceRun) (finds : Finds) (before : List SpaceAction) (b : BlockNo) (own : List SpaceAction) (frame : FrameNo) (page : PageNo) (early late : ℕ) → early ≤ late → (words : List ℕ) → AreFoundFrom r finds before b own frame page late words → AreFoundFrom r finds before b own frame page early words
found_from r finds before b own frame page early late below [] all = tt
found_from r finds before b own frame page early late below (word ∷ words) all = (all.0, omega (arith, below, all.1), all.2, all.3, all.4)

-- ---- attempts

module _ (r : SpaceRun) (more : List SpaceAction) (F G : Finds) (finds : FindsMore F G) (before : List SpaceAction) (b : BlockNo) (own own_more : List SpaceAction) where
  behind_grown : (rounds : List (List Attempt)) (page : PageNo) (word place : ℕ) → place ≤ length r.journal → IsFoundBehind F (take_number_at r place) rounds page word → IsFoundBehind G (take_number_at (grown r more) place) rounds page word
  behind_grown rounds page word place inside h = record {
    found = subst (λ (number : ℕ). G number page word) (sym (take_number_at_grown r more place inside)) (finds (take_number_at r place) page word h.found);
    late = h.late;
  }

  pub attempt_grown : (rounds : List (List Attempt)) (a : Attempt) (place : ℕ) → IsTrueAttempt r F before b own rounds a place → IsTrueAttempt (grown r more) G before b (own ++ own_more) rounds a place
  attempt_grown rounds a place h = record {
    tried = was_tried_grown r more before b own own_more a.lease.from a.lease.page a.lease.target place h.tried;
    word = λ word some. behind_grown rounds a.lease.page word place h.tried.was_out.inside (h.word word some);
  }

  pub attempts_grown : (rounds : List (List Attempt)) (begin end : ℕ) (attempts : List Attempt) → AreTrueAttempts r F before b own rounds begin end attempts → AreTrueAttempts (grown r more) G before b (own ++ own_more) rounds begin end attempts
  attempts_grown rounds begin end [] all = all
  attempts_grown rounds begin end (a ∷ attempts) all = (
    all.0,
    all.1,
    attempt_grown rounds a all.0 all.2,
    attempts_grown rounds begin all.0 attempts all.3,
  )

  pub rounds_grown : (end : ℕ) (rounds : List (List Attempt)) → AreTrueRounds r F before b own end rounds → AreTrueRounds (grown r more) G before b (own ++ own_more) end rounds
  rounds_grown end [] all = tt
  rounds_grown end (attempts ∷ rounds) all = (
    all.0,
    attempts_grown rounds all.0 end attempts all.1,
    rounds_grown all.0 rounds all.2,
  )

module _ (r : SpaceRun) (finds : Finds) (before : List SpaceAction) (b : BlockNo) (own : List SpaceAction) where
  -- what was made before a place was made before a later one
  pub attempts_later : (rounds : List (List Attempt)) (begin end later : ℕ) → end ≤ later → (attempts : List Attempt) → AreTrueAttempts r finds before b own rounds begin end attempts → AreTrueAttempts r finds before b own rounds begin later attempts
  attempts_later rounds begin end later below [] all = omega (arith, below, all)
  attempts_later rounds begin end later below (a ∷ attempts) all = (all.0, omega (arith, below, all.1), all.2, all.3)

  pub rounds_later : (end later : ℕ) → end ≤ later → (rounds : List (List Attempt)) → AreTrueRounds r finds before b own end rounds → AreTrueRounds r finds before b own later rounds
  rounds_later end later below [] all = tt
  rounds_later end later below (attempts ∷ rounds) all = (all.0, attempts_later rounds all.0 end later below attempts all.1, all.2)

-- ---- an evacuation

pub cause_grown : (r : SpaceRun) (more : List SpaceAction) (F G : Finds) → FindsMore F G → (before : List SpaceAction) (b : BlockNo) (cause : Option EvacCause) (own : List SpaceAction) → HasTrueCause r F before b own cause → HasTrueCause (grown r more) G before b own cause
cause_grown r more F G finds before b None own h = tt
cause_grown r more F G finds before b (Some cause) own h =
    subst (λ (l : List SpaceAction). IsCauseTrue (grown r more) G before b l cause) (append-nil own) (true_grown r more F G finds before b own [] cause h)

-- all that was made in a journal was made in a longer one
made_grown : (r : SpaceRun) (more : List SpaceAction) (F G : Finds) → FindsMore F G → (before : List SpaceAction) (b : BlockNo) (own : List SpaceAction) (rounds : List (List Attempt)) → AreTrueRounds r F before b own (length r.journal) rounds → AreTrueRounds (grown r more) G before b own (length (r.journal ++ more)) rounds
made_grown r more F G finds before b own rounds h =
    rounds_later (grown r more) G before b own (length r.journal) (length (r.journal ++ more)) (omega (arith, length-append r.journal more)) rounds
    (subst (λ (l : List SpaceAction). AreTrueRounds (grown r more) G before b l (length r.journal) rounds) (append-nil own) (rounds_grown r more F G finds before b own [] (length r.journal) rounds h))

-- the place where no frame was free stays
pub behind_grown_by : (r : SpaceRun) (more : List SpaceAction) (F : Finds) (before : List SpaceAction) (b : BlockNo) (own behind : List SpaceAction) (cause : EvacCause) → IsCauseTrue r F before b own cause → DidBehind r before own behind cause → DidBehind (grown r more) before own behind cause
behind_grown_by r more F before b own behind (Unmovable frame page) is did = tt
behind_grown_by r more F before b own behind (Pinned frame page word) is did = tt
behind_grown_by r more F before b own behind (NoTarget frame page at) is did = ap (λ (l : List SpaceAction). l ++ behind) (did_grown r more at is.holds.was_out.inside) ∙ did
behind_grown_by r more F before b own behind (Busy frame page words) is did = tt

ended_grown : (r : SpaceRun) (more : List SpaceAction) (F : Finds) (before : List SpaceAction) (b : BlockNo) (cause : Option EvacCause) (own : List SpaceAction) → HasTrueCause r F before b own cause → EndedThere r before b own cause → EndedThere (grown r more) before b own cause
ended_grown r more F before b None own is did = tt
ended_grown r more F before b (Some cause) own is did = behind_grown_by r more F before b own (space.Undo b ∷ []) cause is did

pub truth_grown : (r : SpaceRun) (more : List SpaceAction) (F G : Finds) → FindsMore F G → (before : List SpaceAction) (b : BlockNo) (cause : Option EvacCause) (own : List SpaceAction) → by_truth r F before b cause own → by_truth (grown r more) G before b cause own
truth_grown r more F G finds before b cause own h = record {
  told = h.told;
  attempts = made_grown r more F G finds before b own (h.told.tale.attempts ∷ h.told.tale.rounds) h.attempts;
  cause_holds = cause_grown r more F G finds before b cause own h.cause_holds;
  ended = ended_grown r more F before b cause own h.cause_holds h.ended;
}

not_grown : (r : SpaceRun) → grown r [] ≡ r
not_grown r = ap (λ (l : List SpaceAction). record r { journal = l }) (append-nil r.journal)

-- the same journal, other words
pub truth_found : (r : SpaceRun) (F G : Finds) → FindsMore F G → (before : List SpaceAction) (b : BlockNo) (cause : Option EvacCause) (own : List SpaceAction) → by_truth r F before b cause own → by_truth r G before b cause own
truth_found r F G finds before b cause own h =
    subst (λ (x : SpaceRun). by_truth x G before b cause own) (not_grown r) (truth_grown r [] F G finds before b cause own h)

-- an evacuation that is true went by its tale
pub done_by_tale : (r : SpaceRun) (F : Finds) (before : List SpaceAction) (b : BlockNo) (cause : Option EvacCause) (own : List SpaceAction) → by_truth r F before b cause own → WasEvacuated r.sizes b cause own
done_by_tale r F before b cause own h = h.told

-- ---- commands

-- what the first says of an evacuation says the second, too
abbrev pub Follows : Evacuates → Evacuates → Type 0
Follows E G = (before : List SpaceAction) (b : BlockNo) (cause : Option EvacCause) (own : List SpaceAction) → E before b cause own → G before b cause own

module _ (E G : Evacuates) (follows : Follows E G) where
  pub taken_by : (before : List SpaceAction) (blocks : List ℕ) (actions : List SpaceAction) → AreTakenAway E before blocks actions → AreTakenAway G before blocks actions
  taken_by before [] actions h = h
  taken_by before (b ∷ blocks) actions h = (
    h.0,
    h.1,
    h.2,
    follows before (block_no b) None h.0 h.3,
    taken_by (before ++ (h.0 ++ space.Offline (block_no b) ∷ [])) blocks h.1 h.4,
  )

  sent_by : (before : List SpaceAction) (s : Sizes) (d : DeviceState) (bytes : List ℕ) (response : Response) (lines : List Tried) (actions : List SpaceAction) (device : List DeviceAction) → WasSent E before s d bytes response lines actions device → WasSent G before s d bytes response lines actions device
  sent_by before s d bytes response lines actions device h = record {
    emptying = h.emptying;
    taken_away = taken_by before (blocks_to_empty s d (request_in bytes)) h.emptying h.taken_away;
    made = h.made;
    sent = h.sent;
    tried = h.tried;
  }

  not_sent_by : (before : List SpaceAction) (s : Sizes) (d : DeviceState) (bytes : List ℕ) (lines : List Tried) (actions : List SpaceAction) (device : List DeviceAction) → WasNotSent E before s d bytes lines actions device → WasNotSent G before s d bytes lines actions device
  not_sent_by before s d bytes lines actions device h = record {
    before = h.before;
    block = h.block;
    behind = h.behind;
    blocks = h.blocks;
    cause = h.cause;
    emptying = h.emptying;
    taken_away = taken_by before h.before h.emptying h.taken_away;
    failing = h.failing;
    failed = follows (before ++ h.emptying) (block_no h.block) (Some h.cause) h.failing h.failed;
    made = h.made;
    nothing_sent = h.nothing_sent;
    tried = h.tried;
  }

  pub is_done_by : (before : List SpaceAction) (s : Sizes) (d : DeviceState) (c : HostCommand) (result : HostResult) (lines : List Tried) (actions : List SpaceAction) (device : List DeviceAction) → IsDoneBy E before s d c result lines actions device → IsDoneBy G before s d c result lines actions device
  is_done_by before s d (Request bytes) (results.Answered response) lines actions device h = sent_by before s d bytes response lines actions device h
  is_done_by before s d (Request bytes) results.Unsent lines actions device h = not_sent_by before s d bytes lines actions device h
  is_done_by before s d (Request bytes) (results.Config config) lines actions device h = h
  is_done_by before s d Config result lines actions device h = h

  pub are_done_by : (before : List SpaceAction) (s : Sizes) (d : DeviceState) (runs : List HostRun) (actions : List SpaceAction) (device : List DeviceAction) → AreDoneBy E before s d runs actions device → AreDoneBy G before s d runs actions device
  are_done_by before s d [] actions device h = h
  are_done_by before s d (x ∷ xs) actions device h = (
    h.0,
    h.1,
    h.2,
    h.3,
    h.4,
    h.5,
    is_done_by before s d x.command x.line.result x.line.tried h.0 h.3 h.6,
    are_done_by (before ++ h.0) s (device_after s d h.3) xs h.1 h.4 h.7,
  )
