-- An answer that fits leads an evacuation on by its tale.
use Rattle.std.proofs.Common.{◌≡◌, ℕ, suc, ◌+◌, ◌<◌, ◌≤◌, Bool, true, false, ◌&&◌, ◌||◌, nat_lt, if◌then◌else◌, List, [], ◌∷◌, ◌++◌, length, Option, None, Some, refl, sym, ap, subst, ◌∙◌, append_assoc, arith, set}
use Rattle.std.specs.List.{AllByRecursion, Contains}
use Rattle.std.specs.Option.{option_or, is_some}
use Rattle.std.proofs.lemmas.List.{append-nil, length-set}
use Rattle.std.proofs.lemmas.List.Elements.{Contains-append_left, Contains-append_right, Contains-push}
use Rattle.std.proofs.lemmas.Bool.Decides.{nat_tests}
use Rattle.evac_model.specs.declared.names.BlockNo.{BlockNo}
use Rattle.evac_model.specs.declared.names.FrameNo.{FrameNo}
use Rattle.evac_model.specs.declared.names.PageNo.{PageNo}
use Rattle.evac_model.specs.declared.evacuation.MoveLease.{MoveLease}
use Rattle.evac_model.specs.declared.evacuation.EvacCause.{EvacCause}
use Rattle.evac_model.specs.declared.evacuation.EvacCause.TheVariants as cause
use Rattle.evac_model.specs.Geometry.{Sizes}
use Rattle.evac_model.specs.SpaceJournal.{is_frame_of}
use Rattle.evacuate.specs.declared.action.EvacAction.TheVariants as action
use Rattle.evacuate.specs.declared.seen.EvacSeen.{EvacSeen}
use Rattle.evacuate.specs.declared.seen.EvacSeen.TheVariants as seen
use Rattle.evacuate.specs.declared.stage.Attempt.{Attempt}
use Rattle.evacuate.specs.declared.stage.Stage.{Stage}
use Rattle.evacuate.specs.declared.stage.Stage.TheVariants.{Isolating, Leasing, Moving, Returning, Undoing, Emptied, Failed}
use Rattle.evacuate.specs.Found.{is_busy, is_pinned}
use Rattle.evacuate.specs.Tale.{Exchange, Tale, nothing_tried, last_frame, told_of, frame_back, attempts_log, rounds_log, round_end, tale_log, is_next, AreInOrder, IsMovedOrBusy, first_busy, WasBusyBefore, is_repeated, round_over}
use Rattle.evacuate.specs.Causes.{AreFound, WasBusyInFive}
use Rattle.evacuate.specs.Evacuating.{Evacuating, action_at, answers, is_answer, place_of, words_of, with_word, busy_cause, round_ended, attempt_over, after_answer, evacuation_after}
use Rattle.evacuate.specs.UnderWay.{lease_told, log_at, log_of, AreKept, IsInRound, IsNextAttempt, Stands, GoesBy, LeasedWasBusy, tale_at, GoesOnBy}
use Rattle.evacuate.proofs.Frames.{inside_block, next_in_block}
use Rattle.evacuate.proofs.Rounds.{all_moved, first_attempted, busy_before_more, busy_before_none}
use Rattle.evacuate.proofs.Kept.{all_of, kept_moved, kept_busy, next_room, place_room, places_kept, words_down, found_each, five_down, row_has_five}

or_none_right : (x : Option MoveLease) → option_or x None ≡ x
or_none_right None = refl
or_none_right (Some x) = refl

-- ---- logs

-- behind a round that is over
round_log : (x e : Exchange) (rounds attempts : List Exchange) → x ∷ ((rounds ++ (attempts ++ e ∷ [])) ++ []) ≡ (x ∷ (rounds ++ attempts)) ++ e ∷ []
round_log x e rounds attempts =
    ap (λ (l : List Exchange). x ∷ l) (append-nil (rounds ++ (attempts ++ e ∷ [])) ∙ sym (append_assoc rounds attempts (e ∷ [])))

-- behind an attempt
attempt_told : (x d e f : Exchange) (rounds attempts : List Exchange) → x ∷ (rounds ++ (attempts ++ (d ∷ e ∷ f ∷ []))) ≡ ((x ∷ (rounds ++ attempts)) ++ (d ∷ e ∷ [])) ++ f ∷ []
attempt_told x d e f rounds attempts =
    ap (λ (l : List Exchange). x ∷ l) (sym (append_assoc rounds attempts (d ∷ e ∷ f ∷ [])) ∙ sym (append_assoc (rounds ++ attempts) (d ∷ e ∷ []) (f ∷ [])))

-- ---- frames in order lie in the block

all_in_block : (s : Sizes) (b : BlockNo) (attempts : List Attempt) → AreInOrder s b attempts → AllByRecursion (λ (a : Attempt). is_frame_of s b.0 a.lease.from.0 ≡ true) attempts
all_in_block s b [] order = tt
all_in_block s b (a ∷ attempts) order =
    (next_in_block s b (last_frame attempts) a.lease.from.0 order.0, all_in_block s b attempts order.1)

-- where a word is either of two, and it isn't the second, it is the first
first_of_two : (x y : Bool) → (x || y) ≡ true → y ≡ false → x ≡ true
first_of_two true y h e = refl
first_of_two false y h e = sym e ∙ h

-- ---- where an answer leads

record LeadsTo (st : Evacuating) (tale : Tale) (stage : Stage) (told : EvacSeen) (after : Evacuating) (next : Tale) : Type 0 where
  goes_by : GoesBy after next
  log : log_of after next ≡ log_at st.block tale stage ++ record { asked = action_at st.block stage; told = told } ∷ []

abbrev standing : Evacuating → Stage → Evacuating
standing st stage = record st { stage = stage }

module _ (st : Evacuating) (tale : Tale) (g : GoesBy st tale) where
  stay : (stage : Stage) → Stands (standing st stage) tale stage → GoesBy (standing st stage) tale
  stay stage stands =
      record { frames = g.frames; places = g.places; few = g.few; counted = g.counted; rounds = g.rounds; in_order = g.in_order; busy_before = g.busy_before; stands = stands }

  still_in_round : (stage : Stage) → IsInRound st tale → IsInRound (standing st stage) tale
  still_in_round stage r = record { moved_or_busy = r.moved_or_busy; busy = r.busy; kept = r.kept }

  -- the isolation

  isolated : tale ≡ nothing_tried → st.busy ≡ None → LeadsTo st tale Isolating seen.Isolated (standing st (Leasing None)) tale
  isolated e none = record {
    goes_by = stay (Leasing None) (
      ap (λ (t : Tale). last_frame t.attempts) (sym e),
      record {
        moved_or_busy = subst (λ (t : Tale). AllByRecursion IsMovedOrBusy t.attempts) (sym e) tt;
        busy = none ∙ ap (λ (t : Tale). first_busy t.attempts) (sym e);
        kept = subst (λ (t : Tale). AreKept st.sizes st.block st.words (t.attempts ∷ t.rounds)) (sym e) (tt, tt);
      },
    );
    log = ap (tale_log st.block) e;
  }

  refused : (frame : FrameNo) (page : PageNo) → is_frame_of st.sizes st.block.0 frame.0 ≡ true → LeadsTo st tale Isolating (seen.Refused frame page) (standing st (Failed (cause.Unmovable frame page))) tale
  refused frame page h = record {
    goes_by = stay (Failed (cause.Unmovable frame page)) (record { in_block = h; found = record { told = (0, omega arith, refl) } });
    log = refl;
  }

  -- the next frame

  leased : (after : Option FrameNo) (lease : MoveLease) → after ≡ last_frame tale.attempts → IsInRound st tale → is_next st.sizes st.block after lease.from.0 ≡ true → WasBusyBefore tale.rounds lease.from lease.page → LeadsTo st tale (Leasing after) (seen.Leased lease) (standing st (Moving lease)) tale
  leased after lease e r h before = record {
    goes_by = stay (Moving lease) (
      record { next = subst (λ (o : Option FrameNo). is_next st.sizes st.block o lease.from.0 ≡ true) e h; before = before },
      still_in_round (Moving lease) r,
    );
    log = ap (λ (o : Option FrameNo). tale_log st.block tale ++ record { asked = action.Lease st.block o; told = seen.Leased lease } ∷ []) (sym e);
  }

  no_target : (after : Option FrameNo) (from : FrameNo) (page : PageNo) (at : ℕ) → after ≡ last_frame tale.attempts → IsInRound st tale → is_next st.sizes st.block after from.0 ≡ true → LeadsTo st tale (Leasing after) (seen.NoTarget from page at) (standing st (Undoing (cause.NoTarget from page at))) tale
  no_target after from page at e r h = record {
    goes_by = stay (Undoing (cause.NoTarget from page at)) (record {
      in_block = next_in_block st.sizes st.block after from.0 h;
      found = record {
        after = last_frame tale.attempts;
        told = Contains-push (tale_log st.block tale) (lease_told st.block tale (seen.NoTarget from page at));
        at_once = r.moved_or_busy;
      };
    });
    log = ap (λ (o : Option FrameNo). tale_log st.block tale ++ record { asked = action.Lease st.block o; told = seen.NoTarget from page at } ∷ []) (sym e);
  }

  -- the end of a round

  round_end_log : (after : Option FrameNo) → after ≡ last_frame tale.attempts → tale_log st.block tale ++ round_end st.block tale.attempts ∷ [] ≡ log_at st.block tale (Leasing after) ++ record { asked = action.Lease st.block after; told = seen.NoneLeft } ∷ []
  round_end_log after e =
      ap (λ (o : Option FrameNo). tale_log st.block tale ++ record { asked = action.Lease st.block o; told = seen.NoneLeft } ∷ []) (sym e)

  emptied : (after : Option FrameNo) → after ≡ last_frame tale.attempts → first_busy tale.attempts ≡ None → LeadsTo st tale (Leasing after) seen.NoneLeft (standing st Emptied) tale
  emptied after e none = record {
    goes_by = stay Emptied (all_moved tale.attempts none);
    log = round_end_log after e;
  }

  abbrev another_round : Tale
  another_round = record { rounds = tale.attempts ∷ tale.rounds; attempts = [] }

  repeated : (after : Option FrameNo) → after ≡ last_frame tale.attempts → IsInRound st tale → is_some (first_busy tale.attempts) ≡ true → length tale.rounds < 4 → LeadsTo st tale (Leasing after) seen.NoneLeft (record st { stage = Leasing None; round = st.round + 1; busy = None }) another_round
  repeated after e r some few = record {
    goes_by = record {
      frames = g.frames;
      places = g.places;
      few = few;
      counted = let same = g.counted in omega arith;
      rounds = (record { in_order = g.in_order; moved_or_busy = r.moved_or_busy; one_busy = some }, g.rounds);
      in_order = tt;
      busy_before = busy_before_none tale.attempts tale.rounds g.busy_before;
      stands = (refl, record { moved_or_busy = tt; busy = refl; kept = (tt, r.kept) });
    };
    log = round_log (record { asked = action.Isolate st.block; told = seen.Isolated }) (round_end st.block tale.attempts) (rounds_log st.block tale.rounds) (attempts_log st.block tale.attempts)
        ∙ round_end_log after e;
  }

  busy_found : (lease : MoveLease) → first_busy tale.attempts ≡ Some lease → IsInRound st tale → length tale.rounds ≡ 4 → WasBusyInFive tale lease.from lease.page (words_of st.words (place_of st.sizes st.block lease.from))
  busy_found lease first r four =
      let tried = first_attempted tale.attempts lease first in
      let words : List ℕ → Type 0 = λ ws. AreFound lease.from lease.page (tale.attempts ∷ tale.rounds) ws in
      let row : List ℕ = words_of st.words (place_of st.sizes st.block lease.from) in
      let in_block = all_of (λ (a : Attempt). is_frame_of st.sizes st.block.0 a.lease.from.0 ≡ true) tale.attempts (record { lease = lease; found = Some tried.word }) (all_in_block st.sizes st.block tale.attempts g.in_order) tried.there in
      let five = row_has_five st.words (place_of st.sizes st.block lease.from) g.places (place_room st.sizes st.block st.words lease.from g.frames (inside_block st.sizes st.block lease.from.0 in_block)) in
      let each = found_each st.sizes st.block st.words lease.from lease.page tale.attempts tale.rounds tried.word r.moved_or_busy g.rounds r.kept g.busy_before (record { target = lease.target; there = tried.there }) in
      record {
        target = lease.target;
        first = first;
        five = five;
        found = subst words (five_down row five) (subst (λ (n : ℕ). words (words_down row n)) (ap suc four) each);
        round_over = r.moved_or_busy;
      }

  given_up : (after : Option FrameNo) (lease : MoveLease) → after ≡ last_frame tale.attempts → IsInRound st tale → first_busy tale.attempts ≡ Some lease → length tale.rounds ≡ 4 → LeadsTo st tale (Leasing after) seen.NoneLeft (standing st (Undoing (busy_cause st lease))) tale
  given_up after lease e r first four =
      let tried = first_attempted tale.attempts lease first in
      record {
        goes_by = stay (Undoing (busy_cause st lease)) (record {
          in_block = all_of (λ (a : Attempt). is_frame_of st.sizes st.block.0 a.lease.from.0 ≡ true) tale.attempts (record { lease = lease; found = Some tried.word }) (all_in_block st.sizes st.block tale.attempts g.in_order) tried.there;
          found = busy_found lease first r four;
        });
        log = round_end_log after e;
      }

  round_with_busy : (after : Option FrameNo) (lease : MoveLease) (more : Bool) → nat_lt st.round 4 ≡ more → after ≡ last_frame tale.attempts → IsInRound st tale → first_busy tale.attempts ≡ Some lease → LeadsTo st tale (Leasing after) seen.NoneLeft (if more then record st { stage = Leasing None; round = st.round + 1; busy = None } else standing st (Undoing (busy_cause st lease))) (if more then another_round else tale)
  round_with_busy after lease true m e r first =
      repeated after e r (ap (λ (o : Option MoveLease). is_some o) first) (let same = g.counted in let below : st.round < 4 = grind (arith, nat_tests) in omega arith)
  round_with_busy after lease false m e r first =
      given_up after lease e r first (let same = g.counted in let few = g.few in let above : 4 ≤ st.round = grind (arith, nat_tests) in omega arith)

  repeated_test : (lease : MoveLease) → first_busy tale.attempts ≡ Some lease → is_repeated tale ≡ nat_lt st.round 4
  repeated_test lease first =
      ap (λ (o : Option MoveLease). is_some o && nat_lt (length tale.rounds) 4) first ∙ ap (λ (n : ℕ). nat_lt n 4) (sym g.counted)

  round_done : (after : Option FrameNo) (busy : Option MoveLease) → st.busy ≡ busy → after ≡ last_frame tale.attempts → IsInRound st tale → LeadsTo st tale (Leasing after) seen.NoneLeft (round_ended st busy) (round_over tale)
  round_done after None none e r =
      let no_busy : first_busy tale.attempts ≡ None = sym r.busy ∙ none in
      let last : is_repeated tale ≡ false = ap (λ (o : Option MoveLease). is_some o && nat_lt (length tale.rounds) 4) no_busy in
      subst (λ (t : Bool). LeadsTo st tale (Leasing after) seen.NoneLeft (standing st Emptied) (if t then another_round else tale)) (sym last) (emptied after e no_busy)
  round_done after (Some lease) some e r =
      let first : first_busy tale.attempts ≡ Some lease = sym r.busy ∙ some in
      subst (λ (t : Bool). LeadsTo st tale (Leasing after) seen.NoneLeft (round_ended st (Some lease)) (if t then another_round else tale)) (sym (repeated_test lease first)) (round_with_busy after lease (nat_lt st.round 4) refl e r first)

  -- a move

  moved_log : (lease : MoveLease) (found : Option ℕ) → log_at st.block tale (Returning (record { lease = lease; found = found })) ≡ log_at st.block tale (Moving lease) ++ record { asked = action.Move lease; told = told_of found } ∷ []
  moved_log lease found =
      sym (append_assoc (tale_log st.block tale) (lease_told st.block tale (seen.Leased lease) ∷ []) (record { asked = action.Move lease; told = told_of found } ∷ []))

  moved : (lease : MoveLease) (found : Option ℕ) → IsNextAttempt st tale (record { lease = lease; found = None }) → answers st.sizes st.block (Moving lease) (told_of found) ≡ true → IsInRound st tale → LeadsTo st tale (Moving lease) (told_of found) (standing st (Returning (record { lease = lease; found = found }))) tale
  moved lease found next h r = record {
    goes_by = stay (Returning (record { lease = lease; found = found })) (
      record { next = next.next; before = next.before },
      h,
      still_in_round (Returning (record { lease = lease; found = found })) r,
    );
    log = moved_log lease found;
  }

  -- a frame given back

  abbrev one_more : MoveLease → Option ℕ → Tale
  one_more lease found = record tale { attempts = record { lease = lease; found = found } ∷ tale.attempts }

  one_more_log : (lease : MoveLease) (found : Option ℕ) → tale_log st.block (one_more lease found) ≡ log_at st.block tale (Returning (record { lease = lease; found = found })) ++ record { asked = action.GiveBack (frame_back (record { lease = lease; found = found })); told = seen.Done } ∷ []
  one_more_log lease found =
      attempt_told (record { asked = action.Isolate st.block; told = seen.Isolated }) (lease_told st.block tale (seen.Leased lease)) (record { asked = action.Move lease; told = told_of found }) (record { asked = action.GiveBack (frame_back (record { lease = lease; found = found })); told = seen.Done }) (rounds_log st.block tale.rounds) (attempts_log st.block tale.attempts)

  old_given_back : (lease : MoveLease) → IsNextAttempt st tale (record { lease = lease; found = None }) → IsInRound st tale → LeadsTo st tale (Returning (record { lease = lease; found = None })) seen.Done (standing st (Leasing (Some lease.from))) (one_more lease None)
  old_given_back lease next r = record {
    goes_by = record {
      frames = g.frames;
      places = g.places;
      few = g.few;
      counted = g.counted;
      rounds = g.rounds;
      in_order = (next.next, g.in_order);
      busy_before = busy_before_more (record { lease = lease; found = None }) tale.attempts tale.rounds next.before g.busy_before;
      stands = (
        refl,
        record {
          moved_or_busy = (tt, r.moved_or_busy);
          busy = r.busy ∙ sym (or_none_right (first_busy tale.attempts));
          kept = kept_moved st.sizes st.block st.words lease tale.attempts tale.rounds r.kept;
        },
      );
    };
    log = one_more_log lease None;
  }

  pinned_given_back : (lease : MoveLease) (word : ℕ) → is_pinned word lease.from.0 ≡ true → IsNextAttempt st tale (record { lease = lease; found = Some word }) → IsInRound st tale → LeadsTo st tale (Returning (record { lease = lease; found = Some word })) seen.Done (standing st (Undoing (cause.Pinned lease.from lease.page word))) (one_more lease (Some word))
  pinned_given_back lease word pinned next r =
      let told : Exchange = record { asked = action.Move lease; told = seen.Found word } in
      let log : List Exchange = log_at st.block tale (Returning (record { lease = lease; found = Some word })) in
      let given : Exchange = record { asked = action.GiveBack lease.target; told = seen.Done } in
      let has : Contains log told = Contains-append_right (tale_log st.block tale) (lease_told st.block tale (seen.Leased lease) ∷ told ∷ []) told (1, omega arith, refl) in
      let same : tale_log st.block (one_more lease (Some word)) ++ [] ≡ log ++ given ∷ [] = append-nil (tale_log st.block (one_more lease (Some word))) ∙ one_more_log lease (Some word) in
      record {
        goes_by = record {
          frames = g.frames;
          places = g.places;
          few = g.few;
          counted = g.counted;
          rounds = g.rounds;
          in_order = (next.next, g.in_order);
          busy_before = busy_before_more (record { lease = lease; found = Some word }) tale.attempts tale.rounds next.before g.busy_before;
          stands = record {
            in_block = next_in_block st.sizes st.block (last_frame tale.attempts) lease.from.0 next.next;
            found = record {
              target = lease.target;
              told = subst (λ (l : List Exchange). Contains l told) (sym same) (Contains-append_left log (given ∷ []) told has);
              pinned = pinned;
              before = tale.attempts;
              newest = refl;
              at_once = r.moved_or_busy;
            };
          };
        };
        log = same;
      }

  busy_given_back : (lease : MoveLease) (word : ℕ) → is_busy word lease.from.0 ≡ true → IsNextAttempt st tale (record { lease = lease; found = Some word }) → IsInRound st tale → LeadsTo st tale (Returning (record { lease = lease; found = Some word })) seen.Done (record st { stage = Leasing (Some lease.from); busy = option_or st.busy (Some lease); words = with_word st.words (place_of st.sizes st.block lease.from) st.round word }) (one_more lease (Some word))
  busy_given_back lease word busy next r = record {
    goes_by = record {
      frames = let same = length-set st.words (place_of st.sizes st.block lease.from) (set (words_of st.words (place_of st.sizes st.block lease.from)) st.round word) in let old = g.frames in omega arith;
      places = places_kept st.words (place_of st.sizes st.block lease.from) st.round word (next_room st.sizes st.block st.words lease tale.attempts g.frames next.next) g.places;
      few = g.few;
      counted = g.counted;
      rounds = g.rounds;
      in_order = (next.next, g.in_order);
      busy_before = busy_before_more (record { lease = lease; found = Some word }) tale.attempts tale.rounds next.before g.busy_before;
      stands = (
        refl,
        record {
          moved_or_busy = (busy, r.moved_or_busy);
          busy = ap (λ (o : Option MoveLease). option_or o (Some lease)) r.busy;
          kept =
              subst (λ (n : ℕ). AreKept st.sizes st.block (with_word st.words (place_of st.sizes st.block lease.from) n word) ((record { lease = lease; found = Some word } ∷ tale.attempts) ∷ tale.rounds)) (sym g.counted)
              (kept_busy st.sizes st.block st.words lease word tale.attempts tale.rounds g.few g.frames g.places g.in_order next.next r.kept);
        },
      );
    };
    log = one_more_log lease (Some word);
  }

  target_given_back : (lease : MoveLease) (word : ℕ) (pinned : Bool) → is_pinned word lease.from.0 ≡ pinned → (is_busy word lease.from.0 || is_pinned word lease.from.0) ≡ true → IsNextAttempt st tale (record { lease = lease; found = Some word }) → IsInRound st tale → LeadsTo st tale (Returning (record { lease = lease; found = Some word })) seen.Done (if pinned then standing st (Undoing (cause.Pinned lease.from lease.page word)) else record st { stage = Leasing (Some lease.from); busy = option_or st.busy (Some lease); words = with_word st.words (place_of st.sizes st.block lease.from) st.round word }) (one_more lease (Some word))
  target_given_back lease word true e h next r = pinned_given_back lease word e next r
  target_given_back lease word false e h next r =
      busy_given_back lease word (first_of_two (is_busy word lease.from.0) (is_pinned word lease.from.0) h e) next r

  given_back : (lease : MoveLease) (found : Option ℕ) → IsNextAttempt st tale (record { lease = lease; found = found }) → answers st.sizes st.block (Moving lease) (told_of found) ≡ true → IsInRound st tale → LeadsTo st tale (Returning (record { lease = lease; found = found })) seen.Done (attempt_over st lease found) (one_more lease found)
  given_back lease None next h r = old_given_back lease next r
  given_back lease (Some word) next h r = target_given_back lease word (is_pinned word lease.from.0) refl h next r

  -- an isolation undone

  abbrev undone : Exchange
  undone = record { asked = action.Undo st.block; told = seen.Done }

  undo_over : (why : EvacCause) → Stands st tale (Undoing why) → LeadsTo st tale (Undoing why) seen.Done (standing st (Failed why)) tale
  undo_over (cause.Unmovable frame page) met = absurd met
  undo_over (cause.Pinned frame page word) met = record {
    goes_by = stay (Failed (cause.Pinned frame page word)) (record {
      in_block = met.in_block;
      found = record {
        target = met.found.target;
        told = Contains-append_left (log_at st.block tale (Undoing (cause.Pinned frame page word))) (undone ∷ []) _ met.found.told;
        pinned = met.found.pinned;
        before = met.found.before;
        newest = met.found.newest;
        at_once = met.found.at_once;
      };
    });
    log = refl;
  }
  undo_over (cause.NoTarget frame page at) met = record {
    goes_by = stay (Failed (cause.NoTarget frame page at)) (record {
      in_block = met.in_block;
      found = record {
        after = met.found.after;
        told = Contains-append_left (log_at st.block tale (Undoing (cause.NoTarget frame page at))) (undone ∷ []) _ met.found.told;
        at_once = met.found.at_once;
      };
    });
    log = refl;
  }
  undo_over (cause.Busy frame page words) met = record {
    goes_by = stay (Failed (cause.Busy frame page words)) (record { in_block = met.in_block; found = met.found });
    log = refl;
  }

  -- all of these

  leads : (stage : Stage) (told : EvacSeen) → Stands st tale stage → answers st.sizes st.block stage told ≡ true → LeasedWasBusy tale told → LeadsTo st tale stage told (after_answer st stage told) (tale_at tale stage told)
  leads Isolating seen.Isolated s h w = isolated s.0 s.1
  leads Isolating (seen.Refused frame page) s h w = refused frame page h
  leads (Leasing after) (seen.Leased lease) s h w = leased after lease s.0 s.1 h w
  leads (Leasing after) seen.NoneLeft s h w = round_done after st.busy refl s.0 s.1
  leads (Leasing after) (seen.NoTarget from page at) s h w = no_target after from page at s.0 s.1 h
  leads (Moving lease) seen.Moved s h w = moved lease None s.0 h s.1
  leads (Moving lease) (seen.Found word) s h w = moved lease (Some word) s.0 h s.1
  leads (Returning a) seen.Done s h w = given_back a.lease a.found s.0 s.1 s.2
  leads (Undoing why) seen.Done s h w = undo_over why s
  leads _ _ s h w = let never : false ≡ true = h in cc

pub goes_on : (st : Evacuating) (tale : Tale) (told : EvacSeen) → GoesBy st tale → is_answer st told ≡ true → LeasedWasBusy tale told → GoesOnBy st (evacuation_after st told) tale told
goes_on st tale told g h w =
    let lead = leads st tale g st.stage told g.stands h w in
    subst (λ (t : Bool). GoesOnBy st (if t then after_answer st st.stage told else st) tale told) (sym h) (record { goes_by = lead.goes_by; log = lead.log })
