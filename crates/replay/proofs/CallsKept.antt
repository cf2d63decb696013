-- What an owner's calls made, where its state, its entries or the journal change.
use Rattle.std.proofs.Common.{◌≡◌, ◌≢◌, ℕ, ◌<◌, nat_lt, cond, Bool, false, List, [], ◌∷◌, ◌++◌, length-append, take, drop, filter, Contains, append_assoc, append-nil, refl, sym, ap, ◌∙◌, subst, ⊎_elim, arith, Option, None}
use Rattle.std.specs.List.{AllByRecursion}
use Rattle.std.proofs.lemmas.Bool.Decides.{nat_tests}
use Rattle.std.proofs.lemmas.List.{take-append-le}
use Rattle.std.proofs.lemmas.List.Elements.{filter-append, Contains-push_cases}
use Rattle.evac_model.specs.declared.names.FrameNo.{FrameNo}
use Rattle.evac_model.specs.declared.names.Kind.{Kind}
use Rattle.evac_model.specs.declared.names.PageNo.{PageNo}
use Rattle.evac_model.specs.declared.call.Call.{Call}
use Rattle.evac_model.specs.declared.call.Call.TheVariants.{Alloc}
use Rattle.evac_model.specs.declared.entry.Entry.{Entry}
use Rattle.evac_model.specs.declared.reply.Reply.TheVariants.{NoFrame}
use Rattle.evac_model.specs.declared.scenario.Scenario.{Scenario}
use Rattle.evac_model.specs.declared.space.SpaceAction.{SpaceAction}
use Rattle.evac_model.specs.Pairing.{caller_of, actions_of, IsMadeBy, AreMadeBy}
use Rattle.evac_model.specs.ScenarioGrammar.{online_of}
use Rattle.evac_model.specs.SpaceJournal.{IsLeasable}
use Rattle.machine.specs.World.{space_at}
use Rattle.core_actors.specs.declared.action.LeaseSeen.{LeaseSeen}
use Rattle.core_actors.specs.declared.action.LeaseSeen.TheVariants.{Refused}
use Rattle.core_actors.specs.Owners.{OwnerState}
use Rattle.core_actors.specs.Places.{lease_seen, frame_owed}
use Rattle.replay.specs.Runs.{setting}
use Rattle.replay.specs.CallsMade.{made_under_way, owed, AreMadeSoFar, HadNoFrame, WasRefusedAt, IsRefusedSince, IsRefusedNow, AreOwnersCallsMade}
use Rattle.evac_model.proofs.Pushes.{own_push, other_push}
use Rattle.replay.proofs.MadeLists.{made_push, first_push, behind_push_own, behind_push_other, ticket_below, earlier_push, later_push, all_earlier, none_later}

-- what was made and is owed is that of calls that ended and of the one under way
abbrev pub Adds : (who : ℕ) → OwnerState → (ended actions : List SpaceAction) → Type 0
Adds who a ended actions = actions ++ owed who (frame_owed a.place) ≡ ended ++ made_under_way who a.left (lease_seen a.place)

-- ---- the owner changes, and nothing else

module _ (who : ℕ) (a b : OwnerState) (same : (ended actions : List SpaceAction) → Adds who a ended actions → Adds who b ended actions) where
  made_same : (es : List Entry) (actions : List SpaceAction) → AreMadeSoFar who a es actions → AreMadeSoFar who b es actions
  made_same es actions h = record { ended = h.ended; made = h.made; whole = same h.ended actions h.whole }

  pub calls_same : (s : Scenario) (journal : List SpaceAction) (es : List Entry) → AreOwnersCallsMade s journal who a es → IsRefusedNow s journal who es b.left (lease_seen b.place) → AreOwnersCallsMade s journal who b es
  calls_same s journal es h now = record {
    made = made_same es (actions_of who journal) h.made;
    refused = λ e kind at has call reply. let w = h.refused e kind at has call reply in record {
      none = w.none;
      before = w.before;
      behind = made_same (filter (λ x. nat_lt e.ticket x.ticket) es) (actions_of who (drop at journal)) w.behind;
    };
    now = now;
  }

-- an owner with the same calls, lease and frame to give back
pub record IsAlike (a b : OwnerState) : Type 0 where
  pub left : b.left ≡ a.left
  pub lease : lease_seen b.place ≡ lease_seen a.place
  pub back : frame_owed b.place ≡ frame_owed a.place

module _ (who : ℕ) (a b : OwnerState) (q : IsAlike a b) where
  under_alike : made_under_way who a.left (lease_seen a.place) ≡ made_under_way who b.left (lease_seen b.place)
  under_alike = ap (λ (l : List (PageNo × Call)). made_under_way who l (lease_seen a.place)) (sym q.left) ∙ ap (λ (x : LeaseSeen). made_under_way who b.left x) (sym q.lease)

  pub calls_alike : (s : Scenario) (journal : List SpaceAction) (es : List Entry) → AreOwnersCallsMade s journal who a es → AreOwnersCallsMade s journal who b es
  calls_alike s journal es h = calls_same who a b
      (λ ended actions e. ap (λ (f : Option FrameNo). actions ++ owed who f) q.back ∙ (e ∙ ap (λ (l : List SpaceAction). ended ++ l) under_alike))
      s journal es h
      (subst (λ (l : List (PageNo × Call)). IsRefusedNow s journal who es l (lease_seen b.place)) (sym q.left)
      (subst (λ (x : LeaseSeen). IsRefusedNow s journal who es a.left x) (sym q.lease) h.now))

-- ---- the journal has one more action

module _ (s : Scenario) (journal : List SpaceAction) (x : SpaceAction) where
  no_frame_longer : (kind : Kind) (at : ℕ) → HadNoFrame s journal kind at → HadNoFrame s (journal ++ x ∷ []) kind at
  no_frame_longer kind at h = record {
    in_journal = let a = h.in_journal in omega (arith, length-append journal (x ∷ []));
    none_free = subst (λ (l : List SpaceAction). (frame : ℕ) → ¬ IsLeasable s.geometry (online_of s) (space_at (setting s) l) kind frame)
        (sym (take-append-le at journal (x ∷ []) h.in_journal)) h.none_free;
  }

  -- of another caller
  module _ (who : ℕ) (other : caller_of x ≢ who) where
    since_other : (es : List Entry) (kind : Kind) (at : ℕ) → IsRefusedSince s journal who es kind at → IsRefusedSince s (journal ++ x ∷ []) who es kind at
    since_other es kind at h = record {
      none = no_frame_longer kind at h.none;
      before = subst (λ (l : List SpaceAction). AreMadeBy es l) (sym (first_push who at journal x h.none.in_journal)) h.before;
      behind = behind_push_other who at journal x h.none.in_journal other ∙ h.behind;
    }

    now_other : (es : List Entry) (left : List (PageNo × Call)) (lease : LeaseSeen) → IsRefusedNow s journal who es left lease → IsRefusedNow s (journal ++ x ∷ []) who es left lease
    now_other es ((page, Alloc kind) ∷ cs) (Refused at) h = since_other es kind at h
    now_other es left lease h = tt

    pub calls_other : (a : OwnerState) (es : List Entry) → AreOwnersCallsMade s journal who a es → AreOwnersCallsMade s (journal ++ x ∷ []) who a es
    calls_other a es h = record {
      made = subst (λ (l : List SpaceAction). AreMadeSoFar who a es l) (sym (other_push who journal x other)) h.made;
      refused = λ e kind at has call reply. let w = h.refused e kind at has call reply in record {
        none = no_frame_longer kind at w.none;
        before = subst (λ (l : List SpaceAction). AreMadeBy (filter (λ y. nat_lt y.ticket e.ticket) es) l) (sym (first_push who at journal x w.none.in_journal)) w.before;
        behind = subst (λ (l : List SpaceAction). AreMadeSoFar who a (filter (λ y. nat_lt e.ticket y.ticket) es) l) (sym (behind_push_other who at journal x w.none.in_journal other)) w.behind;
      };
      now = now_other es a.left (lease_seen a.place) h.now;
    }

  -- of the owner
  module _ (who : ℕ) (own : caller_of x ≡ who) (a b : OwnerState) (goes : (ended actions : List SpaceAction) → Adds who a ended actions → Adds who b ended (actions ++ x ∷ [])) where
    made_own : (es : List Entry) (actions : List SpaceAction) → AreMadeSoFar who a es actions → AreMadeSoFar who b es (actions ++ x ∷ [])
    made_own es actions h = record { ended = h.ended; made = h.made; whole = goes h.ended actions h.whole }

    pub calls_own : (es : List Entry) → AreOwnersCallsMade s journal who a es → IsRefusedNow s (journal ++ x ∷ []) who es b.left (lease_seen b.place) → AreOwnersCallsMade s (journal ++ x ∷ []) who b es
    calls_own es h now = record {
      made = subst (λ (l : List SpaceAction). AreMadeSoFar who b es l) (sym (own_push who journal x own)) (made_own es (actions_of who journal) h.made);
      refused = λ e kind at has call reply. let w = h.refused e kind at has call reply in record {
        none = no_frame_longer kind at w.none;
        before = subst (λ (l : List SpaceAction). AreMadeBy (filter (λ y. nat_lt y.ticket e.ticket) es) l) (sym (first_push who at journal x w.none.in_journal)) w.before;
        behind = subst (λ (l : List SpaceAction). AreMadeSoFar who b (filter (λ y. nat_lt e.ticket y.ticket) es) l) (sym (behind_push_own who at journal x w.none.in_journal own))
            (made_own (filter (λ y. nat_lt e.ticket y.ticket) es) (actions_of who (drop at journal)) w.behind);
      };
      now = now;
    }

-- ---- a call ends

-- what the call did to the space, and the frame to give back, are those of its entry
pub record IsEndedBy (who : ℕ) (a b : OwnerState) (e : Entry) : Type 0 where
  pub none_owed : frame_owed a.place ≡ None
  pub waits : made_under_way who b.left (lease_seen b.place) ≡ []
  pub made : IsMadeBy e (made_under_way who a.left (lease_seen a.place) ++ owed who (frame_owed b.place))

-- the entry has no later one, and is none itself
none_later_push : (es : List Entry) (e : Entry) → AllByRecursion (λ x. x.ticket < e.ticket) es → filter (λ x. nat_lt e.ticket x.ticket) (es ++ e ∷ []) ≡ []
none_later_push es e below =
    let same : nat_lt e.ticket e.ticket ≡ false = grind (arith, nat_tests) in
    filter-append (λ (x : Entry). nat_lt e.ticket x.ticket) es (e ∷ [])
    ∙ (ap (λ (b : Bool). filter (λ (x : Entry). nat_lt e.ticket x.ticket) es ++ cond b (e ∷ []) []) same
    ∙ (append-nil (filter (λ (x : Entry). nat_lt e.ticket x.ticket) es)
    ∙ none_later es e.ticket below))

module _ (who : ℕ) (a b : OwnerState) (e : Entry) (end : IsEndedBy who a b e) where
  made_ended : (es : List Entry) (actions : List SpaceAction) → AreMadeSoFar who a es actions → AreMadeSoFar who b (es ++ e ∷ []) actions
  made_ended es actions h =
      let under : List SpaceAction = made_under_way who a.left (lease_seen a.place) in
      let mine : List SpaceAction = under ++ owed who (frame_owed b.place) in
      let so_far : actions ≡ h.ended ++ under = sym (append-nil actions) ∙ (ap (λ (f : Option FrameNo). actions ++ owed who f) (sym end.none_owed) ∙ h.whole) in
      record {
        ended = h.ended ++ mine;
        made = made_push es e h.ended mine h.made end.made;
        whole = ap (λ (l : List SpaceAction). l ++ owed who (frame_owed b.place)) so_far
            ∙ (append_assoc h.ended under (owed who (frame_owed b.place))
            ∙ (sym (append-nil (h.ended ++ mine)) ∙ ap (λ (l : List SpaceAction). h.ended ++ mine ++ l) (sym end.waits)));
      }

  module _ (s : Scenario) (journal : List SpaceAction) (es : List Entry) (below : AllByRecursion (λ x. x.ticket < e.ticket) es) where
    -- a refusal of an entry before
    was_refused : (y : Entry) (kind : Kind) (at : ℕ) → Contains es y → WasRefusedAt s journal who a es y.ticket kind at → WasRefusedAt s journal who b (es ++ e ∷ []) y.ticket kind at
    was_refused y kind at has w =
        let lt : y.ticket < e.ticket = ticket_below e.ticket es y below has in
        record {
          none = w.none;
          before = subst (λ (l : List Entry). AreMadeBy l (actions_of who (take at journal))) (sym (earlier_push es e y.ticket (omega arith))) w.before;
          behind = subst (λ (l : List Entry). AreMadeSoFar who b l (actions_of who (drop at journal))) (sym (later_push es e y.ticket lt))
              (made_ended (filter (λ x. nat_lt y.ticket x.ticket) es) (actions_of who (drop at journal)) w.behind);
        }

    -- the refusal of the call that ends
    is_refused : (kind : Kind) (at : ℕ) → IsRefusedSince s journal who es kind at → frame_owed b.place ≡ None → WasRefusedAt s journal who b (es ++ e ∷ []) e.ticket kind at
    is_refused kind at w none = record {
      none = w.none;
      before = subst (λ (l : List Entry). AreMadeBy l (actions_of who (take at journal))) (sym (earlier_push es e e.ticket (omega arith) ∙ all_earlier es e.ticket below)) w.before;
      behind = record {
        ended = [];
        made = subst (λ (l : List Entry). AreMadeBy l []) (sym (none_later_push es e below)) refl;
        whole = ap (λ (l : List SpaceAction). l ++ owed who (frame_owed b.place)) w.behind ∙ (ap (λ (f : Option FrameNo). owed who f) none ∙ sym end.waits);
      };
    }

    pub calls_ended : AreOwnersCallsMade s journal who a es → ((kind : Kind) (at : ℕ) → e.call ≡ Alloc kind → e.reply ≡ NoFrame at → IsRefusedSince s journal who es kind at × (frame_owed b.place ≡ None))
        → IsRefusedNow s journal who (es ++ e ∷ []) b.left (lease_seen b.place) → AreOwnersCallsMade s journal who b (es ++ e ∷ [])
    calls_ended h refusal now = record {
      made = made_ended es (actions_of who journal) h.made;
      refused = λ y kind at has call reply. ⊎_elim
          (λ (old : Contains es y). was_refused y kind at old (h.refused y kind at old call reply))
          (λ (new : e ≡ y). let r = refusal kind at (ap (λ (x : Entry). x.call) new ∙ call) (ap (λ (x : Entry). x.reply) new ∙ reply) in
          subst (λ (x : Entry). WasRefusedAt s journal who b (es ++ e ∷ []) x.ticket kind at) new (is_refused kind at r.0 r.1))
          (Contains-push_cases es e y has);
      now = now;
    }
