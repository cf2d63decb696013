-- A lease, a refused lease and a return: what an owner's calls made then.
use Rattle.std.proofs.Common.{◌≡◌, ℕ, List, [], ◌∷◌, ◌++◌, length, append-nil, refl, sym, ap, ◌∙◌, subst, arith, Some, None}
use Rattle.std.proofs.Math.Seq.{take-length, drop-length}
use Rattle.evac_model.specs.declared.names.FrameNo.{FrameNo}
use Rattle.evac_model.specs.declared.names.Kind.{Kind}
use Rattle.evac_model.specs.declared.names.PageNo.{PageNo}
use Rattle.evac_model.specs.declared.call.Call.{Call}
use Rattle.evac_model.specs.declared.call.Call.TheVariants.{Alloc}
use Rattle.evac_model.specs.declared.entry.Entry.{Entry}
use Rattle.evac_model.specs.declared.scenario.Scenario.{Scenario}
use Rattle.evac_model.specs.declared.space.SpaceAction.{SpaceAction}
use Rattle.evac_model.specs.declared.space.SpaceAction.TheVariants as space
use Rattle.evac_model.specs.Pairing.{actions_of, AreMadeBy}
use Rattle.evac_model.specs.ScenarioGrammar.{online_of}
use Rattle.evac_model.specs.SpaceJournal.{IsLeasable}
use Rattle.machine.specs.declared.action.Action.TheVariants as actions
use Rattle.machine.specs.declared.action.Heard.TheVariants as heard
use Rattle.machine.specs.declared.action.SpaceCall.TheVariants.{Lease, Return}
use Rattle.machine.specs.World.{space_at}
use Rattle.core_actors.specs.declared.action.LeaseSeen.{LeaseSeen}
use Rattle.core_actors.specs.declared.action.LeaseSeen.TheVariants.{Refused}
use Rattle.core_actors.specs.declared.place.Place.{Place}
use Rattle.core_actors.specs.declared.place.Place.TheVariants.{Between, InCall}
use Rattle.core_actors.specs.declared.place.CallPlace.TheVariants.{Take}
use Rattle.core_actors.specs.Places.{zero_from}
use Rattle.core_actors.specs.Owners.{OwnerState, next_action, owner_after}
use Rattle.core_actors.proofs.Asks.{leases_at, returns_at}
use Rattle.core_actors.proofs.LeaseKept.{zero_leases}
use Rattle.replay.specs.Runs.{setting}
use Rattle.replay.specs.CallsMade.{made_under_way, IsRefusedNow, AreOwnersCallsMade}
use Rattle.replay.proofs.CallEnds.{not_refused}
use Rattle.replay.proofs.CallsKept.{calls_same, calls_own}

-- ---- the lease

module _ (sc : Scenario) (journal : List SpaceAction) (who : ℕ) (es : List Entry) (owner cells : ℕ) where
  abbrev state : Place → List (PageNo × Call) → OwnerState
  state place left = record { owner = owner; cells = cells; left = left; place = place }

  module _ (page : PageNo) (kind : Kind) (cs : List (PageNo × Call)) where
    abbrev calls : List (PageNo × Call)
    calls = (page, Alloc kind) ∷ cs

    alloc_leased : (frame : FrameNo) → AreOwnersCallsMade sc journal who (state (Between None) calls) es → AreOwnersCallsMade sc (journal ++ space.Lease who frame page kind ∷ []) who (state (InCall (zero_from cells frame 0)) calls) es
    alloc_leased frame h =
        let x : SpaceAction = space.Lease who frame page kind in
        let lease = zero_leases cells frame 0 in
        calls_own sc journal x who refl (state (Between None) calls) (state (InCall (zero_from cells frame 0)) calls)
        (λ ended actions e. append-nil (actions ++ x ∷ []) ∙ (ap (λ (l : List SpaceAction). l ++ x ∷ []) (sym (append-nil actions) ∙ (e ∙ append-nil ended)) ∙ ap (λ (y : LeaseSeen). ended ++ made_under_way who calls y) (sym lease)))
        es h (subst (λ (y : LeaseSeen). IsRefusedNow sc (journal ++ x ∷ []) who es calls y) (sym lease) tt)

    alloc_refused : ((frame : ℕ) → ¬ IsLeasable sc.geometry (online_of sc) (space_at (setting sc) journal) kind frame) → AreOwnersCallsMade sc journal who (state (Between None) calls) es
        → AreOwnersCallsMade sc journal who (state (InCall (Take (Refused (length journal)))) calls) es
    alloc_refused none h =
        let so_far : actions_of who journal ≡ h.made.ended = sym (append-nil (actions_of who journal)) ∙ (h.made.whole ∙ append-nil h.made.ended) in
        calls_same who (state (Between None) calls) (state (InCall (Take (Refused (length journal)))) calls) (λ ended actions e. e) sc journal es h
        (record {
          none = record {
            in_journal = omega arith;
            none_free = subst (λ (l : List SpaceAction). (frame : ℕ) → ¬ IsLeasable sc.geometry (online_of sc) (space_at (setting sc) l) kind frame) (sym (take-length journal)) none;
          };
          before = subst (λ (l : List SpaceAction). AreMadeBy es l) (sym (ap (λ (l : List SpaceAction). actions_of who l) (take-length journal) ∙ so_far)) h.made.made;
          behind = ap (λ (l : List SpaceAction). actions_of who l) (drop-length journal);
        })

  -- ---- the return

  back_given : (left : List (PageNo × Call)) (frame : FrameNo) → AreOwnersCallsMade sc journal who (state (Between (Some frame)) left) es → AreOwnersCallsMade sc (journal ++ space.Return who frame ∷ []) who (state (Between None) left) es
  back_given left frame h =
      let x : SpaceAction = space.Return who frame in
      calls_own sc journal x who refl (state (Between (Some frame)) left) (state (Between None) left) (λ ended actions e. append-nil (actions ++ x ∷ []) ∙ e) es h (not_refused sc (journal ++ x ∷ []) who es left)

-- ---- any owner that asks the frame space

module _ (sc : Scenario) (journal : List SpaceAction) (who : ℕ) (es : List Entry) (a : OwnerState) (m : AreOwnersCallsMade sc journal who a es) where
  module _ (page : PageNo) (kind : Kind) (is : next_action a ≡ actions.Space (Lease page kind)) where
    before_alloc : (P : OwnerState → Type 0) → ((cs : List (PageNo × Call)) → AreOwnersCallsMade sc journal who (state sc journal who es a.owner a.cells (Between None) ((page, Alloc kind) ∷ cs)) es → P (state sc journal who es a.owner a.cells (Between None) ((page, Alloc kind) ∷ cs)))
        → P a
    before_alloc P f =
        let r = leases_at a.place a.left page kind is in
        let same : a ≡ state sc journal who es a.owner a.cells (Between None) ((page, Alloc kind) ∷ r.rest) = λ i. state sc journal who es a.owner a.cells (r.place_is i) (r.left_is i) in
        subst P (sym same) (f r.rest (subst (λ (x : OwnerState). AreOwnersCallsMade sc journal who x es) same m))

    pub calls_after_lease : (frame : FrameNo) → AreOwnersCallsMade sc (journal ++ space.Lease who frame page kind ∷ []) who (owner_after a (heard.Leased frame)) es
    calls_after_lease frame = before_alloc (λ (x : OwnerState). AreOwnersCallsMade sc (journal ++ space.Lease who frame page kind ∷ []) who (owner_after x (heard.Leased frame)) es)
        (λ cs h. alloc_leased sc journal who es a.owner a.cells page kind cs frame h)

    pub calls_after_refusal : ((frame : ℕ) → ¬ IsLeasable sc.geometry (online_of sc) (space_at (setting sc) journal) kind frame) → AreOwnersCallsMade sc journal who (owner_after a (heard.NoFrame (length journal))) es
    calls_after_refusal none = before_alloc (λ (x : OwnerState). AreOwnersCallsMade sc journal who (owner_after x (heard.NoFrame (length journal))) es)
        (λ cs h. alloc_refused sc journal who es a.owner a.cells page kind cs none h)

  pub calls_after_return : (frame : FrameNo) → next_action a ≡ actions.Space (Return frame) → AreOwnersCallsMade sc (journal ++ space.Return who frame ∷ []) who (owner_after a heard.Nothing) es
  calls_after_return frame is =
      let same : a ≡ record a { place = Between (Some frame) } = λ i. record a { place = returns_at a.place a.left frame is i } in
      subst (λ (x : OwnerState). AreOwnersCallsMade sc (journal ++ space.Return who frame ∷ []) who (owner_after x heard.Nothing) es) (sym same)
      (back_given sc journal who es a.owner a.cells a.left frame (subst (λ (x : OwnerState). AreOwnersCallsMade sc journal who x es) same m))
