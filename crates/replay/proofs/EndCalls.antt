-- How the history and the space's journal go together that a run leaves whose owners have all ended.
use Rattle.std.proofs.Common.{◌≡◌, ℕ, suc, ◌<◌, nat_lt, List, [], ◌++◌, length, take, drop, filter, Contains, append-nil, sym, ap, ◌∙◌, subst, arith, Option, Some, None}
use Rattle.std.proofs.lemmas.Option.{slice_get-get_or, slice_get_within, get_or_from_slice_get}
use mathlib.Core.Logic.{dite}
use native.Mathlib.Decide.{dec_le}
use Rattle.evac_model.specs.declared.call.Call.{Call}
use Rattle.evac_model.specs.declared.call.Call.TheVariants.{Alloc}
use Rattle.evac_model.specs.declared.entry.Entry.{Entry}
use Rattle.evac_model.specs.declared.names.FrameNo.{FrameNo}
use Rattle.evac_model.specs.declared.names.Kind.{Kind}
use Rattle.evac_model.specs.declared.names.PageNo.{PageNo}
use Rattle.evac_model.specs.declared.reply.Reply.TheVariants.{NoFrame}
use Rattle.evac_model.specs.declared.scenario.Scenario.{Scenario}
use Rattle.evac_model.specs.declared.space.SpaceAction.{SpaceAction}
use Rattle.evac_model.specs.Pairing.{actions_of, AreMadeBy, IsRefusedAt, ArePaired}
use Rattle.evac_model.specs.ScenarioGrammar.{online_of}
use Rattle.evac_model.specs.Scenarios.{IsRunnable}
use Rattle.evac_model.specs.Scripts.{entries_of}
use Rattle.evac_model.specs.SpaceJournal.{space_at_start}
use Rattle.core_state.specs.Histories.{IsHistoryOf}
use Rattle.core_actors.specs.Owners.{OwnerState}
use Rattle.core_actors.specs.Places.{lease_seen, frame_owed}
use Rattle.report.specs.declared.report.Report.{Report}
use Rattle.replay.specs.CallsMade.{made_under_way, owed, AreMadeSoFar, WasRefusedAt}
use Rattle.replay.specs.Keeping.{IsKept}
use Rattle.replay.specs.Running.{Running}
use Rattle.replay.specs.Runs.{opening, AllEnded, IsReportAfter}
use Rattle.replay.proofs.Callers.{of_owner, no_entries, owners_entries}
use Rattle.replay.proofs.EndedOwners.{owners_seat}
use Rattle.replay.proofs.Members.{there}

-- ---- an owner that has no call, and no frame to give back

module _ (who : ℕ) (a : OwnerState) (left : a.left ≡ []) (back : (frame_owed a.place) ≡ None) (es : List Entry) (actions : List SpaceAction) (h : AreMadeSoFar who a es actions) where
  none_under_way : actions ≡ h.ended
  none_under_way =
      sym (append-nil actions)
      ∙ (ap (λ (f : Option FrameNo). actions ++ owed who f) (sym back)
      ∙ (h.whole
      ∙ (ap (λ (l : List (PageNo × Call)). h.ended ++ made_under_way who l (lease_seen a.place)) left
      ∙ append-nil h.ended)))

  -- its actions are those of its entries
  all_made : AreMadeBy es actions
  all_made = subst (λ (l : List SpaceAction). AreMadeBy es l) (sym none_under_way) h.made

-- ---- whose actions are those of which entries

module _ (s : Scenario) (m : Running) (k : IsKept s m) (ended : AllEnded m.owners) (h : List Entry) (history : IsHistoryOf (opening s) m.world.snapshot.words m.world.snapshot.views h) where
  made_by_none : (who : ℕ) → entries_of who h ≡ [] → actions_of who m.world.space ≡ [] → AreMadeBy (entries_of who h) (actions_of who m.world.space)
  made_by_none who no_entry no_action = subst (λ (es : List Entry). AreMadeBy es (actions_of who m.world.space)) (sym no_entry) no_action

  made_by_owner : (i : ℕ) → i < length s.owners → AreMadeBy (entries_of (suc i) h) (actions_of (suc i) m.world.space)
  made_by_owner i low =
      let v = there m.world.snapshot.views (suc i) (let n = k.world.seats in omega arith) in
      let own = owners_seat s m k ended i v.0 low v.1 in
      let calls = k.calls.owners i own.owner v.0 own.here v.1 in
      subst (λ (es : List Entry). AreMadeBy es (actions_of (suc i) m.world.space)) (sym (owners_entries s m k ended h history i v.0 low v.1))
      (all_made (suc i) own.owner own.left own.back v.0.entries (actions_of (suc i) m.world.space) calls.made)

  made : (owner : ℕ) → AreMadeBy (entries_of (suc owner) h) (actions_of (suc owner) m.world.space)
  made i = dite (dec_le (suc i) (length s.owners))
      (λ le. made_by_owner i (omega arith))
      (λ gt. made_by_none (suc i) (no_entries s m k ended h history (suc i) (λ place lt q. omega arith)) (k.calls.others (suc i) (let n = k.seats.owners in omega arith)))

  -- ---- refusals

  -- the refusal that an entry of an owner's seat tells of
  refused_at : (e : Entry) (kind : Kind) (at i : ℕ) (a : OwnerState) (es : List Entry) → e.caller ≡ suc i → entries_of (suc i) h ≡ es → a.left ≡ [] → (frame_owed a.place) ≡ None → WasRefusedAt s m.world.space (suc i) a es e.ticket kind at
      → IsRefusedAt s.geometry (online_of s) (space_at_start s.geometry s.start) m.world.space (entries_of e.caller h) e kind at
  refused_at e kind at i a es caller same left back w =
      let entries_are : es ≡ entries_of e.caller h = sym (ap (λ (c : ℕ). entries_of c h) caller ∙ same) in
      record {
        in_journal = w.none.in_journal;
        none_free = w.none.none_free;
        before = subst (λ (l : List Entry). AreMadeBy (filter (λ x. nat_lt x.ticket e.ticket) l) (actions_of e.caller (take at m.world.space))) entries_are
            (subst (λ (c : ℕ). AreMadeBy (filter (λ x. nat_lt x.ticket e.ticket) es) (actions_of c (take at m.world.space))) (sym caller) w.before);
        behind = subst (λ (l : List Entry). AreMadeBy (filter (λ x. nat_lt e.ticket x.ticket) l) (actions_of e.caller (drop at m.world.space))) entries_are
            (subst (λ (c : ℕ). AreMadeBy (filter (λ x. nat_lt e.ticket x.ticket) es) (actions_of c (drop at m.world.space))) (sym caller)
            (all_made (suc i) a left back (filter (λ x. nat_lt e.ticket x.ticket) es) (actions_of (suc i) (drop at m.world.space)) w.behind));
      }

  refused : (e : Entry) (kind : Kind) (at : ℕ) → Contains h e → e.call ≡ Alloc kind → e.reply ≡ NoFrame at
      → IsRefusedAt s.geometry (online_of s) (space_at_start s.geometry s.start) m.world.space (entries_of e.caller h) e kind at
  refused e kind at has call reply =
      let x = of_owner s m k ended h history has.0 e (slice_get-get_or h has.0 e has.1 ∙ ap (λ (y : Entry). Some y) has.2) in
      let in_view : Contains x.view.entries e = (x.number, slice_get_within x.view.entries x.number e x.here, get_or_from_slice_get x.view.entries x.number e e x.here) in
      refused_at e kind at x.place x.seat.owner x.view.entries x.caller (owners_entries s m k ended h history x.place x.view x.seat.low x.has) x.seat.left x.seat.back
      ((k.calls.owners x.place x.seat.owner x.view x.seat.here x.has).refused e kind at in_view call reply)

  paired : ArePaired s.geometry (online_of s) (space_at_start s.geometry s.start) h m.world.space
  paired = record { possible = k.world.possible; made = made; refused = refused }

pub paired_at_end : (s : Scenario) (m : Running) (r : Report) → IsRunnable s → IsKept s m → AllEnded m.owners → IsReportAfter s m r
    → ArePaired s.geometry (online_of s) (space_at_start s.geometry s.start) r.history r.space_journal
paired_at_end s m r runnable k ended rep =
    subst (λ (journal : List SpaceAction). ArePaired s.geometry (online_of s) (space_at_start s.geometry s.start) r.history journal) (sym rep.space)
    (paired s m k ended r.history rep.history)
