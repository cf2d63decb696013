-- The release of a call: what its entry made, and which lease was refused.
use Rattle.std.proofs.Common.{◌≡◌, ◌≢◌, ℕ, ◌<◌, ◌==◌, ◌&&◌, Bool, true, false, if◌then◌else◌, List, [], ◌∷◌, ◌++◌, refl, sym, ap, ◌∙◌, subst, inl, inr, arith, Option, Some, None}
use Rattle.std.specs.List.{AllByRecursion}
use Rattle.evac_model.specs.declared.names.FrameNo.{FrameNo}
use Rattle.evac_model.specs.declared.names.Kind.{Kind}
use Rattle.evac_model.specs.declared.names.PageNo.{PageNo}
use Rattle.evac_model.specs.declared.call.Call.{Call}
use Rattle.evac_model.specs.declared.call.Call.TheVariants.{Alloc, Free, Read, Write, Add, Pin, Unpin}
use Rattle.evac_model.specs.declared.entry.Entry.{Entry}
use Rattle.evac_model.specs.declared.reply.Reply.TheVariants.{Done, Mapped, Pinned, NotMapped, NoFrame}
use Rattle.evac_model.specs.declared.scenario.Scenario.{Scenario}
use Rattle.evac_model.specs.declared.space.SpaceAction.{SpaceAction}
use Rattle.evac_model.specs.Geometry.{Sizes}
use Rattle.evac_model.specs.Pairing.{IsMadeByAlloc, IsMadeByFree, IsMadeByCall}
use Rattle.evac_model.proofs.Lists.{all_weaker}
use Rattle.evac_words.specs.Word.{mapped_bit, pins_of, frame_of}
use Rattle.core_state.specs.declared.held.Held.{Held}
use Rattle.core_state.specs.declared.opening.Opening.{Opening}
use Rattle.core_state.specs.declared.step.CallDone.{CallDone}
use Rattle.core_state.specs.declared.view.View.{View}
use Rattle.core_state.specs.Pages.{number_or}
use Rattle.core_state.specs.Steps.{held_page, held_ticket, entry_of}
use Rattle.core_state.proofs.Holding.{for_some, some_is}
use Rattle.core_actors.specs.declared.action.LeaseSeen.{LeaseSeen}
use Rattle.core_actors.specs.declared.action.LeaseSeen.TheVariants.{NotAsked, Got, Refused}
use Rattle.core_actors.specs.declared.place.Place.TheVariants.{Between, InCall}
use Rattle.core_actors.specs.declared.place.CallPlace.TheVariants.{Release}
use Rattle.core_actors.specs.CallSteps.{leased_reply, leased_frame, reply_of, frame_back}
use Rattle.core_actors.specs.Counts.{IsLeaseOf}
use Rattle.core_actors.specs.Owners.{OwnerState}
use Rattle.core_actors.specs.Fits.{page_done, IsHeldAs, Fits}
use Rattle.replay.specs.CallsMade.{made_under_way, leased_for, owed, IsRefusedSince, IsRefusedNow, AreOwnersCallsMade}
use Rattle.replay.specs.Keeping.{IsInOrder}
use Rattle.replay.proofs.CallsKept.{IsEndedBy, calls_ended}

-- ---- what a call made, by its reply

module _ (who : ℕ) (page : PageNo) where
  -- an alloc, whose page was mapped or not
  made_by_alloc : (kind : Kind) (lease : LeaseSeen) (mapped : Bool) → lease ≢ NotAsked
      → IsMadeByAlloc who page kind (if mapped then Mapped else leased_reply lease) (leased_for who page kind lease ++ owed who (if mapped then leased_frame lease else None))
  made_by_alloc kind NotAsked true some = inl refl
  made_by_alloc kind (Got frame) true some = inr (frame, refl)
  made_by_alloc kind (Refused at) true some = inl refl
  made_by_alloc kind NotAsked false some = absurd (some refl)
  made_by_alloc kind (Got frame) false some = (frame, refl)
  made_by_alloc kind (Refused at) false some = refl

  -- a free, whose page was mapped or not, and had no pins or some
  made_by_free : (frame : FrameNo) (mapped unpinned : Bool)
      → IsMadeByFree who (if mapped then (if unpinned then Done else Pinned) else NotMapped) (owed who (if mapped && unpinned then Some frame else None))
  made_by_free frame true true = (frame, refl)
  made_by_free frame true false = refl
  made_by_free frame false unpinned = refl

  pub made_by_call : (call : Call) (cs : List (PageNo × Call)) (lease : LeaseSeen) (found : ℕ) (loads : List ℕ) → IsLeaseOf call lease
      → IsMadeByCall who page call (reply_of lease found loads call) (made_under_way who ((page, call) ∷ cs) lease ++ owed who (frame_back call lease found))
  made_by_call (Alloc kind) cs lease found loads is = made_by_alloc kind lease (mapped_bit found == 1) is
  made_by_call Free cs lease found loads is = made_by_free (record { 0 = frame_of found }) (mapped_bit found == 1) (pins_of found == 0)
  made_by_call (Read first count) cs lease found loads is = refl
  made_by_call (Write first values) cs lease found loads is = refl
  made_by_call (Add cell value) cs lease found loads is = refl
  made_by_call Pin cs lease found loads is = refl
  made_by_call Unpin cs lease found loads is = refl

-- ---- a call that waits

-- it has made nothing
pub waits : (who : ℕ) (left : List (PageNo × Call)) → made_under_way who left NotAsked ≡ []
waits who ((page, Alloc kind) ∷ cs) = refl
waits who left = refl

pub not_refused : (s : Scenario) (journal : List SpaceAction) (who : ℕ) (es : List Entry) (left : List (PageNo × Call)) → IsRefusedNow s journal who es left NotAsked
not_refused s journal who es ((page, Alloc kind) ∷ cs) = tt
not_refused s journal who es left = tt

-- ---- a call that has no frame

module _ (s : Scenario) (journal : List SpaceAction) (who : ℕ) (es : List Entry) (page : PageNo) (cs : List (PageNo × Call)) (found : ℕ) (loads : List ℕ) (kind : Kind) (at : ℕ) where
  abbrev WasRefused : Option FrameNo → Type 0
  WasRefused back = IsRefusedSince s journal who es kind at × (back ≡ None)

  alloc_refused : (k : Kind) (lease : LeaseSeen) (mapped : Bool) → k ≡ kind → (if mapped then Mapped else leased_reply lease) ≡ NoFrame at → IsRefusedNow s journal who es ((page, Alloc k) ∷ cs) lease
      → WasRefused (if mapped then leased_frame lease else None)
  alloc_refused k lease true same reply now = absurd (cc)
  alloc_refused k NotAsked false same reply now = absurd (cc)
  alloc_refused k (Got frame) false same reply now = absurd (cc)
  alloc_refused k (Refused n) false same reply now =
      let e : n ≡ at = cc in
      (subst (λ (i : ℕ). IsRefusedSince s journal who es kind i) e (subst (λ (j : Kind). IsRefusedSince s journal who es j n) same now), refl)

  refused_call : (call : Call) (lease : LeaseSeen) → call ≡ Alloc kind → reply_of lease found loads call ≡ NoFrame at → IsRefusedNow s journal who es ((page, call) ∷ cs) lease → WasRefused (frame_back call lease found)
  refused_call (Alloc k) lease is reply now = alloc_refused k lease (mapped_bit found == 1) (cc) reply now
  refused_call Free lease is reply now = absurd (cc)
  refused_call (Read first count) lease is reply now = absurd (cc)
  refused_call (Write first values) lease is reply now = absurd (cc)
  refused_call (Add cell value) lease is reply now = absurd (cc)
  refused_call Pin lease is reply now = absurd (cc)
  refused_call Unpin lease is reply now = absurd (cc)

-- ---- the release

module _ (sc : Scenario) (journal : List SpaceAction) (who : ℕ) (s : Sizes) (o : Opening) (script : List (PageNo × Call)) (v : View) (owner cells : ℕ) (c : PageNo × Call) (cs : List (PageNo × Call)) (lease : LeaseSeen) (found : ℕ) (loads : List ℕ) where
  abbrev now : OwnerState
  now = record { owner = owner; cells = cells; left = c ∷ cs; place = InCall (Release lease found loads) }

  abbrev call_ended : OwnerState
  call_ended = record { owner = owner; cells = cells; left = cs; place = Between (frame_back c.1 lease found) }

  abbrev done : CallDone
  done = record { call = c.1; reply = reply_of lease found loads c.1 }

  abbrev entry : Entry
  entry = entry_of v done

  module _ (h : Fits s o script v now) (order : IsInOrder v) (mine : owner ≡ who) where
    held : (x : Held) × (v.held ≡ Some x) × IsHeldAs o.cells c (page_done c.1 lease found loads) x
    held = for_some v.held (IsHeldAs o.cells c (page_done c.1 lease found loads)) h.has.held

    page_is : entry.page ≡ c.0
    page_is = ap (λ (m : Option Held). record { 0 = held_page m }) held.1 ∙ held.2.page

    caller_is : entry.caller ≡ who
    caller_is = ap (λ (m : Option ℕ). number_or m 0) h.belongs.caller ∙ mine

    -- its ticket is above those of the entries before
    below : AllByRecursion (λ x. x.ticket < entry.ticket) v.entries
    below =
        let t = some_is (held.0).ticket held.2.drawn in
        let same : held_ticket v.held ≡ t.0 = ap (λ (m : Option Held). held_ticket m) held.1 ∙ ap (λ (n : Option ℕ). number_or n 0) t.1 in
        all_weaker (λ (x : Entry). x.ticket < t.0) (λ x. x.ticket < held_ticket v.held) (λ x lt. omega arith) v.entries (order.drawn held.0 t.0 held.1 t.1).1

    ended : IsEndedBy who now call_ended entry
    ended =
        let actions : List SpaceAction = made_under_way who (c ∷ cs) lease ++ owed who (frame_back c.1 lease found) in
        record {
          none_owed = refl;
          waits = waits who cs;
          made = subst (λ (n : ℕ). IsMadeByCall n entry.page c.1 (reply_of lease found loads c.1) actions) (sym caller_is)
              (subst (λ (p : PageNo). IsMadeByCall who p c.1 (reply_of lease found loads c.1) actions) (sym page_is) (made_by_call who c.0 c.1 cs lease found loads h.under_way.0));
        }

    pub calls_released : AreOwnersCallsMade sc journal who now v.entries → AreOwnersCallsMade sc journal who call_ended (v.entries ++ entry ∷ [])
    calls_released m = calls_ended who now call_ended entry ended sc journal v.entries below m
        (λ kind at call reply. refused_call sc journal who v.entries c.0 cs found loads kind at c.1 lease call reply m.now)
        (not_refused sc journal who (v.entries ++ entry ∷ []) cs)
