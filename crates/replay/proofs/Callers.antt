-- The entries that a run leaves whose owners have all ended, by who made their calls.
use Rattle.std.proofs.Common.{◌≡◌, ◌≢◌, ℕ, zero, suc, ◌+◌, ◌-◌, ◌<◌, ◌≤◌, ⊎_elim, List, [], length, map, sym, refl, ap, ◌∙◌, subst, arith, Some}
use Rattle.std.specs.List.{slice_get, enumerate_from}
use Rattle.std.proofs.lemmas.List.{get_or_past}
use Rattle.std.proofs.lemmas.Option.{same_Some, none-some}
use mathlib.Core.Logic.{dite}
use native.Mathlib.Decide.{dec_le}
use Rattle.evac_model.specs.declared.entry.Entry.{Entry}
use Rattle.evac_model.specs.declared.scenario.Scenario.{Scenario}
use Rattle.evac_model.specs.Scripts.{numbered_call, entries_of, IsOfScripts}
use Rattle.core_state.specs.declared.opening.Opening.{Opening}
use Rattle.core_state.specs.declared.view.View.{View}
use Rattle.core_state.specs.Words.{next_ticket_of}
use Rattle.core_state.specs.Views.{Has}
use Rattle.core_state.specs.Pages.{entry_with}
use Rattle.core_state.specs.Histories.{IsHistoryOf}
use Rattle.core_state.proofs.Entries.{entry_with-found}
use Rattle.core_state.proofs.Found.{entry_with-has, entry_at-found, has_entry-uses}
use Rattle.replay.specs.Running.{Running}
use Rattle.replay.specs.Runs.{opening, AllEnded}
use Rattle.replay.specs.Keeping.{IsKept}
use Rattle.replay.proofs.EndedOwners.{IsEndedSeat, owners_seat, each_seat}
use Rattle.replay.proofs.Members.{there, all_at, all_from, of_caller}

-- an entry of the seat of an owner
pub record IsOfOwner (s : Scenario) (m : Running) (e : Entry) : Type 0 where
  pub place : ℕ
  pub view : View
  pub number : ℕ
  pub has : Has m.world.snapshot.views (suc place) view
  pub here : slice_get view.entries number ≡ Some e
  pub seat : IsEndedSeat s m place view
  pub caller : e.caller ≡ suc place

of_seat : (s : Scenario) (m : Running) (place i : ℕ) (v : View) (p : ℕ) (e : Entry) → i ≡ suc place → Has m.world.snapshot.views i v → slice_get v.entries p ≡ Some e → IsEndedSeat s m place v → IsOfOwner s m e
of_seat s m place i v p e is has here seat = record {
  place = place;
  view = v;
  number = p;
  has = subst (λ (n : ℕ). Has m.world.snapshot.views n v) is has;
  here = here;
  seat = seat;
  caller = all_at (λ (z : Entry). z.caller ≡ suc place) v.entries p e seat.callers here;
}

module _ (s : Scenario) (m : Running) (k : IsKept s m) (ended : AllEnded m.owners) (h : List Entry) (history : IsHistoryOf (opening s) m.world.snapshot.words m.world.snapshot.views h) where
  abbrev o : Opening
  o = opening s

  abbrev words : List ℕ
  words = m.world.snapshot.words

  abbrev views : List View
  views = m.world.snapshot.views

  count : length h ≡ next_ticket_of words
  count = omega (arith, history.count)

  pub found_at : (j : ℕ) (e : Entry) → slice_get h j ≡ Some e → entry_with j views ≡ Some e
  found_at j e at = let same : o.first + j ≡ j = omega arith in subst (λ (n : ℕ). entry_with n views ≡ Some e) same (history.each j e at)

  -- an entry of a view stands in the history at its ticket
  stands : (i : ℕ) (v : View) (p : ℕ) (e : Entry) → Has views i v → slice_get v.entries p ≡ Some e → slice_get h e.ticket ≡ Some e
  stands i v p e at is =
      let used = has_entry-uses views e (record { seat = i; view = v; place = p; has = at; at = is }) in
      let low : e.ticket < next_ticket_of words = dite (dec_le (next_ticket_of words) e.ticket) (λ le. let none = k.world.sound.tickets.none_from e.ticket le in absurd (omega arith)) (λ lt. omega arith) in
      let once = k.world.sound.tickets.each_once e.ticket (omega arith) low in
      let x = there h e.ticket (let c = count in omega arith) in
      let same : Some x.0 ≡ Some e = sym (found_at e.ticket x.0 x.1) ∙ entry_at-found e.ticket views i v p e at is refl (omega arith) in
      x.1 ∙ same

  tickets : (j : ℕ) (e : Entry) → slice_get h j ≡ Some e → e.ticket ≡ 0 + j
  tickets j e at = let f = (entry_with-found j views e (found_at j e at)).0 in omega arith

  -- an entry of the history is one of an owner's
  pub of_owner : (j : ℕ) (e : Entry) → slice_get h j ≡ Some e → IsOfOwner s m e
  of_owner j e at =
      let x = entry_with-has j views e (found_at j e at) in
      ⊎_elim
      (λ own. of_seat s m own.place x.seat x.view x.place e own.is x.has x.at own.ended)
      (λ none. absurd (none-some e (sym (ap (λ (l : List Entry). slice_get l x.place) none) ∙ x.at)))
      (each_seat s m k ended x.seat x.view x.has)

  -- whoever has no script makes no call
  pub no_entries : (c : ℕ) → ((place : ℕ) → place < length s.owners → suc place ≢ c) → entries_of c h ≡ []
  no_entries c apart = of_caller c 0 h [] tickets tt tt tt
      (λ p e q. absurd (none-some e q))
      (λ j e at is. let x = of_owner j e at in absurd (apart x.place x.seat.low (sym x.caller ∙ is)))

  -- the entries of an owner are those of its seat
  pub owners_entries : (i : ℕ) (v : View) → i < length s.owners → Has views (suc i) v → entries_of (suc i) h ≡ v.entries
  owners_entries i v low has = of_caller (suc i) 0 h v.entries tickets (k.seats.in_order (suc i) v has).rising
      (all_from (λ (e : Entry). 0 ≤ e.ticket) v.entries (λ p e q. omega arith))
      (owners_seat s m k ended i v low has).callers
      (λ p e q. let back : e.ticket - 0 ≡ e.ticket = omega arith in ap (slice_get h) back ∙ stands (suc i) v p e has q)
      (λ j e at c. let x = of_owner j e at in
      let view : x.view ≡ v = same_Some x.view v (sym x.has ∙ (ap (slice_get views) (sym x.caller ∙ c) ∙ has)) in
      (x.number, ap (λ (z : View). slice_get z.entries x.number) (sym view) ∙ x.here))

  -- they are the calls of its script
  pub of_scripts : IsOfScripts s.owners h
  of_scripts zero = ap (map numbered_call) (no_entries zero (λ place lt q. omega arith))
  of_scripts (suc i) = dite (dec_le (suc i) (length s.owners))
      (λ le. let v = there views (suc i) (let n = k.world.seats in omega arith) in
      ap (map numbered_call) (owners_entries i v.0 (omega arith) v.1) ∙ (owners_seat s m k ended i v.0 (omega arith) v.1).entries)
      (λ gt. ap (map numbered_call) (no_entries (suc i) (λ place lt q. omega arith)) ∙ sym (ap (enumerate_from 0) (get_or_past s.owners i [] (omega arith))))
