-- What a run leaves whose owners and host have ended.
use Rattle.std.proofs.Common.{◌≡◌, ℕ, ◌<◌, cond, eqb, Bool, true, false, List, refl, ap, sym, subst, arith, Option, Some, IsSome}
use Rattle.std.specs.List.{slice_get, count_by}
use Rattle.std.proofs.lemmas.Bool.{eqb-true}
use mathlib.Core.Logic.{dite}
use native.Mathlib.Decide.{dec_le}
use Rattle.evac_model.specs.declared.entry.Entry.{Entry}
use Rattle.evac_model.specs.declared.scenario.Scenario.{Scenario}
use Rattle.evac_model.specs.Scenarios.{IsRunnable}
use Rattle.evac_model.proofs.Bounds.{power_to_512_least}
use Rattle.evac_words.specs.Word.{frame_of}
use Rattle.core_state.specs.declared.held.Held.{Held}
use Rattle.core_state.specs.declared.view.View.{View}
use Rattle.core_state.specs.Words.{next_ticket_of, entry_word_of}
use Rattle.core_state.specs.Views.{maps_to}
use Rattle.core_state.specs.Parts.{uses, uses_of, drawn_as}
use Rattle.core_state.specs.Pages.{entry_with}
use Rattle.core_state.specs.Frames.{all_entry_words}
use Rattle.core_state.specs.Histories.{AllLetGo}
use Rattle.core_state.proofs.Cells.{at_entry}
use Rattle.core_state.proofs.Found.{entry_at-found}
use Rattle.core_state.proofs.Frames.{maps_to-one}
use Rattle.core_state.proofs.Lists.{sum_by_member, member_le_sum_by}
use Rattle.replay.specs.Keeping.{IsKept}
use Rattle.replay.specs.Running.{Running}
use Rattle.replay.specs.Runs.{opening, HaveEnded}
use Rattle.replay.specs.Shown.{MapsInside}
use Rattle.replay.proofs.EndedOwners.{let_go}

-- ---- each ticket has its entry

one_is_so : (b : Bool) → 0 < cond {A = ℕ} b 1 0 → b ≡ true
one_is_so true lt = refl
one_is_so false lt = absurd (omega arith)

has_ticket : (t : ℕ) (es : List Entry) → 0 < count_by (λ e. eqb e.ticket t) es → (p : ℕ) × (e : Entry) × (slice_get es p ≡ Some e) × (e.ticket ≡ t)
has_ticket t es some =
    let r = sum_by_member (λ (e : Entry). cond {A = ℕ} (eqb e.ticket t) 1 0) es some in
    (r.0, r.1, r.2, eqb-true r.1.ticket t (one_is_so (eqb r.1.ticket t) r.3))

some_there : (m : Option Entry) (e : Entry) → m ≡ Some e → IsSome m
some_there m e is = subst (λ (x : Option Entry). IsSome x) (sym is) refl

pub has_entry : (views : List View) (t : ℕ) → AllLetGo views → uses t views ≡ 1 → IsSome (entry_with t views)
has_entry views t go once =
    let r = sum_by_member (λ (v : View). uses_of t v) views (omega arith) in
    let none : drawn_as t r.1.held ≡ 0 = ap (λ (x : Option Held). drawn_as t x) (go r.0 r.1 r.2) in
    let more : 0 < uses_of t r.1 = r.3 in
    let e = has_ticket t r.1.entries (omega arith) in
    some_there (entry_with t views) e.1 (entry_at-found t views r.0 r.1 e.0 e.1 r.2 e.2 e.3 (omega arith))

pub each_ticket : (s : Scenario) (m : Running) → IsKept s m → HaveEnded m → (t : ℕ) → t < next_ticket_of m.world.snapshot.words → IsSome (entry_with t m.world.snapshot.views)
each_ticket s m kept ended t lt = has_entry m.world.snapshot.views t (let_go s m kept ended) (kept.world.sound.tickets.each_once t (omega arith) lt)

-- ---- pages can be read

pub maps_inside : (s : Scenario) (m : Running) → IsRunnable s → IsKept s m → MapsInside (opening s) m.world.snapshot.words
maps_inside s m runnable kept = record {
  long = kept.world.sound.shaped.long;
  small = record { pages = runnable.limits.pages.1; frames = runnable.limits.frames; cells = runnable.limits.total_cells };
  cells = power_to_512_least s.geometry.cells runnable.limits.cells;
  frames = λ page lt mapped.
      let w = entry_word_of m.world.snapshot.words page in
      dite (dec_le (opening s).frames (frame_of w))
      (λ le.
      let none = kept.world.sound.frames.no_other (frame_of w) le in
      let one = maps_to-one (frame_of w) w mapped refl in
      let some = member_le_sum_by (λ x. maps_to (frame_of w) x) (all_entry_words (opening s) m.world.snapshot.words) page w (at_entry (opening s) m.world.snapshot.words page kept.world.sound.shaped lt) in
      absurd (omega arith))
      (λ gt. omega arith);
}
