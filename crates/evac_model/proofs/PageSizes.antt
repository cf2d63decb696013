-- Pages keep the machine's number of cells, and at most 63 pins.
use Rattle.std.proofs.Common.{◌≡◌, ℕ, ◌+◌, ◌-◌, ◌≤◌, ◌==◌, Bool, true, false, cond, List, [], ◌∷◌, length, map, take, Option, None, Some, IfSome, refl, sym, subst, ◌∙◌, arith, length-append, length-drop}
use Rattle.std.proofs.lemmas.List.{length-take-le, length-set, length-replicate}
use Rattle.std.proofs.lemmas.Bool.{eq-eqb}
use Rattle.std.specs.List.{AllByRecursion}
use Rattle.std.specs.Ordering.{nat_cmp, eq_by_cmp}
use Rattle.std.specs.Cmp.{nat_cmp_total}
use Rattle.std.specs.FinMap.{get, find, get-insert, get-remove, get-from_entries}
use Rattle.evac_model.specs.declared.call.Call.{Call}
use Rattle.evac_model.specs.declared.call.Call.TheVariants.{Alloc, Free, Read, Write, Add, Pin, Unpin}
use Rattle.evac_model.specs.declared.reply.Reply.{Reply}
use Rattle.evac_model.specs.declared.reply.Reply.TheVariants.{Done, Pinned, PinLimit, NotPinned}
use Rattle.evac_model.specs.declared.scenario.StartPage.{StartPage}
use Rattle.evac_model.specs.declared.names.Kind.{Kind}
use Rattle.evac_model.specs.declared.entry.Entry.{Entry}
use Rattle.evac_model.specs.Geometry.{Sizes}
use Rattle.evac_model.specs.Page.{Page, PlainPage, IsPage, new_page}
use Rattle.evac_model.specs.State.{PlainState, page_at, with_page, start_state}
use Rattle.evac_model.specs.Answer.{answer, written}
use Rattle.evac_model.specs.Calls.{IsCallFor}
use Rattle.evac_model.specs.History.{after_entry, after_entries}

abbrev either : Bool → Reply × Page → Reply × Page → Reply × Page
either b x y = cond b x y

new_page_size : (n : ℕ) (kind : Kind) → IsPage n (new_page n kind)
new_page_size n kind = record { cells = length-replicate n 0; pins = omega arith }

pub written_size : (first : ℕ) (values cells : List ℕ) → first + length values ≤ length cells → length (written first values cells) ≡ length cells
written_size first values cells h =
    let front : length (take first cells) ≡ first = length-take-le first cells (omega arith) in
    omega (arith, front, length-append {A = ℕ}, length-drop {A = ℕ})

pinned_size : (m : PlainPage) (b : Bool) (n : ℕ) → (m.pins == 63) ≡ b → IsPage n m → IfSome (either b (PinLimit, Some m) (Done, Some (record m { pins = m.pins + 1 }))).1 (IsPage n)
pinned_size m true n e h = h
pinned_size m false n e h = record {
  cells = h.cells;
  pins =
      let below : m.pins ≡ 63 → ⊥ = λ same. (let both : true ≡ false = sym (eq-eqb m.pins 63 same) ∙ e in cc) in omega (arith, below, h.pins);
}

unpinned_size : (m : PlainPage) (b : Bool) (n : ℕ) → IsPage n m → IfSome (either b (NotPinned, Some m) (Done, Some (record m { pins = m.pins - 1 }))).1 (IsPage n)
unpinned_size m true n h = h
unpinned_size m false n h = record { cells = h.cells; pins = omega (arith, h.pins) }

freed_size : (m : PlainPage) (b : Bool) (n : ℕ) → IsPage n m → IfSome (either b (Done, None) (Pinned, Some m)).1 (IsPage n)
freed_size m true n h = tt
freed_size m false n h = h

answer_size : (s : Sizes) (page : Page) (call : Call) (refused : Option ℕ) → IsCallFor s call → IfSome page (IsPage s.cells) → IfSome (answer s.cells page call refused).1 (IsPage s.cells)
answer_size s None (Alloc kind) None fits h = new_page_size s.cells kind
answer_size s None (Alloc kind) (Some at) fits h = tt
answer_size s None Free refused fits h = tt
answer_size s None (Read first count) refused fits h = tt
answer_size s None (Write first values) refused fits h = tt
answer_size s None (Add cell value) refused fits h = tt
answer_size s None Pin refused fits h = tt
answer_size s None Unpin refused fits h = tt
answer_size s (Some m) (Alloc kind) refused fits h = h
answer_size s (Some m) Free refused fits h = freed_size m (m.pins == 0) s.cells h
answer_size s (Some m) (Read first count) refused fits h = h
answer_size s (Some m) (Write first values) refused fits h = record {
  cells = written_size first values m.cells (omega (arith, fits.2, h.cells)) ∙ h.cells;
  pins = h.pins;
}
answer_size s (Some m) (Add cell value) refused fits h = record {
  cells = length-set m.cells cell _ ∙ h.cells;
  pins = h.pins;
}
answer_size s (Some m) Pin refused fits h = pinned_size m (m.pins == 63) s.cells refl h
answer_size s (Some m) Unpin refused fits h = unpinned_size m (m.pins == 0) s.cells h

-- each page of a state is one of a machine with n cells in a page
abbrev pub AreInSize : ℕ → PlainState → Type 0
AreInSize n state = (k : ℕ) → IfSome (page_at state k) (IsPage n)

one_of : (n : ℕ) (b : Bool) (p q : Page) → IfSome p (IsPage n) → IfSome q (IsPage n) → IfSome (cond b p q) (IsPage n)
one_of n true p q hp hq = hp
one_of n false p q hp hq = hq

with_page_size : (n : ℕ) (state : PlainState) (k : ℕ) (p : Page) → AreInSize n state → IfSome p (IsPage n) → AreInSize n (with_page state k p)
with_page_size n state k None h hp q =
    subst (λ (x : Page). IfSome x (IsPage n)) (sym (get-remove nat_cmp_total state k q)) (one_of n (eq_by_cmp nat_cmp q k) None (get state q) tt (h q))
with_page_size n state k (Some m) h hp q =
    subst (λ (x : Page). IfSome x (IsPage n)) (sym (get-insert nat_cmp_total state k m q)) (one_of n (eq_by_cmp nat_cmp q k) (Some m) (get state q) hp (h q))

found_size : (n : ℕ) (start : List StartPage) (q : ℕ) → IfSome (find nat_cmp q (map (λ p. (p.page.0, new_page n p.kind)) start)) (IsPage n)
found_size n [] q = tt
found_size n (p ∷ start) q = one_of n (eq_by_cmp nat_cmp q p.page.0) (Some (new_page n p.kind)) _ (new_page_size n p.kind) (found_size n start q)

start_size : (n : ℕ) (start : List StartPage) → AreInSize n (start_state n start)
start_size n start q =
    subst (λ (x : Page). IfSome x (IsPage n)) (sym (get-from_entries nat_cmp_total (map (λ p. (p.page.0, new_page n p.kind)) start) q)) (found_size n start q)

pub after_entries_size : (s : Sizes) (state : PlainState) (entries : List Entry) → AllByRecursion (λ e. IsCallFor s e.call) entries → AreInSize s.cells state → AreInSize s.cells (after_entries s.cells state entries)
after_entries_size s state [] fits h = h
after_entries_size s state (e ∷ entries) fits h =
    after_entries_size s (after_entry s.cells state e) entries fits.1
    (with_page_size s.cells state e.page.0 _ h (answer_size s (page_at state e.page.0) e.call _ fits.0 (h e.page.0)))

pub after_start_size : (s : Sizes) (start : List StartPage) (entries : List Entry) → AllByRecursion (λ e. IsCallFor s e.call) entries → AreInSize s.cells (after_entries s.cells (start_state s.cells start) entries)
after_start_size s start entries fits = after_entries_size s (start_state s.cells start) entries fits (start_size s.cells start)
