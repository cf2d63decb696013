-- A page that was unmapped, and any page. A sound snapshot has, for each page that is held, a page that could
-- be the one that was taken.
use Rattle.std.proofs.Common.{◌≡◌, ◌↔◌, ℕ, ◌/◌, ◌%◌, ◌<◌, List, length, get_or, sym, refl, ap, ◌∙◌, subst, inl, inr, ⊎_elim, arith, Option, Some, None, ◌≤◌, Bool, IsTrue, IsSome}
use Rattle.std.proofs.lemmas.Option.{same_Some, none-some}
use Rattle.std.proofs.lemmas.List.{ext_get_or, get_or-replicate, length-replicate}
use Rattle.std.proofs.lemmas.Grind.{common_steps}
use Rattle.evac_model.specs.declared.names.Kind.{Kind}
use Rattle.evac_model.specs.declared.call.Call.{Call}
use Rattle.evac_model.specs.declared.call.Call.TheVariants.{Alloc, Free, Read, Write, Add, Pin, Unpin}
use Rattle.evac_model.specs.declared.reply.Reply.{Reply}
use Rattle.evac_model.specs.declared.reply.Reply.TheVariants.{Done, Values, Old, Mapped as PageMapped, NotMapped, Pinned, PinLimit, NotPinned, NoFrame}
use Rattle.evac_model.specs.Page.{PlainPage, Page, zeros, new_page}
use Rattle.evac_words.specs.Word.{mapped_bit, pins_of, moving_bit}
use Rattle.core_state.specs.declared.held.Change.{Change}
use Rattle.core_state.specs.declared.held.Change.TheVariants.{Kept, Moved, Mapped, Unmapped}
use Rattle.core_state.specs.declared.held.Held.{Held}
use Rattle.core_state.specs.declared.opening.Opening.{Opening}
use Rattle.core_state.specs.Words.{kind_in}
use Rattle.core_state.specs.Pages.{answer_at, number_or, patched, mapped_as, with_stores, with_pins, left_as, CouldBe, Answered, Untouched, page_now}
use Rattle.core_state.specs.Settled.{IsCellLeft, kind_after, left_kind, taken_kind, pins_kept, Leaves, zero_cells, no_cell, SettledUnmapped, SettledFrom, Settled, SameFrom, IsLeftSame, HasPage}
use Rattle.core_state.proofs.Pages.{length-patched, could_be}
use Rattle.core_state.proofs.AllowedCells.{get_or-patched, IsTaken, is_taken, taken_kind-mapped, taken_kind-unmapped, leaves, with_pins-kept}
use Rattle.core_state.proofs.AllowedCalls.{gives-no_cell, pair, mapped_settled}
use Rattle.core_state.specs.declared.step.CallDone.{CallDone}
use Rattle.core_state.specs.declared.view.View.{View}
use Rattle.core_state.specs.Views.{Has, right_to}
use Rattle.core_state.specs.Sound.{Sound}
use Rattle.core_state.specs.Steps.{pins_after, MayLetGo, MayEnd}

-- ---- a page that was unmapped

-- what is left of an unmapped page
none_left : (n : ℕ) (c : Change) (stores : List (Option ℕ)) (pins : ℕ) → (with_pins pins (with_stores stores (mapped_as n c None)) ≡ None) ↔ (kind_after c None ≡ None)
none_left n c stores pins = (λ e. grind (arith, common_steps), λ e. grind (arith, common_steps))

fresh_at : (n : ℕ) (stores : List (Option ℕ)) (c : ℕ) → c < n → get_or (patched stores (zeros n)) c 0 ≡ number_or (get_or stores c None) 0
fresh_at n stores c lt = get_or-patched stores (zeros n) c (let e : length (zeros n) ≡ n = length-replicate n 0 in omega arith) ∙ ap (λ (x : ℕ). number_or (get_or stores c None) x) (get_or-replicate n c 0 0 lt)

-- the page is left as a new one
new_forth : (n : ℕ) (c : Change) (stores loads : List (Option ℕ)) (pins : ℕ) (kind : Kind) → with_pins pins (with_stores stores (mapped_as n c None)) ≡ Some (new_page n kind)
    → (kind_after c None ≡ Some kind) × (pins ≡ 0) × ((cell : ℕ) → cell < n → IsCellLeft c (get_or stores cell None) (get_or loads cell None) (Some 0))
new_forth n Kept stores loads pins kind e = absurd (none-some _ e)
new_forth n Moved stores loads pins kind e = absurd (none-some _ e)
new_forth n (Mapped new) stores loads pins kind e = let p = same_Some _ _ e in (
  ap (λ (x : PlainPage). Some x.kind) p,
  ap (λ (x : PlainPage). x.pins) p,
  λ cell lt. let z : number_or (get_or stores cell None) 0 ≡ 0 = sym (fresh_at n stores cell lt) ∙ ap (λ (x : PlainPage). get_or x.cells cell 0) p ∙ get_or-replicate n cell 0 0 lt in grind (arith, common_steps),
)
new_forth n Unmapped stores loads pins kind e = absurd (none-some _ e)

new_back : (n : ℕ) (c : Change) (stores loads : List (Option ℕ)) (pins : ℕ) (kind : Kind) → kind_after c None ≡ Some kind → pins ≡ 0
    → ((cell : ℕ) → cell < n → IsCellLeft c (get_or stores cell None) (get_or loads cell None) (Some 0)) → with_pins pins (with_stores stores (mapped_as n c None)) ≡ Some (new_page n kind)
new_back n Kept stores loads pins kind e z k = absurd (none-some kind e)
new_back n Moved stores loads pins kind e z k = absurd (none-some kind e)
new_back n (Mapped new) stores loads pins kind e z k =
    ap (λ (l : List ℕ). Some (record { cells = l; kind = new; pins = pins })) (ext_get_or 0 (patched stores (zeros n)) (zeros n) (length-patched stores (zeros n)) (λ c lt.
    let low : c < n = (let f = length-patched stores (zeros n) in let g : length (zeros n) ≡ n = length-replicate n 0 in omega arith) in
    let zero : number_or (get_or stores c None) 0 ≡ 0 = (let a = k c low in grind (arith, common_steps)) in
    fresh_at n stores c low ∙ zero ∙ sym (get_or-replicate n c 0 0 low)))
    ∙ ap (λ (x : Kind). Some (record { cells = zeros n; kind = x; pins = pins })) (same_Some new kind e)
    ∙ ap (λ (x : ℕ). Some (record { cells = zeros n; kind = kind; pins = x })) z
new_back n Unmapped stores loads pins kind e z k = absurd (none-some kind e)

abbrev AnsweredUnmapped : Opening → Held → Call → Reply → ℕ → Type 0
AnsweredUnmapped o h call reply pins = answer_at o.cells None call reply ≡ (reply, with_pins pins (left_as o.cells h None))

-- the word found says that the page was unmapped
module _ (o : Opening) (h : Held) (pins : ℕ) (was : taken_kind h ≡ None) where
  kind_is : left_kind h ≡ kind_after h.change None
  kind_is = ap (λ (k : Option Kind). kind_after h.change k) was

  -- a call that answers `answer`, and leaves the page unmapped
  left_out : (answer reply : Reply) → ◌≡◌ {A = Reply × Page} (answer, None) (reply, with_pins pins (left_as o.cells h None)) ↔ ((reply ≡ answer) × (left_kind h ≡ None))
  left_out answer reply = let n = none_left o.cells h.change h.stores pins in (
    (λ e. (sym (ap (λ (x : Reply × Page). x.0) e), kind_is ∙ n.0 (sym (ap (λ (x : Reply × Page). x.1) e)))),
    (λ s. pair answer reply None _ (sym s.0) (sym (n.1 (sym kind_is ∙ s.1)))),
  )

  fresh : (kind : Kind) (reply : Reply) → ◌≡◌ {A = Reply × Page} (Done, Some (new_page o.cells kind)) (reply, with_pins pins (left_as o.cells h None)) ↔ ((reply ≡ Done) × Leaves o h kind pins 0 zero_cells)
  fresh kind reply = (
    (λ e. let r = new_forth o.cells h.change h.stores h.loads pins kind (sym (ap (λ (x : Reply × Page). x.1) e)) in
        (sym (ap (λ (x : Reply × Page). x.0) e), record { kind_is = kind_is ∙ r.0; pins_are = r.1; cells = r.2 })),
    (λ s. let l = s.1 in pair Done reply (Some (new_page o.cells kind)) _ (sym s.0) (sym (new_back o.cells h.change h.stores h.loads pins kind (sym kind_is ∙ l.kind_is) l.pins_are l.cells))),
  )

  alloc_forth : (kind : Kind) (reply : Reply) → AnsweredUnmapped o h (Alloc kind) reply pins → SettledUnmapped o h (Alloc kind) reply pins
  alloc_forth kind Done e = inl ((fresh kind Done).0 e)
  alloc_forth kind (Values values) e = inl ((fresh kind (Values values)).0 e)
  alloc_forth kind (Old old) e = inl ((fresh kind (Old old)).0 e)
  alloc_forth kind PageMapped e = inl ((fresh kind PageMapped).0 e)
  alloc_forth kind NotMapped e = inl ((fresh kind NotMapped).0 e)
  alloc_forth kind Pinned e = inl ((fresh kind Pinned).0 e)
  alloc_forth kind PinLimit e = inl ((fresh kind PinLimit).0 e)
  alloc_forth kind NotPinned e = inl ((fresh kind NotPinned).0 e)
  alloc_forth kind (NoFrame at) e = inr ((at, refl), ((left_out (NoFrame at) (NoFrame at)).0 e).1)

  alloc_back : (kind : Kind) (reply : Reply) → SettledUnmapped o h (Alloc kind) reply pins → AnsweredUnmapped o h (Alloc kind) reply pins
  alloc_back kind reply = ⊎_elim
      (λ d. subst (λ (r : Reply). AnsweredUnmapped o h (Alloc kind) r pins) (sym d.0) ((fresh kind Done).1 (refl, d.1)))
      (λ d. let n = d.0 in subst (λ (r : Reply). AnsweredUnmapped o h (Alloc kind) r pins) (sym n.1) ((left_out (NoFrame n.0) (NoFrame n.0)).1 (refl, d.1)))

  unmapped_settled : (call : Call) (reply : Reply) → AnsweredUnmapped o h call reply pins ↔ SettledUnmapped o h call reply pins
  unmapped_settled (Alloc kind) reply = (alloc_forth kind reply, alloc_back kind reply)
  unmapped_settled Free reply = left_out NotMapped reply
  unmapped_settled (Read first count) reply = left_out NotMapped reply
  unmapped_settled (Write first values) reply = left_out NotMapped reply
  unmapped_settled (Add cell value) reply = left_out NotMapped reply
  unmapped_settled Pin reply = left_out NotMapped reply
  unmapped_settled Unpin reply = left_out NotMapped reply

-- ---- any page

-- A page that was unmapped isn't the one taken, where the word found is mapped, and the other way round.
apart : (h : Held) → mapped_bit h.found ≡ 1 → h.found / 2 % 536870912 ≡ 0 → ⊥
apart h e f = omega arith

-- what holds of each page that could be the one taken, where one of them is mapped, or unmapped
module _ (o : Opening) (h : Held) (P : Page → Type 0) where
  of_each_mapped : (q : PlainPage) → IsTaken o h q → ((m : Page) → CouldBe o h m → P m) ↔ ((p : PlainPage) → IsTaken o h p → P (Some p))
  of_each_mapped q t = ((λ f p s. f (Some p) ((is_taken o h p).1 s)), by) where
    by : ((p : PlainPage) → IsTaken o h p → P (Some p)) → (m : Page) → CouldBe o h m → P m
    by f None c = absurd (apart h t.mapped c.flags)
    by f (Some p) c = f p ((is_taken o h p).0 c)

  of_none : CouldBe o h None → ((m : Page) → CouldBe o h m → P m) ↔ P None
  of_none c = ((λ f. f None c), by) where
    by : P None → (m : Page) → CouldBe o h m → P m
    by p None d = p
    by p (Some q) d = absurd (let t = (is_taken o h q).0 d in apart h t.mapped c.flags)

chain : {A B C : Type 0} → (A ↔ B) → (B ↔ C) → A ↔ C
chain a b = ((λ x. b.0 (a.0 x)), (λ x. a.1 (b.1 x)))

pub answered_is_settled : (o : Opening) (h : Held) (m : Page) (call : Call) (reply : Reply) (pins : ℕ) → CouldBe o h m → Answered o h call reply pins ↔ Settled o h call reply pins
answered_is_settled o h None call reply pins c = let was = taken_kind-unmapped h c.flags in
    subst (λ (k : Option Kind). Answered o h call reply pins ↔ SettledFrom o h k call reply pins) (sym was)
    (chain (of_none o h (λ m. answer_at o.cells m call reply ≡ (reply, with_pins pins (left_as o.cells h m))) c) (unmapped_settled o h pins was call reply))
answered_is_settled o h (Some q) call reply pins c = let t = (is_taken o h q).0 c in
    subst (λ (k : Option Kind). Answered o h call reply pins ↔ SettledFrom o h k call reply pins) (sym (taken_kind-mapped h t.mapped))
    (chain (of_each_mapped o h (λ m. answer_at o.cells m call reply ≡ (reply, with_pins pins (left_as o.cells h m))) q t) (mapped_settled o h reply pins q t call))

-- ---- without a call

same_mapped : (o : Opening) (h : Held) (q : PlainPage) → IsTaken o h q → ((p : PlainPage) → IsTaken o h p → left_as o.cells h (Some p) ≡ Some p) ↔ Leaves o h (kind_in h.found) (pins_kept h.change (pins_of h.found)) (pins_of h.found) no_cell
same_mapped o h q t = let kept = λ (p : PlainPage) (s : IsTaken o h p). ap (λ (n : ℕ). with_pins (pins_kept h.change n) (left_as o.cells h (Some p))) (sym s.pins) ∙ with_pins-kept o h p in
    let same = λ (p : PlainPage) (s : IsTaken o h p). ap (λ (n : ℕ). Some (record p { pins = n })) s.pins in
    chain ((λ f p s. kept p s ∙ f p s ∙ same p s), (λ f p s. sym (kept p s) ∙ f p s ∙ sym (same p s)))
    (leaves o h (pins_kept h.change (pins_of h.found)) (pins_of h.found) (λ l. l) no_cell (gives-no_cell o.cells) q t)

pub untouched_is_left_same : (o : Opening) (h : Held) (m : Page) → CouldBe o h m → Untouched o h ↔ IsLeftSame o h
untouched_is_left_same o h None c = let was = taken_kind-unmapped h c.flags in
    let n : (left_as o.cells h None ≡ None) ↔ (left_kind h ≡ None) = rw (kind_is o h 0 was) (by h.change) in
    subst (λ (k : Option Kind). Untouched o h ↔ SameFrom o h k) (sym was) (chain (of_none o h (λ m. left_as o.cells h m ≡ m) c) n) where
      by : (c : Change) → (with_stores h.stores (mapped_as o.cells c None) ≡ None) ↔ (kind_after c None ≡ None)
      by c = (λ e. grind (arith, common_steps), λ e. grind (arith, common_steps))
untouched_is_left_same o h (Some q) c = let t = (is_taken o h q).0 c in
    subst (λ (k : Option Kind). Untouched o h ↔ SameFrom o h k) (sym (taken_kind-mapped h t.mapped))
    (chain (of_each_mapped o h (λ m. left_as o.cells h m ≡ m) q t) (same_mapped o h q t))

pub has_page : (o : Opening) (words : List ℕ) (views : List View) (i : ℕ) (v : View) → Sound o words views → Has views i v → HasPage o v
has_page o words views i v s at h holds = let t = s.turn in let p = s.pages in let mine = t.held_word i v h at holds in
    (page_now o words views h.page.0, could_be o words h (page_now o words views h.page.0) (p.held i v h at holds) (p.sized h.page.0 mine.0))

-- a page that is let go without an entry
pub let_go : (o : Opening) (v : View) (h : Held) (m : Page) (b : Bool) → moving_bit h.word ≡ 0 → h.ticket ≡ None → 0 < right_to h.page.0 v → (IsTrue b ↔ IsLeftSame o h) → CouldBe o h m → IsTrue b ↔ MayLetGo o v h
let_go o v h m b still undrawn right same c = let u = untouched_is_left_same o h m c in (
  (λ t. record { still = still; undrawn = undrawn; right = right; untouched = u.1 (same.0 t) }),
  (λ g. same.1 (u.0 g.untouched)),
)

-- a page that is let go with the entry of a call
pub end : (o : Opening) (d : CallDone) (h : Held) (m : Page) (b : Bool) (pins : ℕ) → pins ≡ pins_after d.call d.reply (pins_of h.word) → moving_bit h.word ≡ 0 → IsSome h.ticket → pins ≤ 63
    → (IsTrue b ↔ Settled o h d.call d.reply pins) → CouldBe o h m → IsTrue b ↔ MayEnd o d h
end o d h m b pins is still drawn fits settled c = let a = answered_is_settled o h m d.call d.reply pins c in (
  (λ t. record { still = still; drawn = drawn; pins_fit = subst (λ (p : ℕ). p ≤ 63) is fits; answered = subst (λ (p : ℕ). Answered o h d.call d.reply p) is (a.1 (settled.0 t)) }),
  (λ g. settled.1 (a.0 (subst (λ (p : ℕ). Answered o h d.call d.reply p) (sym is) g.answered))),
)
