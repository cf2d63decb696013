-- Each call on a page that was mapped is settled by what its holder knows exactly where each page that could
-- be the one that was taken answers its reply.
use Rattle.std.proofs.Common.{◌≡◌, ◌≢◌, ◌↔◌, ℕ, ◌+◌, ◌-◌, ◌%◌, ◌^◌, ◌<◌, ◌≤◌, ◌⊎◌, min, suc, List, [], ◌∷◌, ◌++◌, length, take, drop, get_or, set, length-set, length-take, length-drop, length-append, sym, refl, ap, ◌∙◌, subst, inl, inr, ⊎_elim, arith, Option, Some, None}
use Rattle.std.specs.List.{slice_get}
use Rattle.std.proofs.lemmas.Option.{slice_get-get_or, slice_get_past}
use Rattle.std.proofs.lemmas.List.{ext_get_or, get_or-set_same, get_or-set_other, get_or-take, get_or-drop, get_or_past, get_or_append_left, get_or-append_right, take-append-drop}
use Rattle.std.proofs.lemmas.Grind.{common_steps}
use mathlib.Core.Logic.{dite}
use native.Mathlib.Decide.{ℕ_discrete, dec_le}
use Rattle.evac_model.specs.declared.call.Call.{Call}
use Rattle.evac_model.specs.declared.call.Call.TheVariants.{Alloc, Free, Read, Write, Add, Pin, Unpin}
use Rattle.evac_model.specs.declared.reply.Reply.{Reply}
use Rattle.evac_model.specs.declared.reply.Reply.TheVariants.{Done, Values, Old, Mapped as PageMapped, Pinned, PinLimit, NotPinned}
use Rattle.evac_model.specs.Page.{PlainPage, Page}
use Rattle.evac_model.specs.Answer.{of_mapped, written}
use Rattle.evac_words.specs.Word.{pins_of}
use Rattle.core_state.specs.declared.held.Held.{Held}
use Rattle.core_state.specs.declared.opening.Opening.{Opening}
use Rattle.core_state.specs.Words.{kind_in}
use Rattle.core_state.specs.Pages.{number_or, page_cells, with_pins, left_as}
use Rattle.core_state.specs.Settled.{left_kind, Leaves, no_cell, value_at, one_cell, IsOld, AreInside, SettledMapped}
use Rattle.core_state.proofs.Pages.{page_cells-pins, length-left_as}
use Rattle.core_state.proofs.AllowedCells.{Gives, possible, cell_known, IsTaken, with_cells, leaves, kind_left, none_left}

-- ---- what calls want of cells

pub gives-no_cell : (n : ℕ) → Gives n (λ l. l) no_cell
gives-no_cell n = record { long = λ cells e. e; at = λ cells c e lt. refl }

gives-one_cell : (n at v : ℕ) → Gives n (λ l. set l at v) (one_cell at v)
gives-one_cell n at v = record {
  long = λ cells e. length-set cells at v ∙ e;
  at = λ cells c e lt. grind (arith, common_steps, get_or-set_same cells at v 0, get_or-set_other cells at c v 0);
}

value_at-before : (first : ℕ) (values : List ℕ) (c : ℕ) → c < first → value_at first values c ≡ None
value_at-before first values c lt = grind (arith, common_steps)

value_at-from : (first : ℕ) (values : List ℕ) (c : ℕ) → first ≤ c → value_at first values c ≡ slice_get values (c - first)
value_at-from first values c le = grind (arith, common_steps)

length-written : (first : ℕ) (values cells : List ℕ) → length (written first values cells) ≡ min first (length cells) + length values + (length cells - (first + length values))
length-written first values cells = omega (arith, length-append (take first cells ++ values) (drop (first + length values) cells), length-append (take first cells) values, length-take first cells, length-drop (first + length values) cells)

written_at : (first : ℕ) (values cells : List ℕ) (c : ℕ) → first + length values ≤ length cells → c < length cells → get_or (written first values cells) c 0 ≡ number_or (value_at first values c) (get_or cells c 0)
written_at first values cells c le lt =
    let e = length-append (take first cells) values in let f = length-take first cells in
    dite (dec_le (suc c) first)
    (λ p. get_or_append_left (take first cells ++ values) (drop (first + length values) cells) 0 c (omega arith)
    ∙ get_or_append_left (take first cells) values 0 c (omega arith) ∙ get_or-take first cells c 0 (omega arith)
    ∙ ap (λ (o : Option ℕ). number_or o (get_or cells c 0)) (sym (value_at-before first values c (omega arith))))
    (λ np. dite (dec_le (first + length values) c)
    (λ p. get_or-append_right (take first cells ++ values) (drop (first + length values) cells) (first + length values) c 0 (omega arith) p
    ∙ get_or-drop (first + length values) cells (c - (first + length values)) 0
    ∙ ap (λ (k : ℕ). get_or cells k 0) (omega arith)
    ∙ ap (λ (o : Option ℕ). number_or o (get_or cells c 0)) (sym (value_at-from first values c (omega arith) ∙ slice_get_past values (c - first) (omega arith))))
    (λ nq. get_or_append_left (take first cells ++ values) (drop (first + length values) cells) 0 c (omega arith)
    ∙ get_or-append_right (take first cells) values first c 0 (omega arith) (omega arith)
    ∙ ap (λ (o : Option ℕ). number_or o (get_or cells c 0)) (sym (value_at-from first values c (omega arith) ∙ slice_get-get_or values (c - first) 0 (omega arith)))))

gives-nothing : (n first : ℕ) → Gives n (written first []) (value_at first [])
gives-nothing n first = let same : (cells : List ℕ) → written first [] cells ≡ cells = (λ cells. grind (arith, common_steps, take-append-drop first cells)) in record {
  long = λ cells e. ap (λ (l : List ℕ). length l) (same cells) ∙ e;
  at = λ cells c e lt. ap (λ (l : List ℕ). get_or l c 0) (same cells) ∙ (let none : value_at first [] c ≡ None = grind (arith, common_steps) in ap (λ (o : Option ℕ). number_or o (get_or cells c 0)) (sym none));
}

gives-values : (o : Opening) (first : ℕ) (values : List ℕ) → AreInside o first values → Gives o.cells (written first values) (value_at first values)
gives-values o first values = ⊎_elim
    (λ e. subst (λ (v : List ℕ). Gives o.cells (written first v) (value_at first v)) (sym e) (gives-nothing o.cells first))
    (λ le. record { long = λ cells e. let l = length-written first values cells in omega arith; at = λ cells c e lt. written_at first values cells c (omega arith) (omega arith) })

-- what isn't inside makes the page longer
outside : (n first : ℕ) (values cells : List ℕ) → length cells ≡ n → length (written first values cells) ≡ n → (values ≡ []) ⊎ (first + length values ≤ n)
outside n first [] cells e f = inl refl
outside n first (x ∷ xs) cells e f = inr (let l = length-written first (x ∷ xs) cells in omega arith)

-- ---- a call on a page that was mapped

-- each page that could be taken answers so
abbrev pub AnsweredMapped : Opening → Held → Call → Reply → ℕ → Type 0
AnsweredMapped o h call reply pins = (q : PlainPage) → IsTaken o h q → of_mapped q call ≡ (reply, with_pins pins (left_as o.cells h (Some q)))

pub pair : (a b : Reply) (x y : Page) → a ≡ b → x ≡ y → ◌≡◌ {A = Reply × Page} (a, x) (b, y)
pair a b x y e f = ap (λ (r : Reply). (r, x)) e ∙ ap (λ (p : Page). (b, p)) f

-- one of two cases holds, and says which part is meant
either : {A B P R S X Y : Type 0} → A ⊎ B → (A → P ↔ (R × X)) → (B → P ↔ (S × Y)) → P ↔ ((A × R × X) ⊎ (B × S × Y))
either c x y = (
  (λ p. ⊎_elim (λ a. let r = (x a).0 p in inl (a, r.0, r.1)) (λ b. let r = (y b).0 p in inr (b, r.0, r.1)) c),
  (λ s. ⊎_elim (λ a. (x a.0).1 (a.1, a.2)) (λ b. (y b.0).1 (b.1, b.2)) s),
)

none_or_more : (n : ℕ) → (n ≡ 0) ⊎ (0 < n)
none_or_more n = dite (ℕ_discrete n 0) (λ e. inl e) (λ ne. inr (omega arith))

is_or_not : (n m : ℕ) → (n ≡ m) ⊎ (n ≢ m)
is_or_not n m = dite (ℕ_discrete n m) (λ e. inl e) (λ ne. inr ne)

module _ (o : Opening) (h : Held) (reply : Reply) (pins : ℕ) (q : PlainPage) (t : IsTaken o h q) where
  abbrev Leaving : (should : ℕ) (wanted : ℕ → Option ℕ) → Type 0
  Leaving should wanted = Leaves o h (kind_in h.found) pins should wanted

  -- a call that answers `answer` and leaves the cells so
  module _ (call : Call) (answer : PlainPage → Reply) (should : ℕ) (after : List ℕ → List ℕ) (wanted : ℕ → Option ℕ) (g : Gives o.cells after wanted)
      (answers : (p : PlainPage) → IsTaken o h p → of_mapped p call ≡ (answer p, Some (record p { cells = after p.cells; pins = should }))) where
    answered : AnsweredMapped o h call reply pins ↔ (((p : PlainPage) → IsTaken o h p → answer p ≡ reply) × Leaving should wanted)
    answered = let l = leaves o h pins should after wanted g q t in (
      (λ f. ((λ p s. ap (λ (x : Reply × Page). x.0) (sym (answers p s) ∙ f p s)), l.0 (λ p s. ap (λ (x : Reply × Page). x.1) (sym (f p s) ∙ answers p s)))),
      (λ s p u. answers p u ∙ pair (answer p) reply _ _ (s.0 p u) (sym (l.1 s.1 p u))),
    )

  -- one that answers the same of each page, and leaves the cells
  plain : (call : Call) (answer : Reply) (should : ℕ) → ((p : PlainPage) → IsTaken o h p → of_mapped p call ≡ (answer, Some (record p { pins = should }))) → AnsweredMapped o h call reply pins ↔ ((reply ≡ answer) × Leaving should no_cell)
  plain call answer should answers = let b = answered call (λ p. answer) should (λ l. l) no_cell (gives-no_cell o.cells) answers in
      ((λ f. let r = b.0 f in (sym (r.0 q t), r.1)), (λ s. b.1 ((λ p u. sym s.0), s.1)))

  freed : pins_of h.found ≡ 0 → AnsweredMapped o h Free reply pins ↔ ((reply ≡ Done) × (left_kind h ≡ None))
  freed z = let done : (p : PlainPage) → IsTaken o h p → of_mapped p Free ≡ (Done, None) = (λ p s. let e = s.pins in grind (arith, common_steps)) in
      let none = λ (p : PlainPage). none_left o.cells h.change h.stores p pins in (
        (λ f. let e = sym (done q t) ∙ f q t in (sym (ap (λ (x : Reply × Page). x.0) e), sym (kind_left o h q t) ∙ (none q).0 (sym (ap (λ (x : Reply × Page). x.1) e)))),
        (λ s p u. done p u ∙ pair Done reply None _ (sym s.0) (sym ((none p).1 (kind_left o h p u ∙ s.1)))),
      )

  -- ---- read

  length_read : (first count : ℕ) (p : PlainPage) → IsTaken o h p → length (take count (drop first p.cells)) ≡ min count (o.cells - first)
  length_read first count p s = let c = s.cells in let e = c.long in omega (arith, length-take count (drop first p.cells), length-drop first p.cells)

  read_at : (first count i : ℕ) (cells : List ℕ) → i < count → get_or (take count (drop first cells)) i 0 ≡ get_or cells (first + i) 0
  read_at first count i cells lt = get_or-take count (drop first cells) i 0 lt ∙ get_or-drop first cells i 0

  read : (first count : ℕ) → AnsweredMapped o h (Read first count) reply pins ↔ SettledMapped o h (kind_in h.found) (pins_of h.found) (Read first count) reply pins
  read first count = let b = answered (Read first count) (λ p. Values (take count (drop first p.cells))) (pins_of h.found) (λ l. l) no_cell (gives-no_cell o.cells) (λ p s. let e = s.pins in grind (arith, common_steps)) in (
    (λ f. let r = b.0 f in (
      (
        take count (drop first q.cells),
        sym (r.0 q t),
        record {
          long = length_read first count q t;
          known = λ i lt. let e = length_read first count q t in
              cell_known o h q.cells (first + i) (get_or (take count (drop first q.cells)) i 0) (omega arith) t.cells (λ other s.
              let values : take count (drop first other) ≡ take count (drop first q.cells) = (let v : Values (take count (drop first other)) ≡ Values (take count (drop first q.cells)) = r.0 (record q { cells = other }) (with_cells o h q other t s) ∙ sym (r.0 q t) in cc) in
              sym (read_at first count i other (omega arith)) ∙ ap (λ (l : List ℕ). get_or l i 0) values);
        },
      ),
      r.1,
    )),
    (λ s. let v = s.0 in let r = v.2 in b.1 (
      (λ p u. let e = r.long in let l = length_read first count p u in
          ap (λ (x : List ℕ). Values x) (ext_get_or 0 (take count (drop first p.cells)) v.0 (l ∙ sym e) (λ i lt. read_at first count i p.cells (omega arith) ∙ possible o h p.cells (first + i) u.cells (get_or v.0 i 0) (r.known i (omega arith)))) ∙ sym v.1),
      s.1,
    )),
  )

  -- ---- write

  write : (first : ℕ) (values : List ℕ) → AnsweredMapped o h (Write first values) reply pins ↔ SettledMapped o h (kind_in h.found) (pins_of h.found) (Write first values) reply pins
  write first values = let b = λ (inside : AreInside o first values). answered (Write first values) (λ p. Done) (pins_of h.found) (written first values) (value_at first values) (gives-values o first values inside) (λ p s. let e = s.pins in grind (arith, common_steps)) in (
    (λ f. let c = t.cells in
        let inside : AreInside o first values = outside o.cells first values q.cells c.long (ap (λ (x : Reply × Page). length (page_cells o.cells x.1)) (f q t) ∙ ap (λ (l : List ℕ). length l) (page_cells-pins o.cells pins (left_as o.cells h (Some q))) ∙ length-left_as o.cells h (Some q) c.long) in
        let r = (b inside).0 f in (sym (r.0 q t), inside, r.1)),
    (λ s. (b s.1).1 ((λ p u. sym s.0), s.2)),
  )

  -- ---- add

  old_is : (cell old : ℕ) → IsOld o h cell old → (p : PlainPage) → IsTaken o h p → get_or p.cells cell 0 ≡ old
  old_is cell old k p s = dite (dec_le o.cells cell)
      (λ le. let c = s.cells in let e = c.long in get_or_past p.cells cell 0 (omega arith) ∙ sym (k.past le))
      (λ lt. possible o h p.cells cell s.cells old (k.known (omega arith)))

  add : (cell value : ℕ) → AnsweredMapped o h (Add cell value) reply pins ↔ SettledMapped o h (kind_in h.found) (pins_of h.found) (Add cell value) reply pins
  add cell value = let b = λ (old : ℕ) (k : IsOld o h cell old). answered (Add cell value) (λ p. Old old) (pins_of h.found) (λ l. set l cell ((old + value) % 2 ^ 64)) (one_cell cell ((old + value) % 2 ^ 64)) (gives-one_cell o.cells cell ((old + value) % 2 ^ 64))
      (λ p s. ap (λ (x : ℕ). (Old x, Some (record p { cells = set p.cells cell ((x + value) % 2 ^ 64) }))) (old_is cell old k p s) ∙ ap (λ (n : ℕ). (Old old, Some (record p { cells = set p.cells cell ((old + value) % 2 ^ 64); pins = n }))) s.pins) in (
        (λ f. let old = get_or q.cells cell 0 in let c = t.cells in let e = c.long in
            let k : IsOld o h cell (get_or q.cells cell 0) = record {
              known = λ lt. cell_known o h q.cells cell (get_or q.cells cell 0) lt t.cells (λ other s.
                  let r : Old (get_or other cell 0) ≡ Old (get_or q.cells cell 0) = ap (λ (x : Reply × Page). x.0) (f (record q { cells = other }) (with_cells o h q other t s)) ∙ sym (ap (λ (x : Reply × Page). x.0) (f q t)) in cc);
              past = λ le. get_or_past q.cells cell 0 (omega arith);
            } in let r = (b old k).0 f in (old, sym (r.0 q t), k, r.1)),
        (λ s. (b s.0 s.2).1 ((λ p u. sym s.1), s.3)),
      )

  -- ---- any call

  pub mapped_settled : (call : Call) → AnsweredMapped o h call reply pins ↔ SettledMapped o h (kind_in h.found) (pins_of h.found) call reply pins
  mapped_settled (Alloc kind) = plain (Alloc kind) PageMapped (pins_of h.found) (λ p s. let e = s.pins in grind (arith, common_steps))
  mapped_settled Free = either (none_or_more (pins_of h.found)) freed (λ lt. plain Free Pinned (pins_of h.found) (λ p s. let e = s.pins in grind (arith, common_steps)))
  mapped_settled (Read first count) = read first count
  mapped_settled (Write first values) = write first values
  mapped_settled (Add cell value) = add cell value
  mapped_settled Pin = either (is_or_not (pins_of h.found) 63)
      (λ e. plain Pin PinLimit (pins_of h.found) (λ p s. let f = s.pins in grind (arith, common_steps)))
      (λ ne. plain Pin Done (pins_of h.found + 1) (λ p s. let f = s.pins in grind (arith, common_steps)))
  mapped_settled Unpin = either (none_or_more (pins_of h.found))
      (λ e. plain Unpin NotPinned (pins_of h.found) (λ p s. let f = s.pins in grind (arith, common_steps)))
      (λ lt. plain Unpin Done (pins_of h.found - 1) (λ p s. let f = s.pins in grind (arith, common_steps)))
