-- What the page that was taken may be, and how its cells, kind and pins are left.
use Rattle.std.proofs.Common.{◌≡◌, ℕ, zero, suc, ◌<◌, List, [], ◌∷◌, length, get_or, set, length-set, sym, refl, ap, ◌∙◌, subst, arith, Option, Some, None, ◌↔◌, ◌/◌, ◌%◌}
use Rattle.std.specs.List.{slice_get}
use Rattle.std.proofs.lemmas.Option.{same_Some, none-some}
use Rattle.std.proofs.lemmas.List.{ext_get_or, get_or-set_same, get_or-set_other, get_or-replicate, length-replicate}
use Rattle.std.proofs.lemmas.Grind.{common_steps}
use Rattle.evac_model.specs.declared.names.Kind.{Kind}
use Rattle.evac_model.specs.Page.{zeros, PlainPage}
use Rattle.core_state.specs.declared.held.Change.{Change}
use Rattle.core_state.specs.declared.held.Change.TheVariants.{Kept, Moved, Mapped, Unmapped}
use Rattle.core_state.specs.declared.held.Held.{Held}
use Rattle.core_state.specs.declared.opening.Opening.{Opening}
use Rattle.core_state.specs.Pages.{number_or, patched, Agrees, page_cells, mapped_as, with_stores, with_pins, left_as, CouldBe}
use Rattle.core_state.specs.Settled.{taken_from, IsCellLeft, IsLeftWith, taken_cell, taken_kind, kind_after, left_kind, pins_kept, Leaves}
use Rattle.core_state.proofs.Pages.{length-patched}
use Rattle.evac_words.specs.Word.{mapped_bit, pins_of}
use Rattle.core_state.specs.Words.{kind_in}

-- ---- one cell

-- the number could be the one of the cell as it was taken
abbrev pub IsPossible : Option ℕ → ℕ → Type 0
IsPossible taken x = (y : ℕ) → taken ≡ Some y → x ≡ y

-- the cell's number before any store, where x was taken
abbrev pub based : Change → ℕ → ℕ
based Kept x = x
based Moved x = x
based (Mapped kind) x = 0
based Unmapped x = 0

abbrev pub IsOn : Change → Type 0
IsOn Kept = Unit {0}
IsOn Moved = Unit {0}
IsOn (Mapped kind) = Unit {0}
IsOn Unmapped = ⊥

-- where each number that is possible is left as it is wanted, the cell is left so
cell_forth : (c : Change) (s l w : Option ℕ) (x : ℕ) → IsOn c → IsPossible (taken_from c l) x → ((y : ℕ) → IsPossible (taken_from c l) y → number_or s (based c y) ≡ number_or w y) → IsCellLeft c s l w
cell_forth c s l w x on p f = grind (arith, common_steps, f x, f (number_or l 0), f (suc (number_or l 0)), f (suc (number_or w 0)), f (suc (number_or s 0)))

cell_back : (c : Change) (s l w : Option ℕ) (x : ℕ) → IsOn c → IsPossible (taken_from c l) x → IsCellLeft c s l w → number_or s (based c x) ≡ number_or w x
cell_back c s l w x on p k = grind (arith, common_steps)

-- where each number that is possible is this one, the cell is known
known_forth : (t : Option ℕ) (x : ℕ) → ((y : ℕ) → IsPossible t y → y ≡ x) → t ≡ Some x
known_forth t x f = grind (arith, common_steps, f (suc x), f (number_or t 0))

-- ---- lists of cells

pub get_or-patched : (ms : List (Option ℕ)) (xs : List ℕ) (c : ℕ) → c < length xs → get_or (patched ms xs) c 0 ≡ number_or (get_or ms c None) (get_or xs c 0)
get_or-patched [] xs c lt = refl
get_or-patched (m ∷ ms) [] c lt = absurd (omega arith)
get_or-patched (m ∷ ms) (x ∷ xs) zero lt = refl
get_or-patched (m ∷ ms) (x ∷ xs) (suc c) lt = get_or-patched ms xs c (omega arith)

pub known_at : (ms : List (Option ℕ)) (c x : ℕ) → get_or ms c None ≡ Some x → slice_get ms c ≡ Some (Some x)
known_at [] c x e = absurd (none-some x e)
known_at (m ∷ ms) zero x e = ap (λ (o : Option ℕ). Some o) e
known_at (m ∷ ms) (suc c) x e = known_at ms c x e

at_known : (ms : List (Option ℕ)) (c x : ℕ) → slice_get ms c ≡ Some (Some x) → get_or ms c None ≡ Some x
at_known [] c x e = absurd (none-some (Some x) e)
at_known (m ∷ ms) zero x e = same_Some m (Some x) e
at_known (m ∷ ms) (suc c) x e = at_known ms c x e

-- the cells in the page's frame before any store
abbrev pub base_cells : ℕ → Change → List ℕ → List ℕ
base_cells n Kept cells = cells
base_cells n Moved cells = cells
base_cells n (Mapped kind) cells = zeros n
base_cells n Unmapped cells = zeros n

abbrev pub cells_left : Opening → Held → List ℕ → List ℕ
cells_left o h cells = patched h.stores (base_cells o.cells h.change cells)

-- the cells could be those of the page that was taken
pub record AreTaken (o : Opening) (h : Held) (cells : List ℕ) : Type 0 where
  pub long : length cells ≡ o.cells
  pub loads : Agrees h.loads (base_cells o.cells h.change cells)

base_at : (n : ℕ) (c : Change) (cells : List ℕ) (i : ℕ) → i < n → get_or (base_cells n c cells) i 0 ≡ based c (get_or cells i 0)
base_at n c cells i lt = grind (arith, common_steps, get_or-replicate {A = ℕ} n i 0 0 lt)

length-left : (o : Opening) (h : Held) (cells : List ℕ) → length cells ≡ o.cells → length (cells_left o h cells) ≡ o.cells
length-left o h cells e = length-patched h.stores (base_cells o.cells h.change cells) ∙ size o.cells h.change e where
  size : (n : ℕ) (c : Change) → length cells ≡ n → length (base_cells n c cells) ≡ n
  size n c e = grind (arith, common_steps, length-replicate {A = ℕ} n 0)

left_at : (o : Opening) (h : Held) (cells : List ℕ) (c : ℕ) → length cells ≡ o.cells → c < o.cells
    → get_or (cells_left o h cells) c 0 ≡ number_or (get_or h.stores c None) (based h.change (get_or cells c 0))
left_at o h cells c e lt = get_or-patched h.stores (base_cells o.cells h.change cells) c (let f = length-left o h cells e in let g = length-patched h.stores (base_cells o.cells h.change cells) in omega arith)
    ∙ ap (λ (x : ℕ). number_or (get_or h.stores c None) x) (base_at o.cells h.change cells c lt)

-- each cell of a page that could be taken is possible
pub possible : (o : Opening) (h : Held) (cells : List ℕ) (c : ℕ) → AreTaken o h cells → IsPossible (taken_cell h c) (get_or cells c 0)
possible o h cells c t = by o.cells h.change t.loads where
  by : (n : ℕ) (change : Change) → Agrees h.loads (base_cells n change cells) → IsPossible (taken_from change (get_or h.loads c None)) (get_or cells c 0)
  by n change a = λ y e. grind (arith, common_steps, known_at h.loads c y, a c y)

agrees_set : (ms : List (Option ℕ)) (cells : List ℕ) (c x : ℕ) → c < length cells → Agrees ms cells → IsPossible (get_or ms c None) x → Agrees ms (set cells c x)
agrees_set ms cells c x lt a p d y e = grind (arith, common_steps, a d y e, p y, at_known ms d y e, get_or-set_same cells c x 0 lt, get_or-set_other cells c d x 0)

-- a page that could be taken still could be with another possible number in a cell
varied : (o : Opening) (h : Held) (cells : List ℕ) (c x : ℕ) → c < o.cells → AreTaken o h cells → IsPossible (taken_cell h c) x → AreTaken o h (set cells c x)
varied o h cells c x lt t p = let e = t.long in record { long = length-set cells c x ∙ e; loads = by o.cells h.change (omega arith) t.loads p } where
  by : (n : ℕ) (change : Change) → c < length cells → Agrees h.loads (base_cells n change cells) → IsPossible (taken_from change (get_or h.loads c None)) x → Agrees h.loads (base_cells n change (set cells c x))
  by n Kept low a p = agrees_set h.loads cells c x low a p
  by n Moved low a p = agrees_set h.loads cells c x low a p
  by n (Mapped kind) low a p = a
  by n Unmapped low a p = a

-- ---- cells that are wanted

-- the cells afterwards have what is wanted, or what they had
pub record Gives (n : ℕ) (after : List ℕ → List ℕ) (wanted : ℕ → Option ℕ) : Type 0 where
  pub long : (cells : List ℕ) → length cells ≡ n → length (after cells) ≡ n
  pub at : (cells : List ℕ) (c : ℕ) → length cells ≡ n → c < n → get_or (after cells) c 0 ≡ number_or (wanted c) (get_or cells c 0)

module _ (o : Opening) (h : Held) (after : List ℕ → List ℕ) (wanted : ℕ → Option ℕ) (on : IsOn h.change) (g : Gives o.cells after wanted) where
  pub cells_forth : (cells : List ℕ) → AreTaken o h cells → ((other : List ℕ) → AreTaken o h other → cells_left o h other ≡ after other) → (c : ℕ) → c < o.cells → IsLeftWith h c (wanted c)
  cells_forth cells t f c lt = let e = t.long in
      cell_forth h.change (get_or h.stores c None) (get_or h.loads c None) (wanted c) (get_or cells c 0) on (possible o h cells c t) (λ y p.
      let v = varied o h cells c y lt t p in
      let here : get_or (set cells c y) c 0 ≡ y = get_or-set_same cells c y 0 (omega arith) in
      subst (λ (x : ℕ). number_or (get_or h.stores c None) (based h.change x) ≡ number_or (wanted c) x) here
      (sym (left_at o h (set cells c y) c v.long lt) ∙ ap (λ (l : List ℕ). get_or l c 0) (f (set cells c y) v) ∙ g.at (set cells c y) c v.long lt))

  pub cells_back : (cells : List ℕ) → AreTaken o h cells → ((c : ℕ) → c < o.cells → IsLeftWith h c (wanted c)) → cells_left o h cells ≡ after cells
  cells_back cells t k = ext_get_or 0 (cells_left o h cells) (after cells) (length-left o h cells t.long ∙ sym (g.long cells t.long)) (λ c lt.
      let low : c < o.cells = (let e = length-left o h cells t.long in omega arith) in
      left_at o h cells c t.long low
      ∙ cell_back h.change (get_or h.stores c None) (get_or h.loads c None) (wanted c) (get_or cells c 0) on (possible o h cells c t) (k c low)
      ∙ sym (g.at cells c t.long low))

-- a cell that is the same in every page that could be taken is known
pub cell_known : (o : Opening) (h : Held) (cells : List ℕ) (c x : ℕ) → c < o.cells → AreTaken o h cells → ((other : List ℕ) → AreTaken o h other → get_or other c 0 ≡ x) → taken_cell h c ≡ Some x
cell_known o h cells c x lt t f = known_forth (taken_cell h c) x (λ y p. let e = t.long in
    sym (get_or-set_same cells c y 0 (omega arith)) ∙ f (set cells c y) (varied o h cells c y lt t p))

-- ---- the word found

pub taken_kind-mapped : (h : Held) → mapped_bit h.found ≡ 1 → taken_kind h ≡ Some (kind_in h.found)
taken_kind-mapped h e = grind (arith, common_steps)

pub taken_kind-unmapped : (h : Held) → h.found / 2 % 536870912 ≡ 0 → taken_kind h ≡ None
taken_kind-unmapped h e = grind (arith, common_steps)

-- ---- pages that could be taken, where the word found was mapped

-- the page is of the kind and has the pins of the word found, and its cells could be those taken
pub record IsTaken (o : Opening) (h : Held) (q : PlainPage) : Type 0 where
  pub mapped : mapped_bit h.found ≡ 1
  pub kind : q.kind ≡ kind_in h.found
  pub pins : q.pins ≡ pins_of h.found
  pub cells : AreTaken o h q.cells

base_page : (n : ℕ) (c : Change) (q : PlainPage) → page_cells n (mapped_as n c (Some q)) ≡ base_cells n c q.cells
base_page n c q = grind (arith, common_steps)

pub is_taken : (o : Opening) (h : Held) (q : PlainPage) → CouldBe o h (Some q) ↔ IsTaken o h q
is_taken o h q = let base = base_page o.cells h.change q in (
  (λ c. let f = c.flags in record { mapped = f.0; kind = sym f.1; pins = sym f.2; cells = record { long = c.sized; loads = rw (sym base) c.loads } }),
  (λ t. let s = t.cells in record { flags = (t.mapped, sym t.kind, sym t.pins); loads = rw base s.loads; sized = s.long }),
)

pub with_cells : (o : Opening) (h : Held) (q : PlainPage) (cells : List ℕ) → IsTaken o h q → AreTaken o h cells → IsTaken o h (record q { cells = cells })
with_cells o h q cells t s = record { mapped = t.mapped; kind = t.kind; pins = t.pins; cells = s }

-- ---- the page that is left

-- the page that is left where q was taken, with these pins
left_page : (n : ℕ) (c : Change) (stores : List (Option ℕ)) (q : PlainPage) (pins : ℕ) (kind : Kind) → IsOn c → kind_after c (Some q.kind) ≡ Some kind
    → with_pins pins (with_stores stores (mapped_as n c (Some q))) ≡ Some (record { cells = patched stores (base_cells n c q.cells); kind = kind; pins = pins })
left_page n c stores q pins kind on e = grind (arith, common_steps)

on_after : (c : Change) (k : Option Kind) (kind : Kind) → kind_after c k ≡ Some kind → IsOn c
on_after c k kind e = grind (arith, common_steps)

left_some : (n : ℕ) (c : Change) (stores : List (Option ℕ)) (q p : PlainPage) (pins : ℕ) → with_pins pins (with_stores stores (mapped_as n c (Some q))) ≡ Some p → IsOn c × (kind_after c (Some q.kind) ≡ Some p.kind)
left_some n c stores q p pins e = grind (arith, common_steps)

-- the kind left, where the page taken was of that kind
pub kind_left : (o : Opening) (h : Held) (q : PlainPage) → IsTaken o h q → kind_after h.change (Some q.kind) ≡ left_kind h
kind_left o h q t = ap (λ (k : Option Kind). kind_after h.change k) (ap (λ (k : Kind). Some k) t.kind ∙ sym (taken_kind-mapped h t.mapped))

module _ (o : Opening) (h : Held) (pins should : ℕ) (after : List ℕ → List ℕ) (wanted : ℕ → Option ℕ) (g : Gives o.cells after wanted) where
  -- each page that could be taken is left as it should be, where the holder leaves it so
  leaves_back : Leaves o h (kind_in h.found) pins should wanted → (q : PlainPage) → IsTaken o h q → with_pins pins (left_as o.cells h (Some q)) ≡ Some (record q { cells = after q.cells; pins = should })
  leaves_back l q t =
      let on = on_after h.change (taken_kind h) (kind_in h.found) l.kind_is in
      left_page o.cells h.change h.stores q pins q.kind on (kind_left o h q t ∙ l.kind_is ∙ ap (λ (k : Kind). Some k) (sym t.kind))
      ∙ ap (λ (x : List ℕ). Some (record { cells = x; kind = q.kind; pins = pins })) (cells_back o h after wanted on g q.cells t.cells l.cells)
      ∙ ap (λ (n : ℕ). Some (record { cells = after q.cells; kind = q.kind; pins = n })) l.pins_are

  leaves_forth : (q : PlainPage) → IsTaken o h q → ((p : PlainPage) → IsTaken o h p → with_pins pins (left_as o.cells h (Some p)) ≡ Some (record p { cells = after p.cells; pins = should })) → Leaves o h (kind_in h.found) pins should wanted
  leaves_forth q t f = let r = left_some o.cells h.change h.stores q _ pins (f q t) in
      let page = λ (p : PlainPage) (s : IsTaken o h p). same_Some _ _ (sym (left_page o.cells h.change h.stores p pins q.kind r.0 (kind_left o h p s ∙ sym (kind_left o h q t) ∙ r.1)) ∙ f p s) in
      record {
        kind_is = sym (kind_left o h q t) ∙ r.1 ∙ ap (λ (k : Kind). Some k) t.kind;
        pins_are = ap (λ (x : PlainPage). x.pins) (page q t);
        cells = cells_forth o h after wanted r.0 g q.cells t.cells (λ other s. ap (λ (x : PlainPage). x.cells) (page (record q { cells = other }) (with_cells o h q other t s)));
      }

  pub leaves : (q : PlainPage) → IsTaken o h q → ((p : PlainPage) → IsTaken o h p → with_pins pins (left_as o.cells h (Some p)) ≡ Some (record p { cells = after p.cells; pins = should })) ↔ Leaves o h (kind_in h.found) pins should wanted
  leaves q t = (leaves_forth q t, leaves_back)

-- the page is left as the holder leaves it with the pins that the change leaves
pub with_pins-kept : (o : Opening) (h : Held) (q : PlainPage) → with_pins (pins_kept h.change q.pins) (left_as o.cells h (Some q)) ≡ left_as o.cells h (Some q)
with_pins-kept o h q = by h.change where
  by : (c : Change) → with_pins (pins_kept c q.pins) (with_stores h.stores (mapped_as o.cells c (Some q))) ≡ with_stores h.stores (mapped_as o.cells c (Some q))
  by c = grind (arith, common_steps)

-- ---- a page that is left unmapped

pub none_left : (n : ℕ) (c : Change) (stores : List (Option ℕ)) (q : PlainPage) (pins : ℕ) → (with_pins pins (with_stores stores (mapped_as n c (Some q))) ≡ None) ↔ (kind_after c (Some q.kind) ≡ None)
none_left n c stores q pins = (λ e. grind (arith, common_steps), λ e. grind (arith, common_steps))
