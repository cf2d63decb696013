-- The memory that a core is opened with is enough.
use Rattle.std.proofs.Common.{◌≡◌, ℕ, zero, suc, eqb, ◌+◌, ◌*◌, ◌^◌, ◌<◌, ◌≤◌, List, [], ◌∷◌, length, replicate, sum, get_or, sym, refl, ap, subst, ◌∙◌, arith, Option, Some, None}
use Rattle.std.specs.Prelude.{IsSomeAnd}
use Rattle.std.specs.List.{sum_by, count_by, AllByRecursion}
use Rattle.std.specs.FinMap.{insert, from_entries}
use Rattle.std.proofs.lemmas.List.{length-replicate, get_or-replicate}
use Rattle.std.proofs.lemmas.List.Folds.{sum_by-replicate}
use Rattle.std.proofs.lemmas.List.Sums.{sum_by-cons}
use Rattle.evac_model.specs.declared.names.FrameNo.{FrameNo}
use Rattle.evac_model.specs.declared.scenario.StartPage.{StartPage}
use Rattle.evac_model.specs.declared.entry.Entry.{Entry}
use Rattle.evac_model.specs.Geometry.{Sizes, IsWithinLimits, frame_count}
use Rattle.evac_model.specs.Page.{PlainPage, new_page}
use Rattle.evac_model.specs.State.{start_state}
use Rattle.evac_model.specs.StartPages.{IsStartPage, AreStartPages}
use Rattle.evac_model.specs.Tables.{numbered, table_map}
use Rattle.evac_model.proofs.Tables.{table_map-set_some}
use Rattle.core_state.specs.declared.noticed.Notice.{Notice}
use Rattle.core_state.specs.declared.opening.Opening.{Opening}
use Rattle.core_state.specs.declared.room.CellRoom.{CellRoom}
use Rattle.core_state.specs.declared.room.Room.{Room}
use Rattle.core_state.specs.declared.scan.Scan.{Scan}
use Rattle.core_state.specs.declared.scan.Swept.{Swept}
use Rattle.core_state.specs.declared.view.View.{View}
use Rattle.core_state.specs.Views.{Has, times_unmarked, times_in_hands}
use Rattle.core_state.specs.Parts.{all_left}
use Rattle.core_state.specs.Opens.{IsNew, Opens}
use Rattle.core_state.specs.Room.{drawn_for, due_of, spare_for, swept_in, IsCellRoom, IsSmall, HasRoom}
use Rattle.core_state.specs.CoreOpens.{start_pages, opening_of, opening_words, opening_views, unused_node, unused_cells, spare_at_start}
use Rattle.core_state.proofs.Lists.{sum_by_none, within}
use Rattle.core_state.proofs.Starts.{length-start_pages, length-spare_at_start}
use Rattle.core_state.proofs.CoreOpened.{budget, core_opens, spare_where_free}

sum_by_same : (f g : View → ℕ) (l : List View) → ((i : ℕ) (v : View) → Has l i v → f v ≡ g v) → sum_by f l ≡ sum_by g l
sum_by_same f g [] h = refl
sum_by_same f g (x ∷ xs) h = let a = sum_by-cons f x xs in let b = sum_by-cons g x xs in let c = h 0 x refl in let d = sum_by_same f g xs (λ i v e. h (suc i) v e) in omega arith

one_each : (n : ℕ) (l : List FrameNo) → length l ≡ 1 → sum_by (λ (m : List FrameNo). length m) (replicate n l) ≡ n
one_each n l e = sum_by-replicate (λ (m : List FrameNo). length m) n l ∙ ap (λ (k : ℕ). n * k) e ∙ omega arith

none_swept : {o : Opening} (v : View) → IsNew o v → swept_in v.scan ≡ 0
none_swept v new = by_scan v.scan refl where
  by_scan : (m : Option Scan) → v.scan ≡ m → swept_in v.scan ≡ 0
  by_scan None e = ap swept_in e
  by_scan (Some s) e = ap swept_in e ∙ ap (λ (l : List Swept). length l) (new.swept s e)

-- room for seats that have done nothing
pub new_room : (o : Opening) (views : List View) (r : Room) (node : List FrameNo) (c : CellRoom) → ((i : ℕ) (v : View) → Has views i v → IsNew o v) → IsSmall o
    → all_left views ≤ length r.entries → length r.entries < 2 ^ 34 → r.notices ≡ [] → r.notices_made ≡ 0
    → length node ≡ 1 → r.unmarked ≡ replicate o.frames node → IsCellRoom o.cells c → r.cells ≡ replicate (length views) (Some c)
    → length r.spare ≡ o.frames → ((f : ℕ) → f < o.frames → times_in_hands f views ≡ 0 → IsSomeAnd (spare_for r f) (λ known. length known ≡ o.cells)) → length r.swept ≡ o.frames → HasRoom o views r
new_room o views r node c new small left short none made one nodes room cells spares spare pool = record {
  small = small;
  entries = (let a = sum_by_same due_of (λ v. v.left) views (λ i v has. let b : drawn_for v.held ≡ 0 = ap (λ m. drawn_for m) (new i v has).held in omega arith) in omega arith);
  entries_short = (let a = sum_by_none (λ (v : View). length v.entries) views (λ i v has. ap (λ (l : List Entry). length l) (new i v has).entries) in omega arith);
  notices_short = (let a = sum_by_none (λ (v : View). length v.noticed.by_right) views (λ i v has. ap (λ (l : List Notice). length l) (new i v has).by_right) in let b = ap (λ (l : List Notice). length l) none in omega arith);
  notices_made = omega arith;
  frames = ap (λ (l : List (List FrameNo)). length l) nodes ∙ length-replicate o.frames node;
  nodes = λ f lt.
      let a = ap (λ (l : List (List FrameNo)). length (get_or l f [])) nodes in
      let b = ap (λ (l : List FrameNo). length l) (get_or-replicate o.frames f node [] lt) in
      let d = sum_by_none (λ v. times_unmarked f v) views (λ i v has. ap (λ (l : List FrameNo). count_by (λ x. eqb x.0 f) l) (new i v has).unmarked) in omega arith;
  nodes_short =
      (let a = sum_by_none (λ (v : View). length v.unmarked) views (λ i v has. ap (λ (l : List FrameNo). length l) (new i v has).unmarked) in
      let b = ap (λ (l : List (List FrameNo)). sum_by (λ (m : List FrameNo). length m) l) nodes in let d = one_each o.frames node one in let e = small.frames in omega arith);
  seats = ap (λ (l : List (Option CellRoom)). length l) cells ∙ length-replicate (length views) (Some c);
  free = λ seat v has free.
      subst (λ (m : Option CellRoom). IsSomeAnd m (IsCellRoom o.cells))
      (sym (ap (λ (l : List (Option CellRoom)). get_or l seat None) cells ∙ get_or-replicate (length views) seat (Some c) None (within views seat v has))) room;
  spares = spares;
  spare = spare;
  swept = (let a = sum_by_none (λ (v : View). swept_in v.scan) views (λ i v has. none_swept v (new i v has)) in omega arith);
  swept_low = λ seat v s has is. let a = ap (λ (l : List Swept). length l) ((new seat v has).swept s is) in omega arith;
}

pub core_room : (s : Sizes) (start : List StartPage) (budgets : List ℕ) (o : Opening) (views : List View) (r : Room) (n : ℕ) → IsWithinLimits s → AreStartPages s start → sum budgets < 2 ^ 33
    → o ≡ opening_of s start budgets → views ≡ opening_views s start budgets → length r.entries ≡ o.budget → r.notices ≡ [] → r.notices_made ≡ 0
    → r.unmarked ≡ replicate (frame_count s) unused_node → n ≡ length views → r.cells ≡ replicate n (Some (unused_cells s.cells)) → r.spare ≡ spare_at_start s start → length r.swept ≡ frame_count s → HasRoom o views r
core_room s start budgets o views r n w are few oe ve entries none made nodes seats cells spare swept =
    let e = ap (λ (q : Opening). q.budget) oe in
    let a = budget s w start budgets in
    subst (λ (q : Opening). HasRoom q views r) (sym oe)
    (subst (λ (vs : List View). HasRoom (opening_of s start budgets) vs r) (sym ve)
    (new_room (opening_of s start budgets) (opening_views s start budgets) r unused_node (unused_cells s.cells)
    (core_opens s w start budgets are few).new
    (record { pages = w.pages.1; frames = w.frames; cells = w.total_cells })
    (omega arith) (omega arith) none made refl nodes
    (record { loads = length-replicate s.cells None; stores = length-replicate s.cells None })
    (cells ∙ ap (λ m. replicate m (Some (unused_cells s.cells))) (seats ∙ ap (λ (vs : List View). length vs) ve))
    (ap (λ (l : List (Option (List (Option ℕ)))). length l) spare ∙ length-spare_at_start s start)
    (λ f lt free. subst (λ (m : Option (List (Option ℕ))). IsSomeAnd m (λ known. length known ≡ s.cells))
    (sym (ap (λ (l : List (Option (List (Option ℕ)))). get_or l f None) spare ∙ spare_where_free s w start budgets are f lt free))
    (length-replicate s.cells None))
    swept))

-- what a core is opened with is an opening
pub core_is_open : (s : Sizes) (start : List StartPage) (budgets : List ℕ) (o : Opening) (words : List ℕ) (views : List View) → IsWithinLimits s → AreStartPages s start → sum budgets < 2 ^ 33
    → o ≡ opening_of s start budgets → words ≡ opening_words s start → views ≡ opening_views s start budgets → Opens o words views
core_is_open s start budgets o words views w are few oe we ve =
    subst (λ (q : Opening). Opens q words views) (sym oe)
    (subst (λ (ws : List ℕ). Opens (opening_of s start budgets) ws views) (sym we)
    (subst (λ (vs : List View). Opens (opening_of s start budgets) (opening_words s start) vs) (sym ve) (core_opens s w start budgets are few)))

-- ---- the pages as the plain state

unnumbered : (n k : ℕ) → numbered {A = PlainPage} k (replicate n None) ≡ []
unnumbered zero k = refl
unnumbered (suc n) k = unnumbered n (k + 1)

-- the pages by their numbers are the plain state of the start
pub start_pages_plain : (s : Sizes) (ps : List StartPage) → AllByRecursion (IsStartPage s) ps → table_map (start_pages s ps) ≡ start_state s.cells ps
start_pages_plain s [] each = ap from_entries (unnumbered s.pages 0)
start_pages_plain s (p ∷ ps) each =
    table_map-set_some (start_pages s ps) p.page.0 (new_page s.cells p.kind) (let a = length-start_pages s ps in let b = each.0.page in omega arith)
    ∙ ap (λ st. insert st p.page.0 (new_page s.cells p.kind)) (start_pages_plain s ps each.1)
