-- What an owner's seat has at the place behind each action.
use Rattle.std.proofs.Common.{◌≡◌, ◌≢◌, ℕ, zero, suc, eq-eqb, eqb-true, ne_eqb, ◌≤◌, ◌==◌, ◌&&◌, nat_lt, Bool, true, false, List, [], ◌∷◌, length, take, refl, sym, ap, ◌∙◌, subst, arith, bit_or, Option, Some, None, if◌then◌else◌}
use Rattle.std.proofs.lemmas.Bool.Decides.{nat_tests}
use Rattle.evac_model.specs.declared.names.FrameNo.{FrameNo}
use Rattle.evac_model.specs.declared.names.Kind.{Kind}
use Rattle.evac_model.specs.declared.call.Call.{Call}
use Rattle.evac_model.specs.declared.call.Call.TheVariants.{Alloc, Free, Read, Write, Add, Pin, Unpin}
use Rattle.evac_words.specs.Word.{mapped_bit, pins_of}
use Rattle.core_state.specs.declared.held.Change.TheVariants.{Kept, Mapped, Unmapped}
use Rattle.core_state.specs.Words.{mapped_word, unmapped_word}
use Rattle.core_actors.specs.declared.action.LeaseSeen.{LeaseSeen}
use Rattle.core_actors.specs.declared.action.LeaseSeen.TheVariants.{NotAsked, Got, Refused}
use Rattle.core_actors.specs.declared.place.CallPlace.{CallPlace}
use Rattle.core_actors.specs.declared.place.CallPlace.TheVariants.{Zero, MarkZeros, Load, Store, Mark, Map, Unmap, Release}
use Rattle.core_actors.specs.CallSteps.{load_count, values_of, is_freed, leased_frame}
use Rattle.core_actors.specs.Places.{frame_in, zero_from, store_from, behind_loads, load_from, cells_behind, behind_draw}
use Rattle.core_actors.specs.Counts.{NamesCells, IsLeaseOf}
use Rattle.core_actors.specs.Fits.{SeatHas, unmarked_by, zeroed, as_found, with_cells, word_with, has_in}
use Rattle.core_actors.proofs.Cases.{by_test, if_then, same_either}

pub no_values : {A : Type 0} (xs : List A) → length xs ≡ 0 → xs ≡ []
no_values [] e = refl
no_values (x ∷ xs) e = absurd (omega arith)

pub all_taken : {A : Type 0} (xs : List A) (k : ℕ) → length xs ≤ k → take k xs ≡ xs
all_taken [] zero le = refl
all_taken [] (suc k) le = refl
all_taken (x ∷ xs) zero le = absurd (omega arith)
all_taken (x ∷ xs) (suc k) le = ap (λ l. x ∷ l) (all_taken xs k (omega arith))

-- a seat that has drawn its ticket, and nothing else done yet
abbrev pub drawn : (found : ℕ) → Option FrameNo → ℕ → SeatHas
drawn found frame zeros = record { tickets = 1; unmarked = []; page = Some (as_found found true [] []); frame = frame; zeros = zeros }

module _ (cells : ℕ) (call : Call) where
  pub has_zeros : (frame : FrameNo) (cell : ℕ) → cell ≤ cells → has_in cells call (zero_from cells frame cell) ≡ zeroed frame cell
  has_zeros frame cell le = if_then (λ (at : CallPlace). has_in cells call at ≡ zeroed frame cell) (nat_lt cell cells) (Zero frame cell) (MarkZeros frame) (λ t. refl)
      (λ f. let e : cells ≡ cell = grind (arith, nat_tests) in ap (λ (n : ℕ). zeroed frame n) e)

  module _ (found : ℕ) (loads : List ℕ) (names : NamesCells call) (mapped : mapped_bit found ≡ 1) where
    pub has_stores : (i : ℕ) → i ≤ length (values_of loads call) → has_in cells call (store_from call found loads i) ≡ with_cells found loads (take i (values_of loads call)) (unmarked_by i (frame_in found))
    has_stores i le = if_then (λ (at : CallPlace). has_in cells call at ≡ with_cells found loads (take i (values_of loads call)) (unmarked_by i (frame_in found)))
        (nat_lt i (length (values_of loads call))) (Store found loads i) (Mark found loads) (λ t. refl)
        (λ f.
        let e : length (values_of loads call) ≡ i = grind (arith, nat_tests) in
        ap (λ (n : ℕ). with_cells found loads (values_of loads call) (unmarked_by n (frame_in found))) e
        ∙ ap (λ (l : List ℕ). with_cells found loads l (unmarked_by i (frame_in found))) (sym (all_taken (values_of loads call) i (omega arith))))

cells_done : (cells found : ℕ) (loads : List ℕ) (call : Call) (b : Bool) → NamesCells call → (mapped_bit found == 1) ≡ b → has_in cells call (Release NotAsked found loads) ≡ with_cells found loads (if b then values_of loads call else []) []
cells_done cells found loads (Alloc kind) b names e = absurd names
cells_done cells found loads Free b names e = absurd names
cells_done cells found loads (Read first count) b names e = ap (λ (b : Bool). with_cells found loads (if b then [] else []) []) e
cells_done cells found loads (Write first values) b names e = ap (λ (b : Bool). with_cells found loads (if b then values else []) []) e
cells_done cells found loads (Add cell value) b names e = ap (λ (b : Bool). with_cells found loads (if b then values_of loads (Add cell value) else []) []) e
cells_done cells found loads Pin b names e = absurd names
cells_done cells found loads Unpin b names e = absurd names

module _ (cells : ℕ) (call : Call) (found : ℕ) (names : NamesCells call) where
  module _ (loads : List ℕ) (mapped : mapped_bit found ≡ 1) where
    pub has_done : has_in cells call (Release NotAsked found loads) ≡ with_cells found loads (values_of loads call) []
    has_done = cells_done cells found loads call true names (eq-eqb (mapped_bit found) 1 mapped)

    has_loaded : has_in cells call (behind_loads call found loads) ≡ with_cells found loads [] []
    has_loaded = if_then (λ (at : CallPlace). has_in cells call at ≡ with_cells found loads [] []) (length (values_of loads call) == 0) (Release NotAsked found loads) (Store found loads 0)
        (λ t. has_done ∙ ap (λ (l : List ℕ). with_cells found loads l []) (no_values (values_of loads call) (eqb-true (length (values_of loads call)) 0 t)))
        (λ f. refl)

    pub has_loads : has_in cells call (load_from call found loads) ≡ with_cells found loads [] []
    has_loads = if_then (λ (at : CallPlace). has_in cells call at ≡ with_cells found loads [] []) (nat_lt (length loads) (load_count call)) (Load found loads) (behind_loads call found loads)
        (λ t. refl) (λ f. has_loaded)

  has_cells : has_in cells call (cells_behind call found) ≡ with_cells found [] [] []
  has_cells = if_then (λ (at : CallPlace). has_in cells call at ≡ with_cells found [] [] []) (mapped_bit found == 1) (load_from call found []) (Release NotAsked found [])
      (λ t. has_loads [] (eqb-true (mapped_bit found) 1 t)) (λ f. cells_done cells found [] call false names f)

both : (a b : Bool) → (a && b) ≡ true → (a ≡ true) × (b ≡ true)
both true b e = (refl, e)
both false b e = absurd cc

-- a free finds a mapped page without pins
pub freed_page : (found : ℕ) → is_freed found ≡ true → (mapped_bit found ≡ 1) × (pins_of found ≡ 0)
freed_page found freed = let r = both (mapped_bit found == 1) (pins_of found == 0) freed in (eqb-true (mapped_bit found) 1 r.0, eqb-true (pins_of found) 0 r.1)

-- ---- behind the draw

module _ (cells found : ℕ) where
  -- a page that is left as it was found
  plain_done : has_in cells Pin (Release NotAsked found []) ≡ drawn found None 0
  plain_done = ap (λ (l : List ℕ). with_cells found [] l []) (same_either (mapped_bit found == 1) [])

  pub map_done : (kind : Kind) (frame : FrameNo) → mapped_bit found ≡ 1 → has_in cells (Alloc kind) (Release (Got frame) found []) ≡ drawn found (Some frame) 0
  map_done kind frame mapped = rw (eq-eqb (mapped_bit found) 1 mapped) refl

  refused_done : (kind : Kind) (i : ℕ) → has_in cells (Alloc kind) (Release (Refused i) found []) ≡ drawn found None 0
  refused_done kind i = by_test (mapped_bit found == 1) (λ t. rw t refl) (λ f. rw f refl)

  unfreed_done : is_freed found ≡ false → has_in cells Free (Release NotAsked found []) ≡ drawn found None 0
  unfreed_done f = rw f (ap (λ (l : List ℕ). with_cells found [] l []) (same_either (mapped_bit found == 1) []))

  pub has_drawn : (P : SeatHas → Type 0) (call : Call) (lease : LeaseSeen) → IsLeaseOf call lease → ((zeros : ℕ) → zeros ≤ cells → P (drawn found (leased_frame lease) zeros)) → P (has_in cells call (behind_draw call lease found))
  has_drawn P (Alloc kind) NotAsked is p = absurd (is refl)
  has_drawn P (Alloc kind) (Got frame) is p = if_then (λ (at : CallPlace). P (has_in cells (Alloc kind) at)) (mapped_bit found == 1) (Release (Got frame) found []) (Map frame kind found)
      (λ t. subst P (sym (map_done kind frame (eqb-true (mapped_bit found) 1 t))) (p 0 (omega arith)))
      (λ f. p cells (omega arith))
  has_drawn P (Alloc kind) (Refused i) is p = subst P (sym (refused_done kind i)) (p 0 (omega arith))
  has_drawn P Free lease is p =
      let none = subst (λ (l : LeaseSeen). P (drawn found (leased_frame l) 0)) is (p 0 (omega arith)) in
      if_then (λ (at : CallPlace). P (has_in cells Free at)) (is_freed found) (Unmap found) (Release NotAsked found []) (λ t. none) (λ f. subst P (sym (unfreed_done f)) none)
  has_drawn P (Read first count) lease is p = subst P (sym (has_cells cells (Read first count) found tt)) (subst (λ (l : LeaseSeen). P (drawn found (leased_frame l) 0)) is (p 0 (omega arith)))
  has_drawn P (Write first values) lease is p = subst P (sym (has_cells cells (Write first values) found tt)) (subst (λ (l : LeaseSeen). P (drawn found (leased_frame l) 0)) is (p 0 (omega arith)))
  has_drawn P (Add cell value) lease is p = subst P (sym (has_cells cells (Add cell value) found tt)) (subst (λ (l : LeaseSeen). P (drawn found (leased_frame l) 0)) is (p 0 (omega arith)))
  has_drawn P Pin lease is p = subst P (sym (plain_done)) (subst (λ (l : LeaseSeen). P (drawn found (leased_frame l) 0)) is (p 0 (omega arith)))
  has_drawn P Unpin lease is p = subst P (sym (plain_done)) (subst (λ (l : LeaseSeen). P (drawn found (leased_frame l) 0)) is (p 0 (omega arith)))

  -- ---- behind the step on the mapping

  pub mapped_done : (call : Call) (kind : Kind) (frame : FrameNo) → call ≡ Alloc kind → mapped_bit found ≢ 1 → has_in cells call (Release (Got frame) found [])
      ≡ record { tickets = 1; unmarked = []; page = Some (record { found = found; change = Mapped kind; word = mapped_word (bit_or found 1) frame.0 kind; drawn = true; loads = []; stores = [] }); frame = None; zeros = 0 }
  mapped_done call kind frame e ne = ap (λ (x : Call). has_in cells x (Release (Got frame) found [])) e ∙ rw (ne_eqb (mapped_bit found) 1 ne) refl

  abbrev ends : (mapped freed : Bool) → SeatHas
  ends mapped freed = record {
    tickets = 1;
    unmarked = [];
    page = Some (record {
      found = found;
      change = if freed then Unmapped else Kept;
      word = word_with (if freed then Unmapped else Kept) NotAsked found;
      drawn = true;
      loads = [];
      stores = if mapped then [] else [];
    });
    frame = if freed then Some (frame_in found) else None;
    zeros = 0;
  }

  freed_done : (mapped freed : Bool) → freed ≡ true → ends mapped freed ≡ ends true true
  freed_done true true e = refl
  freed_done true false e = absurd cc
  freed_done false true e = refl
  freed_done false false e = absurd cc

  pub unmapped_done : (call : Call) → call ≡ Free → is_freed found ≡ true → has_in cells call (Release NotAsked found [])
      ≡ record { tickets = 1; unmarked = []; page = Some (record { found = found; change = Unmapped; word = unmapped_word (bit_or found 1); drawn = true; loads = []; stores = [] }); frame = Some (frame_in found); zeros = 0 }
  unmapped_done call e freed = ap (λ (x : Call). has_in cells x (Release NotAsked found [])) e ∙ freed_done (mapped_bit found == 1) (is_freed found) freed
