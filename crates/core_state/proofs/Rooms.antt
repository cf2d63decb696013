-- The memory that a core keeps ready is enough after each step of a call.
use Rattle.std.proofs.Common.{◌≡◌, ◌-◌, ℕ, eqb, true, false, ◌+◌, ◌^◌, ◌<◌, ◌≤◌, ◌≢◌, List, [], ◌∷◌, length, length-set, length-append, get_or, get_or-set_same, get_or-set_other, set, sym, refl, ap, ◌∙◌, subst, ⊎_elim, arith, Option, Some, None}
use Rattle.std.specs.Prelude.{IsSomeAnd, is_some}
use Rattle.std.specs.List.{sum_by, count_by}
use Rattle.std.proofs.lemmas.List.{get_or_default}
use Rattle.std.proofs.lemmas.Grind.{common_steps}
use Rattle.std.proofs.lemmas.Option.{slice_get-get_or, get_or_from_slice_get}
use Rattle.evac_model.specs.declared.names.FrameNo.{FrameNo}
use Rattle.evac_model.specs.declared.names.PageNo.{PageNo}
use Rattle.evac_model.specs.declared.entry.Entry.{Entry}
use Rattle.evac_words.specs.Word.{bit_of}
use Rattle.core_state.specs.declared.hand.HandFrame.{HandFrame}
use Rattle.core_state.specs.declared.held.Held.{Held}
use Rattle.core_state.specs.declared.keeper.Keeper.TheVariants.{OneOwner}
use Rattle.core_state.specs.declared.noticed.Notice.{Notice}
use Rattle.core_state.specs.declared.opening.Opening.{Opening}
use Rattle.core_state.specs.declared.room.CellRoom.{CellRoom}
use Rattle.core_state.specs.declared.room.Room.{Room}
use Rattle.core_state.specs.declared.scan.Scan.{Scan}
use Rattle.core_state.specs.declared.step.CallDone.{CallDone}
use Rattle.core_state.specs.declared.view.View.{View}
use Rattle.core_state.specs.Views.{Has, view_of, spent, right_to, times_unmarked, hand_frame, times_in_hand, times_in_hands}
use Rattle.core_state.specs.Room.{drawn_for, due_of, nodes_of, cells_for, spare_for, swept_in, come_to, IsCellRoom, HasRoom}
use Rattle.core_state.specs.Seats.{Seats}
use Rattle.core_state.specs.Steps.{MayTake, MayDraw, MayEnd, MayRelease, held_after_take, notice_of, entry_of, with_ticket, with_load, with_store, with_hand_store, with_unmarked, after_take, after_draw, after_load, after_store, after_mark, after_release}
use Rattle.core_state.proofs.Lists.{at_set, sum_by_replaced, sum_by_kept, member_le_sum_by, within}
use Rattle.core_state.proofs.Holding.{for_some, some_is, drawing, with_ticket-some}
use Rattle.core_state.proofs.SeatSteps.{same_room-ticket, same_room-load, same_room-store, same_hand-store, held_room}
use Rattle.core_state.proofs.FrameSteps.{count_of-without_other, count_of-without_same, unmarked-store_other}

-- places for so many cells
abbrev pub IsFor : ℕ → Option (List (Option ℕ)) → Type 0
IsFor n m = IsSomeAnd m (λ known. length known ≡ n)

-- What one step of a seat does to the room, where its view was v and is w: list by list.
pub record Balanced (o : Opening) (views : List View) (seat : ℕ) (v w : View) (r s : Room) : Type 0 where
  pub entries : (due_of w + length r.entries ≤ due_of v + length s.entries) × (length w.entries + length s.entries ≤ length v.entries + length r.entries)
  pub notices : (length w.noticed.by_right + length s.notices ≤ length v.noticed.by_right + length r.notices) × (s.notices_made ≡ r.notices_made)
  pub nodes : (length s.unmarked ≡ length r.unmarked) × ((f : ℕ) → length (nodes_of s f) + times_unmarked f w ≡ length (nodes_of r f) + times_unmarked f v)
      × (length w.unmarked + sum_by (λ l. length l) s.unmarked ≤ length v.unmarked + sum_by (λ l. length l) r.unmarked)
  pub cells : (length s.cells ≡ length r.cells) × ((j : ℕ) → j ≢ seat → cells_for s j ≡ cells_for r j) × (w.held ≡ None → IsSomeAnd (cells_for s seat) (IsCellRoom o.cells))
  pub spare : (length s.spare ≡ length r.spare) × ((f : ℕ) → f < o.frames → times_in_hands f (set views seat w) ≡ 0 → IsFor o.cells (spare_for s f))
  pub swept : (swept_in w.scan + length s.swept ≡ swept_in v.scan + length r.swept) × ((z : Scan) → w.scan ≡ Some z → length z.swept ≤ come_to z.at)

pub room-kept : (o : Opening) (views : List View) (seat : ℕ) (v w : View) (r s : Room) → Has views seat v → HasRoom o views r → Balanced o views seat v w r s → HasRoom o (set views seat w) s
room-kept o views seat v w r s at k b = record {
  small = k.small;
  entries = (let x = sum_by_replaced due_of views seat v w at in let y = k.entries in let z = b.entries.0 in omega arith);
  entries_short = (let x = sum_by_replaced (λ u. length u.entries) views seat v w at in let y = k.entries_short in let z = b.entries.1 in omega arith);
  notices_short = (let x = sum_by_replaced (λ u. length u.noticed.by_right) views seat v w at in let y = k.notices_short in let z = b.notices.0 in let a = b.notices.1 in omega arith);
  notices_made = (let x = k.notices_made in let y = b.notices.1 in omega arith);
  frames = b.nodes.0 ∙ k.frames;
  nodes = λ f lt. let x = sum_by_replaced (λ u. times_unmarked f u) views seat v w at in let y = k.nodes f lt in let z = b.nodes.1 f in omega arith;
  nodes_short = (let x = sum_by_replaced (λ u. length u.unmarked) views seat v w at in let y = k.nodes_short in let z = b.nodes.2 in omega arith);
  seats = b.cells.0 ∙ k.seats ∙ sym (length-set views seat w);
  free = λ j u has none. ⊎_elim
      (λ q. subst (λ (n : ℕ). IsSomeAnd (cells_for s n) (IsCellRoom o.cells)) (sym q.0) (b.cells.2 (ap (λ (x : View). x.held) q.1 ∙ none)))
      (λ q. subst (λ (m : Option CellRoom). IsSomeAnd m (IsCellRoom o.cells)) (sym (b.cells.1 j q.0)) (k.free j u q.1 none))
      (at_set views seat j w u has);
  spares = b.spare.0 ∙ k.spares;
  spare = b.spare.1;
  swept = (let x = sum_by_replaced (λ u. swept_in u.scan) views seat v w at in let y = k.swept in let z = b.swept.0 in omega arith);
  swept_low = λ j u z has is. ⊎_elim
      (λ q. b.swept.1 z (ap (λ (x : View). x.scan) q.1 ∙ is))
      (λ q. k.swept_low j u z q.1 is)
      (at_set views seat j w u has);
}

-- ---- the view that a list lends

pub seat_has : (views : List View) (seat : ℕ) → seat < length views → Has views seat (view_of views seat)
seat_has views seat lt = slice_get-get_or views seat spent lt

-- what the view of a seat holds, where it was read
pub read_held : (views l : List View) (seat : ℕ) (x : View) (h : Held) → seat < length views → l ≡ views → (get_or l seat x).held ≡ Some h → (view_of views seat).held ≡ Some h
read_held views l seat x h lt e is = ap (λ (v : View). v.held) (get_or_default views seat spent x lt ∙ ap (λ (m : List View). get_or m seat x) (sym e)) ∙ is

module _ (views : List View) (seat : ℕ) (x : View) (lt : seat < length views) (is : x ≡ get_or views seat x) where
  pub lent_has : Has views seat x
  lent_has = slice_get-get_or views seat x lt ∙ ap (λ (y : View). Some y) (sym is)

  pub lent_is : view_of views seat ≡ x
  lent_is = get_or_from_slice_get views seat x spent lent_has

-- ---- tickets drawn

drawn_for-load : (m : Option Held) (cell x : ℕ) → drawn_for (with_load m cell x) ≡ drawn_for m
drawn_for-load m cell x = grind (arith, common_steps)

drawn_for-store : (m : Option Held) (frame cell x : ℕ) → drawn_for (with_store m frame cell x) ≡ drawn_for m
drawn_for-store m frame cell x = grind (arith, common_steps)

module _ (o : Opening) (views : List View) (seat : ℕ) (v : View) (r : Room) (at : Has views seat v) (k : HasRoom o views r) where
  -- a step that leaves each frame in hand in its place
  pub same_spare : (w : View) → ((f : ℕ) → times_in_hand f w ≡ times_in_hand f v) → (f : ℕ) → f < o.frames → times_in_hands f (set views seat w) ≡ 0 → IsFor o.cells (spare_for r f)
  same_spare w same f lt none = k.spare f lt (sym (sum_by_kept (λ (u : View). times_in_hand f u) views seat v w at (same f)) ∙ none)

  -- A step that changes what is held and what is in hand, and maybe takes a ticket.
  pub quiet : (held : Option Held) (hand : List (Option HandFrame)) (left seen : ℕ) (spare : List (Option (List (Option ℕ)))) → left + drawn_for held ≤ due_of v → (held ≡ None → v.held ≡ None)
      → length spare ≡ length r.spare
      → ((f : ℕ) → f < o.frames → times_in_hands f (set views seat (record v { held = held; hand = hand; left = left; seen = seen })) ≡ 0 → IsFor o.cells (get_or spare f None))
      → HasRoom o (set views seat (record v { held = held; hand = hand; left = left; seen = seen })) (record r { spare = spare })
  quiet held hand left seen spare due free size kept = room-kept o views seat v (record v { held = held; hand = hand; left = left; seen = seen }) r (record r { spare = spare }) at k (record {
    entries = (omega arith, omega arith);
    notices = (omega arith, refl);
    nodes = (refl, λ f. refl, omega arith);
    cells = (refl, λ j ne. refl, λ none. k.free seat v at (free none));
    spare = (size, kept);
    swept = (refl, λ z is. k.swept_low seat v z at is);
  })

  pub room-draw : (t : ℕ) → MayDraw v → HasRoom o (set views seat (after_draw v t)) r
  room-draw t may = let d = drawing v may in
      let a : drawn_for v.held ≡ 0 = ap (λ m. drawn_for m) d.1.holds ∙ ap (λ (m : Option ℕ). bit_of (is_some m)) d.1.undrawn in
      let b : drawn_for (with_ticket v.held t) ≡ 1 = ap (λ m. drawn_for m) (with_ticket-some v.held d.0 t d.1.holds) in
      let c = d.1.leave in
      quiet (with_ticket v.held t) v.hand (v.left - 1) (t + 1) r.spare (omega arith) (same_room-ticket v.held t).free refl (same_spare (after_draw v t) (λ f. refl))

  pub room-load : (cell x : ℕ) → HasRoom o (set views seat (after_load v cell x)) r
  room-load cell x = quiet (with_load v.held cell x) v.hand v.left v.seen r.spare (let a = drawn_for-load v.held cell x in omega arith) (same_room-load v.held cell x).free refl (same_spare (after_load v cell x) (λ f. refl))

  -- ---- take

  drawn_for-take : (page : PageNo) (found : ℕ) → drawn_for (held_after_take v.cells page found) ≡ 0
  drawn_for-take page found = grind (arith, common_steps)

  noticed_more : (page : PageNo) (found : ℕ) → length (after_take OneOwner v page found).noticed.by_right ≡ length v.noticed.by_right + right_to page.0 v
  noticed_more page found = let a = length-append v.noticed.by_right (notice_of v page found ∷ []) in grind (arith, common_steps)

  pub room-take : (page : PageNo) (found : ℕ) (w : View) (notices : List Notice) (old new : Option CellRoom) → MayTake o v page.0
      → w ≡ after_take OneOwner v page found → length notices + right_to page.0 v ≡ length r.notices
      → old ≡ get_or r.cells seat old → (w.held ≡ None → new ≡ old)
      → HasRoom o (set views seat w) (record r { notices = notices; cells = set r.cells seat new })
  room-take page found w notices old new may is used lent kept = let in_cells : seat < length r.cells = (let a = within views seat v at in let b = k.seats in omega arith) in
      subst (λ (u : View). HasRoom o (set views seat u) (record r { notices = notices; cells = set r.cells seat new })) (sym is)
      (room-kept o views seat v (after_take OneOwner v page found) r (record r { notices = notices; cells = set r.cells seat new }) at k (record {
        entries = (let b = drawn_for-take page found in (omega arith, omega arith));
        notices = (let b = noticed_more page found in (omega arith, refl));
        nodes = (refl, λ f. refl, omega arith);
        cells = (
          length-set r.cells seat new,
          λ j ne. get_or-set_other r.cells seat j new None ne,
          λ none. subst (λ (m : Option CellRoom). IsSomeAnd m (IsCellRoom o.cells))
              (sym (get_or-set_same r.cells seat new None in_cells ∙ kept (ap (λ (u : View). u.held) is ∙ none) ∙ lent ∙ get_or_default r.cells seat old None in_cells))
              (k.free seat v at may.holds_none),
        );
        spare = (refl, same_spare (after_take OneOwner v page found) (λ f. refl));
        swept = (refl, λ z is. k.swept_low seat v z at is);
      }))

  -- ---- store and mark

  pub marks_short : (f : ℕ) (node : List FrameNo) → f < length r.unmarked → node ≡ get_or r.unmarked f node → length node + length v.unmarked < 2 ^ 63
  marks_short f node lt lent =
      let a = member_le_sum_by (λ (l : List FrameNo). length l) r.unmarked f node (slice_get-get_or r.unmarked f node lt ∙ ap (λ (l : List FrameNo). Some l) (sym lent)) in
      let b = member_le_sum_by (λ (u : View). length u.unmarked) views seat v at in
      let c = k.nodes_short in omega arith

  frame_nodes : (f : ℕ) (node new : List FrameNo) (w : View) → f < length r.unmarked → node ≡ get_or r.unmarked f node
      → length new + times_unmarked f w ≡ length node + times_unmarked f v
      → ((g : ℕ) → g ≢ f → times_unmarked g w ≡ times_unmarked g v)
      → (g : ℕ) → length (get_or (set r.unmarked f new) g []) + times_unmarked g w ≡ length (nodes_of r g) + times_unmarked g v
  frame_nodes f node new w lt lent same other g = grind (arith, common_steps, get_or-set_same r.unmarked f new [] lt, get_or-set_other r.unmarked f g new [], get_or_default r.unmarked f node [] lt, other g)

  -- a step that changes what is held and in hand, in its places, and moves a node of a frame
  marking : (f : ℕ) (node new : List FrameNo) (held : Option Held) (hand : List (Option HandFrame)) (marks : List FrameNo) (w : View) → w ≡ record v { held = held; hand = hand; unmarked = marks }
      → f < length r.unmarked → node ≡ get_or r.unmarked f node → length new + times_unmarked f w ≡ length node + times_unmarked f v
      → ((g : ℕ) → g ≢ f → count_by (λ x. eqb x.0 g) marks ≡ times_unmarked g v)
      → length new + length w.unmarked ≡ length node + length v.unmarked
      → drawn_for held ≡ drawn_for v.held → (held ≡ None → v.held ≡ None) → ((g : ℕ) → bit_of (is_some (get_or hand g None)) ≡ times_in_hand g v)
      → HasRoom o (set views seat w) (record r { unmarked = set r.unmarked f new })
  marking f node new held hand marks w is lt lent same other all due free in_hand =
      subst (λ (u : View). HasRoom o (set views seat u) (record r { unmarked = set r.unmarked f new })) (sym is)
      (room-kept o views seat v (record v { held = held; hand = hand; unmarked = marks }) r (record r { unmarked = set r.unmarked f new }) at k (record {
        entries = (omega arith, omega arith);
        notices = (omega arith, refl);
        nodes = (
          length-set r.unmarked f new,
          frame_nodes f node new (record v { held = held; hand = hand; unmarked = marks }) lt lent (let a = ap (λ (u : View). times_unmarked f u) is in omega arith) other,
          (let a = sum_by_replaced (λ (l : List FrameNo). length l) r.unmarked f node new (slice_get-get_or r.unmarked f node lt ∙ ap (λ (l : List FrameNo). Some l) (sym lent)) in let b = ap (λ (u : View). length u.unmarked) is in omega arith),
        );
        cells = (refl, λ j ne. refl, λ none. k.free seat v at (free none));
        spare = (refl, same_spare (record v { held = held; hand = hand; unmarked = marks }) in_hand);
        swept = (refl, λ z is. k.swept_low seat v z at is);
      }))

  pub room-store : (frame : FrameNo) (cell x : ℕ) (node new : List FrameNo) (w : View) → frame.0 < o.frames → node ≡ get_or r.unmarked frame.0 node
      → w ≡ after_store v frame cell x
      → length new + times_unmarked frame.0 w ≡ length node + times_unmarked frame.0 v
      → length new + length w.unmarked ≡ length node + length v.unmarked
      → HasRoom o (set views seat w) (record r { unmarked = set r.unmarked frame.0 new })
  room-store frame cell x node new w lt lent is same all =
      marking frame.0 node new (with_store v.held frame.0 cell x) (set v.hand frame.0 (with_hand_store (hand_frame v frame.0) cell x)) (with_unmarked v frame) w is (let a = k.frames in omega arith) lent same (unmarked-store_other v frame) all
      (drawn_for-store v.held frame.0 cell x) (same_room-store v.held frame.0 cell x).free (same_hand-store v.hand frame.0 cell x).times

  pub room-mark : (frame : FrameNo) (node new : List FrameNo) (w : View) → frame.0 < o.frames → node ≡ get_or r.unmarked frame.0 node
      → w ≡ after_mark v frame
      → length new ≡ length node + times_unmarked frame.0 v
      → length new + length w.unmarked ≡ length node + length v.unmarked
      → HasRoom o (set views seat w) (record r { unmarked = set r.unmarked frame.0 new })
  room-mark frame node new w lt lent is same all =
      marking frame.0 node new v.held v.hand (after_mark v frame).unmarked w is (let a = k.frames in omega arith) lent
      (let a : times_unmarked frame.0 w ≡ 0 = ap (λ (y : View). times_unmarked frame.0 y) is ∙ count_of-without_same frame.0 v.unmarked in omega arith)
      (λ g ne. count_of-without_other frame.0 g v.unmarked ne)
      all refl (λ none. none) (λ g. refl)

  -- ---- release

  pub due_drawn : (d : CallDone) → IsSomeAnd v.held (MayEnd o d) → due_of v ≡ v.left + 1
  due_drawn d may = let q = for_some v.held (MayEnd o d) may in let p = some_is (q.0).ticket q.2.drawn in
      let a : drawn_for v.held ≡ 1 = ap (λ m. drawn_for m) q.1 ∙ ap (λ (m : Option ℕ). bit_of (is_some m)) p.1 in omega arith

  released_due : (done : Option CallDone) (new old : ℕ) → MayRelease o v done → new + length (after_release v done).entries ≡ old + length v.entries → due_of (after_release v done) + old ≤ due_of v + new
  released_due None new old may sum = omega arith
  released_due (Some d) new old may sum = let a = due_drawn d may.1 in
      let b = length-append v.entries (entry_of v d ∷ []) in omega arith

  abbrev after : List Entry → View
  after entries = record v { held = None; entries = entries }

  released_as : (done : Option CallDone) → after_release v done ≡ after (after_release v done).entries
  released_as None = refl
  released_as (Some d) = refl

  pub room-release : (done : Option CallDone) (w : View) (entries : List Entry) (cells : Option CellRoom) → Seats o views → MayRelease o v done
      → w ≡ after_release v done
      → length entries + length w.entries ≡ length r.entries + length v.entries
      → IsSomeAnd v.held (λ h. cells ≡ Some (record { loads = h.loads; stores = h.stores }))
      → HasRoom o (set views seat w) (record r { entries = entries; cells = set r.cells seat cells })
  room-release done w entries cells seats may is sum back = let new = (after_release v done).entries in
      let same = ap (λ (y : View). length y.entries) is in
      subst (λ (u : View). HasRoom o (set views seat u) (record r { entries = entries; cells = set r.cells seat cells })) (sym (is ∙ released_as done))
      (room-kept o views seat v (after new) r (record r { entries = entries; cells = set r.cells seat cells }) at k (record {
        entries = (let b = released_due done (length entries) (length r.entries) may (omega arith) in let c = ap due_of (released_as done) in (omega arith, omega arith));
        notices = (omega arith, refl);
        nodes = (refl, λ f. refl, omega arith);
        cells = (
          length-set r.cells seat cells,
          λ j ne. get_or-set_other r.cells seat j cells None ne,
          λ none. let q = for_some v.held (λ h. cells ≡ Some (record { loads = h.loads; stores = h.stores })) back in
              let p = held_room o views seats seat v at q.0 q.1 in
              subst (λ (m : Option CellRoom). IsSomeAnd m (IsCellRoom o.cells))
              (sym (get_or-set_same r.cells seat cells None (let a = within views seat v at in let b = k.seats in omega arith) ∙ q.2))
              (record { loads = p.loads; stores = p.stores }),
        );
        spare = (refl, same_spare (after new) (λ f. refl));
        swept = (refl, λ z is. k.swept_low seat v z at is);
      }))
