-- The memory that a core keeps ready is enough after each step on a mapping, after a hand-over, and after each
-- step of the scanner.
use Rattle.std.proofs.Common.{◌≡◌, ◌≢◌, ℕ, ◌⊎◌, ◌+◌, ◌<◌, ◌≤◌, List, [], ◌∷◌, length, length-set, get_or, get_or-set_same, get_or-set_other, set, refl, sym, ap, ◌∙◌, subst, inl, inr, ⊎_elim, arith, Option, Some, None, IsSome, Bool, cond, true, false, ◌++◌, length-append}
use Rattle.std.specs.Prelude.{IsSomeAnd, is_some, IfSome}
use Rattle.std.specs.List.{sum_by}
use Rattle.std.proofs.lemmas.Grind.{common_steps}
use Rattle.std.proofs.lemmas.Option.{same_Some, none-some}
use mathlib.Core.Logic.{dite}
use native.Mathlib.Decide.{ℕ_discrete}
use Rattle.evac_model.specs.declared.names.FrameNo.{FrameNo}
use Rattle.evac_model.specs.declared.names.Kind.{Kind}
use Rattle.evac_words.specs.Word.{bit_of, frame_of}
use Rattle.core_state.specs.declared.hand.HandFrame.{HandFrame}
use Rattle.core_state.specs.declared.held.Change.TheVariants.{Mapped, Unmapped}
use Rattle.core_state.specs.declared.held.Held.{Held}
use Rattle.core_state.specs.declared.keeper.Keeper.TheVariants.{OneOwner}
use Rattle.core_state.specs.declared.opening.Opening.{Opening}
use Rattle.core_state.specs.declared.room.Room.{Room}
use Rattle.core_state.specs.declared.step.MoveStep.TheVariants.{Moving, Remap, Map, Unmap}
use Rattle.core_state.specs.declared.view.View.{View}
use Rattle.core_state.specs.CoreOpens.{fresh_frame}
use Rattle.core_state.specs.Words.{moving_word, remapped_word, mapped_word, unmapped_word}
use Rattle.core_state.specs.Views.{Has, hand_frame, times_in_hand, times_in_hands, scans}
use Rattle.core_state.specs.Room.{drawn_for, spare_for, HasRoom, swept_in, come_to, HasNode, HasPlace}
use Rattle.core_state.specs.Seats.{Seats}
use Rattle.core_state.specs.Steps.{nothing_known, held_word}
use Rattle.core_state.specs.MoveSteps.{AllowedMove, moved, held_after_begin, held_after_remap, held_after_map, held_after_unmap, hand_after_remap, hand_after_unmap, view_after_move}
use Rattle.core_state.specs.HandOvers.{MayHandOver, hand_without, hand_with, views_after_hand_over}
use Rattle.core_state.proofs.Lists.{sum_by_replaced, sum_by_kept, member_le_sum_by, set_else, set_here, within, at_set, sum_by_none, two_members_le_sum_by}
use Rattle.core_state.proofs.PassedFrames.{set_swap}
use Rattle.core_state.proofs.HandParts.{is_handed, came, stayed, was_there}
use Rattle.core_state.proofs.SeatSteps.{hand_room, seated_seat}
use Rattle.core_state.proofs.Rooms.{IsFor, quiet, room-kept, same_spare}
use Rattle.evac_words.specs.Table.{dirty_index}
use Rattle.core_state.specs.declared.scan.Scan.{Scan}
use Rattle.core_state.specs.declared.scan.Swept.{Swept}
use Rattle.core_state.specs.declared.step.ScanStep.TheVariants.{Sweep, Copy}
use Rattle.core_state.specs.Image.{copy_at, copy_of}
use Rattle.core_state.specs.Sound.{Sound}
use Rattle.core_state.specs.ScanSteps.{begins_pass, swept, after_sweep, with_cell, scan_index, scan_after, view_after_scan, next_cell_index, AllowedScan}
use Rattle.core_state.proofs.ImageSteps.{dirty_within}
use Rattle.core_state.proofs.StepPlaces.{cell_within}

pub for_some_in : {A : Type 0} (m : Option A) (P : A → Type 0) → IsSomeAnd m P → (a : A) × (m ≡ Some a) × P a
for_some_in None P p = absurd p
for_some_in (Some a) P p = (a, refl, p)

none_there : (m : Option HandFrame) → bit_of (is_some m) ≡ 0 → m ≡ None
none_there m e = grind (arith, common_steps)

module _ (o : Opening) (views : List View) (seat : ℕ) (v : View) (r : Room) (at : Has views seat v) (k : HasRoom o views r) where
  -- a frame is in no hand after a step of the seat: then the seat hasn't got it
  not_in_hand : (w : View) (f : ℕ) → times_in_hands f (set views seat w) ≡ 0 → hand_frame w f ≡ None
  not_in_hand w f none = none_there (hand_frame w f) (let a = sum_by_replaced (λ (u : View). times_in_hand f u) views seat v w at in let b = member_le_sum_by (λ (u : View). times_in_hand f u) views seat v at in omega arith)

  -- and where nothing was changed at its place, it has places for its cells
  pub spare_stays : (w : View) (f : ℕ) → f < o.frames → hand_frame w f ≡ hand_frame v f → times_in_hands f (set views seat w) ≡ 0 → IsFor o.cells (spare_for r f)
  spare_stays w f lt same none = k.spare f lt (sym (sum_by_kept (λ (u : View). times_in_hand f u) views seat v w at (ap (λ (m : Option HandFrame). bit_of (is_some m)) same)) ∙ none)

  -- A step on the mapping: a frame that isn't in hand afterwards has places for its cells, or nothing was
  -- changed at its place.
  mapping : (w : View) (h g : Held) (hand : List (Option HandFrame)) (spare : List (Option (List (Option ℕ)))) → v.held ≡ Some h → w ≡ record v { held = Some g; hand = hand } → g.ticket ≡ h.ticket
      → length spare ≡ length r.spare
      → ((f : ℕ) → f < o.frames → get_or hand f None ≡ None → IsFor o.cells (get_or spare f None) ⊎ ((get_or hand f None ≡ hand_frame v f) × (get_or spare f None ≡ spare_for r f)))
      → HasRoom o (set views seat w) (record r { spare = spare })
  mapping w h g hand spare was is ticket spares kept = subst (λ (u : View). HasRoom o (set views seat u) (record r { spare = spare })) (sym is)
      (quiet o views seat v r at k (Some g) hand v.left v.seen spare
      (let b = ap drawn_for was in let c : drawn_for (Some g) ≡ drawn_for (Some h) = ap (λ (m : Option ℕ). bit_of (is_some m)) ticket in omega arith)
      (λ none. absurd (none-some g (sym none)))
      spares
      (λ f lt none. ⊎_elim
      (λ q. q)
      (λ q. subst (λ (m : Option (List (Option ℕ))). IsFor o.cells m) (sym q.1) (spare_stays (record v { held = Some g; hand = hand }) f lt q.0 none))
      (kept f lt (not_in_hand (record v { held = Some g; hand = hand }) f none))))

  -- ---- each step

  pub room-begin : (w : View) → AllowedMove OneOwner o v Moving → w ≡ view_after_move OneOwner v Moving → HasRoom o (set views seat w) r
  room-begin w may is = let q = for_some_in v.held _ may.1 in let h = q.0 in
      mapping w h (record h { word = moving_word h.word; loads = nothing_known v.cells }) v.hand r.spare q.1
      (is ∙ ap (λ (m : Option Held). record v { held = held_after_begin v m }) q.1) refl refl (λ f lt none. inr (refl, refl))

  pub room-map : (frame : FrameNo) (kind : Kind) (w : View) (spare : List (Option ℕ)) (s : Room) → Seats o views → AllowedMove OneOwner o v (Map frame kind)
      → w ≡ view_after_move OneOwner v (Map frame kind) → IsSomeAnd (hand_frame v frame.0) (λ x. spare ≡ x.stores) → s ≡ record r { spare = set r.spare frame.0 (Some spare) }
      → HasRoom o (set views seat w) s
  room-map frame kind w spare s seats may is left kept = let q = for_some_in v.held _ may.1 in let h = q.0 in let x = for_some_in (hand_frame v frame.0) (λ y. spare ≡ y.stores) left in
      subst (λ (u : Room). HasRoom o (set views seat w) u) (sym kept)
      (mapping w h (record h { word = mapped_word h.word frame.0 kind; loads = nothing_known v.cells; stores = nothing_known v.cells; change = Mapped kind })
      (set v.hand frame.0 None) (set r.spare frame.0 (Some spare)) q.1
      (is ∙ ap (λ (m : Option Held). record v { held = held_after_map v m frame.0 kind; hand = set v.hand frame.0 None }) q.1) refl
      (length-set r.spare frame.0 (Some spare))
      (λ f lt none. dite (ℕ_discrete f frame.0)
      (λ e. inl (subst (λ (m : Option (List (Option ℕ))). IsFor o.cells m)
      (sym (ap (λ (n : ℕ). get_or (set r.spare frame.0 (Some spare)) n None) e ∙ get_or-set_same r.spare frame.0 (Some spare) None (let a = k.spares in omega arith) ∙ ap (λ (l : List (Option ℕ)). Some l) x.2))
      (hand_room o views seats seat v at frame.0 x.0 x.1)))
      (λ ne. inr (get_or-set_other v.hand frame.0 f None None ne, get_or-set_other r.spare frame.0 f (Some spare) None ne))))

  pub room-unmap : (frame : ℕ) (w : View) (s : Room) → frame < length v.hand → AllowedMove OneOwner o v Unmap
      → frame ≡ frame_of (held_word v.held) → w ≡ view_after_move OneOwner v Unmap → s ≡ record r { spare = set r.spare frame None }
      → HasRoom o (set views seat w) s
  room-unmap frame w s low may was is kept = let q = for_some_in v.held _ may.1 in let h = q.0 in
      let e : frame_of h.word ≡ frame = ap (λ (m : Option Held). frame_of (held_word m)) (sym q.1) ∙ sym was in
      subst (λ (u : Room). HasRoom o (set views seat w) u) (sym kept)
      (mapping w h (record h { word = unmapped_word h.word; loads = nothing_known v.cells; stores = nothing_known v.cells; change = Unmapped })
      (set v.hand frame (Some (fresh_frame v.cells))) (set r.spare frame None) q.1
      (is ∙ ap (λ (m : Option Held). record v { held = held_after_unmap v m; hand = hand_after_unmap OneOwner v m }) q.1 ∙ ap (λ (n : ℕ). record v { held = held_after_unmap v (Some h); hand = set v.hand n (Some (fresh_frame v.cells)) }) e) refl
      (length-set r.spare frame None)
      (λ f lt none. dite (ℕ_discrete f frame)
      (λ g. absurd (none-some (fresh_frame v.cells) (sym none ∙ ap (λ (n : ℕ). get_or (set v.hand frame (Some (fresh_frame v.cells))) n None) g ∙ get_or-set_same v.hand frame (Some (fresh_frame v.cells)) None low)))
      (λ ne. inr (get_or-set_other v.hand frame f (Some (fresh_frame v.cells)) None ne, get_or-set_other r.spare frame f None None ne))))

  pub room-remap : (frame : FrameNo) (old : ℕ) (w : View) (spare : List (Option ℕ)) (s : Room) → Seats o views → old < length v.hand → AllowedMove OneOwner o v (Remap frame)
      → old ≡ frame_of (held_word v.held) → w ≡ view_after_move OneOwner v (Remap frame) → IsSomeAnd (hand_frame v frame.0) (λ x. spare ≡ x.stores)
      → s ≡ record r { spare = set (set r.spare old None) frame.0 (Some spare) }
      → HasRoom o (set views seat w) s
  room-remap frame old w spare s seats low may was is left kept = let q = for_some_in v.held _ may.1 in let h = q.0 in let x = for_some_in (hand_frame v frame.0) (λ y. spare ≡ y.stores) left in
      let e : frame_of h.word ≡ old = ap (λ (m : Option Held). frame_of (held_word m)) (sym q.1) ∙ sym was in
      subst (λ (u : Room). HasRoom o (set views seat w) u) (sym kept)
      (mapping w h (record h { word = remapped_word h.word frame.0; change = moved h.change })
      (set (set v.hand frame.0 None) old (Some (fresh_frame v.cells))) (set (set r.spare old None) frame.0 (Some spare)) q.1
      (is ∙ ap (λ (m : Option Held). record v { held = held_after_remap m frame.0; hand = hand_after_remap OneOwner v m frame.0 }) q.1 ∙ ap (λ (n : ℕ). record v { held = held_after_remap (Some h) frame.0; hand = set (set v.hand frame.0 None) n (Some (fresh_frame v.cells)) }) e) refl
      (length-set (set r.spare old None) frame.0 (Some spare) ∙ length-set r.spare old None)
      (λ f lt none. dite (ℕ_discrete f frame.0)
      (λ g. inl (subst (λ (m : Option (List (Option ℕ))). IsFor o.cells m)
      (sym (ap (λ (n : ℕ). get_or (set (set r.spare old None) frame.0 (Some spare)) n None) g
      ∙ get_or-set_same (set r.spare old None) frame.0 (Some spare) None (let a = k.spares in let b = length-set r.spare old None in omega arith) ∙ ap (λ (l : List (Option ℕ)). Some l) x.2))
      (hand_room o views seats seat v at frame.0 x.0 x.1)))
      (λ ne. dite (ℕ_discrete f old)
      (λ g. absurd (none-some (fresh_frame v.cells) (sym none
      ∙ ap (λ (n : ℕ). get_or (set (set v.hand frame.0 None) old (Some (fresh_frame v.cells))) n None) g
      ∙ get_or-set_same (set v.hand frame.0 None) old (Some (fresh_frame v.cells)) None (let b = length-set v.hand frame.0 None in omega arith))))
      (λ no. inr (
        get_or-set_other (set v.hand frame.0 None) old f (Some (fresh_frame v.cells)) None no ∙ get_or-set_other v.hand frame.0 f None None ne,
        get_or-set_other (set r.spare old None) frame.0 f (Some spare) None ne ∙ get_or-set_other r.spare old f None None no,
      )))))

  -- ---- another hand

  hand_only : (hand : List (Option HandFrame))
      → ((f : ℕ) → f < o.frames → times_in_hands f (set views seat (record v { hand = hand })) ≡ 0 → IsFor o.cells (spare_for r f))
      → HasRoom o (set views seat (record v { hand = hand })) r
  hand_only hand kept = quiet o views seat v r at k v.held hand v.left v.seen r.spare (omega arith) (λ none. none) refl kept

not_both : (m : Option HandFrame) → IsSome m → m ≡ None → ⊥
not_both m some none = grind (arith, common_steps)

some_counts : (m : Option HandFrame) → IsSome m → bit_of (is_some m) ≡ 1
some_counts m some = grind (arith, common_steps)

-- ---- a hand-over: first the receiver gets the frames, then the giver lets them go

module _ (o : Opening) (views : List View) (from to : ℕ) (giver receiver : View) (first n : ℕ) (r : Room)
    (at_giver : Has views from giver) (at_receiver : Has views to receiver) (apart : from ≢ to) (k : HasRoom o views r) (may : MayHandOver o giver receiver first n) where
  abbrev got : View
  got = record receiver { hand = hand_with receiver.hand giver.hand first n }

  abbrev let_go : View
  let_go = record giver { hand = hand_without giver.hand first n }

  both_have : HasRoom o (set views to got) r
  both_have = hand_only o views to receiver r at_receiver k (hand_with receiver.hand giver.hand first n)
      (λ f lt none. ⊎_elim
      (λ q. absurd (not_both (hand_frame giver f) (may.in_hand f q.0 q.1)
      (sym (came o giver receiver first n may f q.0 q.1) ∙ not_in_hand o views to receiver r at_receiver k got f none)))
      (λ q. spare_stays o views to receiver r at_receiver k got f lt (was_there o giver receiver first n may f q) none)
      (is_handed first n f))

  at_giver_then : Has (set views to got) from giver
  at_giver_then = set_else views to from got apart ∙ at_giver

  at_receiver_then : Has (set (set views to got) from let_go) to got
  at_receiver_then =
      set_else (set views to got) from to let_go (λ e. apart (sym e))
      ∙ set_here views to got (within views to receiver at_receiver)

  one_has : HasRoom o (set (set views to got) from let_go) r
  one_has = hand_only o (set views to got) from giver r at_giver_then both_have (hand_without giver.hand first n)
      (λ f lt none. ⊎_elim
      (λ q. absurd (let a = member_le_sum_by (λ (u : View). times_in_hand f u) (set (set views to got) from let_go) to got at_receiver_then in
      let b : times_in_hand f got ≡ 1 = ap (λ (m : Option HandFrame). bit_of (is_some m)) (came o giver receiver first n may f q.0 q.1) ∙ some_counts (hand_frame giver f) (may.in_hand f q.0 q.1) in
      omega arith))
      (λ q. spare_stays o (set views to got) from giver r at_giver_then both_have let_go f lt (stayed o giver receiver first n may f q) none)
      (is_handed first n f))

  pub room-hand_over : (after : List View) → after ≡ views_after_hand_over views from to giver receiver first n → HasRoom o after r
  room-hand_over after is = subst (λ (vs : List View). HasRoom o vs r)
      (sym (is ∙ set_swap views from to let_go got apart)) one_has

no_scan : (m : Option Scan) → bit_of (is_some m) ≡ 0 → swept_in m ≡ 0
no_scan m e = grind (arith, common_steps)

-- a sweep in the pass under way is of a frame above those of the pass
goes_on : (m : Option FrameNo) (frame : ℕ) → begins_pass m frame ≡ false → come_to m ≤ frame
goes_on m frame e = grind (arith, common_steps)

-- a copy sweeps nothing
copy_sweeps : (z : Scan) (m : Option FrameNo) (found : ℕ) → ((with_cell z m found).swept ≡ z.swept) × ((with_cell z m found).at ≡ z.at)
copy_sweeps z m found = (grind (arith, common_steps), grind (arith, common_steps))

pub scan_index-sweep : (o : Opening) (m : Option Scan) (frame : FrameNo) (fresh : Bool) → IsSomeAnd m (λ s. Unit {0}) → scan_index o m (Sweep frame fresh) ≡ dirty_index o.pages frame.0
scan_index-sweep o None frame fresh some = absurd some
scan_index-sweep o (Some s) frame fresh some = refl

-- a step that changes the scanner's part alone
scanned : (o : Opening) (views : List View) (seat : ℕ) (v : View) (r : Room) → Has views seat v → HasRoom o views r → (scan : Option Scan) (pool : List Swept)
    → swept_in scan + length pool ≡ swept_in v.scan + length r.swept → ((z : Scan) → scan ≡ Some z → length z.swept ≤ come_to z.at)
    → HasRoom o (set views seat (record v { scan = scan })) (record r { swept = pool })
scanned o views seat v r at k scan pool nodes low = room-kept o views seat v (record v { scan = scan }) r (record r { swept = pool }) at k (record {
  entries = (omega arith, omega arith);
  notices = (omega arith, refl);
  nodes = (refl, λ f. refl, omega arith);
  cells = (refl, λ j ne. refl, λ none. k.free seat v at none);
  spare = (refl, same_spare o views seat v r at k (record v { scan = scan }) (λ f. refl));
  swept = (nodes, low);
})

module _ (o : Opening) (words : List ℕ) (views : List View) (s : Sound o words views) (seat : ℕ) (v : View) (at : Has views seat v) (r : Room) (k : HasRoom o views r) where
  abbrev unscanned : View
  unscanned = record v { scan = None }

  module _ (z : Scan) (is : v.scan ≡ Some z) where
    -- no other view has swept a frame
    others : sum_by (λ (u : View). swept_in u.scan) (set views seat unscanned) ≡ 0
    others = sum_by_none (λ (u : View). swept_in u.scan) (set views seat unscanned) (λ i u has. ⊎_elim
        (λ q. ap (λ (x : View). swept_in x.scan) (sym q.1))
        (λ q. no_scan u.scan (let a = two_members_le_sum_by scans views i seat u v q.0 q.1 at in
        let b : scans v ≡ 1 = ap (λ (m : Option Scan). bit_of (is_some m)) is in
        let c = s.image.one_scanner in omega arith))
        (at_set views seat i unscanned u has))

    all_swept : length z.swept + length r.swept ≡ o.frames
    all_swept = let a = sum_by_replaced (λ (u : View). swept_in u.scan) views seat v unscanned at in let b = others in
        let c = ap swept_in is in let d = k.swept in omega arith

    sweep_node : (frame : ℕ) → frame < o.frames → HasNode r.swept frame z
    sweep_node frame low = let a = all_swept in record {
      some = omega arith;
      next = λ e. let b = goes_on z.at frame e in let c = k.swept_low seat v z at is in omega arith;
      short = (let b = k.small.frames in omega arith);
    }

    low_after : (frame : FrameNo) (fresh : Bool) (found : ℕ) → length (after_sweep OneOwner z frame fresh found).swept ≤ frame.0 + 1
    low_after frame fresh found = by_bit (begins_pass z.at frame.0) refl where
      by_bit : (b : Bool) → begins_pass z.at frame.0 ≡ b → length (cond b [] z.swept ++ swept frame found fresh ∷ []) ≤ frame.0 + 1
      by_bit true e = omega arith
      by_bit false e = let a = length-append z.swept (swept frame found fresh ∷ []) in let b = goes_on z.at frame.0 e in let c = k.swept_low seat v z at is in omega arith

  -- ---- a sweep

  module _ (frame : FrameNo) (fresh : Bool) (may : AllowedScan o v (Sweep frame fresh)) where
    pub node_for_sweep : IsSomeAnd v.scan (HasNode r.swept frame.0)
    node_for_sweep = let q = for_some_in v.scan (λ z. Unit {0}) may.2 in
        subst (λ (m : Option Scan). IsSomeAnd m (HasNode r.swept frame.0)) (sym q.1) (sweep_node q.0 q.1 frame.0 may.1)

    pub place_for_sweep : IsSomeAnd v.scan (λ z. frame.0 < length z.image)
    place_for_sweep = let q = for_some_in v.scan (λ z. Unit {0}) may.2 in
        let size : length (q.0).image ≡ o.frames = subst (λ (m : Option Scan). IfSome m (λ z. length z.image ≡ o.frames)) q.1 may.0.image in
        subst (λ (m : Option Scan). IsSomeAnd m (λ z. frame.0 < length z.image)) (sym q.1) (let low = may.1 in omega arith)

    pub swept_within : scan_index o v.scan (Sweep frame fresh) < length words
    swept_within = subst (λ (n : ℕ). n < length words) (sym (scan_index-sweep o v.scan frame fresh may.2)) (dirty_within o words frame.0 s.shaped may.1)

    pub room-sweep : (found : ℕ) (w : View) (pool : List Swept) → w ≡ view_after_scan OneOwner v (Sweep frame fresh) found → length pool + swept_in w.scan ≡ length r.swept + swept_in v.scan
        → HasRoom o (set views seat w) (record r { swept = pool })
    room-sweep found w pool e nodes = subst (λ (u : View). HasRoom o (set views seat u) (record r { swept = pool })) (sym e)
        (scanned o views seat v r at k (scan_after OneOwner v.scan (Sweep frame fresh) found) pool (let a = ap (λ (u : View). swept_in u.scan) e in omega arith)
        (λ y there. let q = for_some_in v.scan (λ x. Unit {0}) may.2 in
        let a : Some (after_sweep OneOwner q.0 frame fresh found) ≡ Some y = sym (ap (λ (m : Option Scan). scan_after OneOwner m (Sweep frame fresh) found) q.1) ∙ there in
        subst (λ (x : Scan). length x.swept ≤ come_to x.at) (same_Some _ y a) (low_after q.0 q.1 frame fresh found)))

  -- ---- a copy

  module _ (may : AllowedScan o v Copy) where
    pub place_for_copy : IsSomeAnd v.scan HasPlace
    place_for_copy =
        let q = for_some_in v.scan (λ z. IsSomeAnd z.at (λ x. (x.0 < o.frames) × (length (copy_of z x.0) < o.cells))) may.1 in
        let p = for_some_in (q.0).at (λ x. (x.0 < o.frames) × (length (copy_of q.0 x.0) < o.cells)) q.2 in
        let size : length (q.0).image ≡ o.frames = subst (λ (m : Option Scan). IfSome m (λ z. length z.image ≡ o.frames)) q.1 may.0.image in
        let places = (seated_seat o v (s.seats.each seat v at) may.0).copies q.0 (p.0).0 q.1 p.2.0 in
        let low = p.2.0 in let short = p.2.1 in
        subst (λ (m : Option Scan). IsSomeAnd m HasPlace) (sym q.1)
        (subst (λ (m : Option FrameNo). IsSomeAnd m (λ x. (x.0 < length (q.0).image) × (length (copy_of q.0 x.0) < (copy_at q.0 x.0).places))) (sym p.1) (omega arith, omega arith))

    pub copied_within : scan_index o v.scan Copy < length words
    copied_within =
        let q = for_some_in v.scan (λ z. IsSomeAnd z.at (λ x. (x.0 < o.frames) × (length (copy_of z x.0) < o.cells))) may.1 in
        let p = for_some_in (q.0).at (λ x. (x.0 < o.frames) × (length (copy_of q.0 x.0) < o.cells)) q.2 in
        subst (λ (m : Option Scan). scan_index o m Copy < length words) (sym q.1)
        (subst (λ (m : Option FrameNo). next_cell_index o q.0 m < length words) (sym p.1) (cell_within o words views s (p.0).0 (length (copy_of q.0 (p.0).0)) p.2.0 p.2.1))

    pub room-copy : (found : ℕ) → HasRoom o (set views seat (view_after_scan OneOwner v Copy found)) r
    room-copy found = let q = for_some_in v.scan _ may.1 in let same = copy_sweeps q.0 (q.0).at found in let b = ap (λ (l : List Swept). length l) same.0 in
        scanned o views seat v r at k (scan_after OneOwner v.scan Copy found) r.swept
        (let a : swept_in (scan_after OneOwner v.scan Copy found) ≡ length (with_cell q.0 (q.0).at found).swept = ap (λ (m : Option Scan). swept_in (scan_after OneOwner m Copy found)) q.1 in
        let c = ap swept_in q.1 in omega arith)
        (λ y there. let a : Some (with_cell q.0 (q.0).at found) ≡ Some y = sym (ap (λ (m : Option Scan). scan_after OneOwner m Copy found) q.1) ∙ there in
        subst (λ (x : Scan). length x.swept ≤ come_to x.at) (same_Some _ y a)
        (let c = ap (λ (m : Option FrameNo). come_to m) same.1 in let d = k.swept_low seat v q.0 at q.1 in omega arith))
