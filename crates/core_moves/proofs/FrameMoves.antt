-- `Frames` is kept by each step on a mapping.
use Rattle.std.proofs.Common.{◌≡◌, ℕ, ◌+◌, ◌<◌, ◌≢◌, ◌⊎◌, List, length, get_or, get_or-set_same, get_or-set_other, set, sym, refl, ap, ◌∙◌, subst, inl, inr, ⊎_elim, arith, Option, Some, None}
use Rattle.std.specs.Prelude.{is_some}
use Rattle.std.proofs.lemmas.Option.{same_Some, none-some}
use Rattle.std.proofs.lemmas.List.{length-set}
use mathlib.Core.Logic.{dite}
use native.Mathlib.Decide.{ℕ_discrete}
use Rattle.evac_model.specs.declared.names.Kind.{Kind}
use Rattle.evac_words.specs.Word.{mapped_bit, frame_of, bit_of}
use Rattle.evac_words.specs.Table.{entry_index}
use Rattle.core_state.specs.declared.hand.HandFrame.{HandFrame}
use Rattle.core_state.specs.declared.held.Held.{Held}
use Rattle.core_state.specs.declared.keeper.Keeper.{Keeper}
use Rattle.core_state.specs.declared.opening.Opening.{Opening}
use Rattle.core_state.specs.declared.step.MoveStep.{MoveStep}
use Rattle.core_state.specs.declared.step.MoveStep.TheVariants.{Moving, Remap, Map, Unmap}
use Rattle.core_state.specs.declared.view.View.{View}
use Rattle.core_state.specs.Words.{entry_word_of, cells_of_frame, moving_word, remapped_word, mapped_word, unmapped_word}
use Rattle.core_state.specs.Views.{IsSeated, Has, hand_frame, times_in_hand, times_unmarked, maps_to, Owns}
use Rattle.core_state.specs.Parts.{Shaped, Turn}
use Rattle.core_state.specs.Pages.{Agrees, Pages}
use Rattle.core_state.specs.Frames.{Frames}
use Rattle.core_state.specs.MoveSteps.{let_out, MayBegin, MayRemap, MayMap, MayUnmap, InHand, AllowedMove}
use Rattle.core_state.specs.Stepped.{words_after_move}
use Rattle.core_state.proofs.Lists.{member_le_sum_by}
use Rattle.core_state.proofs.Holding.{for_some}
use Rattle.core_state.proofs.Frames.{maps_to-one, maps_le, frame_once, owned_in_range}
use Rattle.core_state.proofs.FrameSteps.{some_and, maps_to-same, hand-set_same, in_hand-some, frames-at_entry}
use Rattle.core_state.proofs.Pages.{agrees-nothing}
use Rattle.core_state.proofs.MovePlaces.{moving_is_mapped}
use Rattle.core_state.proofs.RoomMoves.{for_some_in}
use Rattle.core_moves.specs.Moved.{FramesFit, views_after_move}
use Rattle.core_moves.proofs.MoveWords.{maps_to-unmapped, maps_to-other, mapped_bit-moving, frame_of-moving, mapped_bit-remapped, frame_of-remapped, mapped_bit-mapped, frame_of-mapped, mapped_bit-unmapped}
use Rattle.core_moves.proofs.Moves.{after_begin, after_remap, after_map, after_unmap, times_in, times_in-other, times_in-given, fits}

module _ (o : Opening) (words : List ℕ) (views : List View) (i : ℕ) (v : View) (k : Frames o words views) (at : Has views i v) (s : Shaped o words) (t : Turn o words views) (h : Held) (holds : v.held ≡ Some h) where
  mine : (h.page.0 < o.pages) × (entry_word_of words h.page.0 ≡ h.word)
  mine = t.held_word i v h at holds

  -- the word of the page maps what the holder's word maps
  maps_mine : (f : ℕ) → maps_to f (entry_word_of words h.page.0) ≡ maps_to f h.word
  maps_mine f = ap (λ (w : ℕ). maps_to f w) mine.1

  -- a frame that the seat owns is in its hand, or is that of the held page
  owned_as : (f : ℕ) → Owns v f → (0 < times_in_hand f v) ⊎ (maps_to f h.word ≡ 1)
  owned_as f = ⊎_elim (λ hand. inl hand) (λ held. let q = for_some v.held (λ g. maps_to f g.word ≡ 1) held in inr (ap (λ (g : Held). maps_to f g.word) (same_Some _ _ (sym holds ∙ q.1)) ∙ q.2))

  pub frames-begin : mapped_bit h.word ≡ 1 → Frames o (set words (entry_index h.page.0) (moving_word h.word)) (set views i (after_begin v h))
  frames-begin on = frames-at_entry o words views i v k at h.page.0 (moving_word h.word) (after_begin v h) s mine.0
      (λ f. let a = same f in let b = maps_mine f in omega arith)
      (λ f x is. k.stored i v f x at is)
      (λ f some. ⊎_elim (λ hand. inl hand) (λ maps. inr (same f ∙ maps)) (owned_as f (k.unmarked i v f at some))) where
        same : (f : ℕ) → maps_to f (moving_word h.word) ≡ maps_to f h.word
        same f = maps_to-same f (moving_word h.word) h.word (mapped_bit-moving h.word) (frame_of-moving h.word)

  -- ---- map

  module _ (frame : ℕ) (kind : Kind) (x : HandFrame) (room : FramesFit o) (seated : IsSeated o v) (marked : times_unmarked frame v ≡ 0) (is : hand_frame v frame ≡ Some x) (off : mapped_bit h.word ≡ 0) where
    low : frame < 1048576
    low = fits o v frame x room seated is

    pub frames-map : Frames o (set words (entry_index h.page.0) (mapped_word h.word frame kind)) (set views i (after_map v h frame kind))
    frames-map = frames-at_entry o words views i v k at h.page.0 (mapped_word h.word frame kind) (after_map v h frame kind) s mine.0
        (λ f. let b = maps_mine f in let c = maps_to-unmapped f h.word off in dite (ℕ_discrete f frame)
        (λ e. subst (λ (g : ℕ). maps_to g (mapped_word h.word frame kind) + times_in (set v.hand frame None) g ≡ maps_to g (entry_word_of words h.page.0) + times_in v.hand g) (sym e) here)
        (λ ne. let d = times_in-other v.hand frame f None ne in let a = maps_to-other f (mapped_word h.word frame kind) (λ q. ne (sym q ∙ frame_of-mapped h.word frame kind low)) in omega arith))
        (λ f y is. dite (ℕ_discrete f frame)
        (λ e. absurd (none-some y (sym gone ∙ ap (λ (g : ℕ). get_or (set v.hand frame None) g None) (sym e) ∙ is)))
        (λ ne. k.stored i v f y at (sym (get_or-set_other v.hand frame f None None ne) ∙ is)))
        (λ f some. ⊎_elim
        (λ hand. inl (dite (ℕ_discrete f frame)
        (λ e. absurd (let a : times_unmarked f v ≡ 0 = ap (λ (g : ℕ). times_unmarked g v) e ∙ marked in omega arith))
        (λ ne. let d = times_in-other v.hand frame f None ne in omega arith)))
        (λ maps. absurd (let c = maps_to-unmapped f h.word off in omega arith))
        (owned_as f (k.unmarked i v f at some))) where
          gone : get_or (set v.hand frame None) frame None ≡ None
          gone = hand-set_same v.hand frame None (λ e. refl)

          here : maps_to frame (mapped_word h.word frame kind) + times_in (set v.hand frame None) frame ≡ maps_to frame (entry_word_of words h.page.0) + times_in v.hand frame
          here =
              let a = maps_to-one frame (mapped_word h.word frame kind) (mapped_bit-mapped h.word frame kind low) (frame_of-mapped h.word frame kind low) in
              let b = maps_mine frame in
              let c = maps_to-unmapped frame h.word off in
              let d = in_hand-some v frame x is in
              let e : times_in (set v.hand frame None) frame ≡ 0 = ap (λ (m : Option HandFrame). bit_of (is_some m)) gone in
              omega arith

  -- ---- unmap and remap

  module _ (c : Keeper) (on : mapped_bit h.word ≡ 1) (seated : IsSeated o v) where
    maps_old : maps_to (frame_of h.word) h.word ≡ 1
    maps_old = maps_to-one (frame_of h.word) h.word on refl

    -- the page's frame is in no hand, and has a place in this one
    not_in_hand : times_in v.hand (frame_of h.word) ≡ 0
    not_in_hand =
        let a = member_le_sum_by (λ x. times_in_hand (frame_of h.word) x) views i v at in
        let b = maps_le o words views s t k (frame_of h.word) h.page.0 mine.0 in
        let d = frame_once o words views s t k (frame_of h.word) in
        let e = maps_mine (frame_of h.word) in
        let f = maps_old in
        omega arith

    has_place : frame_of h.word < length v.hand
    has_place = let sized = seated.hand in let a = owned_in_range o words views s t k i v (frame_of h.word) at (inr (some_and v.held h (λ g. maps_to (frame_of h.word) g.word ≡ 1) holds maps_old)) in omega arith

    pub frames-unmap : Frames o (set words (entry_index h.page.0) (unmapped_word h.word)) (set views i (after_unmap c v h))
    frames-unmap = frames-at_entry o words views i v k at h.page.0 (unmapped_word h.word) (after_unmap c v h) s mine.0
        (λ f. let a = maps_to-unmapped f (unmapped_word h.word) (mapped_bit-unmapped h.word) in let b = maps_mine f in dite (ℕ_discrete f (frame_of h.word))
        (λ e. let d : times_in v.hand f ≡ 0 = ap (λ (g : ℕ). times_in v.hand g) e ∙ not_in_hand in let m = maps_to-one f h.word on (sym e) in let n = came f e in omega arith)
        (λ ne. let d = times_in-other v.hand (frame_of h.word) f (Some (let_out c v.cells h)) ne in let m = maps_to-other f h.word (λ q. ne (sym q)) in omega arith))
        (λ f y is. dite (ℕ_discrete f (frame_of h.word))
        (λ e. subst (λ (z : HandFrame). Agrees z.stores (cells_of_frame o words f))
        (same_Some _ _ (sym (get_or-set_same v.hand (frame_of h.word) (Some (let_out c v.cells h)) None has_place) ∙ ap (λ (g : ℕ). get_or (set v.hand (frame_of h.word) (Some (let_out c v.cells h))) g None) (sym e) ∙ is))
        (agrees-nothing v.cells (cells_of_frame o words f)))
        (λ ne. k.stored i v f y at (sym (get_or-set_other v.hand (frame_of h.word) f (Some (let_out c v.cells h)) None ne) ∙ is)))
        (λ f some. inl (dite (ℕ_discrete f (frame_of h.word))
        (λ e. let n = came f e in omega arith)
        (λ ne. let d = times_in-other v.hand (frame_of h.word) f (Some (let_out c v.cells h)) ne in ⊎_elim
        (λ hand. omega arith)
        (λ maps. absurd (let m = maps_to-other f h.word (λ q. ne (sym q)) in omega arith))
        (owned_as f (k.unmarked i v f at some))))) where
          came : (f : ℕ) → f ≡ frame_of h.word → times_in (set v.hand (frame_of h.word) (Some (let_out c v.cells h))) f ≡ 1
          came f e = ap (λ (g : ℕ). times_in (set v.hand (frame_of h.word) (Some (let_out c v.cells h))) g) e ∙ times_in-given v.hand (frame_of h.word) (let_out c v.cells h) has_place

    module _ (frame : ℕ) (x : HandFrame) (room : FramesFit o) (marked : times_unmarked frame v ≡ 0) (is : hand_frame v frame ≡ Some x) where
      new_low : frame < 1048576
      new_low = fits o v frame x room seated is

      apart : frame ≢ frame_of h.word
      apart e = let a = in_hand-some v frame x is in let b : times_in v.hand frame ≡ 0 = ap (λ (g : ℕ). times_in v.hand g) e ∙ not_in_hand in absurd (omega arith)

      -- the hand after the step, at each frame
      abbrev left : List (Option HandFrame)
      left = set v.hand frame None

      abbrev hand : List (Option HandFrame)
      hand = set left (frame_of h.word) (Some (let_out c v.cells h))

      at_old : get_or hand (frame_of h.word) None ≡ Some (let_out c v.cells h)
      at_old = get_or-set_same left (frame_of h.word) (Some (let_out c v.cells h)) None (let none : Option HandFrame = None in let a = length-set v.hand frame none in let b = has_place in omega arith)

      at_new : get_or hand frame None ≡ None
      at_new = get_or-set_other left (frame_of h.word) frame (Some (let_out c v.cells h)) None apart ∙ hand-set_same v.hand frame None (λ e. refl)

      at_other : (f : ℕ) → f ≢ frame → f ≢ frame_of h.word → get_or hand f None ≡ get_or v.hand f None
      at_other f n m = get_or-set_other left (frame_of h.word) f (Some (let_out c v.cells h)) None m ∙ get_or-set_other v.hand frame f None None n

      times : (f : ℕ) (y : Option HandFrame) → get_or hand f None ≡ y → times_in hand f ≡ bit_of (is_some y)
      times f y e = ap (λ (m : Option HandFrame). bit_of (is_some m)) e

      pub frames-remap : Frames o (set words (entry_index h.page.0) (remapped_word h.word frame)) (set views i (after_remap c v h frame))
      frames-remap = frames-at_entry o words views i v k at h.page.0 (remapped_word h.word frame) (after_remap c v h frame) s mine.0
          (λ f. let b = maps_mine f in dite (ℕ_discrete f frame)
          (λ e. let a = maps_to-one f (remapped_word h.word frame) (mapped_bit-remapped h.word frame new_low ∙ on) (frame_of-remapped h.word frame new_low ∙ sym e) in
          let d = times f None (ap (λ (g : ℕ). get_or hand g None) e ∙ at_new) in
          let m = maps_to-other f h.word (λ q. apart (sym e ∙ sym q)) in
          let n = in_hand-some v f x (ap (λ (g : ℕ). get_or v.hand g None) e ∙ is) in omega arith)
          (λ ne. let a = maps_to-other f (remapped_word h.word frame) (λ q. ne (sym q ∙ frame_of-remapped h.word frame new_low)) in dite (ℕ_discrete f (frame_of h.word))
          (λ e. let d = times f (Some (let_out c v.cells h)) (ap (λ (g : ℕ). get_or hand g None) e ∙ at_old) in
          let m = maps_to-one f h.word on (sym e) in
          let n : times_in v.hand f ≡ 0 = ap (λ (g : ℕ). times_in v.hand g) e ∙ not_in_hand in omega arith)
          (λ no. let d = times f (get_or v.hand f None) (at_other f ne no) in let m = maps_to-other f h.word (λ q. no (sym q)) in omega arith)))
          (λ f y is. dite (ℕ_discrete f frame)
          (λ e. absurd (none-some y (sym at_new ∙ ap (λ (g : ℕ). get_or hand g None) (sym e) ∙ is)))
          (λ ne. dite (ℕ_discrete f (frame_of h.word))
          (λ e. subst (λ (z : HandFrame). Agrees z.stores (cells_of_frame o words f)) (same_Some _ _ (sym at_old ∙ ap (λ (g : ℕ). get_or hand g None) (sym e) ∙ is)) (agrees-nothing v.cells (cells_of_frame o words f)))
          (λ no. k.stored i v f y at (sym (at_other f ne no) ∙ is))))
          (λ f some. inl (dite (ℕ_discrete f frame)
          (λ e. absurd (let a : times_unmarked f v ≡ 0 = ap (λ (g : ℕ). times_unmarked g v) e ∙ marked in omega arith))
          (λ ne. dite (ℕ_discrete f (frame_of h.word))
          (λ e. let d = times f (Some (let_out c v.cells h)) (ap (λ (g : ℕ). get_or hand g None) e ∙ at_old) in omega arith)
          (λ no. let d = times f (get_or v.hand f None) (at_other f ne no) in ⊎_elim
          (λ own. omega arith)
          (λ maps. absurd (let m = maps_to-other f h.word (λ q. no (sym q)) in omega arith))
          (owned_as f (k.unmarked i v f at some))))))

-- ---- any step on a mapping

module _ (k : Keeper) (o : Opening) (words : List ℕ) (views : List View) (seat : ℕ) (v : View) (at : Has views seat v) (room : FramesFit o) (s : Shaped o words) (t : Turn o words views) (f : Frames o words views) (g : Pages o words views) where
  -- what the step leaves, where the view holds this page
  abbrev after : MoveStep → Option Held → Type 0
  after step m = Frames o (words_after_move words (record v { held = m }) step) (views_after_move k views seat (record v { held = m }) step)

  frames-step : (step : MoveStep) → AllowedMove k o v step → Frames o (words_after_move words v step) (views_after_move k views seat v step)
  frames-step Moving may = let p = for_some v.held (MayBegin v) may.1 in
      subst (after Moving) (sym p.1) (frames-begin o words views seat v f at s t p.0 p.1 p.2.mapped)
  frames-step (Remap frame) may =
      let p = for_some v.held (λ h. InHand v frame.0 (MayRemap k o h)) may.1 in
      let x = for_some_in (hand_frame v frame.0) (MayRemap k o p.0) p.2.1 in
      subst (after (Remap frame)) (sym p.1)
      (frames-remap o words views seat v f at s t p.0 p.1 k (moving_is_mapped (p.0).word _ (g.held seat v p.0 at p.1).shows.flags x.2.moving) may.0 frame.0 x.0 room p.2.0 x.1)
  frames-step (Map frame kind) may =
      let p = for_some v.held (λ h. InHand v frame.0 (λ x. MayMap k o h x kind)) may.1 in
      let x = for_some_in (hand_frame v frame.0) (λ x. MayMap k o p.0 x kind) p.2.1 in
      subst (after (Map frame kind)) (sym p.1) (frames-map o words views seat v f at s t p.0 p.1 frame.0 kind x.0 room may.0 p.2.0 x.1 x.2.unmapped)
  frames-step Unmap may = let p = for_some v.held MayUnmap may.1 in
      subst (after Unmap) (sym p.1) (frames-unmap o words views seat v f at s t p.0 p.1 k p.2.mapped may.0)

pub moves_keep_frames : (k : Keeper) (o : Opening) (words : List ℕ) (views : List View) (seat : ℕ) (v : View) (step : MoveStep) → Has views seat v → FramesFit o → Shaped o words → Turn o words views → Frames o words views → Pages o words views → AllowedMove k o v step
    → Frames o (words_after_move words v step) (views_after_move k views seat v step)
moves_keep_frames k o words views seat v step at room s t f g may = frames-step k o words views seat v at room s t f g step may
