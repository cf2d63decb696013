-- `Bounds` is kept by each step on a mapping, where each frame has room in an entry word.
use Rattle.std.proofs.Common.{◌≡◌, ℕ, List, set, sym, ap, ◌∙◌, subst, arith}
use Rattle.std.proofs.lemmas.Option.{same_Some}
use Rattle.evac_words.specs.Word.{bound_of}
use Rattle.evac_words.specs.Table.{entry_index}
use Rattle.core_state.specs.declared.held.Held.{Held}
use Rattle.core_state.specs.declared.keeper.Keeper.{Keeper}
use Rattle.core_state.specs.declared.opening.Opening.{Opening}
use Rattle.core_state.specs.declared.step.MoveStep.{MoveStep}
use Rattle.core_state.specs.declared.step.MoveStep.TheVariants.{Moving, Remap, Map, Unmap}
use Rattle.core_state.specs.declared.view.View.{View}
use Rattle.core_state.specs.Views.{Has, hand_frame}
use Rattle.core_state.specs.Parts.{Shaped, Turn, Tickets, Bounds}
use Rattle.core_state.specs.Steps.{held_page, held_word}
use Rattle.core_state.specs.MoveSteps.{MayRemap, MayMap, InHand, AllowedMove, word_after_move, view_after_move}
use Rattle.core_state.specs.Stepped.{words_after_move}
use Rattle.core_state.proofs.WordsAt.{next_ticket-entry, entry_within}
use Rattle.core_state.proofs.Holding.{for_some}
use Rattle.core_state.proofs.RoomMoves.{for_some_in}
use Rattle.core_state.proofs.BoundSteps.{bounds-elsewhere, bound-same}
use Rattle.core_moves.specs.Moved.{FramesFit, views_after_move}
use Rattle.core_moves.proofs.MoveWords.{bound_of-moving, bound_of-remapped, bound_of-mapped, bound_of-unmapped}
use Rattle.core_moves.proofs.Moves.{fits}
use Rattle.core_moves.proofs.Changed.{Changed, changed}

-- ---- the bound of the new word

module _ (k : Keeper) (o : Opening) (v : View) (room : FramesFit o) where
  bound_of-after : (step : MoveStep) → AllowedMove k o v step → bound_of (word_after_move v step) ≡ bound_of (held_word v.held)
  bound_of-after Moving may = bound_of-moving (held_word v.held)
  bound_of-after (Remap frame) may =
      let p = for_some v.held (λ h. InHand v frame.0 (MayRemap k o h)) may.1 in
      let x = for_some_in (hand_frame v frame.0) (MayRemap k o p.0) p.2.1 in
      bound_of-remapped (held_word v.held) frame.0 (fits o v frame.0 x.0 room may.0 x.1)
  bound_of-after (Map frame kind) may =
      let p = for_some v.held (λ h. InHand v frame.0 (λ x. MayMap k o h x kind)) may.1 in
      let x = for_some_in (hand_frame v frame.0) (λ x. MayMap k o p.0 x kind) p.2.1 in
      bound_of-mapped (held_word v.held) frame.0 kind (fits o v frame.0 x.0 room may.0 x.1)
  bound_of-after Unmap may = bound_of-unmapped (held_word v.held)

-- ---- the bounds

pub bounds-changed : (o : Opening) (words : List ℕ) (views : List View) (i : ℕ) (v w : View) (h g : Held) (n : ℕ) → Turn o words views → Bounds o words views → Has views i v → Shaped o words → Changed v w h g n → bound_of n ≡ bound_of h.word
    → Bounds o (set words (entry_index h.page.0) n) (set views i w)
bounds-changed o words views i v w h g n t b at s c same = let mine = t.held_word i v h at c.holds in
    bounds-elsewhere o words views i v b at (entry_index h.page.0) n w (next_ticket-entry words h.page.0 n)
    (λ page lt. bound-same o words views i v b at h.page.0 n (entry_within o words h.page.0 s mine.0) (same ∙ ap bound_of (sym mine.1)) page)
    c.entries c.seen
    (λ x t is on. let q = same_Some g x (sym c.now ∙ is) in
    let late = b.drawn_late i v h t at c.holds (sym c.ticket ∙ ap (λ (y : Held). y.ticket) q ∙ on) in
    let e : bound_of x.word ≡ bound_of n = ap (λ (y : Held). bound_of y.word) (sym q) ∙ ap bound_of c.word in omega arith)

pub moves_keep_bounds : (k : Keeper) (o : Opening) (words : List ℕ) (views : List View) (seat : ℕ) (v : View) (step : MoveStep) → Has views seat v → FramesFit o → Shaped o words → Turn o words views → Tickets o words views → Bounds o words views → AllowedMove k o v step
    → Bounds o (words_after_move words v step) (views_after_move k views seat v step)
moves_keep_bounds k o words views seat v step at room s t u b may = let c = changed k o v step may in
    subst (λ (p : ℕ). Bounds o (set words (entry_index p) (word_after_move v step)) (set views seat (view_after_move k v step))) (sym (ap (λ m. held_page m) c.2.holds))
    (bounds-changed o words views seat v (view_after_move k v step) c.0 c.1 (word_after_move v step) t b at s c.2 (bound_of-after k o v room step may ∙ ap (λ m. bound_of (held_word m)) c.2.holds))
