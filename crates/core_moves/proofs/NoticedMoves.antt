-- `NoticedWords` is kept by each step on a mapping.
use Rattle.std.proofs.Common.{◌≡◌, ℕ, ◌<◌, ◌≤◌, List, set, sym, ap, ◌∙◌, subst, inl, inr, ⊎_elim, arith, Option, IsSome}
use Rattle.std.specs.List.{slice_get}
use Rattle.std.proofs.lemmas.Option.{same_Some}
use mathlib.Core.Logic.{dite}
use native.Mathlib.Decide.{ℕ_discrete}
use Rattle.evac_model.specs.declared.names.PageNo.{PageNo}
use Rattle.evac_words.specs.Word.{bound_of}
use Rattle.evac_words.specs.Table.{entry_index}
use Rattle.core_state.specs.declared.held.Held.{Held}
use Rattle.core_state.specs.declared.keeper.Keeper.{Keeper}
use Rattle.core_state.specs.declared.noticed.Noticed.{Noticed}
use Rattle.core_state.specs.declared.opening.Opening.{Opening}
use Rattle.core_state.specs.declared.step.MoveStep.{MoveStep}
use Rattle.core_state.specs.declared.view.View.{View}
use Rattle.core_state.specs.Words.{entry_word_of}
use Rattle.core_state.specs.Views.{Has, right_to}
use Rattle.core_state.specs.Parts.{Shaped, Turn, Tickets, Bounds}
use Rattle.core_state.specs.Pages.{Pages}
use Rattle.core_state.specs.NoticedWords.{HasHolder, MayHold, NoticedWords}
use Rattle.core_state.specs.Steps.{held_page}
use Rattle.core_state.specs.MoveSteps.{AllowedMove, word_after_move, view_after_move}
use Rattle.core_state.specs.Stepped.{words_after_move}
use Rattle.core_state.proofs.Lists.{set_here, within}
use Rattle.core_state.proofs.WordsAt.{entry_word-here, entry_word-other, entry_within}
use Rattle.core_state.proofs.TurnSteps.{right_kept, holds_mine}
use Rattle.core_state.proofs.NoticedKept.{page_before-kept, has_entry-same, followed-kept, noticed-kept}
use Rattle.core_moves.specs.Moved.{views_after_move}
use Rattle.core_moves.proofs.Changed.{Changed, changed}

module _ (o : Opening) (words : List ℕ) (views : List View) (i : ℕ) (v w : View) (h g : Held) (n : ℕ) (at : Has views i v) (c : Changed v w h g n) where
  -- the seat that steps goes on holding the page
  mine : (page : ℕ) → h.page.0 ≡ page → HasHolder (set views i w) page
  mine page on = record { seat = i; view = w; hold = g; has = set_here views i w (within views i v at); is = c.now; on = ap (λ (p : PageNo). p.0) c.page ∙ on }

  may_hold : MayHold v h → MayHold w g
  may_hold = ⊎_elim
      (λ d. inl (subst (λ (m : Option ℕ). IsSome m) (sym c.ticket) d))
      (⊎_elim (λ d. inr (inl (let e = c.left in omega arith))) (λ d. inr (inr (subst (λ (p : PageNo). 0 < right_to p.0 w) (sym c.page) (let e = right_kept v w h.page.0 c.mover in omega arith)))))

  bound_kept : Turn o words views → Shaped o words → (page : ℕ) → bound_of (entry_word_of words page) ≤ bound_of (entry_word_of (set words (entry_index h.page.0) n) page)
  bound_kept t s page = dite (ℕ_discrete page h.page.0)
      (λ q. subst (λ (r : ℕ). bound_of (entry_word_of words r) ≤ bound_of (entry_word_of (set words (entry_index h.page.0) n) r)) (sym q)
      (let old : bound_of (entry_word_of words h.page.0) ≡ bound_of h.word = ap bound_of (t.held_word i v h at c.holds).1 in
      let new : bound_of (entry_word_of (set words (entry_index h.page.0) n) h.page.0) ≡ bound_of n = ap bound_of (entry_word-here words n h.page.0 (entry_within o words h.page.0 s (holds_mine o words views i v t at h c.holds))) in
      let above = c.bound_above in omega arith))
      (λ ne. let a : bound_of (entry_word_of (set words (entry_index h.page.0) n) page) ≡ bound_of (entry_word_of words page) = ap bound_of (entry_word-other words h.page.0 n page ne) in omega arith)

  pub noticed-changed : Turn o words views → Shaped o words → NoticedWords o words views → NoticedWords o (set words (entry_index h.page.0) n) (set views i w)
  unfolding mine
  noticed-changed t s k = noticed-kept o words views i v k at (entry_index h.page.0) n w (has_entry-same views i v w at c.entries)
      (λ page lt. bound_kept t s page)
      (λ d old. page_before-kept o views i v w d.page.0 (bound_of d.word) at c.entries)
      (λ x is. subst (λ (y : Held). MayHold w y) (same_Some g x (sym c.now ∙ is)) (may_hold (k.may_hold i v h at c.holds)))
      (λ x d is. inl (ap (λ (y : Noticed). slice_get y.by_right x) (sym c.noticed) ∙ is))
      (λ d is. inl (ap (λ (y : Noticed). y.last) (sym c.noticed) ∙ is))
      (λ d old l. followed-kept o words views i v k at w d (has_entry-same views i v w at c.entries)
      (λ x t is on drawn late. let q = same_Some h x (sym c.holds ∙ is) in
      inr (inl record { holder = mine d.page.0 (ap (λ (y : Held). y.page.0) q ∙ on); ticket = t; drawn = c.ticket ∙ ap (λ (y : Held). y.ticket) q ∙ drawn; late = late }))
      (λ x is on some no. let q = same_Some h x (sym c.holds ∙ is) in
      inr (inr record { holder = mine d.page.0 (ap (λ (y : Held). y.page.0) q ∙ on); left = (let e = c.left in omega arith); no_right = right_kept v w d.page.0 c.mover ∙ no })) l)

pub moves_keep_noticed_words : (k : Keeper) (o : Opening) (words : List ℕ) (views : List View) (seat : ℕ) (v : View) (step : MoveStep) → Has views seat v → Shaped o words → Turn o words views → Tickets o words views → Bounds o words views → Pages o words views → NoticedWords o words views → AllowedMove k o v step
    → NoticedWords o (words_after_move words v step) (views_after_move k views seat v step)
moves_keep_noticed_words k o words views seat v step at s t u b g n may = let c = changed k o v step may in
    subst (λ (p : ℕ). NoticedWords o (set words (entry_index p) (word_after_move v step)) (set views seat (view_after_move k v step))) (sym (ap (λ m. held_page m) c.2.holds))
    (noticed-changed o words views seat v (view_after_move k v step) c.0 c.1 (word_after_move v step) at c.2 t s n)
