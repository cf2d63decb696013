-- `Turn` is kept by each step on a mapping.
use Rattle.std.proofs.Common.{◌≡◌, ℕ, List, set, sym, refl, ap, ◌∙◌, subst, inr, arith}
use Rattle.std.proofs.lemmas.Option.{same_Some}
use Rattle.evac_model.specs.declared.names.PageNo.{PageNo}
use Rattle.evac_words.specs.Word.{taken_bit}
use Rattle.evac_words.specs.Table.{entry_index}
use Rattle.core_state.specs.declared.held.Held.{Held}
use Rattle.core_state.specs.declared.keeper.Keeper.{Keeper}
use Rattle.core_state.specs.declared.opening.Opening.{Opening}
use Rattle.core_state.specs.declared.step.MoveStep.{MoveStep}
use Rattle.core_state.specs.declared.view.View.{View}
use Rattle.core_state.specs.Words.{entry_word_of}
use Rattle.core_state.specs.Views.{Has}
use Rattle.core_state.specs.Parts.{Shaped, Turn}
use Rattle.core_state.specs.Steps.{held_page}
use Rattle.core_state.specs.MoveSteps.{AllowedMove, word_after_move, view_after_move}
use Rattle.core_state.specs.Stepped.{words_after_move}
use Rattle.core_state.proofs.WordsAt.{entry_within}
use Rattle.core_state.proofs.Holding.{holds_page-same, holds_page-other}
use Rattle.core_state.proofs.TurnSteps.{turn-at_entry, holds_mine, taken_mine}
use Rattle.core_moves.specs.Moved.{views_after_move}
use Rattle.core_moves.proofs.Changed.{Changed, changed}

pub turn-changed : (o : Opening) (words : List ℕ) (views : List View) (i : ℕ) (v w : View) (h g : Held) (n : ℕ) → Turn o words views → Has views i v → Shaped o words → Changed v w h g n
    → Turn o (set words (entry_index h.page.0) n) (set views i w)
turn-changed o words views i v w h g n t at s c =
    let page_is : g.page.0 ≡ h.page.0 = ap (λ (p : PageNo). p.0) c.page in
    let old_one = holds_page-same h.page.0 v.held h c.holds refl in
    let new_one = holds_page-same h.page.0 w.held g c.now page_is in
    let lone = taken_mine o words views i v t at h c.holds in
    let here : taken_bit (entry_word_of words h.page.0) ≡ taken_bit h.word = ap taken_bit (t.held_word i v h at c.holds).1 in
    let same = c.taken in
    turn-at_entry o words views i v t at h.page.0 n w (holds_mine o words views i v t at h c.holds) (entry_within o words h.page.0 s (holds_mine o words views i v t at h c.holds))
    (λ page ne. holds_page-other page w.held g c.now (λ q. ne (sym q ∙ page_is)) ∙ sym (holds_page-other page v.held h c.holds (λ q. ne (sym q))))
    (omega arith)
    (inr (lone ∙ sym old_one))
    (λ x is. let q = same_Some g x (sym c.now ∙ is) in (ap (λ (y : Held). y.page.0) (sym q) ∙ page_is, sym c.word ∙ ap (λ (y : Held). y.word) q))
    c.mover

pub moves_keep_turn : (k : Keeper) (o : Opening) (words : List ℕ) (views : List View) (seat : ℕ) (v : View) (step : MoveStep) → Has views seat v → Shaped o words → Turn o words views → AllowedMove k o v step
    → Turn o (words_after_move words v step) (views_after_move k views seat v step)
moves_keep_turn k o words views seat v step at s t may = let c = changed k o v step may in
    subst (λ (p : ℕ). Turn o (set words (entry_index p) (word_after_move v step)) (set views seat (view_after_move k v step))) (sym (ap (λ m. held_page m) c.2.holds))
    (turn-changed o words views seat v (view_after_move k v step) c.0 c.1 (word_after_move v step) t at s c.2)
