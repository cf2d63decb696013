-- `Image` is kept by each step on a mapping.
use Rattle.std.proofs.Common.{ℕ, List, set, sym, ap, subst}
use Rattle.evac_words.specs.Table.{entry_index}
use Rattle.core_state.specs.declared.keeper.Keeper.{Keeper}
use Rattle.core_state.specs.declared.opening.Opening.{Opening}
use Rattle.core_state.specs.declared.step.MoveStep.{MoveStep}
use Rattle.core_state.specs.declared.view.View.{View}
use Rattle.core_state.specs.Views.{Has}
use Rattle.core_state.specs.Parts.{Shaped, Turn}
use Rattle.core_state.specs.Frames.{Frames}
use Rattle.core_state.specs.Image.{Image}
use Rattle.core_state.specs.Steps.{held_page}
use Rattle.core_state.specs.MoveSteps.{AllowedMove, word_after_move, view_after_move}
use Rattle.core_state.specs.Stepped.{words_after_move}
use Rattle.core_state.proofs.ImageSteps.{image-at_entry}
use Rattle.core_moves.specs.Moved.{views_after_move}
use Rattle.core_moves.proofs.Changed.{changed}

pub moves_keep_image : (k : Keeper) (o : Opening) (words : List ℕ) (views : List View) (seat : ℕ) (v : View) (step : MoveStep) → Has views seat v → Shaped o words → Turn o words views → Frames o words views → Image o words views → AllowedMove k o v step
    → Image o (words_after_move words v step) (views_after_move k views seat v step)
moves_keep_image k o words views seat v step at s t f g may = let c = changed k o v step may in
    subst (λ (p : ℕ). Image o (set words (entry_index p) (word_after_move v step)) (set views seat (view_after_move k v step))) (sym (ap (λ m. held_page m) c.2.holds))
    (image-at_entry o words views seat v g at c.0.page.0 (word_after_move v step) (view_after_move k v step) (t.held_word seat v c.0 at c.2.holds).0 c.2.scan c.2.unmarked)
