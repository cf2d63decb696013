-- `Tickets` is kept by each step on a mapping.
use Rattle.std.proofs.Common.{◌≡◌, ℕ, eqb, List, set, sym, ap, ◌∙◌, subst, arith}
use Rattle.std.specs.List.{count_by}
use Rattle.std.proofs.lemmas.Option.{same_Some}
use Rattle.evac_model.specs.declared.entry.Entry.{Entry}
use Rattle.evac_words.specs.Table.{entry_index}
use Rattle.core_state.specs.declared.held.Held.{Held}
use Rattle.core_state.specs.declared.keeper.Keeper.{Keeper}
use Rattle.core_state.specs.declared.opening.Opening.{Opening}
use Rattle.core_state.specs.declared.step.MoveStep.{MoveStep}
use Rattle.core_state.specs.declared.view.View.{View}
use Rattle.core_state.specs.Views.{Has}
use Rattle.core_state.specs.Parts.{Shaped, Turn, Tickets, is_at, drawn_as}
use Rattle.core_state.specs.Steps.{held_page}
use Rattle.core_state.specs.MoveSteps.{AllowedMove, word_after_move, view_after_move}
use Rattle.core_state.specs.Stepped.{words_after_move}
use Rattle.core_state.proofs.WordsAt.{next_ticket-entry}
use Rattle.core_state.proofs.TicketSteps.{tickets-elsewhere}
use Rattle.core_moves.specs.Moved.{views_after_move}
use Rattle.core_moves.proofs.Changed.{Changed, changed}

drawn_as-changed : (v w : View) (h g : Held) (n t : ℕ) → Changed v w h g n → drawn_as t w.held ≡ drawn_as t v.held
drawn_as-changed v w h g n t c = ap (λ m. drawn_as t m) c.now ∙ ap (λ m. is_at t m) c.ticket ∙ sym (ap (λ m. drawn_as t m) c.holds)

pub tickets-changed : (o : Opening) (words : List ℕ) (views : List View) (i : ℕ) (v w : View) (h g : Held) (n : ℕ) → Tickets o words views → Has views i v → Changed v w h g n
    → Tickets o (set words (entry_index h.page.0) n) (set views i w)
tickets-changed o words views i v w h g n k at c = tickets-elsewhere o words views i v k at (entry_index h.page.0) n w (next_ticket-entry words h.page.0 n)
    (λ t. let d = drawn_as-changed v w h g n t c in let b = ap (λ (es : List Entry). count_by (λ e. eqb e.ticket t) es) c.entries in omega arith)
    c.left c.caller
    (λ x t is on. k.caller_with_drawn i v h t at c.holds (sym c.ticket ∙ ap (λ (y : Held). y.ticket) (same_Some g x (sym c.now ∙ is)) ∙ on))

pub moves_keep_tickets : (k : Keeper) (o : Opening) (words : List ℕ) (views : List View) (seat : ℕ) (v : View) (step : MoveStep) → Has views seat v → Shaped o words → Turn o words views → Tickets o words views → AllowedMove k o v step
    → Tickets o (words_after_move words v step) (views_after_move k views seat v step)
moves_keep_tickets k o words views seat v step at s t u may = let c = changed k o v step may in
    subst (λ (p : ℕ). Tickets o (set words (entry_index p) (word_after_move v step)) (set views seat (view_after_move k v step))) (sym (ap (λ m. held_page m) c.2.holds))
    (tickets-changed o words views seat v (view_after_move k v step) c.0 c.1 (word_after_move v step) u at c.2)
