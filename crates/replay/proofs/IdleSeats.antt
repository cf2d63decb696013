-- A seat that makes no calls, once frames came in its hand or went from it.
use Rattle.std.proofs.Common.{◌≡◌, ◌⊎◌, ⊎_elim, ◌≤◌, ap, ◌∙◌, arith}
use Rattle.core_state.specs.declared.opening.Opening.{Opening}
use Rattle.core_state.specs.declared.view.View.{View}
use Rattle.core_state.specs.Seats.{IsSeat}
use Rattle.core_state.specs.Views.{spent}
use Rattle.replay.specs.Keeping.{IsIdle}

-- the one view is the other but for its hand
pub record IsButHand (v w : View) : Type 0 where
  pub same : w ≡ record v { hand = w.hand }

pub idle_still : (o : Opening) (v w : View) → 1 ≤ o.cells → IsIdle o v → IsButHand v w → (w ≡ spent) ⊎ IsSeat o w → IsIdle o w
idle_still o v w some idle but seat =
    let same = but.same in
    let cells : w.cells ≡ v.cells = ap (λ (x : View). x.cells) same in
    let all = idle.rests.seated.cells in
    record {
      rests = record {
        seated = ⊎_elim (λ none. let zero_cells = ap (λ (x : View). x.cells) none in absurd (omega arith)) (λ k. k.seated) seat;
        holds_none = ap (λ (x : View). x.held) same ∙ idle.rests.holds_none;
        all_marked = ap (λ (x : View). x.unmarked) same ∙ idle.rests.all_marked;
      };
      entries = ap (λ (x : View). x.entries) same ∙ idle.entries;
    }
