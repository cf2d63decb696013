-- `Sound` is kept by each step of a call.
use Rattle.std.proofs.Common.{ℕ, List, ◌≡◌, ◌<◌, length, sym, subst}
use Rattle.core_state.specs.declared.keeper.Keeper.{Keeper}
use Rattle.core_state.specs.declared.opening.Opening.{Opening}
use Rattle.core_state.specs.declared.step.Step.{Step}
use Rattle.core_state.specs.declared.view.View.{View}
use Rattle.core_state.specs.Views.{Has, view_of}
use Rattle.core_state.specs.Sound.{Sound}
use Rattle.core_state.specs.Steps.{Allowed}
use Rattle.core_state.specs.Stepped.{words_after, views_after, snapshot_after}
use Rattle.core_state.proofs.WordsAt.{shaped-set}
use Rattle.core_state.proofs.SeatSteps.{steps_keep_seats}
use Rattle.core_state.proofs.TurnSteps.{steps_keep_turn}
use Rattle.core_state.proofs.FrameSteps.{steps_keep_frames}
use Rattle.core_state.proofs.TicketSteps.{steps_keep_tickets}
use Rattle.core_state.proofs.BoundSteps.{steps_keep_bounds}
use Rattle.core_state.proofs.PageCells.{steps_keep_pages}
use Rattle.core_state.proofs.NoticedKept.{steps_keep_noticed_words}
use Rattle.core_state.proofs.ImageSteps.{steps_keep_image}
use Rattle.core_state.specs.declared.keeper.Keeper.TheVariants.{OneOwner}
use Rattle.core_state.specs.declared.snapshot.Snapshot.{Snapshot}
use Rattle.core_state.proofs.Rooms.{seat_has}

pub steps_keep_sound : (k : Keeper) (o : Opening) (words : List ℕ) (views : List View) (seat : ℕ) (v : View) (step : Step) → Has views seat v → Sound o words views → Allowed o v step
    → Sound o (words_after o words v step) (views_after k o words views seat v step)
steps_keep_sound k o words views seat v step at s may = record {
  shaped = shaped-set o words _ _ s.shaped;
  seats = steps_keep_seats k o words views seat v step at s.seats may;
  turn = steps_keep_turn k o words views seat v step at s.shaped s.turn may;
  frames = steps_keep_frames k o words views seat v step at s.shaped s.turn s.frames may;
  tickets = steps_keep_tickets k o words views seat v step at s.shaped s.tickets may;
  bounds = steps_keep_bounds k o words views seat v step at s.shaped s.turn s.tickets s.bounds may;
  pages = steps_keep_pages k o words views seat v step at s.shaped s.turn s.frames s.tickets s.bounds s.pages may;
  noticed = steps_keep_noticed_words k o words views seat v step at s.shaped s.turn s.tickets s.bounds s.pages s.noticed may;
  image = steps_keep_image k o words views seat v step at s.shaped s.turn s.frames s.image may;
}

-- the snapshot after an allowed step of a seat
pub step_stays_sound : (o p : Opening) (s t : Snapshot) (seat : ℕ) (step : Step) → seat < length s.views → Sound o s.words s.views → Allowed o (view_of s.views seat) step → t ≡ snapshot_after OneOwner o s seat step → p ≡ o → Sound p t.words t.views
step_stays_sound o p s t seat step lt sound may is same =
    subst (λ (q : Opening). Sound q t.words t.views) (sym same)
    (subst (λ (u : Snapshot). Sound o u.words u.views) (sym is)
    (steps_keep_sound OneOwner o s.words s.views seat (view_of s.views seat) step (seat_has s.views seat lt) sound may))
