-- `Sound` is kept by each step on a mapping.
use Rattle.std.proofs.Common.{ℕ, List}
use Rattle.core_state.specs.declared.keeper.Keeper.{Keeper}
use Rattle.core_state.specs.declared.opening.Opening.{Opening}
use Rattle.core_state.specs.declared.step.MoveStep.{MoveStep}
use Rattle.core_state.specs.declared.view.View.{View}
use Rattle.core_state.specs.Views.{Has}
use Rattle.core_state.specs.Sound.{Sound}
use Rattle.core_state.specs.MoveSteps.{AllowedMove}
use Rattle.core_state.specs.Stepped.{words_after_move}
use Rattle.core_state.proofs.WordsAt.{shaped-set}
use Rattle.core_moves.specs.Moved.{FramesFit, views_after_move}
use Rattle.core_moves.proofs.SeatMoves.{moves_keep_seats}
use Rattle.core_moves.proofs.TurnMoves.{moves_keep_turn}
use Rattle.core_moves.proofs.FrameMoves.{moves_keep_frames}
use Rattle.core_moves.proofs.TicketMoves.{moves_keep_tickets}
use Rattle.core_moves.proofs.BoundMoves.{moves_keep_bounds}
use Rattle.core_moves.proofs.PageMoves.{moves_keep_pages}
use Rattle.core_moves.proofs.NoticedMoves.{moves_keep_noticed_words}
use Rattle.core_moves.proofs.ImageMoves.{moves_keep_image}

pub moves_keep_sound : (k : Keeper) (o : Opening) (words : List ℕ) (views : List View) (seat : ℕ) (v : View) (step : MoveStep) → Has views seat v → FramesFit o → Sound o words views → AllowedMove k o v step
    → Sound o (words_after_move words v step) (views_after_move k views seat v step)
moves_keep_sound k o words views seat v step at fit s may = record {
  shaped = shaped-set o words _ _ s.shaped;
  seats = moves_keep_seats k o views seat v step at s.seats may;
  turn = moves_keep_turn k o words views seat v step at s.shaped s.turn may;
  frames = moves_keep_frames k o words views seat v step at fit s.shaped s.turn s.frames s.pages may;
  tickets = moves_keep_tickets k o words views seat v step at s.shaped s.turn s.tickets may;
  bounds = moves_keep_bounds k o words views seat v step at fit s.shaped s.turn s.tickets s.bounds may;
  pages = moves_keep_pages k o words views seat v step at fit s.shaped s.turn s.frames s.tickets s.bounds s.pages may;
  noticed = moves_keep_noticed_words k o words views seat v step at s.shaped s.turn s.tickets s.bounds s.pages s.noticed may;
  image = moves_keep_image k o words views seat v step at s.shaped s.turn s.frames s.image may;
}
