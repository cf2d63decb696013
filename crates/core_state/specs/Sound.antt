-- What holds of the words and the views between any two steps.
use Rattle.std.specs.Prelude.{ℕ, List}
use Rattle.core_state.specs.declared.opening.Opening.{Opening}
use Rattle.core_state.specs.declared.view.View.{View}
use Rattle.core_state.specs.Parts.{Shaped, Turn, Tickets, Bounds}
use Rattle.core_state.specs.Seats.{Seats}
use Rattle.core_state.specs.Frames.{Frames}
use Rattle.core_state.specs.Pages.{Pages}
use Rattle.core_state.specs.NoticedWords.{NoticedWords}
use Rattle.core_state.specs.Image.{Image}

pub record Sound (o : Opening) (words : List ℕ) (views : List View) : Type 0 where
  pub shaped : Shaped o words
  pub seats : Seats o views
  pub turn : Turn o words views
  pub frames : Frames o words views
  pub tickets : Tickets o words views
  pub bounds : Bounds o words views
  pub pages : Pages o words views
  pub noticed : NoticedWords o words views
  pub image : Image o words views
