-- `Sound` is kept by a hand-over, which rearranges the views.
use Rattle.std.proofs.Common.{ℕ, ◌≢◌, List}
use Rattle.core_state.specs.declared.opening.Opening.{Opening}
use Rattle.core_state.specs.declared.view.View.{View}
use Rattle.core_state.specs.Views.{Has}
use Rattle.core_state.specs.Sound.{Sound}
use Rattle.core_state.specs.HandOvers.{MayHandOver, views_after_hand_over}
use Rattle.core_state.proofs.Rearranged.{rearranged_stays_sound}
use Rattle.core_state.proofs.HandedOver.{handed_over}

pub hand_overs_keep_sound : (o : Opening) (words : List ℕ) (views : List View) (from to : ℕ) (giver receiver : View) (first n : ℕ) → Has views from giver → Has views to receiver → from ≢ to → Sound o words views → MayHandOver o giver receiver first n
    → Sound o words (views_after_hand_over views from to giver receiver first n)
hand_overs_keep_sound o words views from to giver receiver first n at_giver at_receiver apart s may =
    rearranged_stays_sound o words views (views_after_hand_over views from to giver receiver first n) s
    (handed_over o words views from to giver receiver first n at_giver at_receiver apart s.frames may)
