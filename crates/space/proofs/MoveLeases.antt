-- The lease of a target for a page of an isolated block, as the journal tells it.
use Rattle.std.proofs.Common.{◌≡◌, ℕ, ◌<◌, true, sym, ap, ◌∙◌, Option, Some}
use Rattle.evac_model.specs.declared.names.FrameNo.{FrameNo}
use Rattle.evac_model.specs.declared.names.Kind.TheVariants.{Movable}
use Rattle.evac_model.specs.declared.names.PageNo.{PageNo}
use Rattle.evac_model.specs.declared.space.SpaceAction.TheVariants.{MoveLease}
use Rattle.evac_model.specs.Numbers.{is_in}
use Rattle.evac_model.specs.SpaceJournal.{lease_of, Chooses, IsPossible}
use Rattle.space.specs.JournaledSpace.{JournaledSpace, space_state}
use Rattle.space.specs.KeptSpace.{KeptSpace}
use Rattle.space.specs.KeptJournal.{IsLeftBy}
use Rattle.space.specs.Refusals.{next_out}
use Rattle.space.proofs.BlockFrames.{is_in_bound}
use Rattle.space.proofs.LeasesKept.{chosen_left}
use Rattle.space.proofs.NextOut.{next_isolated}

pub managed_left : (v : JournaledSpace) (k : KeptSpace) (used owed room b : ℕ) → IsLeftBy v k used owed room → is_in b (space_state v).isolated ≡ true → b < k.sizes.managed
managed_left v k used owed room b h there =
    is_in_bound k.sizes.managed k.state.isolated b h.space.isolated (ap (λ (x : KeptSpace). is_in b x.state.isolated) h.left ∙ there)

pub next_left : (v : JournaledSpace) (k : KeptSpace) (used owed room b : ℕ) (after : Option FrameNo) → IsLeftBy v k used owed room → next_out v.sizes (space_state v) b after ≡ next_out k.sizes k.state b after
next_left v k used owed room b after h = ap (λ (x : KeptSpace). next_out x.sizes x.state b after) (sym h.left)

pub move_possible : (v : JournaledSpace) (k : KeptSpace) (used owed room b : ℕ) (after : Option FrameNo) (from : FrameNo) (page : PageNo) (target : FrameNo) → IsLeftBy v k used owed room → is_in b (space_state v).isolated ≡ true → Some (from, page) ≡ next_out k.sizes k.state b after → Chooses (lease_of k.sizes k.online k.state 0 Movable) target.0 → IsPossible v.sizes v.online (space_state v) (MoveLease target page)
move_possible v k used owed room b after from page target h there e chosen = (
  next_isolated v.sizes (space_state v) b after (from, page) there (next_left v k used owed room b after h ∙ sym e),
  chosen_left v k used owed room 0 Movable target.0 h chosen,
)
