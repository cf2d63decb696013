use Rattle.std.proofs.Common.{◌≤◌, ℕ, List, None, sym, subst}
use Rattle.evac_model.proofs.Bounds.{power_to_512_most}
use Rattle.evacuate.specs.declared.stage.Stage.TheVariants.{Isolating}
use Rattle.evacuate.specs.Tale.{nothing_tried}
use Rattle.evacuate.specs.UnderWay.{GoesBy}
use Rattle.evacuate.proofs.Starts.{goes_by_at_start}
use Rattle.evacuate.proofs.evacuation.Evacuation.new.Goals as goal

pub returns-clause-goes_by : goal.returns-clause-goes_by
returns-clause-goes_by c =
    let most : c.args.g.block ≤ 512 = power_to_512_most c.args.g.block c.block-frames.ensures.within.block in
    subst (λ (words : List (List ℕ)). GoesBy (record { sizes = c.args.g; block = c.args.b; stage = Isolating; round = 0; busy = None; words = words }) nothing_tried)
    (sym c.no_words.ensures) (goes_by_at_start c.args.g c.args.b most)
