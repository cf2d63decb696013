use Rattle.std.proofs.Common.{◌≡◌, ℕ, List, [], ◌∷◌, ◌++◌, sym, ap, ◌∙◌, rules}
use Rattle.evac_model.specs.Numbers.{is_in}
use Rattle.dma_listeners.proofs.Ends.{numbers_next-passes, numbers_next-fails}
use Rattle.machine.proofs.device_calls.plugged_list.Goals.{then-plugged+in_ok-push, else-plugged}
use Rattle.machine.proofs.device_calls.plugged_list.Goals as goal

pub loop-block-preserved : goal.loop-block-preserved
loop-block-preserved c =
    let b : ℕ = c.loop-block.block in
    elim c.if-plugged.branch [
      | then-plugged+in_ok-push x ↦
          let more : c.if-plugged.blocks.items ≡ c.loop-block.blocks.items ++ b ∷ [] = search rules in
          more
          ∙ (ap (λ (l : List ℕ). l ++ b ∷ []) c.loop-block.invariant
          ∙ sym (numbers_next-passes (λ (k : ℕ). is_in k c.args.map.now.plugged) b (sym c.plugged.ensures ∙ x.if-plugged.true)))
      | else-plugged x ↦
          let same : c.if-plugged.blocks.items ≡ c.loop-block.blocks.items = search rules in
          same
          ∙ (c.loop-block.invariant
          ∙ sym (numbers_next-fails (λ (k : ℕ). is_in k c.args.map.now.plugged) b (sym c.plugged.ensures ∙ x.if-plugged.false)))
    ]
