use Rattle.std.proofs.Common.{List, ℕ, ◌∙◌, ap, sym, arith}
use Rattle.std.proofs.lemmas.Bool.{le-ltb}
use Rattle.block_map.specs.Bits.{has_bit}
use Rattle.block_map.proofs.Maps.{is_in-value, is_in-value_past}
use Rattle.block_map.proofs.map.BlockMap.plugged.Goals as goal

pub returns-then-b-device_blocks : goal.returns-then-b-device_blocks
returns-then-b-device_blocks c =
    c.bit.ensures
    ∙ ap (λ (ws : List ℕ). has_bit ws c.args.b.0) c.deref.ensures.value
    ∙ sym (is_in-value c.self.inside.geometry (has_bit c.self.inside.words.items) c.args.self.now c.self.view_is c.args.b.0 (omega arith))

pub returns-else-b-device_blocks : goal.returns-else-b-device_blocks
returns-else-b-device_blocks c =
    le-ltb c.args.b.0 c.device_blocks.result (omega arith)
    ∙ sym (is_in-value_past c.self.inside.geometry (has_bit c.self.inside.words.items) c.args.self.now c.self.view_is c.args.b.0 (omega arith))
