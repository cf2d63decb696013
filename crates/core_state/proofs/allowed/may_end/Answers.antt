use Rattle.std.proofs.Common.{rules, ◌≡◌, ◌≤◌, ℕ, ap, ◌∙◌, IsSome}
use Rattle.evac_words.specs.Word.{moving_bit}
use Rattle.core_state.specs.Steps.{pins_after}
use Rattle.core_state.proofs.AllowedReplies.{end}
use Rattle.core_state.proofs.allowed.may_end.Goals as goal

pub returns-then-pins-le63 : goal.returns-then-pins-le63
returns-then-pins-le63 c =
    let still : moving_bit c.args.h.now.word ≡ 0 = search rules in
    let drawn : IsSome c.args.h.now.ticket = search rules in
    let fits : c.pins_after-pins.result ≤ 63 = search rules in
    let is = c.pins_after-pins.ensures ∙ ap (λ (n : ℕ). pins_after c.args.done.now.call c.args.done.now.reply n) c.pins_of.ensures in
    λ m b. end c.args.o.now c.args.done.now c.args.h.now m c.is_settled.result c.pins_after-pins.result is still drawn fits c.is_settled.ensures b
