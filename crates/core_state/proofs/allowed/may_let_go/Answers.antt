use Rattle.std.proofs.Common.{rules, ◌≡◌, ◌<◌, None}
use Rattle.evac_words.specs.Word.{moving_bit}
use Rattle.core_state.specs.Views.{right_to}
use Rattle.core_state.proofs.AllowedReplies.{let_go}
use Rattle.core_state.proofs.allowed.may_let_go.Goals as goal

pub returns-then-has_right : goal.returns-then-has_right
returns-then-has_right c =
    let still : moving_bit c.args.h.now.word ≡ 0 = search rules in
    let undrawn : c.args.h.now.ticket ≡ None = search rules in
    let right : 0 < right_to c.args.h.now.page.0 c.args.v.now = search rules in
    λ m b. let_go c.args.o.now c.args.v.now c.args.h.now m c.is_left_same.result still undrawn right c.is_left_same.ensures b
