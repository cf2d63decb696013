use Rattle.std.proofs.Common.{◌≡◌, ap, ◌∙◌, map, Some, None}
use Rattle.scenario.specs.Words.{words_left}
use Rattle.scenario.specs.Reading.{turn_in, turn_of, turns_of}
use Rattle.scenario.proofs.TurnLists.{goes_on, fails, is_done}
use Rattle.scenario.proofs.turn_line.turns_of.Goals as goal

pub returns-in_default-turn_of : goal.returns-in_default-turn_of
returns-in_default-turn_of c =
    let cut = ap words_left c.in-Some.is ∙ c.split_word.ensures in
    let none : turn_of c.split_word.result.0.now ≡ None = c.in_default-turn_of.ensures in
    fails (map turn_in c.loop-rest.turns.items) _ _ (words_left c.loop-rest.rest) (turns_of (words_left c.args.rest)) cut none c.loop-rest.invariant

pub loop-rest-preserved : goal.loop-rest-preserved
loop-rest-preserved c =
    let cut = ap words_left c.in-Some.is ∙ c.split_word.ensures in
    let some : turn_of c.split_word.result.0.now ≡ Some (turn_in c.in-Some-turn_of.turn) = c.in-Some-turn_of.ensures in
    rw c.in_ok-push.ensures.items (goes_on c.loop-rest.turns.items c.in-Some-turn_of.turn _ _ (words_left c.loop-rest.rest) (turns_of (words_left c.args.rest)) cut some c.loop-rest.invariant)

pub returns : goal.returns
returns c =
    is_done (map turn_in c.loop-rest.turns.items) (words_left c.loop-rest.rest) (turns_of (words_left c.args.rest)) (ap words_left c.in_default.is) c.loop-rest.invariant
