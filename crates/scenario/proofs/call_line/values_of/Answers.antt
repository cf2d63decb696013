use Rattle.std.proofs.Common.{◌≡◌, ◌<◌, length, ◌==◌, sym, ap, ◌∙◌, arith, Some, None}
use Rattle.std.proofs.lemmas.Bool.Decides.{nat_tests}
use Rattle.std.proofs.lemmas.List.{length_push}
use Rattle.scenario.specs.Words.{words_left}
use Rattle.scenario.specs.Numbers.{number_of}
use Rattle.scenario.specs.Reading.{values_of}
use Rattle.scenario.proofs.Splits.{some_parts}
use Rattle.scenario.proofs.Values.{goes_on, is_full, fails, is_done}
use Rattle.scenario.proofs.call_line.values_of.Goals as goal

pub returns-then-is_full : goal.returns-then-is_full
returns-then-is_full c =
    let some = some_parts (λ b. b == 32) c.in-Some.text.now in
    let eq : length c.loop-rest.values ≡ 8 = grind (arith, nat_tests, c.if-is_full.ensures.full) in
    is_full c.loop-rest.values (words_left c.loop-rest.rest) (values_of 8 (words_left c.args.rest)) eq (rw c.in-Some.is some) c.loop-rest.invariant.read

pub returns-in_err-number : goal.returns-in_err-number
returns-in_err-number c =
    let cut = ap words_left c.in-Some.is ∙ c.split_word.ensures in
    let none : number_of c.split_word.result.0.now ≡ None = sym c.in_err-number.ensures in
    let lt : length c.loop-rest.values < 8 = grind (arith, nat_tests, c.if-is_full.ensures.full, c.if-is_full.ensures.most) in
    rw c.from_residual.ensures (fails c.loop-rest.values _ _ (words_left c.loop-rest.rest) (values_of 8 (words_left c.args.rest)) lt cut none c.loop-rest.invariant.read)

pub loop-rest-preserved : goal.loop-rest-preserved
loop-rest-preserved c =
    let cut = ap words_left c.in-Some.is ∙ c.split_word.ensures in
    let some : number_of c.split_word.result.0.now ≡ Some c.in_ok-number.field-0 = sym c.in_ok-number.ensures in
    let lt : length c.loop-rest.values < 8 = grind (arith, nat_tests, c.if-is_full.ensures.full, c.if-is_full.ensures.most) in
    rw c.push.ensures (record { within = omega (arith, length_push c.loop-rest.values c.in_ok-number.field-0); read = goes_on c.loop-rest.values _ _ (words_left c.loop-rest.rest) c.in_ok-number.field-0 (values_of 8 (words_left c.args.rest)) lt cut some c.loop-rest.invariant.read })

pub returns : goal.returns
returns c =
    is_done c.loop-rest.values _ (words_left c.loop-rest.rest) (values_of 8 (words_left c.args.rest)) (ap words_left c.in_default.is) c.loop-rest.invariant.read
