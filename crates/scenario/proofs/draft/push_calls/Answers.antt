use Rattle.std.proofs.Common.{◌≡◌, ◌-◌, ◌<◌, ◌++◌, ◌∷◌, [], refl, ap, ◌∙◌, arith, length, replicate}
use Rattle.std.proofs.lemmas.List.{map_push, length-map}
use Rattle.std.proofs.lemmas.Result.{err_from_is_err_and}
use Rattle.evac_model.specs.ScenarioGrammar.{call_count}
use Rattle.scenario.specs.Judging.{scripts}
use Rattle.scenario.proofs.Scripts.{with_calls-empty, call_count-empty, filled, pushed, kept}
use Rattle.scenario.proofs.draft.push_calls.Goals as goal

pub loop-alloc-preserved : goal.loop-alloc-preserved
loop-alloc-preserved c =
    let more : scripts c.push.new.self ≡ scripts c.loop-alloc.owners ++ [] ∷ [] = rw (c.in_ok-push.ensures.items, map_push (λ v. v.items) c.loop-alloc.owners.items c.new.result, c.new.ensures.items) refl in
    let short : length (scripts c.loop-alloc.owners) < c.args.owner = omega (arith, length-map c.loop-alloc.owners.items (λ v. v.items), c.loop-alloc.owners.ok.0) in
    rw more (record { made = with_calls-empty (scripts c.loop-alloc.owners) c.args.owner (replicate c.args.times c.args.call) short ∙ c.loop-alloc.invariant.made; count = call_count-empty (scripts c.loop-alloc.owners) ∙ c.loop-alloc.invariant.count })

pub returns : goal.returns
returns c =
    let here : c.args.owner - 1 < length c.loop-alloc.owners.items = omega (arith, c.loop-alloc.owners.ok.0) in
    let script = c.index_mut-script.result.now in
    let grown : c.resize.new.self.items ≡ script.items ++ replicate c.args.times c.args.call = c.in_ok-resize.ensures.items ∙ filled script.items _ c.args.times _ c.args.call (omega (arith, script.ok.0)) (omega (arith, script.ok.0)) in
    record { ok = pushed c.loop-alloc.owners.items c.args.owner (c.args.owner - 1) script c.resize.new.self (replicate c.args.times c.args.call) (omega arith) here c.index_mut-script.ensures.value grown ∙ c.loop-alloc.invariant.made; err = tt }

pub returns-in_err-resize-clause-err : goal.returns-in_err-resize-clause-err
returns-in_err-resize-clause-err c =
    let p = err_from_is_err_and c.from_residual-in_err-resize.result c.from_residual-in_err-resize.ensures.1 in
    let same = kept c.loop-alloc.owners.items (c.args.owner - 1) c.index_mut-script.result.now c.resize.new.self c.index_mut-script.ensures.value c.in_err-resize.ensures.items in
    rw p.1 (ap call_count same ∙ c.loop-alloc.invariant.count)
