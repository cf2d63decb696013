-- Scripts with one more call.
use Rattle.std.proofs.Common.{◌≡◌, ℕ, zero, suc, ◌+◌, ◌<◌, ◌≤◌, List, [], ◌∷◌, ◌++◌, length, map, take, replicate, get_or, set, refl, sym, ap, ◌∙◌, arith}
use Rattle.evac_model.specs.declared.names.PageNo.{PageNo}
use Rattle.evac_model.specs.declared.call.Call.{Call}
use Rattle.evac_model.specs.ScenarioGrammar.{with_calls, call_count}
use Rattle.std.specs.Global.{Vec}
use Rattle.std.proofs.Math.Seq.{map-set_same}
use Rattle.std.proofs.lemmas.List.{take_all, length-append, length-map, get_or-map, map-set}
use Rattle.std.proofs.lemmas.List.Sums.{sum_by-append}

-- an empty script behind the others changes nothing of what the calls make
pub with_calls-empty : (scripts : List (List (PageNo × Call))) (owner : ℕ) (calls : List (PageNo × Call)) → length scripts < owner → with_calls (scripts ++ [] ∷ []) owner calls ≡ with_calls scripts owner calls
with_calls-empty scripts zero calls h = absurd (omega arith)
with_calls-empty [] (suc zero) calls h = refl
with_calls-empty [] (suc (suc k)) calls h = refl
with_calls-empty (s ∷ scripts) (suc zero) calls h = absurd (omega arith)
with_calls-empty (s ∷ scripts) (suc (suc k)) calls h = ap (λ ss. s ∷ ss) (with_calls-empty scripts (suc k) calls (omega arith))

pub with_calls-set : (scripts : List (List (PageNo × Call))) (k : ℕ) (calls : List (PageNo × Call)) → k < length scripts → with_calls scripts (suc k) calls ≡ set scripts k (get_or scripts k [] ++ calls)
with_calls-set [] k calls h = absurd (omega arith)
with_calls-set (s ∷ scripts) zero calls h = refl
with_calls-set (s ∷ scripts) (suc k) calls h = ap (λ ss. s ∷ ss) (with_calls-set scripts k calls (omega arith))

pub call_count-cons : (script : List (PageNo × Call)) (scripts : List (List (PageNo × Call))) → call_count (script ∷ scripts) ≡ length script + call_count scripts
call_count-cons script scripts = omega (arith, sum_by-append {X = List (PageNo × Call)} length (script ∷ []) scripts)

pub call_count-empty : (scripts : List (List (PageNo × Call))) → call_count (scripts ++ [] ∷ []) ≡ call_count scripts
call_count-empty scripts = omega (arith, sum_by-append {X = List (PageNo × Call)} length scripts ([] ∷ []))

pub call_count-with_calls : (scripts : List (List (PageNo × Call))) (owner : ℕ) (calls : List (PageNo × Call)) → 1 ≤ owner → call_count (with_calls scripts owner calls) ≡ call_count scripts + length calls
call_count-with_calls scripts zero calls h = absurd (omega arith)
call_count-with_calls [] (suc zero) calls h = omega (arith, call_count-cons calls [])
call_count-with_calls [] (suc (suc k)) calls h = omega (arith, call_count-with_calls [] (suc k) calls (omega arith), call_count-cons [] (with_calls [] (suc k) calls))
call_count-with_calls (s ∷ scripts) (suc zero) calls h = omega (arith, length-append s calls, call_count-cons s scripts, call_count-cons (s ++ calls) scripts)
call_count-with_calls (s ∷ scripts) (suc (suc k)) calls h = omega (arith, call_count-with_calls scripts (suc k) calls (omega arith), call_count-cons s scripts, call_count-cons s (with_calls scripts (suc k) calls))

-- a script that grows by copies of a call; `fill` of them are missing to the length `n`
pub filled : {X : Type 0} (xs : List X) (n times fill : ℕ) (x : X) → length xs + times ≡ n → fill ≡ times → take n xs ++ replicate fill x ≡ xs ++ replicate times x
filled xs n times fill x e f = ap (λ ys. ys ++ replicate fill x) (take_all n xs (omega arith)) ∙ ap (λ k. xs ++ replicate k x) f

-- calls are put behind those of the script at a place
pub pushed : (vs : List (Vec (PageNo × Call))) (owner k : ℕ) (old new : Vec (PageNo × Call)) (calls : List (PageNo × Call)) → owner ≡ suc k → k < length vs → old ≡ get_or vs k old → new.items ≡ old.items ++ calls
    → map (λ v. v.items) (set vs k new) ≡ with_calls (map (λ v. v.items) vs) owner calls
pushed vs owner k old new calls o lt at grown =
    let here : get_or (map (λ v. v.items) vs) k [] ≡ old.items = get_or-map (λ v. v.items) vs k old [] lt ∙ sym (ap (λ v. v.items) at) in
    let within : k < length (map (λ v. v.items) vs) = omega (arith, length-map vs (λ v. v.items)) in
    map-set (λ v. v.items) vs k new ∙ rw (o, grown, with_calls-set (map (λ v. v.items) vs) k calls within, here) refl

-- a script at a place is written again as it was
pub kept : (vs : List (Vec (PageNo × Call))) (k : ℕ) (old new : Vec (PageNo × Call)) → old ≡ get_or vs k old → new.items ≡ old.items → map (λ v. v.items) (set vs k new) ≡ map (λ v. v.items) vs
kept vs k old new at same = map-set_same (λ v. v.items) vs k new old (same ∙ ap (λ v. v.items) at)
