use Rattle.std.proofs.Common.{◌≡◌, ◌-◌, ◌<◌, ◌≤◌, ◌∙◌, ℕ, zero, suc, List, [], ◌∷◌, length, get_or, set, true, false, sym, ap, subst, arith}
use Rattle.evac_model.specs.declared.scenario.Actor.TheVariants.{Owner}
use Rattle.evac_model.specs.declared.scenario.Scenario.{Scenario}
use Rattle.evac_model.specs.Scenarios.{IsRunnable}
use Rattle.machine.specs.declared.action.Action.{Action}
use Rattle.machine.specs.MayMake.{MayMake}
use Rattle.machine.specs.World.{Setting}
use Rattle.core_actors.specs.Owners.{OwnerState, owner_ended, next_action}
use Rattle.replay.specs.Keeping.{IsKept}
use Rattle.replay.specs.Running.{Running, Run, owner_of, after_turn, run_after}
use Rattle.replay.specs.RunningInside.{running_of, run_of}
use Rattle.replay.specs.Runs.{setting}
use Rattle.replay.proofs.Acting.{may_act}
use Rattle.replay.proofs.MachineKept.{turns_are_kept}
use Rattle.replay.proofs.Turns.{none_ended, owner_read, rests_at, owner_turn_made}
use Rattle.replay.proofs.running.Running.owner_turn.Goals.{then-place-eq0-via-then-place-eq0, then-place-eq0-via-else-place-eq0+then-place-len}
use Rattle.replay.proofs.running.Running.owner_turn.Goals as goal
use Rattle.replay.proofs.running.Running.owner_turn.Goals.{After-is_ended, After-hear}

-- the turn of an owner that has ended leaves the run
rests : (before r : Run) (k : ℕ) → before ≡ r → owner_ended (owner_of before.running.owners k) ≡ true → r ≡ run_after r (Owner k ∷ [])
rests before r k is ended =
    subst (λ (x : Run). x ≡ run_after x (Owner k ∷ [])) is (ap (λ (m : Running). let x : Run = record before { running = m } in x) (sym (rests_at before.setting before.running k ended)))

-- the next action of an owner that hasn't ended may be made
may_turn : (s : Scenario) (c : Setting) (m : Running) (k : ℕ) (a : OwnerState) (action : Action) → IsRunnable s → IsKept s m → c ≡ setting s → 0 < k → k ≤ length m.owners
    → owner_of m.owners k ≡ a → owner_ended a ≡ false → action ≡ next_action a → MayMake c k m.world action
may_turn s c m zero a action r kept set some few is going next = absurd (omega arith)
may_turn s c m (suc i) a action r kept set some few is going next =
    subst (λ (x : Setting). MayMake x (suc i) m.world action) (sym set)
    (subst (λ (x : Action). MayMake (setting s) (suc i) m.world x) (sym (next ∙ ap next_action (sym is)))
    (may_act s m i r kept (omega arith) (ap owner_ended is ∙ going)))

-- the owner that is read
read : (c : goal.After-is_ended) → owner_of c.self.inside.owners c.args.owner ≡ c.index-as_slice-place.result
read c =
    let a = c.index-as_slice-place.result in
    let all = c.len.ensures in
    owner_read c.self.inside.owners c.args.owner a (omega arith) (omega arith) (c.index-as_slice-place.is ∙ ap (λ (l : List OwnerState). get_or l (c.args.owner - 1) a) c.as_slice.ensures)

-- what the machine and the owner leave is what the turn leaves
left : (c : goal.After-hear) → owner_of c.self.inside.owners c.args.owner ≡ c.index-as_slice-place.result
    → (let n : Running = record (running_of c.self.inside) { world = c.make.new.self.world; owners = set c.self.inside.owners (c.args.owner - 1) c.hear.new.self } in n)
    ≡ after_turn c.self.inside.machine.setting (running_of c.self.inside) (Owner c.args.owner)
left c is =
    let inside = c.self.inside in
    let later = c.item_mut.result.now in
    let all = c.len.ensures in
    let is_later = owner_read inside.owners c.args.owner later (omega arith) (omega arith) c.item_mut.ensures.value in
    owner_turn_made inside.machine.setting (running_of inside) c.action.result c.make.new.self.world c.in_ok-heard.heard c.args.owner c.index-as_slice-place.result later c.hear.new.self is is_later
    (sym c.is_ended.ensures ∙ c.if-is_ended.false) c.action.ensures.action c.in_ok-heard.ensures.made c.hear.ensures

pub returns-then-place-eq0-clause-turned : goal.returns-then-place-eq0-clause-turned
returns-then-place-eq0-clause-turned c =
    let owners = c.self.inside.owners in
    let past : 0 < c.args.owner → length owners < c.args.owner = elim c.then-place-eq0.branch as (λ x. 0 < c.args.owner → length owners < c.args.owner) [
      | then-place-eq0-via-then-place-eq0 w ↦ λ some. omega arith
      | then-place-eq0-via-else-place-eq0+then-place-len w ↦ λ some. let all = w.len.ensures in omega arith
    ] in
    rests (run_of c.self.inside) c.args.self.now c.args.owner c.self.view_is (none_ended owners c.args.owner past)

pub returns-then-is_ended-clause-turned : goal.returns-then-is_ended-clause-turned
returns-then-is_ended-clause-turned c =
    let is = read (goal.at.returns-then-is_ended-clause-turned c).After-is_ended in
    rests (run_of c.self.inside) c.args.self.now c.args.owner c.self.view_is (ap owner_ended is ∙ (sym c.is_ended.ensures ∙ c.if-is_ended.true))

pub make-requires : goal.make-requires
make-requires c =
    let inside = c.self.inside in
    let is = read (goal.at.make-requires c).After-is_ended in
    let all = c.len.ensures in
    record {
      may = may_turn c.self.invariant.scenario inside.machine.setting (running_of inside) c.args.owner c.index-as_slice-place.result c.action.result c.self.invariant.runnable c.self.invariant.kept c.self.invariant.set
          (omega arith) (omega arith) is (sym c.is_ended.ensures ∙ c.if-is_ended.false) c.action.ensures.action;
    }

pub invariant_of-self-2 : goal.invariant_of-self-2
invariant_of-self-2 c =
    let s = c.self.invariant.scenario in
    let m : Running = running_of c.self.inside in
    let leaves = left (goal.at.invariant_of-self-2 c).After-hear (read (goal.at.invariant_of-self-2 c).After-is_ended) in
    record {
      scenario = s;
      runnable = c.self.invariant.runnable;
      set = c.make.ensures.setting ∙ c.self.invariant.set;
      kept = subst (λ (n : Running). IsKept s n) (sym (leaves ∙ ap (λ (x : Setting). after_turn x m (Owner c.args.owner)) c.self.invariant.set)) (turns_are_kept s m (Owner c.args.owner) c.self.invariant.runnable c.self.invariant.kept);
    }

pub returns-clause-turned : goal.returns-clause-turned
returns-clause-turned c =
    let inside = c.self.inside in
    let leaves = left (goal.at.returns-clause-turned c).After-hear (read (goal.at.returns-clause-turned c).After-is_ended) in
    ap (λ (x : Setting). let r : Run = record { setting = x; running = record (running_of inside) { world = c.make.new.self.world; owners = set inside.owners (c.args.owner - 1) c.hear.new.self } } in r) c.make.ensures.setting
    ∙ ap (λ (n : Running). let r : Run = record { setting = inside.machine.setting; running = n } in r) leaves
    ∙ ap (λ (r : Run). run_after r (Owner c.args.owner ∷ [])) c.self.view_is
