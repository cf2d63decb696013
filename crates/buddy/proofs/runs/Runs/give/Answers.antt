use Rattle.std.proofs.Common.{◌≡◌, ℕ, ◌+◌, ◌^◌, ◌∙◌, Bool, List, true, false, replicate, length, sym, ap, subst, arith}
use Rattle.std.proofs.lemmas.List.{with_items_is}
use Rattle.evac_model.specs.Numbers.{is_between}
use Rattle.evac_model.specs.SpaceJournal.{is_frame_in}
use Rattle.buddy.specs.Parts.{replaced}
use Rattle.buddy.specs.RunsInside.{is_put_aside, frames_of, IsKept}
use Rattle.buddy.proofs.Places.{RunFacts, run_order}
use Rattle.buddy.proofs.Setting.{facts_inside, put_aside_inside, put_aside_now, set_frames}
use Rattle.buddy.proofs.Giving.{run_inside, in_same, given_kept, given_aside, given_free}
use Rattle.buddy.proofs.runs.Runs.give.Goals as goal
use Rattle.buddy.proofs.runs.Runs.give.Goals.{After-deref_mut, After-keep, After-set_run}

-- a run of a withdrawn block
facts : (c : After-deref_mut) → RunFacts c.self.inside.geometry c.args.order c.args.frame.0
facts c = facts_inside c.self.inside.geometry c.self.inside.online c.self.inside.boot c.self.inside.managed c.self.inside.aside.items c.self.inside.withdrawn.items c.args.self.now c.args.order c.args.frame.0 c.self.view_is c.requires.run

out : (c : After-deref_mut) → is_put_aside c.self.inside.geometry c.self.inside.withdrawn.items c.args.frame.0 ≡ true
out c = put_aside_inside c.self.inside.geometry c.self.inside.online c.self.inside.boot c.self.inside.managed c.self.inside.aside.items c.self.inside.withdrawn.items c.args.self.now c.args.frame.0 true c.self.invariant c.self.view_is (sym c.if-is_put_aside.ensures.found)

pub keep-requires-clause-small : goal.keep-requires-clause-small
keep-requires-clause-small c =
    omega (arith, run_order c.self.inside.geometry c.args.order c.args.frame.0 c.self.invariant.within.block.0 (facts c) c.self.invariant.within.block.2, c.self.invariant.within.block.1)

pub keep-requires-clause-inside : goal.keep-requires-clause-inside
keep-requires-clause-inside c =
    omega (arith, run_inside c.self.inside.geometry c.args.order c.args.frame.0 c.self.invariant.within.block.0 (facts c) c.self.invariant.within.block.2, c.self.invariant.aside_length, ap (λ (xs : List Bool). length xs) c.deref_mut.ensures.value)

kept : (c : After-keep) → c.keep.new.aside ≡ replaced c.args.frame.0 (2 ^ c.args.order) (replicate (2 ^ c.args.order) true) c.self.inside.aside.items
kept c = c.keep.ensures ∙ ap (λ (xs : List Bool). replaced c.args.frame.0 (2 ^ c.args.order) (replicate (2 ^ c.args.order) true) xs) c.deref_mut.ensures.value

pub invariant_of-self : goal.invariant_of-self
invariant_of-self c =
    let d = (goal.at.invariant_of-self c).After-deref_mut in
    subst (λ (xs : List Bool). IsKept c.self.inside.geometry c.self.inside.boot c.self.inside.managed xs c.self.inside.withdrawn.items)
    (sym (with_items_is c.self.inside.aside c.keep.new.aside (omega (arith, c.keep.auto.aside, c.deref_mut.ensures.len))))
    (given_kept c.self.inside.geometry c.self.inside.boot c.self.inside.managed c.self.inside.aside.items c.self.inside.withdrawn.items c.keep.new.aside c.args.order c.args.frame.0 c.self.invariant (facts d) (out d) (kept (goal.at.invariant_of-self c).After-keep))

pub returns-then-is_put_aside : goal.returns-then-is_put_aside
returns-then-is_put_aside c =
    let d = (goal.at.returns-then-is_put_aside c).After-deref_mut in
    ap (λ (xs : List Bool). frames_of c.self.inside.geometry c.self.inside.online c.self.inside.boot c.self.inside.managed xs c.self.inside.withdrawn.items)
    (with_items_is c.self.inside.aside c.keep.new.aside (omega (arith, c.keep.auto.aside, c.deref_mut.ensures.len)))
    ∙ given_aside c.self.inside.geometry c.self.inside.online c.self.inside.boot c.self.inside.managed c.self.inside.aside.items c.self.inside.withdrawn.items c.keep.new.aside c.args.self.now c.args.order c.args.frame.0 c.self.invariant c.self.view_is (facts d) (out d) (kept (goal.at.returns-then-is_put_aside c).After-keep)

-- a run of another block
set_to : (c : After-set_run) → c.set_run.new.self ≡ set_frames c.args.frame.0 (2 ^ c.args.order) true c.args.self.now
set_to c = c.set_run.ensures

facts_else : (c : After-set_run) → RunFacts c.self.inside.geometry c.args.order c.args.frame.0
facts_else c = facts_inside c.self.inside.geometry c.self.inside.online c.self.inside.boot c.self.inside.managed c.self.inside.aside.items c.self.inside.withdrawn.items c.args.self.now c.args.order c.args.frame.0 c.self.view_is c.requires.run

not_out : (c : After-set_run) → (k : ℕ) → is_between c.args.frame.0 (c.args.frame.0 + 2 ^ c.args.order) k ≡ true → is_frame_in c.args.self.now.sizes c.args.self.now.withdrawn k ≡ false
not_out c k y =
    sym (put_aside_now c.self.inside.geometry c.self.inside.online c.self.inside.boot c.self.inside.managed c.self.inside.aside.items c.self.inside.withdrawn.items c.args.self.now k c.self.invariant c.self.view_is)
    ∙ in_same c.self.inside.geometry c.self.inside.withdrawn.items c.args.order c.args.frame.0 c.self.inside.boot.top k false (facts_else c) c.self.invariant.boot_part.block
    (put_aside_inside c.self.inside.geometry c.self.inside.online c.self.inside.boot c.self.inside.managed c.self.inside.aside.items c.self.inside.withdrawn.items c.args.self.now c.args.frame.0 false c.self.invariant c.self.view_is (sym c.if-is_put_aside.ensures.found)) y

pub returns-else-is_put_aside : goal.returns-else-is_put_aside
returns-else-is_put_aside c =
    set_to c ∙ given_free c.args.self.now c.args.frame.0 (2 ^ c.args.order) c.if-is_put_aside.ensures.apart (not_out c)
