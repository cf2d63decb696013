use Rattle.std.proofs.Common.{◌≡◌, ℕ, ◌+◌, ◌*◌, ◌%◌, ◌^◌, ◌<◌, ◌∙◌, Bool, List, true, false, take, drop, replicate, sym, ap, subst, arith}
use Rattle.std.proofs.lemmas.List.{with_items_is}
use Rattle.std.proofs.Math.ListN.{set}
use Rattle.std.proofs.Math.Nat.{mul-mod_left}
use Rattle.evac_model.specs.Numbers.{is_in}
use Rattle.evac_model.proofs.Numbers.{is_in-numbers_where}
use Rattle.buddy.specs.FreeFrames.{FreeFrames}
use Rattle.buddy.specs.Parts.{replaced}
use Rattle.buddy.specs.RunsInside.{flag, is_free, frames_of, IsKept}
use Rattle.buddy.proofs.Powers.{le_from_pow}
use Rattle.buddy.proofs.Blocks.{boot_of, AreMoved, moved_aside, aside_kept, aside_value}
use Rattle.buddy.proofs.runs.Runs.withdraw.Goals as goal
use Rattle.buddy.proofs.runs.Runs.withdraw.Goals.{After-block_order-order, After-put_aside}

within : (c : After-block_order-order) → c.args.b.0 < c.self.inside.geometry.managed
within c = subst (λ (v : FreeFrames). c.args.b.0 < v.sizes.managed) (sym c.self.view_is) c.requires.managed

present : (c : After-block_order-order) → flag c.self.inside.withdrawn.items c.args.b.0 ≡ false
present c =
    sym (is_in-numbers_where (flag c.self.inside.withdrawn.items) c.self.inside.geometry.managed c.args.b.0 (within c))
    ∙ ap (λ (v : FreeFrames). is_in c.args.b.0 v.withdrawn) c.self.view_is ∙ c.requires.there

pub put_aside-requires-clause-runs : goal.put_aside-requires-clause-runs
put_aside-requires-clause-runs c =
    le_from_pow c.block_order-order.result c.self.inside.managed.top (omega (arith, c.block_order-order.ensures.block, c.self.invariant.managed_part.block))

pub put_aside-requires-clause-place : goal.put_aside-requires-clause-place
put_aside-requires-clause-place c =
    ap (λ (n : ℕ). c.args.b.0 * n % 2 ^ c.block_order-order.result) (c.block.ensures.size ∙ c.block_order-order.ensures.block) ∙ mul-mod_left c.args.b.0 (2 ^ c.block_order-order.result)

moved : (c : After-put_aside) (first_is : c.boot_frames-first.result ≡ c.self.inside.geometry.boot * c.self.inside.geometry.block) → c.args.b.0 < c.self.inside.geometry.managed → AreMoved c.self.inside.geometry c.self.inside.boot c.self.inside.managed c.put_aside.new.tree c.self.inside.aside.items c.put_aside.new.aside c.args.b.0 (λ k. false) (is_free c.self.inside.geometry c.self.inside.boot.free c.self.inside.managed.free)
moved c first_is inside =
    moved_aside c.self.inside.geometry c.self.inside.boot c.self.inside.managed c.put_aside.new.tree c.self.inside.aside.items c.put_aside.new.aside c.self.inside.withdrawn.items c.args.b.0 (2 ^ c.block_order-order.result) c.self.invariant inside c.block_order-order.ensures.block
    (c.put_aside.ensures.taken ∙ ap (λ (n : ℕ). record c.self.inside.managed { free = replaced (c.args.b.0 * n) (2 ^ c.block_order-order.result) (replicate (2 ^ c.block_order-order.result) false) c.self.inside.managed.free }) c.block.ensures.size)
    (c.put_aside.ensures.kept
    ∙ ap (λ (n : ℕ). replaced (c.boot_frames-first.result + c.args.b.0 * n) (2 ^ c.block_order-order.result) (take (2 ^ c.block_order-order.result) (drop (c.args.b.0 * n) c.self.inside.managed.free)) c.deref_mut.result.now) c.block.ensures.size
    ∙ ap (λ (n : ℕ). replaced (n + c.args.b.0 * c.self.inside.geometry.block) (2 ^ c.block_order-order.result) (take (2 ^ c.block_order-order.result) (drop (c.args.b.0 * c.self.inside.geometry.block) c.self.inside.managed.free)) c.deref_mut.result.now) first_is
    ∙ ap (λ (xs : List Bool). replaced (c.self.inside.geometry.boot * c.self.inside.geometry.block + c.args.b.0 * c.self.inside.geometry.block) (2 ^ c.block_order-order.result) (take (2 ^ c.block_order-order.result) (drop (c.args.b.0 * c.self.inside.geometry.block) c.self.inside.managed.free)) xs) c.deref_mut.ensures.value)

pub invariant_of-self : goal.invariant_of-self
invariant_of-self c =
    let d = (goal.at.invariant_of-self c).After-block_order-order in
    subst (λ (xs : List Bool). IsKept c.self.inside.geometry c.self.inside.boot c.put_aside.new.tree xs (set c.self.inside.withdrawn.items c.args.b.0 true))
    (sym (with_items_is c.self.inside.aside c.put_aside.new.aside (omega (arith, c.put_aside.auto.aside, c.deref_mut.ensures.len))))
    (aside_kept c.self.inside.geometry c.self.inside.boot c.self.inside.managed c.put_aside.new.tree c.self.inside.aside.items c.put_aside.new.aside c.self.inside.withdrawn.items c.args.b.0 c.self.invariant (within d)
    (moved (goal.at.invariant_of-self c).After-put_aside (boot_of c.self.view_is c.boot_frames-first.ensures.frames) (within d)))

pub returns : goal.returns
returns c =
    let d = (goal.at.returns c).After-block_order-order in
    ap (λ (xs : List Bool). frames_of c.self.inside.geometry c.self.inside.online c.self.inside.boot c.put_aside.new.tree xs (set c.self.inside.withdrawn.items c.args.b.0 true))
    (with_items_is c.self.inside.aside c.put_aside.new.aside (omega (arith, c.put_aside.auto.aside, c.deref_mut.ensures.len)))
    ∙ aside_value c.self.inside.geometry c.self.inside.online c.self.inside.boot c.self.inside.managed c.put_aside.new.tree c.self.inside.aside.items c.put_aside.new.aside c.self.inside.withdrawn.items c.args.self.now c.args.b.0 c.self.invariant c.self.view_is (within d) (present d)
    (moved (goal.at.returns c).After-put_aside (boot_of c.self.view_is c.boot_frames-first.ensures.frames) (within d))
