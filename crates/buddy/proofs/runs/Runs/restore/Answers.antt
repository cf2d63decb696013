use Rattle.std.proofs.Common.{◌≡◌, ℕ, ◌+◌, ◌*◌, ◌%◌, ◌^◌, ◌<◌, ◌∙◌, Bool, List, true, false, take, drop, replicate, length, refl, sym, ap, subst, arith}
use Rattle.std.proofs.lemmas.List.{with_items_is}
use Rattle.std.proofs.Math.ListN.{set}
use Rattle.std.proofs.Math.Nat.{mul-mod_left}
use Rattle.evac_model.specs.Numbers.{is_in}
use Rattle.buddy.specs.FreeFrames.{FreeFrames}
use Rattle.buddy.specs.Parts.{replaced}
use Rattle.buddy.specs.RunsInside.{flag, frames_of, IsKept}
use Rattle.buddy.proofs.FrameValues.{kept_in}
use Rattle.buddy.proofs.Blocks.{boot_of, block_in_managed, block_in_all, AreMoved, moved_back, back_kept, back_value}
use Rattle.buddy.proofs.runs.Runs.restore.Goals as goal
use Rattle.buddy.proofs.runs.Runs.restore.Goals.{After-block, After-block_order-order, After-put_back}

-- the block is a managed one, and withdrawn
flagged : (c : After-block) → (c.args.b.0 < c.self.inside.geometry.managed) × (flag c.self.inside.withdrawn.items c.args.b.0 ≡ true)
flagged c =
    kept_in (flag c.self.inside.withdrawn.items) c.self.inside.geometry.managed c.args.b.0 (ap (λ (v : FreeFrames). is_in c.args.b.0 v.withdrawn) c.self.view_is ∙ c.requires)

pub overflow_mul-place : goal.overflow_mul-place
overflow_mul-place c =
    omega (arith, block_in_all c.self.inside.geometry c.args.b.0 c.self.inside.geometry.block (flagged (goal.at.overflow_mul-place c).After-block).0 refl, c.self.invariant.within.frames, ap (λ (n : ℕ). c.args.b.0 * n) c.block.ensures.size)

pub overflow_add-first : goal.overflow_add-first
overflow_add-first c =
    let d = (goal.at.overflow_add-first c).After-block in
    omega (arith, block_in_all c.self.inside.geometry c.args.b.0 c.self.inside.geometry.block (flagged d).0 refl, c.self.invariant.within.frames, ap (λ (n : ℕ). c.args.b.0 * n) c.block.ensures.size, boot_of c.self.view_is c.boot_frames-first.ensures.frames)

pub put_back-requires-clause-place : goal.put_back-requires-clause-place
put_back-requires-clause-place c =
    ap (λ (n : ℕ). c.args.b.0 * n % 2 ^ c.block_order-order.result) (c.block.ensures.size ∙ c.block_order-order.ensures.block) ∙ mul-mod_left c.args.b.0 (2 ^ c.block_order-order.result)

pub put_back-requires-clause-in_tree : goal.put_back-requires-clause-in_tree
put_back-requires-clause-in_tree c =
    let d = (goal.at.put_back-requires-clause-in_tree c).After-block in
    omega (arith, block_in_managed c.self.inside.geometry c.args.b.0 (2 ^ c.block_order-order.result) (flagged d).0 c.block_order-order.ensures.block, c.self.invariant.managed_part.room, ap (λ (n : ℕ). c.args.b.0 * n) c.block.ensures.size)

pub put_back-requires-clause-inside : goal.put_back-requires-clause-inside
put_back-requires-clause-inside c =
    let d = (goal.at.put_back-requires-clause-inside c).After-block in
    omega (arith, block_in_all c.self.inside.geometry c.args.b.0 (2 ^ c.block_order-order.result) (flagged d).0 c.block_order-order.ensures.block, c.self.invariant.aside_length, ap (λ (xs : List Bool). length xs) c.deref_mut.ensures.value, ap (λ (n : ℕ). c.args.b.0 * n) c.block.ensures.size, boot_of c.self.view_is c.boot_frames-first.ensures.frames)

pub index_mut-requires : goal.index_mut-requires
index_mut-requires c = omega (arith, (flagged (goal.at.index_mut-requires c).After-block).0, c.self.invariant.withdrawn_length)

moved : (c : After-put_back) → c.boot_frames-first.result ≡ c.self.inside.geometry.boot * c.self.inside.geometry.block → c.args.b.0 < c.self.inside.geometry.managed → AreMoved c.self.inside.geometry c.self.inside.boot c.self.inside.managed c.put_back.new.tree c.self.inside.aside.items c.put_back.new.aside c.args.b.0 (flag c.self.inside.aside.items) (λ k. false)
moved c first_is inside =
    moved_back c.self.inside.geometry c.self.inside.boot c.self.inside.managed c.put_back.new.tree c.self.inside.aside.items c.put_back.new.aside c.self.inside.withdrawn.items c.args.b.0 (2 ^ c.block_order-order.result) c.self.invariant inside c.block_order-order.ensures.block
    (c.put_back.ensures.given
    ∙ ap (λ (n : ℕ). record c.self.inside.managed { free = replaced (c.args.b.0 * n) (2 ^ c.block_order-order.result) (take (2 ^ c.block_order-order.result) (drop (c.boot_frames-first.result + c.args.b.0 * n) c.deref_mut.result.now)) c.self.inside.managed.free }) c.block.ensures.size
    ∙ ap (λ (n : ℕ). record c.self.inside.managed { free = replaced (c.args.b.0 * c.self.inside.geometry.block) (2 ^ c.block_order-order.result) (take (2 ^ c.block_order-order.result) (drop (n + c.args.b.0 * c.self.inside.geometry.block) c.deref_mut.result.now)) c.self.inside.managed.free }) first_is
    ∙ ap (λ (xs : List Bool). record c.self.inside.managed { free = replaced (c.args.b.0 * c.self.inside.geometry.block) (2 ^ c.block_order-order.result) (take (2 ^ c.block_order-order.result) (drop (c.self.inside.geometry.boot * c.self.inside.geometry.block + c.args.b.0 * c.self.inside.geometry.block) xs)) c.self.inside.managed.free }) c.deref_mut.ensures.value)
    (c.put_back.ensures.kept
    ∙ ap (λ (n : ℕ). replaced (c.boot_frames-first.result + c.args.b.0 * n) (2 ^ c.block_order-order.result) (replicate (2 ^ c.block_order-order.result) false) c.deref_mut.result.now) c.block.ensures.size
    ∙ ap (λ (n : ℕ). replaced (n + c.args.b.0 * c.self.inside.geometry.block) (2 ^ c.block_order-order.result) (replicate (2 ^ c.block_order-order.result) false) c.deref_mut.result.now) first_is
    ∙ ap (λ (xs : List Bool). replaced (c.self.inside.geometry.boot * c.self.inside.geometry.block + c.args.b.0 * c.self.inside.geometry.block) (2 ^ c.block_order-order.result) (replicate (2 ^ c.block_order-order.result) false) xs) c.deref_mut.ensures.value)

pub invariant_of-self : goal.invariant_of-self
invariant_of-self c =
    let inside = (flagged (goal.at.invariant_of-self c).After-block).0 in
    subst (λ (xs : List Bool). IsKept c.self.inside.geometry c.self.inside.boot c.put_back.new.tree xs (set c.self.inside.withdrawn.items c.args.b.0 false))
    (sym (with_items_is c.self.inside.aside c.put_back.new.aside (omega (arith, c.put_back.auto.aside, c.deref_mut.ensures.len))))
    (back_kept c.self.inside.geometry c.self.inside.boot c.self.inside.managed c.put_back.new.tree c.self.inside.aside.items c.put_back.new.aside c.self.inside.withdrawn.items c.args.b.0 c.self.invariant inside
    (moved (goal.at.invariant_of-self c).After-put_back (boot_of c.self.view_is c.boot_frames-first.ensures.frames) inside))

pub returns : goal.returns
returns c =
    let f = flagged (goal.at.returns c).After-block in
    ap (λ (xs : List Bool). frames_of c.self.inside.geometry c.self.inside.online c.self.inside.boot c.put_back.new.tree xs (set c.self.inside.withdrawn.items c.args.b.0 false))
    (with_items_is c.self.inside.aside c.put_back.new.aside (omega (arith, c.put_back.auto.aside, c.deref_mut.ensures.len)))
    ∙ back_value c.self.inside.geometry c.self.inside.online c.self.inside.boot c.self.inside.managed c.put_back.new.tree c.self.inside.aside.items c.put_back.new.aside c.self.inside.withdrawn.items c.args.self.now c.args.b.0 c.self.invariant c.self.view_is f.0 f.1
    (moved (goal.at.returns c).After-put_back (boot_of c.self.view_is c.boot_frames-first.ensures.frames) f.0)
