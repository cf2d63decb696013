use Rattle.std.proofs.Common.{ℕ, List, [], sym, ap, ◌∙◌, refl, arith}
use Rattle.evac_model.specs.Geometry.{Sizes}
use Rattle.evac_model.specs.Numbers.{is_in}
use Rattle.mem_device.specs.Managed.{state_in}
use Rattle.evac_model.proofs.Unions.{rising_past}
use Rattle.mem_device.proofs.Hands.{below_room, plugged_apart}
use Rattle.mem_device.proofs.Answers.{no_bytes, answer_none, region_cleared, taken_all, managed_after, none_rising}
use Rattle.mem_device.proofs.memory.Memory.unplug_all.Goals as goal

pub returns-then-plugged_size-eq0-clause-response : goal.returns-then-plugged_size-eq0-clause-response
returns-then-plugged_size-eq0-clause-response g c =
    let m = c.args.self.now.map in
    answer_none m.sizes (state_in c.args.self.now) _ _ (no_bytes m.sizes m.plugged c.requires.managed.within (sym c.plugged_size.ensures ∙ c.if-plugged_size-eq0.true))

pub returns-then-plugged_size-eq0-clause-state : goal.returns-then-plugged_size-eq0-clause-state
returns-then-plugged_size-eq0-clause-state g c =
    let m = c.args.self.now.map in
    let d = state_in c.args.self.now in
    ap (λ (xs : List ℕ). record d { plugged = xs }) (no_bytes m.sizes m.plugged c.requires.managed.within (sym c.plugged_size.ensures ∙ c.if-plugged_size-eq0.true))

pub returns-then-plugged_size-eq0-clause-asked : goal.returns-then-plugged_size-eq0-clause-asked
returns-then-plugged_size-eq0-clause-asked g c =
    let m = c.args.self.now.map in
    rw (no_bytes m.sizes m.plugged c.requires.managed.within (sym c.plugged_size.ensures ∙ c.if-plugged_size-eq0.true)) refl

pub returns-then-plugged_size-eq0-clause-back : goal.returns-then-plugged_size-eq0-clause-back
returns-then-plugged_size-eq0-clause-back g c =
    let m = c.args.self.now.map in
    c.requires.held ∙ no_bytes m.sizes m.plugged c.requires.managed.within (sym c.plugged_size.ensures ∙ c.if-plugged_size-eq0.true)

pub merge-requires-clause-below : goal.merge-requires-clause-below
merge-requires-clause-below g c =
    let m = c.args.self.now.map in
    λ b e. below_room m.sizes.managed _ m.plugged c.requires.managed.roomy (rising_past m.sizes.managed m.plugged c.requires.managed.rising) b (ap (is_in b) (sym c.requires.held) ∙ e)

pub merge-requires-clause-apart : goal.merge-requires-clause-apart
merge-requires-clause-apart g c =
    let m = c.args.self.now.map in
    λ b e. ap (is_in b) c.requires.managed.unplugged ∙ plugged_apart m.sizes m.plugged b (ap (is_in b) (sym c.requires.held) ∙ e)

pub returns-clause-managed : goal.returns-clause-managed
returns-clause-managed g c =
    let m = c.args.self.now.map in
    let whole = c.device_blocks-blocks.ensures.size ∙ ap (λ (s : Sizes). s.managed) c.geometry.ensures.sizes in
    managed_after g.H.Held.blocks g.H.Held.room g.B.Backing.room _ m.sizes []
    c.requires.managed.within c.clear.ensures.sizes
    (region_cleared c.device_blocks-blocks.result m.sizes.managed m.plugged _ whole c.requires.managed.rising c.clear.ensures.plugged)
    (none_rising m.sizes.managed)
    (taken_all m.sizes m.plugged _ _ _ _ c.requires.managed.rising c.requires.managed.unplugged c.requires.held c.merge.ensures.takes c.part-back.ensures.keeps)
    (omega (arith, c.requires.managed.roomy, c.merge.ensures.room, c.part-back.ensures.room))
    (omega (arith, c.requires.managed.backed, c.discard.ensures.room_kept))

pub returns-clause-state : goal.returns-clause-state
returns-clause-state g c =
    let m = c.args.self.now.map in
    let d = state_in c.args.self.now in
    let whole = c.device_blocks-blocks.ensures.size ∙ ap (λ (s : Sizes). s.managed) c.geometry.ensures.sizes in
    ap (λ (xs : List ℕ). record d { plugged = xs }) (region_cleared c.device_blocks-blocks.result m.sizes.managed m.plugged _ whole c.requires.managed.rising c.clear.ensures.plugged)
