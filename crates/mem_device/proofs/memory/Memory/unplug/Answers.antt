use Rattle.std.proofs.Common.{◌≡◌, ℕ, sym, ap, ◌∙◌, arith}
use Rattle.std.specs.List.{range_with_len}
use Rattle.evac_model.specs.Numbers.{is_in, without_range}
use Rattle.mem_device.specs.Managed.{state_in}
use Rattle.evac_model.proofs.Unions.{range_past, rising-without_range}
use Rattle.mem_device.proofs.Hands.{below_room, plugged_apart}
use Rattle.mem_device.proofs.Answers.{named_unplug, range_plugged, taken, managed_after}
use Rattle.mem_device.proofs.memory.Memory.unplug.Goals as goal

pub merge-requires-clause-below : goal.merge-requires-clause-below
merge-requires-clause-below g c =
    let m = c.args.self.now.map in
    let first = c.in-Ok.first.0 in
    let n = c.args.count in
    let held : g.H.Held.blocks c.args.held ≡ range_with_len first n =
    c.requires.held ∙ named_unplug m.sizes (state_in c.args.self.now) c.args.addr n c.in-Ok.ensures.cause ∙ ap (λ (f : ℕ). range_with_len f n) (sym c.in-Ok.ensures.first) in
    λ b e. below_room m.sizes.managed _ (range_with_len first n) c.requires.managed.roomy (range_past first n m.sizes.managed c.in-Ok.ensures.inside) b (ap (is_in b) (sym held) ∙ e)

pub merge-requires-clause-apart : goal.merge-requires-clause-apart
merge-requires-clause-apart g c =
    let m = c.args.self.now.map in
    let first = c.in-Ok.first.0 in
    let n = c.args.count in
    let held : g.H.Held.blocks c.args.held ≡ range_with_len first n =
    c.requires.held ∙ named_unplug m.sizes (state_in c.args.self.now) c.args.addr n c.in-Ok.ensures.cause ∙ ap (λ (f : ℕ). range_with_len f n) (sym c.in-Ok.ensures.first) in
    λ b e. ap (is_in b) c.requires.managed.unplugged ∙ plugged_apart m.sizes m.plugged b (range_plugged m.plugged first n b c.in-Ok.ensures.plugged (ap (is_in b) (sym held) ∙ e))

pub returns-else-is_err-clause-managed : goal.returns-else-is_err-clause-managed
returns-else-is_err-clause-managed g c =
    let m = c.args.self.now.map in
    let first = c.in-Ok.first.0 in
    let n = c.args.count in
    let held : g.H.Held.blocks c.args.held ≡ range_with_len first n =
    c.requires.held ∙ named_unplug m.sizes (state_in c.args.self.now) c.args.addr n c.in-Ok.ensures.cause ∙ ap (λ (f : ℕ). range_with_len f n) (sym c.in-Ok.ensures.first) in
    managed_after g.H.Held.blocks g.H.Held.room g.B.Backing.room _ m.sizes (without_range first n m.plugged)
    c.requires.managed.within c.clear.ensures.sizes c.clear.ensures.plugged
    (rising-without_range first n m.sizes.managed m.plugged c.requires.managed.rising)
    (taken m.sizes m.plugged _ _ _ _ first n c.in-Ok.ensures.inside c.requires.managed.unplugged held c.merge.ensures.takes c.part-back.ensures.keeps)
    (omega (arith, c.requires.managed.roomy, c.merge.ensures.room, c.part-back.ensures.room))
    (omega (arith, c.requires.managed.backed, c.discard.ensures.room_kept))
