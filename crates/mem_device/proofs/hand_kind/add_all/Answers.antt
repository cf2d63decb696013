use Rattle.std.proofs.Common.{◌≡◌, ℕ, ◌||◌, ◌&&◌, nat_lt, true, sym, ap, subst, ◌∙◌, arith}
use Rattle.evac_model.specs.Geometry.{Sizes}
use Rattle.evac_model.specs.Numbers.{is_in, IsRisingBelow}
use Rattle.evac_model.proofs.Unions.{rising-with_range, is_in-with_range}
use Rattle.mem_device.proofs.HandParts.{added_more, added_same, added_all}
use Rattle.mem_device.proofs.hand_kind.add_all.Goals as goal
use Rattle.mem_device.proofs.hand_kind.add_all.Goals.{then-plugged, else-plugged}

pub loop-b-preserved : goal.loop-b-preserved
loop-b-preserved c =
    let old = c.args.map.now.plugged in
    let more = c.args.more.now.plugged in
    let before = c.loop-b.map.plugged in
    let m = c.loop-b.map.sizes.managed in
    let b = c.loop-b.b in
    let same : m ≡ c.args.map.now.sizes.managed = ap (λ (s : Sizes). s.managed) c.loop-b.invariant.sizes in
    elim c.if-plugged.branch [
      | then-plugged w ↦
          let there : is_in b more ≡ true = sym c.plugged.ensures ∙ w.if-plugged.true in
          rw w.map-is (record {
            sizes = w.set.ensures.sizes ∙ c.loop-b.invariant.sizes;
            rising = rw (w.set.ensures.plugged, w.set.ensures.sizes) (rising-with_range b 1 m before c.loop-b.invariant.rising (omega (arith, c.requires b there, same)));
            has = λ k. ap (is_in k) w.set.ensures.plugged ∙ is_in-with_range b 1 before k ∙ added_more (λ x. is_in x old) (λ x. is_in x more) (λ x. is_in x before) b c.loop-b.invariant.has there k;
          })
      | else-plugged w ↦
          rw w.map-is (record {
            sizes = c.loop-b.invariant.sizes;
            rising = c.loop-b.invariant.rising;
            has = added_same (λ x. is_in x old) (λ x. is_in x more) (λ x. is_in x before) b c.loop-b.invariant.has (sym c.plugged.ensures ∙ w.if-plugged.false);
          })
    ]

pub returns-clause-plugged : goal.returns-clause-plugged
returns-clause-plugged c =
    let old = c.args.map.now.plugged in
    let more = c.args.more.now.plugged in
    let after = c.loop-b.map.plugged in
    let m = c.args.map.now.sizes.managed in
    let same : c.loop-b.map.sizes.managed ≡ m = ap (λ (s : Sizes). s.managed) c.loop-b.invariant.sizes in
    let end : c.args.more.now.sizes.managed ≡ c.device_blocks-end.result = sym (c.device_blocks-end.ensures.size ∙ ap (λ (s : Sizes). s.managed) c.geometry-2.ensures.sizes) in
    let last : c.loop-b.b ≡ c.args.more.now.sizes.managed = omega (arith, end) in
    added_all m c.args.more.now.sizes.managed old more after c.geometry.ensures.rising c.geometry-2.ensures.rising (subst (λ (k : ℕ). IsRisingBelow k after) same c.loop-b.invariant.rising) c.requires
    (λ k. c.loop-b.invariant.has k ∙ ap (λ (x : ℕ). is_in k old || (is_in k more && nat_lt k x)) last)
