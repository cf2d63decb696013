use Rattle.std.proofs.Common.{rules, ◌≡◌, ◌<◌, not, sym, ap, ◌∙◌, arith}
use Rattle.std.proofs.lemmas.Bool.{not-true, ltb-true}
use Rattle.evac_model.specs.Geometry.{Sizes}
use Rattle.evac_model.specs.Numbers.{is_in}
use Rattle.machine.specs.MachineInside.{setting_of, world_of}
use Rattle.machine.specs.World.{space_now}
use Rattle.machine.proofs.allowed.may_isolate.Goals as goal
use Rattle.machine.proofs.allowed.may_isolate.Goals.{then-seat-eq0, else-seat-eq0}

pub returns-then-block-managed : goal.returns-then-block-managed
returns-then-block-managed c =
    let a = c.args.parts.now in
    let driver : c.args.seat ≡ 0 = search rules in
    let managed : c.args.block.0 < a.space.sizes.managed = elim c.if-seat-eq0.branch [
      | then-seat-eq0 w ↦
          let same : w.managed.result ≡ a.space.sizes.managed = w.managed.ensures.size ∙ ap (λ (s : Sizes). s.managed) w.geometry.ensures.sizes in
          omega (arith, same, ltb-true c.args.block.0 w.managed.result (sym w.value-is ∙ c.if-block-managed.true))
      | else-seat-eq0 w ↦ absurd (w.if-seat-eq0.false driver)
    ] in
    let same : c.is_isolated.result ≡ is_in c.args.block.0 (space_now (setting_of a) (world_of a)).isolated = c.is_isolated.ensures in (
      (λ is. record { driver = driver; managed = managed; there = sym same ∙ not-true _ is }),
      (λ may. ap not (same ∙ may.there)),
    )
