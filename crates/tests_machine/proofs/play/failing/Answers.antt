use Rattle.std.proofs.Common.{sym, subst, arith}
use Rattle.std.specs.List.{IsDistinct}
use Rattle.evac_model.specs.Geometry.{Sizes}
use Rattle.machine.specs.Start.{MayStart}
use Rattle.tests_machine.proofs.play.failing.Goals as goal

pub open-requires : goal.open-requires
unfolding IsDistinct
open-requires c =
    subst (λ (s : Sizes). MayStart s _ _ _) (sym c.in_ok-g.ensures.0)
    (record {
      limits = c.in_ok-g.ensures.1;
      start = record { each = tt; pages = tt; frames = tt };
      kinds = tt;
      owners = omega arith;
      calls = omega arith;
    })
