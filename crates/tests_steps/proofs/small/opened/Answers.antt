use Rattle.std.proofs.Common.{sym, subst, arith}
use Rattle.std.specs.List.{IsDistinct}
use Rattle.evac_model.specs.Geometry.{Sizes}
use Rattle.evac_model.specs.StartPages.{AreStartPages}
use Rattle.tests_steps.proofs.small.opened.Goals as goal

pub open-requires-clause-start : goal.open-requires-clause-start
unfolding IsDistinct
open-requires-clause-start c =
    subst (λ (s : Sizes). AreStartPages s _) (sym c.in-Ok.ensures.0)
    (record {
      each = (record { page = omega arith; frame = omega arith }, tt);
      pages = (tt, tt);
      frames = (tt, tt);
    })
