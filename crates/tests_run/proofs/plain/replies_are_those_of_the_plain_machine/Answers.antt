use Rattle.std.proofs.Common.{refl, sym, subst, arith}
use Rattle.std.specs.List.{IsDistinct}
use Rattle.evac_model.specs.Geometry.{Sizes}
use Rattle.evac_model.specs.StartPages.{AreStartPages}
use Rattle.tests_run.proofs.plain.replies_are_those_of_the_plain_machine.Goals as goal

pub new-requires-2 : goal.new-requires-2
unfolding IsDistinct
new-requires-2 g c =
    subst (λ (s : Sizes). AreStartPages s _) (sym c.in_ok-geometry.ensures.0)
    (record {
      each = (record { page = omega arith; frame = omega arith }, tt);
      pages = (tt, tt);
      frames = (tt, tt);
    })
