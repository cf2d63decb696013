use Rattle.std.proofs.Common.{refl, sym, subst, arith}
use Rattle.evac_model.specs.Geometry.{Sizes}
use Rattle.space.specs.JournaledSpace.{AreStartFrames}
use Rattle.tests_space.proofs.spaces.opening.Goals as goal

pub open-requires : goal.open-requires
open-requires g c =
    subst (λ (s : Sizes). AreStartFrames s _ _) (sym c.in_ok-geometry.ensures)
    (record {
      there = (omega arith, (omega arith, tt));
      fitting = (refl, (refl, tt));
    })
