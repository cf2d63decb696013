use Rattle.std.proofs.Common.{◌∙◌, arith}
use Rattle.std.proofs.lemmas.List.{take_rest}
use Rattle.evac_io.proofs.Told.{Takes-take}
use Rattle.evac_io.proofs.write_whole.write_all.Goals as goal

-- One more write takes the next bytes of the text.
pub loop-at-preserved : goal.loop-at-preserved
loop-at-preserved g c = record {
  within = omega (arith, c.in_ok-at.ensures.bound);
  takes = Takes-take _ _ _ _ _ _ c.loop-at.invariant.takes (rw take_rest at c.in_ok-at.ensures.takes);
  sure = c.in_ok-at.ensures.ok ∙ c.loop-at.invariant.sure;
}
