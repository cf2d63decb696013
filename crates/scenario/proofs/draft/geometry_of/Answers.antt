use Rattle.std.proofs.Common.{◌≡◌, arith}
use Rattle.scenario.specs.Reading.{sizes_in}
use Rattle.scenario.proofs.Limits.{kept_or_broken, same_sizes}
use Rattle.scenario.proofs.draft.geometry_of.Goals as goal

pub returns : goal.returns
returns c =
    let e0 : c.in_ok-cells.cells ≡ c.args.line.cells = grind (arith, c.try_from.ensures, c.in_ok-cells.ensures.value) in
    let e1 : c.in_ok-block.block ≡ c.args.line.block = grind (arith, c.try_from-2.ensures, c.in_ok-block.ensures.value) in
    let e2 : c.in_ok-boot.boot ≡ c.args.line.boot = grind (arith, c.try_from-3.ensures, c.in_ok-boot.ensures.value) in
    let e3 : c.in_ok-managed.managed ≡ c.args.line.managed = grind (arith, c.try_from-4.ensures, c.in_ok-managed.ensures.value) in
    let e4 : c.in_ok-plugged.plugged ≡ c.args.line.plugged = grind (arith, c.try_from-5.ensures, c.in_ok-plugged.ensures.value) in
    let e5 : c.in_ok-pages.pages ≡ c.args.line.pages = grind (arith, c.try_from-6.ensures, c.in_ok-pages.ensures.value) in
    rw (same_sizes (sizes_in c.args.line) _ _ _ _ _ _ e0 e1 e2 e3 e4 e5) (kept_or_broken _ c.new.result c.ok-7.result c.ok-7.ensures.value c.new.ensures)
