use Rattle.std.proofs.Common.{◌^◌, ap}
use Rattle.buddy.specs.Parts.{Part}
use Rattle.buddy.proofs.Giving.{start_value}
use Rattle.buddy.proofs.runs.Runs.new.Goals as goal

pub returns : goal.returns
returns c =
    start_value c.args.g c.args.online c.in_ok-boot.boot c.in_ok-managed.managed c.in_ok-aside.aside.items c.in_ok-withdrawn.withdrawn.items (2 ^ c.order_for.result) (2 ^ c.order_for-2.result) c.frames.result c.managed-3.result
    (ap (λ (p : Part). p.free) c.in_ok-boot.ensures) (ap (λ (p : Part). p.free) c.in_ok-managed.ensures) (c.in_ok-aside.ensures.items_if_clones_equal (λ y e. e)) (c.in_ok-withdrawn.ensures.items_if_clones_equal (λ y e. e))
