use Rattle.std.proofs.Common.{◌≡◌, ◌∙◌, ℕ, List, length, ap, arith}
use Rattle.evac_model.specs.Geometry.{Sizes}
use Rattle.evac_model.specs.Numbers.{is_in}
use Rattle.evac_model.proofs.Numbers.{length-numbers_where}
use Rattle.tests_listeners.proofs.small.blocks.Goals as goal

pub returns-clause-few : goal.returns-clause-few
returns-clause-few c =
    let plugged = c.args.map.now.plugged in
    let managed : c.managed.result ≡ c.args.map.now.sizes.managed = c.managed.ensures.size ∙ ap (λ (s : Sizes). s.managed) c.geometry.ensures.sizes in
    let few : length plugged ≡ length _ = ap (λ (xs : List ℕ). length xs) c.geometry.ensures.rising in
    omega (arith, few, managed, length-numbers_where (λ b. is_in b plugged) c.args.map.now.sizes.managed)
