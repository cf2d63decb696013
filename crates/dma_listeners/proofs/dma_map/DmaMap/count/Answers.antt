use Rattle.std.proofs.Common.{ap, sym, ◌∙◌, ◌≡◌, ℕ, List, length, arith}
use Rattle.std.proofs.Math.Nat.{mul-div_cancel}
use Rattle.evac_model.specs.Geometry.{block_bytes}
use Rattle.evac_model.proofs.Numbers.{length-numbers_where}
use Rattle.evac_model.specs.Numbers.{is_in}
use Rattle.dma_listeners.proofs.Bytes.{bytes_some}
use Rattle.dma_listeners.proofs.dma_map.DmaMap.count.Goals as goal

pub returns-clause-mapped : goal.returns-clause-mapped
returns-clause-mapped c =
    let bytes : c.block_bytes.result ≡ block_bytes c.self.inside.map.sizes = c.block_bytes.ensures ∙ ap block_bytes c.geometry.ensures.sizes in
    rw (c.plugged_size.ensures, bytes) (mul-div_cancel (length c.self.inside.map.plugged) (bytes_some c.self.inside.map.sizes c.geometry.ensures.within) ∙ ap (λ v. length v.mapped) c.self.view_is)

pub returns-clause-few : goal.returns-clause-few
returns-clause-few c =
    let plugged = c.self.inside.map.plugged in
    let mapped = returns-clause-mapped c ∙ ap (λ v. length v.mapped) (sym c.self.view_is) in
    let few : length plugged ≡ length _ = ap (λ (xs : List ℕ). length xs) c.geometry.ensures.rising in
    omega (arith, few, mapped, length-numbers_where (λ b. is_in b plugged) c.self.inside.map.sizes.managed, c.geometry.ensures.within.managed.1)
