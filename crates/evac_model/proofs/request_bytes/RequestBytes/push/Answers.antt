use Rattle.std.proofs.Common.{List, ℕ, length, ap, arith}
use Rattle.evac_model.specs.Padded.{padded_count}
use Rattle.evac_model.proofs.Padded.{padded_push}
use Rattle.evac_model.proofs.request_bytes.RequestBytes.push.Goals as goal

pub invariant_of-self : goal.invariant_of-self
invariant_of-self c =
    let inside = c.self.inside in
    padded_push 64 inside.count inside.items c.args.byte c.self.invariant
    (omega (arith, c.requires, padded_count 64 inside.count inside.items c.self.invariant, ap (λ (xs : List ℕ). length xs) c.self.view_is))
