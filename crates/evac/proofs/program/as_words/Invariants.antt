use Rattle.std.proofs.Common.{◌≡◌, ◌++◌, drop, map}
use Rattle.std.specs.String.{string_bytes}
use Rattle.evac.proofs.program.as_words.Given as goal

abbrev pub invariant-loop-text : goal.invariant-loop-text
invariant-loop-text l = map (λ w. w.now) l.words.items ++ map (λ t. string_bytes t) (drop l.text-index l.texts) ≡ map (λ t. string_bytes t) l.fn.texts
