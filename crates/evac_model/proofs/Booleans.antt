-- Laws on tests that std lacks. The others stand in `Rattle.std.proofs.Math.Bool` (`or-false`, `and-true`, `or_assoc`, ..) and `Rattle.std.proofs.lemmas.Bool`.
use Rattle.std.proofs.Common.{◌≡◌, Bool, true, false, cond, not, ◌&&◌, ◌||◌, refl}

pub cond_same : {A : Type 0} (t : Bool) (x : A) → cond t x x ≡ x
cond_same true x = refl
cond_same false x = refl

-- neither of two, and not both of them
pub and_not : (p q : Bool) → (not p && not q) ≡ not (p || q)
and_not true q = refl
and_not false q = refl

pub or_not : (p q : Bool) → (not p || q) ≡ not (p && not q)
or_not true true = refl
or_not true false = refl
or_not false q = refl
