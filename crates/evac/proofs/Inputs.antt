-- What the bytes that were read say of the bytes that the source had.
use Rattle.std.proofs.Common.{append-nil, ◌≡◌, ℕ, List, [], ◌∷◌, ◌++◌, Option, None, Some, IfSome, refl, ap, ◌∙◌}
use Rattle.evac_io.specs.Told.{Gives, IsAtEnd}

same_inside : (o : Option (List ℕ)) (bytes : List ℕ) → o ≡ Some bytes → IfSome o (λ b. b ≡ bytes)
same_inside None bytes e = tt
same_inside (Some b) bytes e = cc

none_inside : (o : Option (List ℕ)) (P : List ℕ → Type 0) → o ≡ None → IfSome o P
none_inside None P e = tt
none_inside (Some b) P e = absurd (cc)

-- the bytes that were given to the end are all that there were
pub all_given : (old new : Option (List ℕ)) (bytes : List ℕ) → Gives old new bytes → IsAtEnd new → IfSome old (λ b. b ≡ bytes)
all_given old None bytes g end = none_inside old _ g
all_given old (Some rest) bytes g end =
    same_inside old bytes (g ∙ ap Some (ap (λ r. bytes ++ r) end ∙ append-nil bytes))

-- what follows from the bytes that there were
pub of_told : (o : Option (List ℕ)) (bytes : List ℕ) (Q : List ℕ → Type 0) → IfSome o (λ b. b ≡ bytes) → ((b : List ℕ) → b ≡ bytes → Q b) → IfSome o Q
of_told None bytes Q h f = tt
of_told (Some b) bytes Q h f = f b h
