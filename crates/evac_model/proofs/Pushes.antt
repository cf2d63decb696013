-- Whose actions of a frame space's journal are which, in one that has one more.
use Rattle.std.proofs.Common.{◌≡◌, ◌≢◌, ℕ, ◌==◌, cond, Bool, List, [], ◌∷◌, ◌++◌, append-nil, ap, ◌∙◌, eq-eqb, ne_eqb}
use Rattle.std.proofs.lemmas.List.Elements.{filter-append}
use Rattle.evac_model.specs.declared.space.SpaceAction.{SpaceAction}
use Rattle.evac_model.specs.Pairing.{caller_of, actions_of}

pub own_push : (who : ℕ) (journal : List SpaceAction) (x : SpaceAction) → caller_of x ≡ who → actions_of who (journal ++ x ∷ []) ≡ actions_of who journal ++ x ∷ []
own_push who journal x own =
    filter-append (λ (a : SpaceAction). caller_of a == who) journal (x ∷ [])
    ∙ ap (λ (b : Bool). actions_of who journal ++ cond b (x ∷ []) []) (eq-eqb (caller_of x) who own)

pub other_push : (who : ℕ) (journal : List SpaceAction) (x : SpaceAction) → caller_of x ≢ who → actions_of who (journal ++ x ∷ []) ≡ actions_of who journal
other_push who journal x other =
    filter-append (λ (a : SpaceAction). caller_of a == who) journal (x ∷ [])
    ∙ (ap (λ (b : Bool). actions_of who journal ++ cond b (x ∷ []) []) (ne_eqb (caller_of x) who other)
    ∙ append-nil (actions_of who journal))
