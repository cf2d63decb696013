-- Cases on a test, and which action is made.
use Rattle.std.proofs.Common.{◌≡◌, Bool, true, false, if◌then◌else◌, refl, subst}
use Rattle.core_state.specs.declared.step.MoveStep.{MoveStep}
use Rattle.core_state.specs.declared.step.Step.{Step}
use Rattle.machine.specs.declared.action.Action.TheVariants as actions

-- what holds either way
pub if_then : {A : Type 0} (P : A → Type 0) (b : Bool) (x y : A) → (b ≡ true → P x) → (b ≡ false → P y) → P (if b then x else y)
if_then P true x y f g = f refl
if_then P false x y f g = g refl

pub if_two : {A B : Type 0} (P : A → B → Type 0) (b : Bool) (x y : A) (u w : B) → (b ≡ true → P x u) → (b ≡ false → P y w) → P (if b then x else y) (if b then u else w)
if_two P true x y u w f g = f refl
if_two P false x y u w f g = g refl

-- by cases on a test
pub by_test : {A : Type 0} (b : Bool) → (b ≡ true → A) → (b ≡ false → A) → A
by_test true f g = f refl
by_test false f g = g refl

pub same_either : {A : Type 0} (b : Bool) (x : A) → (if b then x else x) ≡ x
same_either true x = refl
same_either false x = refl

-- ---- an action that is this step

pub with_step : (P : Step → Type 0) (x y : Step) → actions.Step x ≡ actions.Step y → P x → P y
with_step P x y e p = let same : x ≡ y = cc in subst P same p

pub with_move : (P : MoveStep → Type 0) (x y : MoveStep) → actions.Move x ≡ actions.Move y → P x → P y
with_move P x y e p = let same : x ≡ y = cc in subst P same p
