-- Words without a byte: a mark that parts words, or parts of words.
use Rattle.std.proofs.Common.{◌≡◌, ◌≢◌, ℕ, suc, ◌<◌, true, false, not, List, [], ◌∷◌, ◌++◌, length, get_or, refl, arith}
use Rattle.std.specs.Prelude.{◌==◌, codes}
use Rattle.std.specs.List.{AllByRecursion, list_all}
use Rattle.std.specs.Fmt.{decimal}
use Rattle.std.specs.Int.{IsInRange}
use Rattle.std.proofs.lemmas.Bool.{ne_eqb, and_parts, not-true}
use Rattle.std.proofs.lemmas.Fmt.{digits_decimal}
use Rattle.std.proofs.lemmas.Str.Parse.{not_in_digits}
use Rattle.evac_model.specs.declared.scenario.Actor.{Actor}
use Rattle.evac_model.specs.declared.scenario.Actor.TheVariants.{Owner, Host, Scanner}
use Rattle.evac_model.specs.Spelling.{actor_word}
use Rattle.evac_model.specs.ScenarioLines.{IsNumber, HasActorNumber}
use Rattle.scenario.proofs.Numerals.{own}

-- no byte of the word is the mark
abbrev pub HasNo : ℕ → List ℕ → Type 0
HasNo mark word = AllByRecursion (λ b. (b == mark) ≡ false) word

-- a test of a word that is known
pub has_no : (mark : ℕ) (word : List ℕ) → list_all (λ b. not (b == mark)) word ≡ true → HasNo mark word
has_no mark [] e = tt
has_no mark (b ∷ bs) e =
    let parts = and_parts (not (b == mark)) (list_all (λ c. not (c == mark)) bs) e in
    (not-true (b == mark) parts.0, has_no mark bs parts.1)

pub joined : (mark : ℕ) (a b : List ℕ) → HasNo mark a → HasNo mark b → HasNo mark (a ++ b)
joined mark [] b h k = k
joined mark (c ∷ cs) b h k = (h.0, joined mark cs b h.1 k)

no_digit : (mark : ℕ) (ds : List ℕ) → ((i : ℕ) → i < length ds → get_or ds i 0 ≢ mark) → HasNo mark ds
no_digit mark [] h = tt
no_digit mark (d ∷ ds) h = (ne_eqb d mark (h 0 (omega arith)), no_digit mark ds (λ i lt. h (suc i) (omega arith)))

-- a mark that is no digit
pub number_has_no : (mark n : ℕ) → ¬ IsInRange 48 57 mark → IsNumber n → HasNo mark (decimal n)
number_has_no mark n other lt = no_digit mark (decimal n) (not_in_digits own (decimal n) mark (digits_decimal own n lt) other)

pub space_no_digit : ¬ IsInRange 48 57 32
space_no_digit h = omega (arith, h.0)

pub star_no_digit : ¬ IsInRange 48 57 42
star_no_digit h = omega (arith, h.0)

pub actor_has_no_space : (actor : Actor) → HasActorNumber actor → HasNo 32 (actor_word actor)
actor_has_no_space (Owner k) h = number_has_no 32 k space_no_digit h
actor_has_no_space Host h = has_no 32 (codes "h") refl
actor_has_no_space Scanner h = has_no 32 (codes "s") refl

pub actor_has_no_star : (actor : Actor) → HasActorNumber actor → HasNo 42 (actor_word actor)
actor_has_no_star (Owner k) h = number_has_no 42 k star_no_digit h
actor_has_no_star Host h = has_no 42 (codes "h") refl
actor_has_no_star Scanner h = has_no 42 (codes "s") refl
