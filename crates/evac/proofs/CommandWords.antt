-- When the words are one text alone, and those of a program's arguments.
use Rattle.std.proofs.Common.{◌≡◌, ℕ, ◌<◌, ◌≤◌, Bool, nat_eq, List, [], ◌∷◌, length, map, drop, get_or, sym, ap, ◌∙◌, subst, arith}
use Rattle.std.specs.Bool.{Decides}
use Rattle.std.specs.Borrow.{Bor}
use Rattle.std.specs.Cmp.Lexicographic.{pointwise}
use Rattle.std.proofs.lemmas.Bool.Decides.{Decides-like, Decides-eqb}
use Rattle.std.proofs.lemmas.List.{drop-map}
use Rattle.std.proofs.lemmas.Slice.Eq.{slice_eq-Decides}
use Rattle.evac.specs.Commands.{AreCommandWords, IsCommand, IsCommandLine}

-- one word is compared, and no other is there
pub only_word : (words : List (Bor (List ℕ))) (d : Bor (List ℕ)) (text : List ℕ) (r : Bool) → 1 ≤ length words → length words < 2 → r ≡ pointwise nat_eq (get_or words 0 d).now text → Decides r (map (λ w. w.now) words ≡ text ∷ [])
only_word [] d text r low high e = absurd (omega arith)
only_word (w ∷ []) d text r low high e =
    Decides-like r (λ p. ap (λ x. x ∷ []) p) (λ q. cc) (slice_eq-Decides Decides-eqb w.now text r e)
only_word (w ∷ v ∷ words) d text r low high e = absurd (omega arith)

-- the words behind the first of a program's arguments
module _ {T : Type 0} (bytes : T → List ℕ) (arguments texts : List T) (words : List (Bor (List ℕ))) (same : texts ≡ arguments) (are : map (λ w. w.now) words ≡ map bytes (drop 1 texts)) where
  behind : map (λ w. w.now) words ≡ drop 1 (map bytes arguments)
  behind = are ∙ ap (λ l. map bytes (drop 1 l)) same ∙ sym (drop-map bytes 1 arguments)

  pub command_words : IsCommandLine (map bytes arguments) → IsCommand words
  command_words line = subst AreCommandWords (sym behind) line

  pub command_line : IsCommand words → IsCommandLine (map bytes arguments)
  command_line is = subst AreCommandWords behind is
