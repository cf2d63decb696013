-- Lists of flags.
use Rattle.std.proofs.Common.{◌≡◌, ℕ, zero, suc, ◌+◌, ◌-◌, ◌≤◌, Bool, true, false, List, [], ◌∷◌, ◌++◌, length, take, drop, replicate, refl, sym, ap, ◌∙◌, arith}
use Rattle.std.specs.List.{list_all}
use Rattle.std.proofs.lemmas.Bool.{false≢true}
use Rattle.std.proofs.lemmas.List.{append_assoc, take_all, take-append-le, drop-append-le, drop_all, append-nil, length-append, length-take-le, length-drop, take-replicate, drop-replicate}
use Rattle.std.proofs.Math.Seq.{take-append-add, drop-append-add}
use Rattle.buddy.specs.Parts.{replaced}

pub all_of_true : (n : ℕ) → list_all (λ (b : Bool). b) (replicate n true) ≡ true
all_of_true zero = refl
all_of_true (suc n) = all_of_true n

pub true_from_all : (free : List Bool) → list_all (λ b. b) free ≡ true → free ≡ replicate (length free) true
true_from_all [] h = refl
true_from_all (true ∷ free) h = ap (λ (xs : List Bool). true ∷ xs) (true_from_all free h)
true_from_all (false ∷ free) h = absurd (false≢true h)

-- what lies in the first part of two, and in the second
drop_in_high : (low high : List Bool) (n : ℕ) → length low ≤ n → drop n (low ++ high) ≡ drop (n - length low) high
drop_in_high low high n h =
    ap (λ (k : ℕ). drop k (low ++ high)) (omega arith) ∙ drop-append-add low high (n - length low)

take_in_high : (low high : List Bool) (n : ℕ) → length low ≤ n → take n (low ++ high) ≡ low ++ take (n - length low) high
take_in_high low high n h =
    ap (λ (k : ℕ). take k (low ++ high)) (omega arith) ∙ take-append-add low high (n - length low)

pub replaced_low : (first m : ℕ) (others low high : List Bool) → first + m ≤ length low → replaced first m others low ++ high ≡ replaced first m others (low ++ high)
replaced_low first m others low high h =
    append_assoc (take first low ++ others) (drop (first + m) low) high
    ∙ ap (λ (xs : List Bool). take first low ++ others ++ xs) (sym (drop-append-le (first + m) low high h))
    ∙ ap (λ (xs : List Bool). xs ++ others ++ drop (first + m) (low ++ high)) (sym (take-append-le first low high (omega arith)))

pub replaced_high : (first m : ℕ) (others low high : List Bool) → length low ≤ first → low ++ replaced (first - length low) m others high ≡ replaced first m others (low ++ high)
replaced_high first m others low high h =
    sym (append_assoc low (take (first - length low) high ++ others) (drop (first - length low + m) high))
    ∙ ap (λ (xs : List Bool). xs ++ drop (first - length low + m) high) (sym (append_assoc low (take (first - length low) high) others))
    ∙ ap (λ (xs : List Bool). xs ++ others ++ drop (first - length low + m) high) (sym (take_in_high low high first h))
    ∙ ap (λ (xs : List Bool). take first (low ++ high) ++ others ++ xs) (ap (λ (k : ℕ). drop k high) (omega arith) ∙ sym (drop_in_high low high (first + m) (omega arith)))

pub replaced_whole : (m : ℕ) (others free : List Bool) → length free ≤ m → replaced 0 m others free ≡ others
replaced_whole m others free h =
    ap (λ (xs : List Bool). others ++ xs) (drop_all (0 + m) free (omega (arith, h))) ∙ append-nil others

pub length-replaced : (first m : ℕ) (others free : List Bool) → first + m ≤ length free → length others ≡ m → length (replaced first m others free) ≡ length free
length-replaced first m others free h l =
    length-append (take first free ++ others) (drop (first + m) free)
    ∙ omega (arith, length-append (take first free) others, length-take-le first free (omega arith), length-drop (first + m) free, l, h)

pub run_low : (first m : ℕ) (low high : List Bool) → first + m ≤ length low → take m (drop first (low ++ high)) ≡ take m (drop first low)
run_low first m low high h =
    ap (take m) (drop-append-le first low high (omega arith)) ∙ take-append-le m (drop first low) high (omega (arith, length-drop first low))

pub run_high : (first m : ℕ) (low high : List Bool) → length low ≤ first → take m (drop first (low ++ high)) ≡ take m (drop (first - length low) high)
run_high first m low high h = ap (take m) (drop_in_high low high first h)

pub run_whole : (m : ℕ) (free : List Bool) → length free ≤ m → take m (drop 0 free) ≡ free
run_whole m free h = take_all m free h

pub run_alike : (first m n : ℕ) (b : Bool) → first + m ≤ n → take m (drop first (replicate n b)) ≡ replicate m b
run_alike first m n b h = ap (take m) (drop-replicate first n b) ∙ take-replicate m (n - first) b (omega arith)
