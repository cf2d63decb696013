-- Lists of which a front has been mapped, as by a loop in its place.
use Rattle.std.proofs.Common.{◌≡◌, ℕ, ◌+◌, ◌<◌, List, [], ◌∷◌, ◌++◌, map, take, drop, set, length, get_or, sym, ap, ◌∙◌, append_assoc, arith}
use Rattle.std.proofs.lemmas.List.{drop_more, get_or_at, set_at, map_more, length-map, length-take-le}

length_front : (f : List ℕ → List ℕ) (xss : List (List ℕ)) (i : ℕ) → i < length xss → length (map f (take i xss)) ≡ i
length_front f xss i within = length-map (take i xss) f ∙ length-take-le i xss (omega arith)

-- the next item is as it was
pub next_item : (f : List ℕ → List ℕ) (xss : List (List ℕ)) (i : ℕ) (d : List ℕ) → i < length xss → get_or (map f (take i xss) ++ drop i xss) i d ≡ get_or xss i []
next_item f xss i d within =
    ap (λ (rest : List (List ℕ)). get_or (map f (take i xss) ++ rest) i d) (drop_more xss i [] within)
    ∙ get_or_at (map f (take i xss)) (get_or xss i []) (drop (i + 1) xss) d i (length_front f xss i within)

-- one item more
pub front_more : (f : List ℕ → List ℕ) (xss : List (List ℕ)) (i : ℕ) → i < length xss → set (map f (take i xss) ++ drop i xss) i (f (get_or xss i [])) ≡ map f (take (i + 1) xss) ++ drop (i + 1) xss
front_more f xss i within =
    ap (λ (rest : List (List ℕ)). set (map f (take i xss) ++ rest) i (f (get_or xss i []))) (drop_more xss i [] within)
    ∙ (set_at (map f (take i xss)) (get_or xss i []) (drop (i + 1) xss) (f (get_or xss i [])) i (length_front f xss i within)
    ∙ sym (ap (λ (front : List (List ℕ)). front ++ drop (i + 1) xss) (map_more f xss i [] within) ∙ append_assoc (map f (take i xss)) (f (get_or xss i []) ∷ []) (drop (i + 1) xss)))
