-- Which words are a command.
use Rattle.std.specs.Prelude.{◌≡◌, ℕ, List, [], ◌∷◌, drop, map, codes}
use Rattle.std.specs.Borrow.{Bor}

-- these are exactly the words of a command that is built
abbrev pub AreCommandWords : List (List ℕ) → Type 0
AreCommandWords words = words ≡ codes "replay" ∷ []

abbrev pub IsCommand : List (Bor (List ℕ)) → Type 0
IsCommand words = AreCommandWords (map (λ w. w.now) words)

-- the arguments of a program are its name and the words of a command
abbrev pub IsCommandLine : List (List ℕ) → Type 0
IsCommandLine arguments = AreCommandWords (drop 1 arguments)
