-- What the words of a line ask for is what the grammar says.
use Rattle.std.proofs.Common.{◌≡◌, ◌≢◌, ℕ, ◌||◌, cond, List, [], ◌∷◌, length, None, refl, inl, inr, sym, ap, ◌∙◌, subst, is_some}
use Rattle.std.specs.Prelude.{Contains, ◌==◌, codes}
use Rattle.std.specs.Str.{bytes_eq}
use Rattle.std.proofs.lemmas.Bool.{cond_both, eqb-true, eqb-false}
use Rattle.std.proofs.lemmas.Option.{none-some}
use Rattle.evac_model.specs.ScenarioLines.{line_names, call_names, command_names, later_commands, IsOwnerWord, IsNoneOf, First, BeginsWithX, CallWord, AsksUnknown, AsksLater}
use Rattle.scenario.specs.declared.ask.Ask.{Ask}
use Rattle.scenario.specs.declared.ask.Ask.TheVariants.{Unknown, Later, Read}
use Rattle.scenario.specs.Numbers.{number_of}
use Rattle.scenario.specs.Words.{is_one_of}
use Rattle.scenario.specs.Asking.{ask_of_call, ask_behind_count, ask_of_owner, ask_of_command, ask_of_host, ask_of_words}
use Rattle.scenario.proofs.Numerals.{number_is, no_owner}
use Rattle.scenario.proofs.Names.{same_text, other_text, one_of, none_of, each_name, is_none, isnt_none}
use Rattle.evac_model.proofs.Options.{none_from_test, some_from_test}

-- behind an owner's number: unknown or read, by a fact
abbrev Tells : Type 0 → Ask → Type 0
Tells U Unknown = U
Tells U Later = ⊥
Tells U Read = ¬ U

abbrev pub Says : List (List ℕ) → Ask → Type 0
Says ws Unknown = AsksUnknown ws
Says ws Later = (¬ AsksUnknown ws) × AsksLater ws
Says ws Read = (¬ AsksUnknown ws) × (¬ AsksLater ws)

-- what a fact tells is told by another that means the same
tells_too : {U U' : Type 0} (a : Ask) → (U → U') → (U' → U) → Tells U a → Tells U' a
tells_too Unknown f g t = f t
tells_too Later f g t = t
tells_too Read f g t = λ u. t (g u)

-- ---- a call's word

abbrev OwnerUnknown : List (List ℕ) → Type 0
OwnerUnknown rest = CallWord (IsNoneOf call_names) rest

call_tells : (word : List ℕ) → Tells (IsNoneOf call_names word) (ask_of_call word)
call_tells word =
    cond_both (length word == 0 || is_one_of call_names word) Read Unknown (Tells (IsNoneOf call_names word))
    (isnt_none call_names word)
    (is_none call_names word)

-- the call's word comes first
first_is : (P : List ℕ → Type 0) (word : List ℕ) (rest : List (List ℕ)) → (BeginsWithX word → ⊥) → CallWord P (word ∷ rest) → P word
first_is P word rest nox (inl h) = absurd (nox h.0)
first_is P word rest nox (inr h) = h.1

-- the call's word comes behind a count
next_is : (P : List ℕ → Type 0) (word : List ℕ) (rest : List (List ℕ)) → BeginsWithX word → CallWord P (word ∷ rest) → First P rest
next_is P word rest x (inl h) = h.1
next_is P word rest x (inr h) = absurd (h.0 x)

count_tells : (word : List ℕ) (rest : List (List ℕ)) → BeginsWithX word → Tells (OwnerUnknown (word ∷ rest)) (ask_behind_count rest)
count_tells word [] x = next_is (IsNoneOf call_names) word [] x
count_tells word (name ∷ rest) x =
    tells_too (ask_of_call name) (λ n. inl (x, n)) (next_is (IsNoneOf call_names) word (name ∷ rest) x) (call_tells name)

word_tells : (word : List ℕ) (rest : List (List ℕ)) → (BeginsWithX word → ⊥) → Tells (OwnerUnknown (word ∷ rest)) (ask_of_call word)
word_tells word rest nox =
    tells_too (ask_of_call word) (λ n. inr (nox, n)) (first_is (IsNoneOf call_names) word rest nox) (call_tells word)

owner_tells : (rest : List (List ℕ)) → Tells (OwnerUnknown rest) (ask_of_owner rest)
owner_tells [] = λ u. u
owner_tells ([] ∷ rest) = word_tells [] rest (λ x. x)
owner_tells ((b ∷ bs) ∷ rest) =
    cond_both (b == 120) (ask_behind_count rest) (ask_of_call (b ∷ bs)) (Tells (OwnerUnknown ((b ∷ bs) ∷ rest)))
    (λ e. count_tells (b ∷ bs) rest (eqb-true b 120 e))
    (λ e. word_tells (b ∷ bs) rest (eqb-false b 120 e))

-- ---- the first word

says_of_owner : (word : List ℕ) (rest : List (List ℕ)) (a : Ask) → IsOwnerWord word → (number_of word ≡ None → ⊥) → Tells (OwnerUnknown rest) a → Says (word ∷ rest) a
says_of_owner word rest Unknown owner some t = inr (inl (owner, t))
says_of_owner word rest Later owner some t = absurd t
says_of_owner word rest Read owner some t = (λ u. elim u [ inl n ↦ n.1 owner | inr h ↦ elim h [ inl c ↦ t c.1 | inr k ↦ some (ap number_of k.0) ] ], λ l. some (ap number_of l.0))

not_unknown : (word : List ℕ) (rest : List (List ℕ)) → number_of word ≡ None → ¬ IsNoneOf line_names word → (word ≡ codes "host" → First (IsNoneOf command_names) rest → ⊥) → ¬ AsksUnknown (word ∷ rest)
not_unknown word rest none line host u = elim u [ inl n ↦ line n.0 | inr h ↦ elim h [ inl c ↦ no_owner word none c.0 | inr k ↦ host k.0 k.1 ] ]

-- ---- the host

abbrev HostUnknown : List (List ℕ) → Type 0
HostUnknown rest = First (IsNoneOf command_names) rest

abbrev HostLater : List (List ℕ) → Type 0
HostLater rest = First (Contains later_commands) rest

-- behind the word of the host
abbrev HostSays : List (List ℕ) → Ask → Type 0
HostSays rest Unknown = HostUnknown rest
HostSays rest Later = (¬ HostUnknown rest) × HostLater rest
HostSays rest Read = (¬ HostUnknown rest) × (¬ HostLater rest)

later_is_command : (word : List ℕ) → Contains later_commands word → Contains command_names word
later_is_command word c =
    each_name (Contains command_names) later_commands word
    (one_of command_names (codes "resize") refl, (one_of command_names (codes "join") refl, (one_of command_names (codes "leave") refl, (one_of command_names (codes "migrate") refl, (one_of command_names (codes "cancel") refl, (one_of command_names (codes "finish") refl, tt))))))
    c

command_says : (word : List ℕ) (rest : List (List ℕ)) → HostSays (word ∷ rest) (ask_of_command word)
command_says word rest =
    cond_both (is_one_of later_commands word) Later (cond (length word == 0 || is_one_of command_names word) Read Unknown) (HostSays (word ∷ rest))
    (λ e. let later = one_of later_commands word e in (λ n. n.1 (later_is_command word later), later))
    (λ e. cond_both (length word == 0 || is_one_of command_names word) Read Unknown (HostSays (word ∷ rest))
    (λ f. (isnt_none command_names word f, none_of later_commands word e))
    (λ f. is_none command_names word f))

host_tells : (rest : List (List ℕ)) → HostSays rest (ask_of_host rest)
host_tells [] = (λ u. u, λ l. l)
host_tells (word ∷ rest) = command_says word rest

host_is_line : (word : List ℕ) → word ≡ codes "host" → ¬ IsNoneOf line_names word
host_is_line word e n = n.1 (subst (Contains line_names) (sym e) (one_of line_names (codes "host") refl))

host_says : (word : List ℕ) (rest : List (List ℕ)) (a : Ask) → number_of word ≡ None → word ≡ codes "host" → HostSays rest a → Says (word ∷ rest) a
host_says word rest Unknown none e h = inr (inr (e, h))
host_says word rest Later none e h = (not_unknown word rest none (host_is_line word e) (λ _ u. h.0 u), (e, h.1))
host_says word rest Read none e h = (not_unknown word rest none (host_is_line word e) (λ _ u. h.0 u), λ l. h.1 l.1)

-- ---- the first word of other lines

name_says : (word : List ℕ) (rest : List (List ℕ)) → number_of word ≡ None → word ≢ codes "host" → Says (word ∷ rest) (cond (length word == 0 || is_one_of line_names word) Read Unknown)
name_says word rest none other =
    cond_both (length word == 0 || is_one_of line_names word) Read Unknown (Says (word ∷ rest))
    (λ f. (not_unknown word rest none (isnt_none line_names word f) (λ h c. other h), λ l. other l.0))
    (λ f. inl (is_none line_names word f, no_owner word none))

pub words_say : (ws : List (List ℕ)) → Says ws (ask_of_words ws)
words_say [] = (λ u. u, λ l. l)
words_say (word ∷ rest) =
    let others = cond (bytes_eq word (codes "host")) (ask_of_host rest) (cond (length word == 0 || is_one_of line_names word) Read Unknown) in
    cond_both (is_some (number_of word)) (ask_of_owner rest) others (Says (word ∷ rest))
    (λ e.
    let n = some_from_test (number_of word) e in
    let is = number_is word n.0 n.1 in
    says_of_owner word rest (ask_of_owner rest) (n.0, is.0, is.1) (λ none. none-some n.0 (sym none ∙ n.1)) (owner_tells rest))
    (λ e.
    let none = none_from_test (number_of word) e in
    cond_both (bytes_eq word (codes "host")) (ask_of_host rest) (cond (length word == 0 || is_one_of line_names word) Read Unknown) (Says (word ∷ rest))
    (λ f. host_says word rest (ask_of_host rest) none (same_text word (codes "host") f) (host_tells rest))
    (λ f. name_says word rest none (other_text word (codes "host") f)))
