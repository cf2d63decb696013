-- The words of a spelled line, and the line that words spell.
use Rattle.std.proofs.Common.{◌≡◌, ℕ, true, false, not, List, [], ◌∷◌, ◌++◌, map, Option, Some, None, refl, sym, ap, ◌∙◌}
use Rattle.std.specs.Prelude.{◌==◌, codes, IfSome}
use Rattle.std.specs.List.{AllByRecursion, list_all}
use Rattle.std.specs.Fmt.{decimal}
use Rattle.std.proofs.lemmas.List.Elements.{All-from_recursion}
use Rattle.std.proofs.lemmas.List.Splits.{slice_split_at, slice_split_none, join_with_byte-slice_split}
use Rattle.evac_model.specs.declared.names.Kind.{Kind}
use Rattle.evac_model.specs.declared.names.Kind.TheVariants.{Movable, Unmovable}
use Rattle.evac_model.specs.declared.call.Call.{Call}
use Rattle.evac_model.specs.declared.call.Call.TheVariants.{Alloc, Free, Read, Write, Add, Pin, Unpin}
use Rattle.evac_model.specs.declared.scenario.Actor.{Actor}
use Rattle.evac_model.specs.declared.host.HostCommand.{HostCommand}
use Rattle.evac_model.specs.declared.host.HostCommand.TheVariants.{Request, Config}
use Rattle.evac_model.specs.Spelling.{kind_word, online_word, call_words, actor_word, turn_word, count_words, command_words, spaced}
use Rattle.evac_model.specs.ScenarioLines.{Line, NamedTurn, MachineLine, OnlineLine, PageLine, FailLine, TurnsLine, DrawLine, CallLine, CommandLine, words_of, IsNumber, HasNumbers, HasActorNumber, HasTurnNumbers, HasBytes, Fits, Spells, words}
use Rattle.scenario.proofs.HexWords.{hex_has_no_space}
use Rattle.scenario.proofs.Marks.{HasNo, has_no, joined, number_has_no, space_no_digit, actor_has_no_space}

-- no byte of the word is a space
abbrev HasNoSpace : List ℕ → Type 0
HasNoSpace word = HasNo 32 word

words-spaced : (word : List ℕ) (rest : List (List ℕ)) → HasNoSpace word → AllByRecursion HasNoSpace rest → words (spaced (word ∷ rest)) ≡ word ∷ rest
words-spaced word [] here others = slice_split_none (λ b. b == 32) word (All-from_recursion (λ b. (b == 32) ≡ false) word here)
words-spaced word (next ∷ rest) here others =
    slice_split_at (λ b. b == 32) word 32 (spaced (next ∷ rest)) (All-from_recursion (λ b. (b == 32) ≡ false) word here) refl
    ∙ ap (λ (ws : List (List ℕ)). word ∷ ws) (words-spaced next rest others.0 others.1)

no_space : (word : List ℕ) → list_all (λ b. not (b == 32)) word ≡ true → HasNoSpace word
no_space word e = has_no 32 word e

decimal_has_none : (n : ℕ) → IsNumber n → HasNoSpace (decimal n)
decimal_has_none n lt = number_has_no 32 n space_no_digit lt

decimals_have_none : (ns : List ℕ) → AllByRecursion IsNumber ns → AllByRecursion HasNoSpace (map decimal ns)
decimals_have_none [] h = tt
decimals_have_none (n ∷ ns) h = (decimal_has_none n h.0, decimals_have_none ns h.1)

kind_has_none : (kind : Kind) → HasNoSpace (kind_word kind)
kind_has_none Movable = no_space (kind_word Movable) refl
kind_has_none Unmovable = no_space (kind_word Unmovable) refl

online_has_none : (kind : Kind) → HasNoSpace (online_word kind)
online_has_none Movable = no_space (online_word Movable) refl
online_has_none Unmovable = no_space (online_word Unmovable) refl

call_has_none : (page : ℕ) (call : Call) → IsNumber page → HasNumbers call → AllByRecursion HasNoSpace (call_words page call)
call_has_none page (Alloc kind) p h = (no_space (codes "alloc") refl, (decimal_has_none page p, (kind_has_none kind, tt)))
call_has_none page Free p h = (no_space (codes "free") refl, (decimal_has_none page p, tt))
call_has_none page (Read first count) p h = (no_space (codes "read") refl, (decimal_has_none page p, (decimal_has_none first h.0, (decimal_has_none count h.1, tt))))
call_has_none page (Write first values) p h = (no_space (codes "write") refl, (decimal_has_none page p, (decimal_has_none first h.0, decimals_have_none values h.3)))
call_has_none page (Add cell value) p h = (no_space (codes "add") refl, (decimal_has_none page p, (decimal_has_none cell h.0, (decimal_has_none value h.1, tt))))
call_has_none page Pin p h = (no_space (codes "pin") refl, (decimal_has_none page p, tt))
call_has_none page Unpin p h = (no_space (codes "unpin") refl, (decimal_has_none page p, tt))

turn_has_none : (actor : Actor) (count : Option ℕ) → HasActorNumber actor → IfSome count IsNumber → HasNoSpace (turn_word actor count)
turn_has_none actor None a h = actor_has_no_space actor a
turn_has_none actor (Some n) a h = joined 32 (actor_word actor) (codes "*" ++ decimal n) (actor_has_no_space actor a) (joined 32 (codes "*") (decimal n) (no_space (codes "*") refl) (decimal_has_none n h))

turns_have_none : (turns : List NamedTurn) → AllByRecursion HasTurnNumbers turns → AllByRecursion HasNoSpace (map (λ t. turn_word t.actor t.count) turns)
turns_have_none [] h = tt
turns_have_none (t ∷ turns) h = (turn_has_none t.actor t.count h.0.0 h.0.1, turns_have_none turns h.1)

counted_has_none : (count : Option ℕ) (words : List (List ℕ)) → IfSome count IsNumber → AllByRecursion HasNoSpace words → AllByRecursion HasNoSpace (count_words count ++ words)
counted_has_none None words h others = others
counted_has_none (Some n) words h others = (joined 32 (codes "x") (decimal n) (no_space (codes "x") refl) (decimal_has_none n h), others)

command_has_none : (command : HostCommand) → HasBytes command → AllByRecursion HasNoSpace (command_words command)
command_has_none (Request bytes) h = (no_space (codes "request") refl, (hex_has_no_space bytes h.2, tt))
command_has_none Config h = (no_space (codes "config") refl, tt)

words-words_of : (line : Line) → Fits line → words (spaced (words_of line)) ≡ words_of line
words-words_of (MachineLine s) h = words-spaced (codes "machine") (map decimal (s.cells ∷ s.block ∷ s.boot ∷ s.managed ∷ s.plugged ∷ s.pages ∷ [])) (no_space (codes "machine") refl) (decimals_have_none (s.cells ∷ s.block ∷ s.boot ∷ s.managed ∷ s.plugged ∷ s.pages ∷ []) h)
words-words_of (OnlineLine kind) h = words-spaced (codes "online") (online_word kind ∷ []) (no_space (codes "online") refl) (online_has_none kind, tt)
words-words_of (PageLine p) h = words-spaced (codes "page") (decimal p.page.0 ∷ kind_word p.kind ∷ decimal p.frame.0 ∷ []) (no_space (codes "page") refl) (decimal_has_none p.page.0 h.0, (kind_has_none p.kind, (decimal_has_none p.frame.0 h.1, tt)))
words-words_of (FailLine call) h = words-spaced (codes "fail") (decimal call ∷ []) (no_space (codes "fail") refl) (decimal_has_none call h, tt)
words-words_of (TurnsLine turns) h = words-spaced (codes "turns") (map (λ t. turn_word t.actor t.count) turns) (no_space (codes "turns") refl) (turns_have_none turns h.1)
words-words_of (DrawLine d) h = words-spaced (codes "draw") (decimal d.number ∷ decimal d.count ∷ []) (no_space (codes "draw") refl) (decimal_has_none d.number h.0, (decimal_has_none d.count h.1, tt))
words-words_of (CallLine owner count page call) h = words-spaced (decimal owner) (count_words count ++ call_words page call) (decimal_has_none owner h.0) (counted_has_none count (call_words page call) h.1 (call_has_none page call h.2 h.3))
words-words_of (CommandLine command) h = words-spaced (codes "host") (command_words command) (no_space (codes "host") refl) (command_has_none command h)

-- a text spells a line if and only if its words do
pub spelled_words : (text : List ℕ) (line : Line) → Spells text line → words text ≡ words_of line
spelled_words text line s = ap words s.spelling ∙ words-words_of line s.fits

pub spelled_by_words : (text : List ℕ) (line : Line) → words text ≡ words_of line → Fits line → Spells text line
spelled_by_words text line e fits = record { spelling = sym (join_with_byte-slice_split 32 text) ∙ ap spaced e; fits = fits }
