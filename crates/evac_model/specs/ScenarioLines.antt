-- The lines of a scenario: what each is spelled as, and what its first words say.
use Rattle.std.specs.Prelude.{◌≡◌, ◌≢◌, ℕ, ◌^◌, ◌<◌, ◌≤◌, ◌⊎◌, ◌==◌, List, [], ◌∷◌, ◌++◌, length, map, codes, Contains, Option, None, Some, IfSome}
use Rattle.std.specs.List.{AllByRecursion, slice_split}
use Rattle.std.specs.Fmt.{decimal}
use Rattle.evac_model.specs.declared.call.Call.{Call}
use Rattle.evac_model.specs.declared.call.Call.TheVariants.{Alloc, Free, Read, Write, Add, Pin, Unpin}
use Rattle.evac_model.specs.declared.host.HostCommand.{HostCommand}
use Rattle.evac_model.specs.declared.host.HostCommand.TheVariants as commands
use Rattle.evac_model.specs.declared.names.Kind.{Kind}
use Rattle.evac_model.specs.declared.scenario.StartPage.{StartPage}
use Rattle.evac_model.specs.declared.scenario.Actor.{Actor}
use Rattle.evac_model.specs.declared.scenario.Actor.TheVariants.{Owner, Host, Scanner}
use Rattle.evac_model.specs.declared.scenario.Turn.{Turn}
use Rattle.evac_model.specs.declared.scenario.Drawn.{Drawn}
use Rattle.evac_model.specs.Geometry.{Sizes}
use Rattle.evac_model.specs.Spelling.{kind_word, online_word, call_words, turn_word, count_words, command_words, spaced}

-- turns of an actor as a line names them: their count may be written, and else is one
pub record NamedTurn : Type 0 where
  pub actor : Actor
  pub count : Option ℕ

-- a line, with its numbers as they are written; a count of calls may be written, and else is one
pub data Line : Type 0 where
  MachineLine : (sizes : Sizes) → Line
  OnlineLine : (kind : Kind) → Line
  PageLine : (page : StartPage) → Line
  FailLine : (call : ℕ) → Line
  TurnsLine : (turns : List NamedTurn) → Line
  DrawLine : (draw : Drawn) → Line
  CallLine : (owner : ℕ) (count : Option ℕ) (page : ℕ) (call : Call) → Line
  CommandLine : (command : HostCommand) → Line

-- what a count stands for
abbrev pub times : Option ℕ → ℕ
times None = 1
times (Some n) = n

-- the turns that a line names
abbrev pub turns_of : List NamedTurn → List Turn
turns_of turns = map (λ t. record { actor = t.actor; count = times t.count }) turns

abbrev pub words_of : Line → List (List ℕ)
words_of (MachineLine s) = codes "machine" ∷ map decimal (s.cells ∷ s.block ∷ s.boot ∷ s.managed ∷ s.plugged ∷ s.pages ∷ [])
words_of (OnlineLine kind) = codes "online" ∷ online_word kind ∷ []
words_of (PageLine p) = codes "page" ∷ decimal p.page.0 ∷ kind_word p.kind ∷ decimal p.frame.0 ∷ []
words_of (FailLine call) = codes "fail" ∷ decimal call ∷ []
words_of (TurnsLine turns) = codes "turns" ∷ map (λ t. turn_word t.actor t.count) turns
words_of (DrawLine d) = codes "draw" ∷ decimal d.number ∷ decimal d.count ∷ []
words_of (CallLine owner count page call) = decimal owner ∷ count_words count ++ call_words page call
words_of (CommandLine command) = codes "host" ∷ command_words command

-- a number of 64 bits
abbrev pub IsNumber : ℕ → Type 0
IsNumber n = n < 2 ^ 64

-- the numbers that a call has beside its page; a write has 1 to 8 values
abbrev pub HasNumbers : Call → Type 0
HasNumbers (Alloc kind) = Unit {0}
HasNumbers Free = Unit {0}
HasNumbers (Read first count) = IsNumber first × IsNumber count
HasNumbers (Write first values) = IsNumber first × (1 ≤ length values) × (length values ≤ 8) × AllByRecursion IsNumber values
HasNumbers (Add cell value) = IsNumber cell × IsNumber value
HasNumbers Pin = Unit {0}
HasNumbers Unpin = Unit {0}

-- the numbers of an actor
abbrev pub HasActorNumber : Actor → Type 0
HasActorNumber (Owner k) = IsNumber k
HasActorNumber Host = Unit {0}
HasActorNumber Scanner = Unit {0}

-- the numbers of named turns
abbrev pub HasTurnNumbers : NamedTurn → Type 0
HasTurnNumbers t = HasActorNumber t.actor × IfSome t.count IsNumber

-- a request has 1 to 64 bytes
abbrev pub HasBytes : HostCommand → Type 0
HasBytes (commands.Request bytes) = (1 ≤ length bytes) × (length bytes ≤ 64) × AllByRecursion (λ b. b < 256) bytes
HasBytes commands.Config = Unit {0}

-- each number is one of 64 bits, a line of turns names some, and a request has some bytes
abbrev pub Fits : Line → Type 0
Fits (MachineLine s) = AllByRecursion IsNumber (s.cells ∷ s.block ∷ s.boot ∷ s.managed ∷ s.plugged ∷ s.pages ∷ [])
Fits (OnlineLine kind) = Unit {0}
Fits (PageLine p) = IsNumber p.page.0 × IsNumber p.frame.0
Fits (FailLine call) = IsNumber call
Fits (TurnsLine turns) = (1 ≤ length turns) × AllByRecursion HasTurnNumbers turns
Fits (DrawLine d) = IsNumber d.number × IsNumber d.count
Fits (CallLine owner count page call) = IsNumber owner × IfSome count IsNumber × IsNumber page × HasNumbers call
Fits (CommandLine command) = HasBytes command

-- the text is the one spelling of the line
pub record Spells (text : List ℕ) (line : Line) : Type 0 where
  pub spelling : text ≡ spaced (words_of line)
  pub fits : Fits line

-- the words of a text
abbrev pub words : List ℕ → List (List ℕ)
words text = slice_split (λ b. b == 32) text

-- the words that lines, calls and commands begin with
abbrev pub line_names : List (List ℕ)
line_names = codes "machine" ∷ codes "online" ∷ codes "page" ∷ codes "fail" ∷ codes "turns" ∷ codes "draw" ∷ codes "host" ∷ []

abbrev pub call_names : List (List ℕ)
call_names = codes "alloc" ∷ codes "free" ∷ codes "read" ∷ codes "write" ∷ codes "add" ∷ codes "pin" ∷ codes "unpin" ∷ []

abbrev pub command_names : List (List ℕ)
command_names = codes "resize" ∷ codes "request" ∷ codes "config" ∷ codes "join" ∷ codes "leave" ∷ codes "migrate" ∷ codes "cancel" ∷ codes "finish" ∷ []

-- those of commands that this program doesn't read yet
abbrev pub later_commands : List (List ℕ)
later_commands = codes "resize" ∷ codes "join" ∷ codes "leave" ∷ codes "migrate" ∷ codes "cancel" ∷ codes "finish" ∷ []

-- an owner's number: the decimal text of a number
abbrev pub IsOwnerWord : List ℕ → Type 0
IsOwnerWord word = (n : ℕ) × IsNumber n × (word ≡ decimal n)

-- a word that is there, and none of these names
abbrev pub IsNoneOf : List (List ℕ) → List ℕ → Type 0
IsNoneOf names word = (word ≢ []) × (¬ Contains names word)

-- the first of these words is so
abbrev pub First : (List ℕ → Type 0) → List (List ℕ) → Type 0
First P [] = ⊥
First P (word ∷ rest) = P word

-- a count of calls, as it may stand before a call's word
abbrev pub BeginsWithX : List ℕ → Type 0
BeginsWithX [] = ⊥
BeginsWithX (b ∷ bs) = b ≡ 120

-- the call's word, among those behind an owner's number, is so: the first, or that behind a count
abbrev pub CallWord : (List ℕ → Type 0) → List (List ℕ) → Type 0
CallWord P [] = ⊥
CallWord P (word ∷ rest) = (BeginsWithX word × First P rest) ⊎ ((¬ BeginsWithX word) × P word)

-- what the line asks for is nothing that scenarios have
abbrev pub AsksUnknown : List (List ℕ) → Type 0
AsksUnknown [] = ⊥
AsksUnknown (word ∷ rest) =
    (IsNoneOf line_names word × (¬ IsOwnerWord word)) ⊎ ((IsOwnerWord word × CallWord (IsNoneOf call_names) rest) ⊎ ((word ≡ codes "host") × First (IsNoneOf command_names) rest))

-- what the line asks for isn't read yet
abbrev pub AsksLater : List (List ℕ) → Type 0
AsksLater [] = ⊥
AsksLater (word ∷ rest) = (word ≡ codes "host") × First (Contains later_commands) rest
