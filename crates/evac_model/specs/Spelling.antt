-- How calls and commands are written, in scenarios and in reports: words with one space between, numbers in decimal.
use Rattle.std.specs.Prelude.{ℕ, List, [], ◌∷◌, ◌++◌, map, codes, Option, None, Some}
use Rattle.std.specs.List.{join_with_byte}
use Rattle.std.specs.Fmt.{decimal}
use Rattle.hex.specs.Hex.{encode_lower}
use Rattle.evac_model.specs.declared.host.HostCommand.{HostCommand}
use Rattle.evac_model.specs.declared.host.HostCommand.TheVariants as commands
use Rattle.evac_model.specs.declared.names.Kind.{Kind}
use Rattle.evac_model.specs.declared.names.Kind.TheVariants.{Movable, Unmovable}
use Rattle.evac_model.specs.declared.call.Call.{Call}
use Rattle.evac_model.specs.declared.call.Call.TheVariants.{Alloc, Free, Read, Write, Add, Pin, Unpin}
use Rattle.evac_model.specs.declared.scenario.Actor.{Actor}
use Rattle.evac_model.specs.declared.scenario.Actor.TheVariants.{Owner, Host, Scanner}

abbrev pub kind_word : Kind → List ℕ
kind_word Movable = codes "movable"
kind_word Unmovable = codes "unmovable"

-- what managed blocks are online for: movable pages alone, or the kernel's, which can't be moved, too
abbrev pub online_word : Kind → List ℕ
online_word Movable = codes "movable"
online_word Unmovable = codes "kernel"

-- the words of a call on a page
abbrev pub call_words : ℕ → Call → List (List ℕ)
call_words page (Alloc kind) = codes "alloc" ∷ decimal page ∷ kind_word kind ∷ []
call_words page Free = codes "free" ∷ decimal page ∷ []
call_words page (Read first count) = codes "read" ∷ decimal page ∷ decimal first ∷ decimal count ∷ []
call_words page (Write first values) = codes "write" ∷ decimal page ∷ decimal first ∷ map decimal values
call_words page (Add cell value) = codes "add" ∷ decimal page ∷ decimal cell ∷ decimal value ∷ []
call_words page Pin = codes "pin" ∷ decimal page ∷ []
call_words page Unpin = codes "unpin" ∷ decimal page ∷ []

-- an owner is written as its number, the host and the scanner as a letter
abbrev pub actor_word : Actor → List ℕ
actor_word (Owner k) = decimal k
actor_word Host = codes "h"
actor_word Scanner = codes "s"

-- turns of an actor, with their count where it is written
abbrev pub turn_word : Actor → Option ℕ → List ℕ
turn_word actor None = actor_word actor
turn_word actor (Some n) = actor_word actor ++ (codes "*" ++ decimal n)

-- a count of calls, where it is written
abbrev pub count_words : Option ℕ → List (List ℕ)
count_words None = []
count_words (Some n) = (codes "x" ++ decimal n) ∷ []

-- a command of the host; the bytes of a request are in lower-case hexadecimal
abbrev pub command_words : HostCommand → List (List ℕ)
command_words (commands.Request bytes) = codes "request" ∷ encode_lower bytes ∷ []
command_words commands.Config = codes "config" ∷ []

-- the words, with one space between
abbrev pub spaced : List (List ℕ) → List ℕ
spaced words = join_with_byte 32 words
