-- Reading the words of a line from left to right.
use Rattle.std.specs.Prelude.{◌≡◌, ℕ, zero, suc, ◌==◌, ◌||◌, nat_lt, List, [], ◌∷◌, length, map, codes, Option, None, Some, if◌then◌else◌}
use Rattle.std.specs.Char.{is_ascii_uppercase}
use Rattle.std.specs.List.{slice_split, list_any}
use Rattle.std.specs.Result.{result_ok}
use Rattle.std.specs.Str.{bytes_eq}
use Rattle.hex.specs.Hex.{decode_of}
use Rattle.evac_model.specs.declared.names.Kind.{Kind}
use Rattle.evac_model.specs.declared.names.Kind.TheVariants.{Movable, Unmovable}
use Rattle.evac_model.specs.declared.call.Call.{Call}
use Rattle.evac_model.specs.declared.call.Call.TheVariants as calls
use Rattle.evac_model.specs.declared.host.HostCommand.{HostCommand}
use Rattle.evac_model.specs.declared.host.HostCommand.TheVariants as commands
use Rattle.evac_model.specs.declared.scenario.StartPage.{StartPage}
use Rattle.evac_model.specs.declared.scenario.Actor.{Actor}
use Rattle.evac_model.specs.declared.scenario.Actor.TheVariants.{Owner, Host, Scanner}
use Rattle.evac_model.specs.declared.scenario.Drawn.{Drawn}
use Rattle.evac_model.specs.Geometry.{Sizes}
use Rattle.evac_model.specs.ScenarioLines as grammar
use Rattle.scenario.specs.declared.line.MachineLine.{MachineLine}
use Rattle.scenario.specs.declared.line.PageLine.{PageLine}
use Rattle.scenario.specs.declared.line.DrawLine.{DrawLine}
use Rattle.scenario.specs.declared.turn_line.LineActor.{LineActor}
use Rattle.scenario.specs.declared.turn_line.LineActor.TheVariants as actors
use Rattle.scenario.specs.declared.turn_line.LineTurn.{LineTurn}
use Rattle.scenario.specs.declared.turn_line.TurnsLine.{TurnsLine}
use Rattle.scenario.specs.declared.call_line.CallLine.{CallLine}
use Rattle.scenario.specs.declared.call_line.LineCall.{LineCall}
use Rattle.scenario.specs.declared.call_line.LineCall.TheVariants.{Alloc, Free, Read, Write, Add, Pin, Unpin}
use Rattle.scenario.specs.declared.line.Line.{Line}
use Rattle.scenario.specs.declared.line.Line.TheVariants as kept
use Rattle.scenario.specs.Numbers.{number_of}

-- ---- the lines that the program keeps, as those of the grammar

abbrev pub sizes_in : MachineLine → Sizes
sizes_in l = record { cells = l.cells; block = l.block; boot = l.boot; managed = l.managed; plugged = l.plugged; pages = l.pages }

abbrev pub page_in : PageLine → StartPage
page_in l = record { page = record { 0 = l.page }; kind = l.kind; frame = record { 0 = l.frame } }

abbrev pub machine_in : MachineLine → grammar.Line
machine_in l = grammar.MachineLine (sizes_in l)

abbrev pub online_line_in : Kind → grammar.Line
online_line_in kind = grammar.OnlineLine kind

abbrev pub page_line_in : PageLine → grammar.Line
page_line_in l = grammar.PageLine (page_in l)

abbrev pub fail_line_in : (call : ℕ) → grammar.Line
fail_line_in call = grammar.FailLine call

abbrev pub draw_in : DrawLine → Drawn
draw_in l = record { number = l.number; count = l.count }

abbrev pub draw_line_in : DrawLine → grammar.Line
draw_line_in l = grammar.DrawLine (draw_in l)

abbrev pub actor_in : LineActor → Actor
actor_in (actors.Owner k) = Owner k
actor_in actors.Host = Host
actor_in actors.Scanner = Scanner

abbrev pub turn_in : LineTurn → grammar.NamedTurn
turn_in t = record { actor = actor_in t.actor; count = t.count }

abbrev pub turns_in : TurnsLine → grammar.Line
turns_in l = grammar.TurnsLine (map turn_in l.turns.items)

abbrev pub plain_call : LineCall → Call
plain_call (Alloc kind) = calls.Alloc kind
plain_call Free = calls.Free
plain_call (Read first count) = calls.Read first count
plain_call (Write first values) = calls.Write first values
plain_call (Add cell value) = calls.Add cell value
plain_call Pin = calls.Pin
plain_call Unpin = calls.Unpin

abbrev pub call_in : CallLine → grammar.Line
call_in l = grammar.CallLine l.owner l.count l.page (plain_call l.call)

abbrev pub command_line_in : HostCommand → grammar.Line
command_line_in command = grammar.CommandLine command

abbrev pub line_in : Line → grammar.Line
line_in (kept.Machine l) = machine_in l
line_in (kept.Online kind) = online_line_in kind
line_in (kept.Page l) = page_line_in l
line_in (kept.Fail call) = fail_line_in call
line_in (kept.Turns l) = turns_in l
line_in (kept.Draw l) = draw_line_in l
line_in (kept.Call l) = call_in l
line_in (kept.Host command) = command_line_in command

-- ---- reading

infixl 10 ◌>>=◌
abbrev pub ◌>>=◌ : {A B : Type 0} → Option A → (A → Option B) → Option B
None >>= f = None
(Some x) >>= f = f x

-- What a function returned, seen by view, is what reading gives.
abbrev pub Gives : {X Y : Type 0} → (X → Y) → Option X → Option Y → Type 0
Gives view None read = read ≡ None
Gives view (Some x) read = read ≡ Some (view x)

-- A number and the words behind it.
abbrev pub number_at : List (List ℕ) → Option (ℕ × List (List ℕ))
number_at [] = None
number_at (word ∷ rest) = do
  n ← number_of word
  Some (n, rest)

abbrev pub kind_of : List ℕ → Option Kind
kind_of word = if bytes_eq word (codes "movable") then Some Movable else if bytes_eq word (codes "unmovable") then Some Unmovable else None

abbrev pub kind_at : List (List ℕ) → Option (Kind × List (List ℕ))
kind_at [] = None
kind_at (word ∷ rest) = do
  kind ← kind_of word
  Some (kind, rest)

-- what managed blocks are online for
abbrev pub online_of_word : List ℕ → Option Kind
online_of_word word = if bytes_eq word (codes "movable") then Some Movable else if bytes_eq word (codes "kernel") then Some Unmovable else None

abbrev pub online_at : List (List ℕ) → Option (Kind × List (List ℕ))
online_at [] = None
online_at (word ∷ rest) = do
  kind ← online_of_word word
  Some (kind, rest)

-- no word is left
abbrev pub ended : {A : Type 0} → A → List (List ℕ) → Option A
ended x rest = if length rest == 0 then Some x else None

unfoldable pub machine_of : List (List ℕ) → Option Sizes
machine_of words = do
  cells ← number_at words
  block ← number_at cells.1
  boot ← number_at block.1
  managed ← number_at boot.1
  plugged ← number_at managed.1
  pages ← number_at plugged.1
  ended (record { cells = cells.0; block = block.0; boot = boot.0; managed = managed.0; plugged = plugged.0; pages = pages.0 }) pages.1

unfoldable pub online_kind_of : List (List ℕ) → Option Kind
online_kind_of words = do
  online ← online_at words
  ended online.0 online.1

unfoldable pub page_of : List (List ℕ) → Option StartPage
page_of words = do
  page ← number_at words
  kind ← kind_at page.1
  frame ← number_at kind.1
  ended (record { page = record { 0 = page.0 }; kind = kind.0; frame = record { 0 = frame.0 } }) frame.1

unfoldable pub fail_of : List (List ℕ) → Option ℕ
fail_of words = do
  call ← number_at words
  ended call.0 call.1

unfoldable pub draw_of : List (List ℕ) → Option Drawn
draw_of words = do
  number ← number_at words
  count ← number_at number.1
  ended (record { number = number.0; count = count.0 }) count.1

-- ---- turns

abbrev pub actor_of : List ℕ → Option Actor
actor_of text =
    if bytes_eq text (codes "h") then Some Host
    else if bytes_eq text (codes "s") then Some Scanner
    else (number_of text >>= λ k. Some (Owner k))

-- the count behind an actor, from the parts of the word that are left
abbrev pub turn_count_of : List (List ℕ) → Option (Option ℕ)
turn_count_of [] = Some None
turn_count_of (digits ∷ rest) = do
  n ← number_of digits
  ended (Some n) rest

abbrev pub turn_of_parts : List (List ℕ) → Option grammar.NamedTurn
turn_of_parts [] = None
turn_of_parts (text ∷ rest) = do
  actor ← actor_of text
  count ← turn_count_of rest
  Some (record { actor = actor; count = count })

-- a star parts the actor and its count
abbrev pub turn_of : List ℕ → Option grammar.NamedTurn
turn_of word = turn_of_parts (slice_split (λ b. b == 42) word)

-- all the words as turns
unfoldable pub turns_of : List (List ℕ) → Option (List grammar.NamedTurn)
turns_of [] = Some []
turns_of (word ∷ rest) = do
  turn ← turn_of word
  more ← turns_of rest
  Some (turn ∷ more)

-- at least one turn
unfoldable pub turns_line_of : List (List ℕ) → Option grammar.Line
turns_line_of words = do
  turns ← turns_of words
  if length turns == 0 then None else Some (grammar.TurnsLine turns)

-- ---- calls

-- the count that is written before a call, and the words of the call
abbrev pub count_at : List (List ℕ) → Option (Option ℕ × List (List ℕ))
count_at [] = Some (None, [])
count_at ([] ∷ rest) = Some (None, [] ∷ rest)
count_at ((b ∷ bs) ∷ rest) = if b == 120 then (number_of bs >>= λ n. Some (Some n, rest)) else Some (None, (b ∷ bs) ∷ rest)

-- all the words as numbers, no more than there is room for
unfoldable pub values_of : ℕ → List (List ℕ) → Option (List ℕ)
values_of room [] = Some []
values_of zero (word ∷ rest) = None
values_of (suc room) (word ∷ rest) = do
  n ← number_of word
  more ← values_of room rest
  Some (n ∷ more)

unfoldable pub alloc_of : List (List ℕ) → Option Call
alloc_of words = do
  kind ← kind_at words
  ended (calls.Alloc kind.0) kind.1

unfoldable pub read_of : List (List ℕ) → Option Call
read_of words = do
  first ← number_at words
  count ← number_at first.1
  ended (calls.Read first.0 count.0) count.1

-- 1 to 8 values
unfoldable pub write_of : List (List ℕ) → Option Call
write_of words = do
  first ← number_at words
  values ← values_of 8 first.1
  if length values == 0 then None else Some (calls.Write first.0 values)

unfoldable pub add_of : List (List ℕ) → Option Call
add_of words = do
  cell ← number_at words
  value ← number_at cell.1
  ended (calls.Add cell.0 value.0) value.1

-- the call of a name, with the words behind its page
unfoldable pub named_call : List ℕ → List (List ℕ) → Option Call
named_call name words =
    if bytes_eq name (codes "alloc") then alloc_of words
    else if bytes_eq name (codes "free") then ended calls.Free words
    else if bytes_eq name (codes "read") then read_of words
    else if bytes_eq name (codes "write") then write_of words
    else if bytes_eq name (codes "add") then add_of words
    else if bytes_eq name (codes "pin") then ended calls.Pin words
    else if bytes_eq name (codes "unpin") then ended calls.Unpin words
    else None

-- a page and a call on it
unfoldable pub call_of : List (List ℕ) → Option (ℕ × Call)
call_of [] = None
call_of (name ∷ rest) = do
  page ← number_at rest
  call ← named_call name page.1
  Some (page.0, call)

unfoldable pub call_line_of : ℕ → List (List ℕ) → Option grammar.Line
call_line_of owner words = do
  count ← count_at words
  call ← call_of count.1
  Some (grammar.CallLine owner count.0 call.0 call.1)

-- ---- commands of the host

-- the bytes that a word writes in lower-case hexadecimal, at most 64; proofs/HexWords.antt ties it to `encode_lower`
abbrev pub hex_bytes : List ℕ → Option (List ℕ)
hex_bytes word = if nat_lt 128 (length word) || list_any is_ascii_uppercase word then None else result_ok (decode_of word)

-- at least one byte
unfoldable pub request_of : List (List ℕ) → Option HostCommand
request_of [] = None
request_of (word ∷ rest) = do
  bytes ← hex_bytes word
  if length bytes == 0 then None else ended (commands.Request bytes) rest

-- the command behind the word of the host
unfoldable pub command_of : List (List ℕ) → Option HostCommand
command_of [] = None
command_of (name ∷ rest) =
    if bytes_eq name (codes "request") then request_of rest
    else if bytes_eq name (codes "config") then ended commands.Config rest
    else None

-- ---- lines

-- the line of a first word and the words behind it, where it isn't one of turns
unfoldable pub plain_line_of : List ℕ → List (List ℕ) → Option grammar.Line
plain_line_of word rest =
    if bytes_eq word (codes "machine") then (machine_of rest >>= λ sizes. Some (grammar.MachineLine sizes))
    else if bytes_eq word (codes "online") then (online_kind_of rest >>= λ kind. Some (grammar.OnlineLine kind))
    else if bytes_eq word (codes "page") then (page_of rest >>= λ page. Some (grammar.PageLine page))
    else if bytes_eq word (codes "fail") then (fail_of rest >>= λ call. Some (grammar.FailLine call))
    else if bytes_eq word (codes "draw") then (draw_of rest >>= λ draw. Some (grammar.DrawLine draw))
    else if bytes_eq word (codes "host") then (command_of rest >>= λ command. Some (grammar.CommandLine command))
    else (number_of word >>= λ owner. call_line_of owner rest)

unfoldable pub line_of : List (List ℕ) → Option grammar.Line
line_of [] = None
line_of (word ∷ rest) = if bytes_eq word (codes "turns") then turns_line_of rest else plain_line_of word rest
