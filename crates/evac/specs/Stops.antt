-- Why a replay ends without a report, and the line that it writes then.
use Rattle.std.specs.Prelude.{◌≡◌, ℕ, ◌<◌, ◌⊎◌, ⊤, List, ◌++◌, codes, length, take, Option, IfSome}
use Rattle.std.specs.Fmt.{decimal}
use Rattle.evac_model.specs.Counts.{Rose}
use Rattle.evac_io.specs.Told.{Takes, IsLongerThan}
use Rattle.evac_model.specs.declared.scenario.LineCause.{LineCause}
use Rattle.evac_model.specs.declared.scenario.LineCause.TheVariants as cause
use Rattle.evac_model.specs.declared.scenario.ScenarioFault.{ScenarioFault}
use Rattle.evac.specs.declared.stop.Stop.{Stop}
use Rattle.evac.specs.declared.stop.Stop.TheVariants as stop
use Rattle.evac.specs.Input.{input_limit, IsRefusedWith}

abbrev pub cause_word : LineCause → List ℕ
cause_word cause.Empty = codes "empty"
cause_word cause.Word = codes "word"
cause_word cause.Later = codes "later"
cause_word cause.Form = codes "form"
cause_word cause.Order = codes "order"
cause_word cause.Range = codes "range"
cause_word cause.Page = codes "page"
cause_word cause.Count = codes "count"

abbrev pub fault_line : ScenarioFault → List ℕ
fault_line f = codes "scenario: line " ++ decimal f.line ++ codes ": " ++ cause_word f.cause ++ codes "\n"

abbrev pub usage_line : List ℕ
usage_line = codes "usage: evac replay|run [--quiet|--image], check, show, gen N\n"

abbrev pub read_fault_line : List ℕ
read_fault_line = codes "read fault\n"

abbrev pub size_line : List ℕ
size_line = codes "input: size\n"

abbrev pub memory_line : List ℕ
memory_line = codes "memory\n"

-- the exit status of each
abbrev pub status_of : Stop → ℕ
status_of stop.ReadFault = 4
status_of stop.TooLong = 3
status_of (stop.Refused fault) = 3
status_of stop.OutOfMemory = 6

-- the line of each
abbrev pub stop_line : Stop → List ℕ
stop_line stop.ReadFault = read_fault_line
stop_line stop.TooLong = size_line
stop_line (stop.Refused fault) = fault_line fault
stop_line stop.OutOfMemory = memory_line

-- What must have happened, where `left` are the bytes that the source had, if they are told, and
-- its count of faults went from `before` to `after`.
abbrev pub Stops : Option (List ℕ) → ℕ → ℕ → Stop → Type 0
Stops left before after stop.ReadFault = Rose before after
Stops left before after stop.TooLong = IsLongerThan left input_limit
Stops left before after (stop.Refused fault) = IfSome left (λ bytes. IsRefusedWith bytes fault)
Stops left before after stop.OutOfMemory = ⊤

-- the sink took the line, or some of it where its count of faults rose
abbrev pub TakesLine : Option (List ℕ) → Option (List ℕ) → ℕ → ℕ → List ℕ → Type 0
TakesLine old new before after line =
    Takes old new line ⊎ ((n : ℕ) × (n < length line) × Takes old new (take n line) × Rose before after)

-- the sink took a prefix of the text, not all of it, and its count of faults rose
abbrev pub IsCut : Option (List ℕ) → Option (List ℕ) → ℕ → ℕ → List ℕ → Type 0
IsCut old new before after text = (n : ℕ) × (n < length text) × Takes old new (take n text) × Rose before after

-- the status and the line are those of this stop
abbrev pub EndsBy : ℕ → Option (List ℕ) → Option (List ℕ) → ℕ → ℕ → Stop → Type 0
EndsBy status old new before after reason = (status ≡ status_of reason) × TakesLine old new before after (stop_line reason)

-- the line tells why the input is refused: it has too many bytes, or the first line that isn't accepted and its cause
abbrev pub TellsRefusal : Option (List ℕ) → Option (List ℕ) → Option (List ℕ) → ℕ → ℕ → Type 0
TellsRefusal left old new before after =
    (IsLongerThan left input_limit × TakesLine old new before after size_line)
    ⊎ ((fault : ScenarioFault) × IfSome left (λ bytes. IsRefusedWith bytes fault) × TakesLine old new before after (fault_line fault))
