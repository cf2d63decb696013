-- The report's text: a line for each call, for each command of the host and each block that it tried, for each action
-- of the frame space, and for each action of the memory device and each notice of it; the plugged blocks, a line for
-- each mapped page, and `end`.
use Rattle.std.specs.Prelude.{ℕ, ◌+◌, ◌==◌, if◌then◌else◌, List, [], ◌∷◌, ◌++◌, map, codes, Option, None, Some}
use Rattle.std.specs.List.{AllByRecursion, flat_map}
use Rattle.std.specs.Fmt.{decimal}
use Rattle.hex.specs.Hex.{encode_lower}
use Rattle.mem_codec.specs.ResponseBytes.{response_bytes, HasState}
use Rattle.mem_codec.specs.ConfigBytes.{config_bytes}
use Rattle.evac_model.specs.declared.device.Response.{Response}
use Rattle.evac_model.specs.declared.device.Response.TheVariants as responses
use Rattle.evac_model.specs.declared.device_journal.DeviceAct.{DeviceAct}
use Rattle.evac_model.specs.declared.device_journal.DeviceAct.TheVariants.{Requested, Request, Join, JoinRefused, Leave, Begin, Cancel, Finish}
use Rattle.evac_model.specs.declared.device_journal.DeviceAction.{DeviceAction}
use Rattle.evac_model.specs.declared.device_journal.Notice.{Notice}
use Rattle.evac_model.specs.declared.device_journal.Told.{Told}
use Rattle.evac_model.specs.declared.device_journal.Told.TheVariants.{PopulateOk, PopulateRefused, Discard}
use Rattle.evac_model.specs.declared.evacuation.EvacCause.{EvacCause}
use Rattle.evac_model.specs.declared.evacuation.EvacCause.TheVariants as causes
use Rattle.evac_model.specs.declared.host.HostCommand.{HostCommand}
use Rattle.evac_model.specs.declared.host.HostResult.{HostResult}
use Rattle.evac_model.specs.declared.host.HostResult.TheVariants as results
use Rattle.evac_model.specs.declared.host.HostRun.{HostRun}
use Rattle.evac_model.specs.declared.names.BlockNo.{BlockNo}
use Rattle.evac_model.specs.declared.entry.Entry.{Entry}
use Rattle.evac_model.specs.declared.reply.Reply.{Reply}
use Rattle.evac_model.specs.declared.reply.Reply.TheVariants.{Done, Values, Old, Mapped, NotMapped, Pinned, PinLimit, NotPinned, NoFrame}
use Rattle.evac_model.specs.declared.space.SpaceAction.{SpaceAction}
use Rattle.evac_model.specs.declared.space.SpaceAction.TheVariants.{Lease, MoveLease, Return, Isolate, Undo, Offline, Online}
use Rattle.evac_model.specs.declared.tried.Tried.{Tried}
use Rattle.evac_model.specs.declared.tried.TriedResult.{TriedResult}
use Rattle.evac_model.specs.declared.tried.TriedResult.TheVariants as outcomes
use Rattle.evac_model.specs.Spelling.{kind_word, call_words, command_words}
use Rattle.report.specs.declared.line.Line.{Line}
use Rattle.report.specs.declared.line.Line.TheVariants as lines
use Rattle.report.specs.declared.report.FinalPage.{FinalPage}
use Rattle.report.specs.declared.report.Report.{Report}

-- a word behind the one before it
abbrev pub behind_space : List ℕ → List ℕ
behind_space word = 32 ∷ word

-- a line: its first word, and the others, each behind a space
abbrev pub line : List ℕ → List (List ℕ) → List ℕ
line first others = first ++ flat_map behind_space others ++ 10 ∷ []

abbrev pub reply_words : Reply → List (List ℕ)
reply_words Done = codes "ok" ∷ []
reply_words (Values values) = map decimal values
reply_words (Old value) = decimal value ∷ []
reply_words Mapped = codes "mapped" ∷ []
reply_words NotMapped = codes "notmapped" ∷ []
reply_words Pinned = codes "pinned" ∷ []
reply_words PinLimit = codes "pinlimit" ∷ []
reply_words NotPinned = codes "notpinned" ∷ []
reply_words (NoFrame at) = codes "noframe" ∷ decimal at ∷ []

-- a call: its ticket, its caller, its number, the call as a scenario spells it, and its reply
abbrev pub entry_text : Entry → List ℕ
entry_text e =
    line (codes "call") (map decimal (e.ticket ∷ e.caller ∷ e.call_no ∷ []) ++ call_words e.page.0 e.call ++ codes "=" ∷ reply_words e.reply)

-- what a command gave: the bytes of the device's answer or of its configuration, in hexadecimal, or that its request
-- wasn't sent
abbrev pub result_words : HostResult → List (List ℕ)
result_words (results.Answered response) = encode_lower (response_bytes response) ∷ []
result_words results.Unsent = codes "unsent" ∷ []
result_words (results.Config config) = encode_lower (config_bytes config) ∷ []

-- a command of the host: its number, the command as a scenario spells it, and what it gave
abbrev pub host_text : (number : ℕ) → HostCommand → HostResult → List ℕ
host_text number command result = line (codes "host") (decimal number ∷ command_words command ++ codes "=" ∷ result_words result)

-- what the device answered, by its name alone
abbrev pub answer_word : Response → List ℕ
answer_word (responses.Ack state) = codes "ack"
answer_word responses.Nack = codes "nack"
answer_word responses.Busy = codes "busy"
answer_word responses.Error = codes "error"

-- why a block wasn't emptied, with the frame and the page, and then what was found or how many actions of the frame space
-- there were
abbrev pub cause_words : EvacCause → List (List ℕ)
cause_words (causes.Unmovable frame page) = codes "unmovable" ∷ decimal frame.0 ∷ decimal page.0 ∷ []
cause_words (causes.Pinned frame page word) = codes "pinned" ∷ decimal frame.0 ∷ decimal page.0 ∷ decimal word ∷ []
cause_words (causes.NoTarget frame page at) = codes "no-target" ∷ decimal frame.0 ∷ decimal page.0 ∷ decimal at ∷ []
cause_words (causes.Busy frame page words) = codes "busy" ∷ decimal frame.0 ∷ decimal page.0 ∷ map decimal words

-- what came of a block with this number: a line `plug` with the answer to its PLUG, or a line `tried` where it was to be
-- emptied
abbrev pub block_text : (block : ℕ) → TriedResult → List ℕ
block_text block outcomes.Unplugged = line (codes "tried") (decimal block ∷ codes "unplugged" ∷ [])
block_text block outcomes.Emptied = line (codes "tried") (decimal block ∷ codes "emptied" ∷ [])
block_text block (outcomes.Answered response) = line (codes "tried") (decimal block ∷ codes "answered" ∷ answer_word response ∷ [])
block_text block (outcomes.Failed cause) = line (codes "tried") (decimal block ∷ cause_words cause)
block_text block (outcomes.Plugged response) = line (codes "plug") (decimal block ∷ answer_word response ∷ [])

abbrev pub tried_text : Tried → List ℕ
tried_text t = block_text t.block.0 t.result

-- an action of the frame space; the driver's lease of a target is one for a move
abbrev pub action_words : SpaceAction → List (List ℕ)
action_words (Lease who frame page kind) =
    codes "lease" ∷ decimal who ∷ decimal frame.0 ∷ codes "alloc" ∷ decimal page.0 ∷ kind_word kind ∷ []
action_words (MoveLease frame page) =
    codes "lease" ∷ codes "0" ∷ decimal frame.0 ∷ codes "move" ∷ decimal page.0 ∷ []
action_words (Return who frame) = codes "return" ∷ decimal who ∷ decimal frame.0 ∷ []
action_words (Isolate block) = codes "isolate" ∷ decimal block.0 ∷ []
action_words (Undo block) = codes "undo" ∷ decimal block.0 ∷ []
action_words (Offline block) = codes "offline" ∷ decimal block.0 ∷ []
action_words (Online block) = codes "online" ∷ decimal block.0 ∷ []

-- an action with its number
abbrev pub action_text : (number : ℕ) → SpaceAction → List ℕ
action_text number a = line (codes "space") (decimal number ∷ action_words a)

-- an action of the memory device
abbrev pub act_words : DeviceAct → List (List ℕ)
act_words (Requested size) = codes "requested" ∷ decimal size ∷ []
act_words (Request bytes response) = codes "request" ∷ encode_lower bytes ∷ encode_lower (response_bytes response) ∷ []
act_words (Join key) = codes "join" ∷ decimal key ∷ []
act_words JoinRefused = codes "join" ∷ codes "refused" ∷ []
act_words (Leave key) = codes "leave" ∷ decimal key ∷ []
act_words Begin = codes "begin" ∷ []
act_words Cancel = codes "cancel" ∷ []
act_words Finish = codes "finish" ∷ []

-- a listener that was about to join has no key
abbrev pub key_word : Option ℕ → List ℕ
key_word None = codes "new"
key_word (Some key) = decimal key

-- what a listener was told of a range of blocks, given by its two numbers
abbrev pub told_words : (range : List (List ℕ)) → Told → List (List ℕ)
told_words range PopulateOk = codes "populate" ∷ range ++ codes "ok" ∷ []
told_words range PopulateRefused = codes "populate" ∷ range ++ codes "refused" ∷ []
told_words range Discard = codes "discard" ∷ range

-- a notice of the action with this number
abbrev pub notice_text : (number : ℕ) → Notice → List ℕ
notice_text number x =
    line (codes "notice") (decimal number ∷ key_word x.key ∷ told_words (decimal x.first.0 ∷ decimal x.n ∷ []) x.told)

-- an action of the device with its number
abbrev pub act_text : (number : ℕ) → DeviceAct → List ℕ
act_text number act = line (codes "device") (decimal number ∷ act_words act)

abbrev pub plugged_text : List BlockNo → List ℕ
plugged_text blocks = line (codes "plugged") (map (λ b. decimal b.0) blocks)

-- the cells other than 0, each with its number, where the first has this number
abbrev pub cell_words : ℕ → List ℕ → List (List ℕ)
cell_words cell [] = []
cell_words cell (value ∷ values) =
    if value == 0 then cell_words (cell + 1) values else (decimal cell ++ 58 ∷ decimal value) ∷ cell_words (cell + 1) values

abbrev pub page_text : FinalPage → List ℕ
page_text p = line (codes "page") (decimal p.page.0 ∷ kind_word p.kind ∷ decimal p.pins ∷ cell_words 0 p.cells)

-- ---- lines

abbrev pub line_text : Line → List ℕ
line_text (lines.Call e) = entry_text e
line_text (lines.Host number command result) = host_text number command result
line_text (lines.Tried t) = tried_text t
line_text (lines.Space number action) = action_text number action
line_text (lines.Device number act) = act_text number act
line_text (lines.Notice number x) = notice_text number x
line_text (lines.Plugged blocks) = plugged_text blocks
line_text (lines.Page p) = page_text p
line_text lines.End = line (codes "end") []

-- a command, and behind it the blocks that it tried, in order
abbrev pub run_lines : HostRun → List Line
run_lines r = lines.Host r.line.no r.command r.line.result ∷ map (λ t. lines.Tried t) r.line.tried

-- the actions of a space journal, each with its number, where the first has this one
abbrev pub space_lines : (number : ℕ) → List SpaceAction → List Line
space_lines number [] = []
space_lines number (a ∷ actions) = lines.Space number a ∷ space_lines (number + 1) actions

-- the actions of a device journal, each with its number and behind it its notices, where the first has this number
abbrev pub device_lines : (number : ℕ) → List DeviceAction → List Line
device_lines number [] = []
device_lines number (a ∷ actions) =
    lines.Device number a.act ∷ (map (λ x. lines.Notice number x) a.notices ++ device_lines (number + 1) actions)

-- the lines of a report, in order
abbrev pub report_lines : Report → List Line
report_lines r =
    map (λ e. lines.Call e) r.history ++ flat_map run_lines r.host ++ space_lines 0 r.space_journal
    ++ device_lines 0 r.device_journal ++ (lines.Plugged r.plugged ∷ (map (λ p. lines.Page p) r.pages ++ lines.End ∷ []))

abbrev pub report_text : Report → List ℕ
report_text r = flat_map line_text (report_lines r)

-- ---- what can be written

-- a result's response has a state
abbrev pub HasResultState : HostResult → Type 0
HasResultState (results.Answered response) = HasState response
HasResultState results.Unsent = Unit {0}
HasResultState (results.Config config) = Unit {0}

abbrev pub HasActState : DeviceAct → Type 0
HasActState (Request bytes response) = HasState response
HasActState act = Unit {0}

-- The responses of a report that are written in bytes have states. Those of tried blocks are written by their names, so
-- that nothing is asked of them.
pub record HaveStates (r : Report) : Type 0 where
  pub host : AllByRecursion (λ x. HasResultState x.line.result) r.host
  pub device : AllByRecursion (λ a. HasActState a.act) r.device_journal
