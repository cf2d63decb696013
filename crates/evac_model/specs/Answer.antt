-- What each call answers, and the page that it leaves.
use Rattle.std.specs.Prelude.{ℕ, ◌+◌, ◌-◌, ◌%◌, ◌^◌, ◌==◌, if◌then◌else◌, List, ◌++◌, length, take, drop, slice_index, slice_set, Option, None, Some}
use Rattle.evac_model.specs.declared.names.Kind.{Kind}
use Rattle.evac_model.specs.declared.call.Call.{Call}
use Rattle.evac_model.specs.declared.call.Call.TheVariants.{Alloc, Free, Read, Write, Add, Pin, Unpin}
use Rattle.evac_model.specs.declared.reply.Reply.{Reply}
use Rattle.evac_model.specs.declared.reply.Reply.TheVariants.{Done, Values, Old, Mapped, NotMapped, Pinned, PinLimit, NotPinned, NoFrame}
use Rattle.evac_model.specs.Page.{PlainPage, Page, new_page}

-- the cells with these values from the first one on
abbrev pub written : ℕ → List ℕ → List ℕ → List ℕ
written first values cells = take first cells ++ values ++ drop (first + length values) cells

-- An alloc of an unmapped page has two answers: it is done, or its lease of a frame was refused.
abbrev pub allocated : ℕ → Kind → Option ℕ → Reply × Page
allocated n kind None = (Done, Some (new_page n kind))
allocated n kind (Some at) = (NoFrame at, None)

abbrev pub of_unmapped : ℕ → Call → Option ℕ → Reply × Page
of_unmapped n (Alloc kind) refused = allocated n kind refused
of_unmapped n Free refused = (NotMapped, None)
of_unmapped n (Read first count) refused = (NotMapped, None)
of_unmapped n (Write first values) refused = (NotMapped, None)
of_unmapped n (Add cell value) refused = (NotMapped, None)
of_unmapped n Pin refused = (NotMapped, None)
of_unmapped n Unpin refused = (NotMapped, None)

abbrev pub of_mapped : PlainPage → Call → Reply × Page
of_mapped m (Alloc kind) = (Mapped, Some m)
of_mapped m Free = if m.pins == 0 then (Done, None) else (Pinned, Some m)
of_mapped m (Read first count) = (Values (take count (drop first m.cells)), Some m)
of_mapped m (Write first values) = (Done, Some (record m { cells = written first values m.cells }))
of_mapped m (Add cell value) = (Old (slice_index m.cells cell), Some (record m { cells = slice_set m.cells cell ((slice_index m.cells cell + value) % 2 ^ 64) }))
of_mapped m Pin = if m.pins == 63 then (PinLimit, Some m) else (Done, Some (record m { pins = m.pins + 1 }))
of_mapped m Unpin = if m.pins == 0 then (NotPinned, Some m) else (Done, Some (record m { pins = m.pins - 1 }))

-- The reply and the page afterwards, with n cells in a page. The last argument is the place of a
-- refused lease, where there was one; an alloc of an unmapped page alone asks for it.
abbrev pub answer : ℕ → Page → Call → Option ℕ → Reply × Page
answer n None call refused = of_unmapped n call refused
answer n (Some m) call refused = of_mapped m call

-- the place of the refused lease that a reply names
abbrev pub refusal : Reply → Option ℕ
refusal Done = None
refusal (Values values) = None
refusal (Old value) = None
refusal Mapped = None
refusal NotMapped = None
refusal Pinned = None
refusal PinLimit = None
refusal NotPinned = None
refusal (NoFrame at) = Some at
