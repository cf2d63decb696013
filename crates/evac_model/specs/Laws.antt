-- Words of the laws of answers.
use Rattle.evac_model.specs.declared.call.Call.{Call}
use Rattle.evac_model.specs.declared.call.Call.TheVariants.{Alloc, Free, Read, Write, Add, Pin, Unpin}
use Rattle.evac_model.specs.declared.reply.Reply.{Reply}
use Rattle.evac_model.specs.declared.reply.Reply.TheVariants.{Done, Values, Old, Mapped, NotMapped, Pinned, PinLimit, NotPinned, NoFrame}
use Rattle.std.specs.Prelude.{None, Some}
use Rattle.evac_model.specs.Page.{Page}

abbrev pub IsAlloc : Call → Type 0
IsAlloc (Alloc kind) = Unit {0}
IsAlloc Free = ⊥
IsAlloc (Read first count) = ⊥
IsAlloc (Write first values) = ⊥
IsAlloc (Add cell value) = ⊥
IsAlloc Pin = ⊥
IsAlloc Unpin = ⊥

-- the call asks for a frame: it is an alloc of an unmapped page
abbrev pub AsksForFrame : Page → Call → Type 0
AsksForFrame None call = IsAlloc call
AsksForFrame (Some m) call = ⊥

-- any reply but the three that a call gives when it is done
abbrev pub IsRefusal : Reply → Type 0
IsRefusal Done = ⊥
IsRefusal (Values values) = ⊥
IsRefusal (Old value) = ⊥
IsRefusal Mapped = Unit {0}
IsRefusal NotMapped = Unit {0}
IsRefusal Pinned = Unit {0}
IsRefusal PinLimit = Unit {0}
IsRefusal NotPinned = Unit {0}
IsRefusal (NoFrame at) = Unit {0}
