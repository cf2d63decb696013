-- How a history and a space journal go together: each owner's leases and returns are those of its calls, a
-- lease is refused only where no frame is free, and at the end the frames out are those of the mapped pages.
use Rattle.std.specs.Prelude.{◌≡◌, ◌≤◌, ◌⊎◌, ℕ, suc, ◌==◌, ◌&&◌, not, nat_lt, List, [], ◌∷◌, ◌++◌, length, map, filter, take, drop, Contains, Some}
use Rattle.std.specs.Option.{option_map}
use Rattle.evac_model.specs.declared.names.BlockNo.{BlockNo}
use Rattle.evac_model.specs.declared.names.FrameNo.{FrameNo}
use Rattle.evac_model.specs.declared.names.Kind.{Kind}
use Rattle.evac_model.specs.declared.names.PageNo.{PageNo}
use Rattle.evac_model.specs.declared.call.Call.{Call}
use Rattle.evac_model.specs.declared.call.Call.TheVariants.{Alloc, Free, Read, Write, Add, Pin, Unpin}
use Rattle.evac_model.specs.declared.entry.Entry.{Entry}
use Rattle.evac_model.specs.declared.reply.Reply.{Reply}
use Rattle.evac_model.specs.declared.reply.Reply.TheVariants.{Done, Values, Old, Mapped, NotMapped, Pinned, PinLimit, NotPinned, NoFrame}
use Rattle.evac_model.specs.declared.space.SpaceAction.{SpaceAction}
use Rattle.evac_model.specs.declared.space.SpaceAction.TheVariants.{Lease, MoveLease, Return, Isolate, Undo, Offline, Online}
use Rattle.evac_model.specs.Geometry.{Sizes}
use Rattle.evac_model.specs.Numbers.{is_in}
use Rattle.evac_model.specs.Page.{PlainPage}
use Rattle.evac_model.specs.Scripts.{entries_of}
use Rattle.evac_model.specs.SpaceJournal.{Out, SpaceState, out_for, IsLeasable, space_after, IsPossibleJournal}
use Rattle.evac_model.specs.State.{PlainState, page_at}

-- ---- whose actions

-- who made an action; leases and returns alone are made by owners
abbrev pub caller_of : SpaceAction → ℕ
caller_of (Lease who frame page kind) = who
caller_of (MoveLease frame page) = 0
caller_of (Return who frame) = who
caller_of (Isolate block) = 0
caller_of (Undo block) = 0
caller_of (Offline block) = 0
caller_of (Online block) = 0

-- the actions of a caller, in order
abbrev pub actions_of : ℕ → List SpaceAction → List SpaceAction
actions_of who journal = filter (λ a. caller_of a == who) journal

-- ---- the actions of a call

-- an alloc that is done leased a frame for its page and kind; one that found its page mapped leased a frame
-- and gave it back, or its lease was refused
abbrev pub IsMadeByAlloc : (who : ℕ) → PageNo → (kind : Kind) → Reply → List SpaceAction → Type 0
IsMadeByAlloc who page kind Done actions = (frame : FrameNo) × (actions ≡ Lease who frame page kind ∷ [])
IsMadeByAlloc who page kind Mapped actions =
    (actions ≡ []) ⊎ ((frame : FrameNo) × (actions ≡ Lease who frame page kind ∷ Return who frame ∷ []))
IsMadeByAlloc who page kind (Values values) actions = actions ≡ []
IsMadeByAlloc who page kind (Old value) actions = actions ≡ []
IsMadeByAlloc who page kind NotMapped actions = actions ≡ []
IsMadeByAlloc who page kind Pinned actions = actions ≡ []
IsMadeByAlloc who page kind PinLimit actions = actions ≡ []
IsMadeByAlloc who page kind NotPinned actions = actions ≡ []
IsMadeByAlloc who page kind (NoFrame at) actions = actions ≡ []

-- a free that is done gave a frame back
abbrev pub IsMadeByFree : (who : ℕ) → Reply → List SpaceAction → Type 0
IsMadeByFree who Done actions = (frame : FrameNo) × (actions ≡ Return who frame ∷ [])
IsMadeByFree who (Values values) actions = actions ≡ []
IsMadeByFree who (Old value) actions = actions ≡ []
IsMadeByFree who Mapped actions = actions ≡ []
IsMadeByFree who NotMapped actions = actions ≡ []
IsMadeByFree who Pinned actions = actions ≡ []
IsMadeByFree who PinLimit actions = actions ≡ []
IsMadeByFree who NotPinned actions = actions ≡ []
IsMadeByFree who (NoFrame at) actions = actions ≡ []

-- the actions of a call, by its reply; calls but allocs and frees make none
abbrev pub IsMadeByCall : (who : ℕ) → PageNo → Call → Reply → List SpaceAction → Type 0
IsMadeByCall who page (Alloc kind) reply actions = IsMadeByAlloc who page kind reply actions
IsMadeByCall who page Free reply actions = IsMadeByFree who reply actions
IsMadeByCall who page (Read first count) reply actions = actions ≡ []
IsMadeByCall who page (Write first values) reply actions = actions ≡ []
IsMadeByCall who page (Add cell value) reply actions = actions ≡ []
IsMadeByCall who page Pin reply actions = actions ≡ []
IsMadeByCall who page Unpin reply actions = actions ≡ []

abbrev pub IsMadeBy : Entry → List SpaceAction → Type 0
IsMadeBy e actions = IsMadeByCall e.caller e.page e.call e.reply actions

-- the actions are those of the entries, one entry after another
abbrev pub AreMadeBy : List Entry → List SpaceAction → Type 0
AreMadeBy [] actions = actions ≡ []
AreMadeBy (e ∷ es) actions =
    (first : List SpaceAction) × (rest : List SpaceAction) × (actions ≡ first ++ rest) × IsMadeBy e first × AreMadeBy es rest

-- ---- refusals

-- Behind the first `at` actions no frame is free for a page of that kind. Those of them that its caller made
-- are of its entries before this one, and the others that it made are of those behind it.
pub record IsRefusedAt (s : Sizes) (online : Kind) (start : SpaceState) (journal : List SpaceAction) (entries : List Entry) (e : Entry) (kind : Kind) (at : ℕ) : Type 0 where
  pub in_journal : at ≤ length journal
  pub none_free : (frame : ℕ) → ¬ IsLeasable s online (space_after s online start (take at journal)) kind frame
  pub before : AreMadeBy (filter (λ x. nat_lt x.ticket e.ticket) entries) (actions_of e.caller (take at journal))
  pub behind : AreMadeBy (filter (λ x. nat_lt e.ticket x.ticket) entries) (actions_of e.caller (drop at journal))

-- ---- history and journal

-- The journal is possible, and each owner's actions are those of its entries. Where an alloc was answered
-- that there is no frame, its lease was refused at the place that the answer names.
pub record ArePaired (s : Sizes) (online : Kind) (start : SpaceState) (history : List Entry) (journal : List SpaceAction) : Type 0 where
  pub possible : IsPossibleJournal s online start journal
  pub made : (owner : ℕ) → AreMadeBy (entries_of (suc owner) history) (actions_of (suc owner) journal)
  pub refused : (e : Entry) (kind : Kind) (at : ℕ) → Contains history e → e.call ≡ Alloc kind → e.reply ≡ NoFrame at → IsRefusedAt s online start journal (entries_of e.caller history) e kind at

-- ---- the frames at the end

-- Each frame that is out is out for a mapped page, with its kind, and each mapped page has one such frame.
pub record AreOutForPages (st : SpaceState) (pages : PlainState) : Type 0 where
  pub out : (frame : ℕ) (x : Out) → out_for st frame ≡ Some x → option_map (λ p. p.kind) (page_at pages x.page) ≡ Some x.kind
  pub mapped : (page : ℕ) (p : PlainPage) → page_at pages page ≡ Some p → (frame : ℕ) × (out_for st frame ≡ Some (record { page = page; kind = p.kind }))
  pub once : (frame other : ℕ) (x y : Out) → out_for st frame ≡ Some x → out_for st other ≡ Some y → x.page ≡ y.page → frame ≡ other

-- the blocks that are offline are the managed blocks that aren't plugged
abbrev pub AreUnplugged : Sizes → SpaceState → (plugged : List BlockNo) → Type 0
AreUnplugged s st plugged = (block : ℕ) → is_in block st.offline ≡ (nat_lt block s.managed && not (is_in block (map (λ b. b.0) plugged)))
