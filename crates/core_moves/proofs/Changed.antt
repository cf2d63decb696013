-- A step on the mapping, as what it leaves: the seat holds the same page with the same ticket, and its
-- word is the new one.
use Rattle.std.proofs.Common.{◌≡◌, ℕ, ◌<◌, ◌≤◌, List, set, sym, refl, ap, ◌∙◌, arith, Option, Some, None}
use Rattle.evac_model.specs.declared.names.FrameNo.{FrameNo}
use Rattle.evac_model.specs.declared.names.Kind.{Kind}
use Rattle.evac_words.specs.Word.{taken_bit, mapped_bit, unmovable_bit, pins_of, frame_of, bound_of}
use Rattle.core_state.specs.declared.hand.HandFrame.{HandFrame}
use Rattle.core_state.specs.declared.held.Change.TheVariants.{Mapped, Unmapped}
use Rattle.core_state.specs.declared.held.Held.{Held}
use Rattle.core_state.specs.declared.keeper.Keeper.{Keeper}
use Rattle.core_state.specs.declared.opening.Opening.{Opening}
use Rattle.core_state.specs.declared.step.MoveStep.{MoveStep}
use Rattle.core_state.specs.declared.step.MoveStep.TheVariants.{Moving, Remap, Map, Unmap}
use Rattle.core_state.specs.declared.view.View.{View}
use Rattle.core_state.specs.Words.{packed, moving_word, remapped_word, mapped_word, unmapped_word, unmovable_for}
use Rattle.core_state.specs.Steps.{nothing_known, held_word}
use Rattle.core_state.specs.MoveSteps.{MayBegin, MayRemap, MayMap, MayUnmap, InHand, moved, held_after_begin, held_after_remap, held_after_map, held_after_unmap, hand_after_remap, hand_after_unmap, AllowedMove, word_after_move, view_after_move}
use Rattle.core_state.proofs.Holding.{for_some}

-- ---- what a packed word keeps

pub taken_bit-packed_any : (t m p u k f b : ℕ) → t < 2 → taken_bit (packed t m p u k f b) ≡ t
taken_bit-packed_any t m p u k f b lt = omega arith

-- whatever the frame, the bound isn't lowered
pub bound_of-packed_above : (t m p u k f b : ℕ) → b ≤ bound_of (packed t m p u k f b)
bound_of-packed_above t m p u k f b = omega arith

-- ---- the seat that steps

-- The view v holds h, and w holds g: the same page with the same ticket, with the word n. All else that
-- counts but the hand is the same.
pub record Changed (v w : View) (h g : Held) (n : ℕ) : Type 0 where
  pub holds : v.held ≡ Some h
  pub now : w.held ≡ Some g
  pub page : g.page ≡ h.page
  pub word : g.word ≡ n
  pub ticket : g.ticket ≡ h.ticket
  pub taken : taken_bit n ≡ taken_bit h.word
  pub bound_above : bound_of h.word ≤ bound_of n
  pub caller : w.caller ≡ v.caller
  pub entries : w.entries ≡ v.entries
  pub unmarked : w.unmarked ≡ v.unmarked
  pub noticed : w.noticed ≡ v.noticed
  pub left : w.left ≡ v.left
  pub seen : w.seen ≡ v.seen
  pub mover : w.mover ≡ v.mover
  pub scan : w.scan ≡ v.scan

-- some page is held, and is changed
abbrev pub IsChange : View → View → ℕ → Type 0
IsChange v w n = (h : Held) × (g : Held) × Changed v w h g n

-- what is held afterwards is the same page with the same ticket, and its word has the taken bit and the bound that it had
changed-by : (v : View) (held : Option Held) (hand : List (Option HandFrame)) (h g : Held) (n m p u k f : ℕ) → v.held ≡ Some h → held ≡ Some g → g.page ≡ h.page → g.ticket ≡ h.ticket
    → g.word ≡ packed (taken_bit h.word) m p u k f (bound_of h.word) → n ≡ g.word → IsChange v (record v { held = held; hand = hand }) n
changed-by v held hand h g n m p u k f holds now page ticket word same = (
  h,
  g,
  record {
    holds = holds;
    now = now;
    page = page;
    word = sym same;
    ticket = ticket;
    taken = ap taken_bit (same ∙ word) ∙ taken_bit-packed_any (taken_bit h.word) m p u k f (bound_of h.word) (omega arith);
    bound_above = (let a = ap bound_of (same ∙ word) in let b = bound_of-packed_above (taken_bit h.word) m p u k f (bound_of h.word) in omega arith);
    caller = refl;
    entries = refl;
    unmarked = refl;
    noticed = refl;
    left = refl;
    seen = refl;
    mover = refl;
    scan = refl;
  },
)

pub changed-begin : (k : Keeper) (v : View) (h : Held) → v.held ≡ Some h → IsChange v (view_after_move k v Moving) (word_after_move v Moving)
changed-begin k v h holds = changed-by v (held_after_begin v v.held) v.hand h (record h { word = moving_word h.word; loads = nothing_known v.cells }) (word_after_move v Moving)
    1 (mapped_bit h.word) (unmovable_bit h.word) (pins_of h.word) (frame_of h.word) holds (ap (λ m. held_after_begin v m) holds) refl refl refl (ap (λ m. moving_word (held_word m)) holds)

pub changed-remap : (k : Keeper) (v : View) (frame : FrameNo) (h : Held) → v.held ≡ Some h → IsChange v (view_after_move k v (Remap frame)) (word_after_move v (Remap frame))
changed-remap k v frame h holds = changed-by v (held_after_remap v.held frame.0) (hand_after_remap k v v.held frame.0) h (record h { word = remapped_word h.word frame.0; change = moved h.change }) (word_after_move v (Remap frame))
    0 (mapped_bit h.word) (unmovable_bit h.word) (pins_of h.word) frame.0 holds (ap (λ m. held_after_remap m frame.0) holds) refl refl refl (ap (λ m. remapped_word (held_word m) frame.0) holds)

pub changed-map : (k : Keeper) (v : View) (frame : FrameNo) (kind : Kind) (h : Held) → v.held ≡ Some h → IsChange v (view_after_move k v (Map frame kind)) (word_after_move v (Map frame kind))
changed-map k v frame kind h holds = changed-by v (held_after_map v v.held frame.0 kind) (set v.hand frame.0 None) h (record h { word = mapped_word h.word frame.0 kind; loads = nothing_known v.cells; stores = nothing_known v.cells; change = Mapped kind }) (word_after_move v (Map frame kind))
    0 1 (unmovable_for kind) 0 frame.0 holds (ap (λ m. held_after_map v m frame.0 kind) holds) refl refl refl (ap (λ m. mapped_word (held_word m) frame.0 kind) holds)

pub changed-unmap : (k : Keeper) (v : View) (h : Held) → v.held ≡ Some h → IsChange v (view_after_move k v Unmap) (word_after_move v Unmap)
changed-unmap k v h holds = changed-by v (held_after_unmap v v.held) (hand_after_unmap k v v.held) h (record h { word = unmapped_word h.word; loads = nothing_known v.cells; stores = nothing_known v.cells; change = Unmapped }) (word_after_move v Unmap)
    0 0 0 0 0 holds (ap (λ m. held_after_unmap v m) holds) refl refl refl (ap (λ m. unmapped_word (held_word m)) holds)

-- each step that is allowed is a change of the held page
pub changed : (k : Keeper) (o : Opening) (v : View) (step : MoveStep) → AllowedMove k o v step → IsChange v (view_after_move k v step) (word_after_move v step)
changed k o v Moving may = let p = for_some v.held (MayBegin v) may.1 in changed-begin k v p.0 p.1
changed k o v (Remap frame) may = let p = for_some v.held (λ h. InHand v frame.0 (MayRemap k o h)) may.1 in changed-remap k v frame p.0 p.1
changed k o v (Map frame kind) may = let p = for_some v.held (λ h. InHand v frame.0 (λ x. MayMap k o h x kind)) may.1 in changed-map k v frame kind p.0 p.1
changed k o v Unmap may = let p = for_some v.held MayUnmap may.1 in changed-unmap k v p.0 p.1
