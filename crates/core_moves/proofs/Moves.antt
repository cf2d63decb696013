-- The view of a seat after a step on the mapping of the page that it holds.
use Rattle.std.proofs.Common.{◌≡◌, ℕ, ◌<◌, ◌≢◌, List, get_or, get_or-set_same, get_or-set_other, length, set, sym, refl, ap, ◌∙◌, arith, Option, Some, None}
use Rattle.std.specs.Prelude.{is_some}
use Rattle.std.proofs.lemmas.Option.{none-some}
use Rattle.std.proofs.lemmas.List.{get_or_past}
use mathlib.Core.Logic.{dite}
use native.Mathlib.Decide.{dec_le}
use Rattle.evac_model.specs.declared.names.Kind.{Kind}
use Rattle.evac_words.specs.Word.{bit_of, frame_of}
use Rattle.core_state.specs.declared.hand.HandFrame.{HandFrame}
use Rattle.core_state.specs.declared.held.Change.TheVariants.{Mapped, Unmapped}
use Rattle.core_state.specs.declared.held.Held.{Held}
use Rattle.core_state.specs.declared.keeper.Keeper.{Keeper}
use Rattle.core_state.specs.declared.opening.Opening.{Opening}
use Rattle.core_state.specs.declared.view.View.{View}
use Rattle.core_state.specs.Words.{moving_word, remapped_word, mapped_word, unmapped_word}
use Rattle.core_state.specs.Views.{IsSeated, hand_frame}
use Rattle.core_state.specs.Steps.{nothing_known}
use Rattle.core_state.specs.MoveSteps.{let_out, moved}
use Rattle.core_moves.specs.Moved.{FramesFit}

-- the held page after each step
abbrev pub begun : View → Held → Held
begun v h = record h { word = moving_word h.word; loads = nothing_known v.cells }

abbrev pub remapped : Held → ℕ → Held
remapped h frame = record h { word = remapped_word h.word frame; change = moved h.change }

abbrev pub mapped : View → Held → ℕ → Kind → Held
mapped v h frame kind = record h { word = mapped_word h.word frame kind; loads = nothing_known v.cells; stores = nothing_known v.cells; change = Mapped kind }

abbrev pub unmapped : View → Held → Held
unmapped v h = record h { word = unmapped_word h.word; loads = nothing_known v.cells; stores = nothing_known v.cells; change = Unmapped }

-- the view after each step
abbrev pub after_begin : View → Held → View
after_begin v h = record v { held = Some (begun v h) }

abbrev pub after_remap : Keeper → View → Held → ℕ → View
after_remap k v h frame = record v { held = Some (remapped h frame); hand = set (set v.hand frame None) (frame_of h.word) (Some (let_out k v.cells h)) }

abbrev pub after_map : View → Held → ℕ → Kind → View
after_map v h frame kind = record v { held = Some (mapped v h frame kind); hand = set v.hand frame None }

abbrev pub after_unmap : Keeper → View → Held → View
after_unmap k v h = record v { held = Some (unmapped v h); hand = set v.hand (frame_of h.word) (Some (let_out k v.cells h)) }

-- ---- hands

-- how often a frame is in a hand
abbrev pub times_in : List (Option HandFrame) → ℕ → ℕ
times_in hand f = bit_of (is_some (get_or hand f None))

pub times_in-other : (hand : List (Option HandFrame)) (f g : ℕ) (y : Option HandFrame) → g ≢ f → times_in (set hand f y) g ≡ times_in hand g
times_in-other hand f g y ne = ap (λ (m : Option HandFrame). bit_of (is_some m)) (get_or-set_other hand f g y None ne)

pub times_in-given : (hand : List (Option HandFrame)) (f : ℕ) (y : HandFrame) → f < length hand → times_in (set hand f (Some y)) f ≡ 1
times_in-given hand f y lt = ap (λ (m : Option HandFrame). bit_of (is_some m)) (get_or-set_same hand f (Some y) None lt)

-- a frame in hand is one of the machine, and has room in a word
pub in_range : (o : Opening) (v : View) (f : ℕ) (x : HandFrame) → IsSeated o v → hand_frame v f ≡ Some x → f < o.frames
in_range o v f x seated is = dite (dec_le (length v.hand) f)
    (λ past. absurd (none-some x (sym (get_or_past v.hand f None past) ∙ is)))
    (λ no. let a = seated.hand in omega arith)

pub fits : (o : Opening) (v : View) (f : ℕ) (x : HandFrame) → FramesFit o → IsSeated o v → hand_frame v f ≡ Some x → f < 1048576
fits o v f x room seated is = let a = in_range o v f x seated is in let few = room.few in omega arith
