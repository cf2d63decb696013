-- Where a step on a mapping acts lies in the table, and its frames have places in the hand.
use Rattle.std.proofs.Common.{◌≡◌, ℕ, ◌<◌, List, length, get_or, sym, refl, ap, ◌∙◌, subst, inr, arith, Option, Some, None, IsSome}
use Rattle.std.specs.Prelude.{IsSomeAnd}
use Rattle.std.proofs.lemmas.List.{get_or_past}
use Rattle.std.proofs.lemmas.Option.{none-some}
use mathlib.Core.Logic.{dite}
use native.Mathlib.Decide.{dec_le}
use Rattle.evac_model.specs.Page.{Page}
use Rattle.evac_model.specs.declared.names.FrameNo.{FrameNo}
use Rattle.evac_model.specs.declared.names.Kind.{Kind}
use Rattle.evac_words.specs.Word.{moving_bit, mapped_bit, frame_of}
use Rattle.core_state.specs.declared.hand.HandFrame.{HandFrame}
use Rattle.core_state.specs.declared.held.Held.{Held}
use Rattle.core_state.specs.declared.keeper.Keeper.TheVariants.{OneOwner}
use Rattle.core_state.specs.declared.opening.Opening.{Opening}
use Rattle.core_state.specs.declared.room.Room.{Room}
use Rattle.core_state.specs.declared.step.MoveStep.TheVariants.{Remap, Map, Unmap}
use Rattle.core_state.specs.declared.view.View.{View}
use Rattle.core_state.specs.Words.{entry_word_of}
use Rattle.core_state.specs.Views.{Has, IsSeated, hand_frame, times_in_hands, maps_to}
use Rattle.core_state.specs.Seats.{IsHeldRoom, Seats}
use Rattle.core_state.specs.Pages.{Flagged}
use Rattle.core_state.specs.Sound.{Sound}
use Rattle.core_state.specs.Room.{spare_for, HasRoom}
use Rattle.core_state.specs.Steps.{held_word}
use Rattle.core_state.specs.MoveSteps.{InHand, MayRemap, MayMap, MayUnmap, AllowedMove}
use Rattle.core_state.proofs.Frames.{maps_to-one, frame_once, maps_le}
use Rattle.core_state.proofs.StepPlaces.{owned_frame}
use Rattle.core_state.proofs.SeatSteps.{held_room}
use Rattle.core_state.proofs.RoomMoves.{for_some_in}
use Rattle.core_state.proofs.Rooms.{IsFor}

-- a page whose word has the moving bit is mapped
pub moving_is_mapped : (w : ℕ) (m : Page) → Flagged w m → moving_bit w ≡ 1 → mapped_bit w ≡ 1
moving_is_mapped w None f e = absurd (omega arith)
moving_is_mapped w (Some m) f e = f.0

some_place : (l : List (Option HandFrame)) (f : ℕ) (x : HandFrame) → get_or l f None ≡ Some x → f < length l
some_place l f x is = dite (dec_le (length l) f) (λ high. absurd (none-some x (sym (get_or_past l f None high) ∙ is))) (λ low. omega arith)

-- a frame in hand
module _ (o : Opening) (v : View) (frame : ℕ) (P : HandFrame → Type 0) (seated : IsSeated o v) (there : InHand v frame P) where
  pub hand_place : frame < length v.hand
  hand_place = let q = for_some_in (hand_frame v frame) P there.1 in some_place v.hand frame q.0 q.1

  pub hand_some : IsSome (hand_frame v frame)
  hand_some = let q = for_some_in (hand_frame v frame) P there.1 in subst (λ (m : Option HandFrame). IsSome m) (sym q.1) refl

  pub hand_low : frame < o.frames
  hand_low = let a = hand_place in let b = seated.hand in omega arith

-- the frame of the held page, where it is mapped
module _ (o : Opening) (words : List ℕ) (views : List View) (s : Sound o words views) (seat : ℕ) (v : View) (at : Has views seat v) where
  pub holds_moving : (h : Held) → v.held ≡ Some h → moving_bit h.word ≡ 1 → mapped_bit h.word ≡ 1
  holds_moving h is moving = moving_is_mapped h.word _ (s.pages.held seat v h at is).shows.flags moving

  pub old_low : (h : Held) → v.held ≡ Some h → mapped_bit h.word ≡ 1 → frame_of h.word < o.frames
  old_low h is mapped = owned_frame o words views s seat v at (frame_of h.word)
      (inr (subst (λ (m : Option Held). IsSomeAnd m (λ g. maps_to (frame_of h.word) g.word ≡ 1)) (sym is) (maps_to-one (frame_of h.word) h.word mapped refl)))

  old_in_no_hand : (h : Held) → v.held ≡ Some h → mapped_bit h.word ≡ 1 → times_in_hands (frame_of h.word) views ≡ 0
  old_in_no_hand h is mapped = let t = s.turn.held_word seat v h at is in
      let a = maps_le o words views s.shaped s.turn s.frames (frame_of h.word) h.page.0 t.0 in
      let b : maps_to (frame_of h.word) (entry_word_of words h.page.0) ≡ 1 = ap (λ w. maps_to (frame_of h.word) w) t.1 ∙ maps_to-one (frame_of h.word) h.word mapped refl in
      let c = frame_once o words views s.shaped s.turn s.frames (frame_of h.word) in omega arith

  -- it has places for its cells
  pub old_spare : (r : Room) → HasRoom o views r → (h : Held) → v.held ≡ Some h → mapped_bit h.word ≡ 1 → IsFor o.cells (spare_for r (frame_of h.word))
  old_spare r k h is mapped = k.spare (frame_of h.word) (old_low h is mapped) (old_in_no_hand h is mapped)

-- the page that is held has places for its cells
pub held_has_room : (o : Opening) (views : List View) (seat : ℕ) (v : View) → Has views seat v → Seats o views → IsSeated o v → (P : Held → Type 0) → IsSomeAnd v.held P → IsSomeAnd v.held (IsHeldRoom v.cells)
held_has_room o views seat v at s seated P some = let q = for_some_in v.held P some in
    subst (λ (m : Option Held). IsSomeAnd m (IsHeldRoom v.cells)) (sym q.1) (subst (λ (n : ℕ). IsHeldRoom n q.0) (sym seated.cells) (held_room o views s seat v at q.0 q.1))

pub remap_place : (o : Opening) (v : View) (frame : FrameNo) → AllowedMove OneOwner o v (Remap frame) → frame.0 < length v.hand
remap_place o v frame may = let q = for_some_in v.held (λ h. InHand v frame.0 (MayRemap OneOwner o h)) may.1 in hand_place o v frame.0 (MayRemap OneOwner o q.0) may.0 q.2

pub map_place : (o : Opening) (v : View) (frame : FrameNo) (kind : Kind) → AllowedMove OneOwner o v (Map frame kind) → frame.0 < length v.hand
map_place o v frame kind may = let q = for_some_in v.held (λ h. InHand v frame.0 (λ x. MayMap OneOwner o h x kind)) may.1 in hand_place o v frame.0 (λ x. MayMap OneOwner o q.0 x kind) may.0 q.2

-- ---- the steps that let the held page's frame go

-- the held page is mapped
abbrev pub IsOnFrame : View → Type 0
IsOnFrame v = IsSomeAnd v.held (λ h. mapped_bit h.word ≡ 1)

module _ (o : Opening) (words : List ℕ) (views : List View) (s : Sound o words views) (seat : ℕ) (v : View) (at : Has views seat v) where
  pub unmap_on_frame : AllowedMove OneOwner o v Unmap → IsOnFrame v
  unmap_on_frame may = let q = for_some_in v.held MayUnmap may.1 in subst (λ (m : Option Held). IsSomeAnd m (λ h. mapped_bit h.word ≡ 1)) (sym q.1) q.2.mapped

  pub remap_on_frame : (frame : FrameNo) → AllowedMove OneOwner o v (Remap frame) → IsOnFrame v
  remap_on_frame frame may = let q = for_some_in v.held (λ h. InHand v frame.0 (MayRemap OneOwner o h)) may.1 in
      let x = for_some_in (hand_frame v frame.0) (MayRemap OneOwner o q.0) q.2.1 in
      subst (λ (m : Option Held). IsSomeAnd m (λ h. mapped_bit h.word ≡ 1)) (sym q.1) (holds_moving o words views s seat v at q.0 q.1 x.2.moving)

  pub old_frame_low : IsOnFrame v → frame_of (held_word v.held) < o.frames
  old_frame_low on = let q = for_some_in v.held (λ h. mapped_bit h.word ≡ 1) on in
      subst (λ (m : Option Held). frame_of (held_word m) < o.frames) (sym q.1) (old_low o words views s seat v at q.0 q.1 q.2)

  -- the places for its cells are there
  pub old_frame_has : (r : Room) (frame : ℕ) → HasRoom o views r → IsOnFrame v → frame ≡ frame_of (held_word v.held) → IsSome (get_or r.spare frame None)
  old_frame_has r frame k on was = let q = for_some_in v.held (λ h. mapped_bit h.word ≡ 1) on in
      let e : frame ≡ frame_of (q.0).word = was ∙ ap (λ (m : Option Held). frame_of (held_word m)) q.1 in
      let p = for_some_in (spare_for r (frame_of (q.0).word)) (λ known. length known ≡ o.cells) (old_spare o words views s seat v at r k q.0 q.1 q.2) in
      subst (λ (l : Option (List (Option ℕ))). IsSome l) (sym (ap (λ (f : ℕ). get_or r.spare f None) e ∙ p.1)) refl

  -- and are as many, where they were taken out
  pub old_frame_spare : (r : Room) (frame n : ℕ) (known : List (Option ℕ)) → HasRoom o views r → IsOnFrame v → frame ≡ frame_of (held_word v.held) → n ≡ o.cells → get_or r.spare frame None ≡ Some known → length known ≡ n
  old_frame_spare r frame n known k on was size is = let q = for_some_in v.held (λ h. mapped_bit h.word ≡ 1) on in
      let e : frame ≡ frame_of (q.0).word = was ∙ ap (λ (m : Option Held). frame_of (held_word m)) q.1 in
      subst (λ (l : Option (List (Option ℕ))). IsFor o.cells l) (sym (ap (λ (f : ℕ). get_or r.spare f None) e) ∙ is)
      (old_spare o words views s seat v at r k q.0 q.1 q.2)
      ∙ sym size
