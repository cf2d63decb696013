-- A step on the mapping takes a frame from the actor's hand to the page that it is out for, or back. No frame of a block
-- that the driver holds is out. So the world stays consistent.
use Rattle.std.proofs.Common.{◌≡◌, ◌≢◌, ℕ, ◌<◌, ◌==◌, true, List, get_or, get_or-set_other, set, sym, refl, ap, ◌∙◌, subst, arith, Option, Some, None, IsSome}
use Rattle.std.proofs.lemmas.Bool.{and_parts}
use Rattle.std.proofs.lemmas.Option.{none-some}
use mathlib.Core.Logic.{dite}
use native.Mathlib.Decide.{ℕ_discrete}
use Rattle.evac_model.specs.declared.names.Kind.{Kind}
use Rattle.evac_model.specs.Page.{kind_of}
use Rattle.evac_model.specs.SpaceJournal.{SpaceState, out_for, is_frame_of}
use Rattle.evac_words.specs.Word.{mapped_bit, frame_of}
use Rattle.evac_words.specs.Table.{entry_index}
use Rattle.core_state.specs.declared.hand.HandFrame.{HandFrame}
use Rattle.core_state.specs.declared.held.Held.{Held}
use Rattle.core_state.specs.declared.keeper.Keeper.TheVariants.{OneOwner}
use Rattle.core_state.specs.declared.snapshot.Snapshot.{Snapshot}
use Rattle.core_state.specs.declared.step.MoveStep.{MoveStep}
use Rattle.core_state.specs.declared.step.MoveStep.TheVariants.{Moving, Remap, Map, Unmap}
use Rattle.core_state.specs.declared.view.View.{View}
use Rattle.core_state.specs.CoreState.{CoreState}
use Rattle.core_state.specs.MoveSteps.{InHand, MayBegin, MayRemap, MayMap, MayUnmap, let_out, AllowedMove, view_after_move}
use Rattle.core_state.specs.Stepped.{words_after_move, snapshot_after_move}
use Rattle.core_state.specs.Steps.{held_page, held_word}
use Rattle.core_state.specs.Views.{Has, view_of, hand_frame}
use Rattle.core_state.specs.Words.{entry_word_of, kind_in, moving_word, remapped_word, mapped_word, unmapped_word}
use Rattle.core_state.proofs.FrameSteps.{hand-set_same}
use Rattle.core_state.proofs.Holding.{for_some}
use Rattle.core_state.proofs.MovePlaces.{moving_is_mapped}
use Rattle.core_state.proofs.RoomMoves.{for_some_in}
use Rattle.core_state.proofs.Rooms.{seat_has}
use Rattle.core_state.proofs.WordsAt.{entry_word-here, entry_word-other, entry_within}
use Rattle.core_moves.specs.Moved.{FramesFit}
use Rattle.core_moves.proofs.Moves.{fits}
use Rattle.core_moves.proofs.MoveWords.{mapped_bit-moving, frame_of-moving, unmovable_bit-moving, frame_of-remapped, unmovable_bit-remapped, frame_of-mapped, kind_in-mapped, mapped_bit-unmapped}
use Rattle.core_moves.proofs.SoundMoves.{moves_keep_sound}
use Rattle.space.proofs.BlockFrames.{frame_in_from}
use Rattle.machine.specs.declared.parts.Parts.{Parts}
use Rattle.machine.specs.Consistent.{IsSetting, IsConsistent}
use Rattle.machine.specs.Made.{move_made}
use Rattle.machine.specs.MachineInside.{IsMachine, setting_of, world_of}
use Rattle.machine.specs.MayMake.{IsOutForHeld, MayMove}
use Rattle.machine.specs.World.{Setting, World, IsOwnerSeat, IsActorSeat, space_now, is_held}
use Rattle.machine.proofs.Quiet.{move_keeps_mover, actor_there, mover_at}
use Rattle.machine.proofs.SpaceNow.{offline_not_out}
use Rattle.machine.proofs.StepsKept.{IsMappedOut, MapsAs, maps_out, driver_has, consistent_with, machine_with}

-- each frame has room in an entry word
frames_fit : (c : Setting) → IsSetting c → FramesFit c.opening
frames_fit c r = record { few = let same = r.frames in let few = r.limits.frames in omega arith }

-- a frame in a hand from which one was taken was there
pub before_taken : (hand : List (Option HandFrame)) (frame f : ℕ) → IsSome (get_or (set hand frame None) f None) → IsSome (get_or hand f None)
before_taken hand frame f some = dite (ℕ_discrete f frame)
    (λ e. absurd (let gone : get_or (set hand frame None) f None ≡ None = ap (λ (g : ℕ). get_or (set hand frame None) g None) e ∙ hand-set_same hand frame None (λ none. refl) in cc))
    (λ ne. subst (λ (x : Option HandFrame). IsSome x) (get_or-set_other hand frame f None None ne) some)

-- ---- the entry words

maps_moving : (w : ℕ) → MapsAs (moving_word w) w
maps_moving w = record { mapped = mapped_bit-moving w; frame = frame_of-moving w; kind = ap (λ (u : ℕ). kind_of (u == 0)) (unmovable_bit-moving w) }

-- the word maps its page to a frame that is out for it
maps_to_out : (st : SpaceState) (page n frame : ℕ) (kind : Kind) → frame_of n ≡ frame → kind_in n ≡ kind → out_for st frame ≡ Some (record { page = page; kind = kind }) → IsMappedOut st page n
maps_to_out st page n frame kind at as_kind out on = ap (λ (f : ℕ). out_for st f) at ∙ (out ∙ ap (λ (d : Kind). Some (record { page = page; kind = d })) (sym as_kind))

module _ (c : Setting) (w : World) (r : IsSetting c) (k : IsConsistent c w) where
  abbrev st : SpaceState
  st = space_now c w

  abbrev words : List ℕ
  words = w.snapshot.words

  -- the frame of a held page is out for it
  held_as : (seat : ℕ) (v : View) (h : Held) → Has w.snapshot.views seat v → v.held ≡ Some h → IsMappedOut st h.page.0 h.word
  held_as seat v h has is =
      let mine = k.sound.turn.held_word seat v h has is in
      let low = mine.0 in
      subst (IsMappedOut st h.page.0) mine.1 (k.mapped h.page.0 (let pages = r.pages in omega arith))

  -- one page's word is written
  mapped_entry : (q n : ℕ) → IsMappedOut st q n → (page : ℕ) → page < c.sizes.pages → IsMappedOut st page (entry_word_of (set words (entry_index q) n) page)
  mapped_entry q n new page low = dite (ℕ_discrete page q)
      (λ e. subst (IsMappedOut st page) (sym (ap (λ (j : ℕ). entry_word_of (set words (entry_index j) n) page) (sym e) ∙ entry_word-here words n page (entry_within c.opening words page k.sound.shaped (let pages = r.pages in omega arith))))
      (subst (λ (j : ℕ). IsMappedOut st j n) (sym e) new))
      (λ ne. subst (IsMappedOut st page) (sym (entry_word-other words q n page ne)) (k.mapped page low))

  -- a frame of a block that the driver holds isn't out
  held_not_out : (block f : ℕ) → is_held c w block ≡ true → is_frame_of c.sizes block f ≡ true → out_for st f ≡ None
  held_not_out block f held its = offline_not_out c w r k f (frame_in_from c.sizes st.offline block f (and_parts _ _ held).0 its)

  -- ---- the step

  module _ (seat : ℕ) (actor : IsActorSeat c seat) where
    abbrev v : View
    v = view_of w.snapshot.views seat

    has : Has w.snapshot.views seat v
    has = seat_has w.snapshot.views seat (actor_there c w seat k actor)

    -- each frame in an owner's hand is out, and the driver's hand has those of the blocks that it holds
    record IsHand (hand : List (Option HandFrame)) : Type 0 where
      out : IsOwnerSeat c seat → (f : ℕ) → IsSome (get_or hand f None) → out_for st f ≢ None
      there : seat ≡ 0 → (block f : ℕ) → is_held c w block ≡ true → is_frame_of c.sizes block f ≡ true → IsSome (get_or hand f None)

    hand_now : IsHand v.hand
    hand_now = record { out = λ owner f some. k.in_hand seat f owner some; there = λ first block f held its. driver_has c w seat k first block f held its }

    -- a frame that is out was taken from the hand
    hand_less : (frame : ℕ) → out_for st frame ≢ None → IsHand (set v.hand frame None)
    hand_less frame gone = record {
      out = λ owner f some. hand_now.out owner f (before_taken v.hand frame f some);
      there = λ first block f held its. subst (λ (x : Option HandFrame). IsSome x)
          (sym (get_or-set_other v.hand frame f None None (λ e. gone (ap (λ (g : ℕ). out_for st g) (sym e) ∙ held_not_out block f held its))))
          (hand_now.there first block f held its);
    }

    -- the frame of the held page comes in hand
    hand_more : (hand : List (Option HandFrame)) (h : Held) (x : HandFrame) → v.held ≡ Some h → mapped_bit h.word ≡ 1 → IsHand hand → IsHand (set hand (frame_of h.word) (Some x))
    hand_more hand h x is on before =
        let gone : out_for st (frame_of h.word) ≢ None = λ none. none-some _ (sym none ∙ held_as seat v h has is on) in
        record {
          out = λ owner f some. dite (ℕ_discrete f (frame_of h.word))
              (λ e. λ none. gone (ap (λ (g : ℕ). out_for st g) (sym e) ∙ none))
              (λ ne. before.out owner f (subst (λ (y : Option HandFrame). IsSome y) (get_or-set_other hand (frame_of h.word) f (Some x) None ne) some));
          there = λ first block f held its. subst (λ (y : Option HandFrame). IsSome y)
              (sym (get_or-set_other hand (frame_of h.word) f (Some x) None (λ e. gone (ap (λ (g : ℕ). out_for st g) (sym e) ∙ held_not_out block f held its))))
              (before.there first block f held its);
        }

    -- what the step leaves, where the view holds this page: each mapped page's frame is out for it, and such a hand
    abbrev Leaves : MoveStep → Option Held → Type 0
    Leaves step held =
        ((page : ℕ) → page < c.sizes.pages → IsMappedOut st page (entry_word_of (words_after_move words (record v { held = held }) step) page))
        × IsHand (view_after_move OneOwner (record v { held = held }) step).hand

    leaves : (step : MoveStep) → AllowedMove OneOwner c.opening v step → IsOutForHeld c w v step → Leaves step v.held
    leaves Moving may out =
        let q = for_some v.held (MayBegin v) may.1 in
        let h = q.0 in
        subst (Leaves Moving) (sym q.1) (
          mapped_entry h.page.0 (moving_word h.word) (maps_out st h.page.0 (moving_word h.word) h.word (maps_moving h.word) (held_as seat v h has q.1)),
          hand_now,
        )
    leaves (Remap frame) may out =
        let q = for_some v.held (λ h. InHand v frame.0 (MayRemap OneOwner c.opening h)) may.1 in
        let h = q.0 in
        let x = for_some_in (hand_frame v frame.0) (MayRemap OneOwner c.opening h) (q.2).1 in
        let few = fits c.opening v frame.0 x.0 (frames_fit c r) may.0 x.1 in
        let on = moving_is_mapped h.word _ (k.sound.pages.held seat v h has q.1).shows.flags x.2.moving in
        let out_as : out_for st frame.0 ≡ Some (record { page = h.page.0; kind = kind_in h.word }) = subst (λ (m : Option Held). out_for st frame.0 ≡ Some (record { page = held_page m; kind = kind_in (held_word m) })) q.1 out in
        subst (Leaves (Remap frame)) (sym q.1) (
          mapped_entry h.page.0 (remapped_word h.word frame.0)
              (maps_to_out st h.page.0 (remapped_word h.word frame.0) frame.0 (kind_in h.word) (frame_of-remapped h.word frame.0 few) (ap (λ (u : ℕ). kind_of (u == 0)) (unmovable_bit-remapped h.word frame.0 few)) out_as),
          hand_more (set v.hand frame.0 None) h (let_out OneOwner v.cells h) q.1 on (hand_less frame.0 (λ none. none-some _ (sym none ∙ out_as))),
        )
    leaves (Map frame kind) may out =
        let q = for_some v.held (λ h. InHand v frame.0 (λ x. MayMap OneOwner c.opening h x kind)) may.1 in
        let h = q.0 in
        let x = for_some_in (hand_frame v frame.0) (λ x. MayMap OneOwner c.opening h x kind) (q.2).1 in
        let few = fits c.opening v frame.0 x.0 (frames_fit c r) may.0 x.1 in
        let out_as : out_for st frame.0 ≡ Some (record { page = h.page.0; kind = kind }) = subst (λ (m : Option Held). out_for st frame.0 ≡ Some (record { page = held_page m; kind = kind })) q.1 out in
        subst (Leaves (Map frame kind)) (sym q.1) (
          mapped_entry h.page.0 (mapped_word h.word frame.0 kind)
              (maps_to_out st h.page.0 (mapped_word h.word frame.0 kind) frame.0 kind (frame_of-mapped h.word frame.0 kind few) (kind_in-mapped h.word frame.0 kind few) out_as),
          hand_less frame.0 (λ none. none-some _ (sym none ∙ out_as)),
        )
    leaves Unmap may out =
        let q = for_some v.held MayUnmap may.1 in
        let h = q.0 in
        subst (Leaves Unmap) (sym q.1) (
          mapped_entry h.page.0 (unmapped_word h.word) (λ on. absurd (let off = mapped_bit-unmapped h.word in omega arith)),
          hand_more v.hand h (let_out OneOwner v.cells h) q.1 q.2.mapped hand_now,
        )

pub held_out : (c : Setting) (w : World) → IsSetting c → IsConsistent c w → (seat : ℕ) (v : View) (h : Held) → Has w.snapshot.views seat v → v.held ≡ Some h → mapped_bit h.word ≡ 1
    → out_for (space_now c w) (frame_of h.word) ≡ Some (record { page = h.page.0; kind = kind_in h.word })
held_out c w r k seat v h has is on = held_as c w r k seat v h has is on

pub move_kept : (c : Setting) (seat : ℕ) (w : World) (step : MoveStep) → IsSetting c → IsConsistent c w → MayMove c seat w step → IsConsistent c (move_made seat w step).world
move_kept c seat w step r k may =
    let v = view_of w.snapshot.views seat in
    let left = leaves c w r k seat may.actor step may.allowed may.out in
    consistent_with c w seat (words_after_move w.snapshot.words v step) (view_after_move OneOwner v step) k may.actor
    (moves_keep_sound OneOwner c.opening w.snapshot.words w.snapshot.views seat v step (has c w r k seat may.actor) (frames_fit c r) k.sound may.allowed)
    (λ i e. move_keeps_mover OneOwner v step ∙ mover_at c w seat k may.actor i e)
    left.0 left.1.out left.1.there

-- the machine behind a step on a mapping
pub machine_moved : (a : Parts) (core : CoreState) (seat : ℕ) (step : MoveStep) → core.opening ≡ a.core.opening → core.snapshot ≡ snapshot_after_move OneOwner a.core.snapshot seat step → IsMachine a → MayMove (setting_of a) seat (world_of a) step
    → IsMachine (record a { core = core })
machine_moved a core seat step same is k may = machine_with a core same k
    (subst (λ (s : Snapshot). IsConsistent (setting_of a) (record (world_of a) { snapshot = s })) (sym is) (move_kept (setting_of a) seat (world_of a) step k.set k.consistent may))
