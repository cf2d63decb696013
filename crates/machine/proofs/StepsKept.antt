-- A step on a word leaves the frames where they are, and each page mapped as it is. So the world stays consistent.
use Rattle.std.proofs.Common.{◌≡◌, ◌≢◌, ◌↔◌, ℕ, suc, ◌<◌, ◌==◌, true, false, List, [], get_or, get_or-set_same, get_or-set_other, length-set, set, bit_or, sym, refl, ap, ◌∙◌, subst, arith, Option, Some, None, is_some, IsSome}
use mathlib.Core.Logic.{dite}
use native.Mathlib.Decide.{ℕ_discrete}
use Rattle.evac_model.specs.declared.names.Kind.{Kind}
use Rattle.evac_model.specs.Page.{kind_of}
use Rattle.evac_model.specs.SpaceJournal.{SpaceState, out_for, is_frame_of, is_frame_in}
use Rattle.evac_words.specs.Word.{mapped_bit, pins_of, frame_of, bound_of}
use Rattle.evac_words.specs.Table.{entry_index}
use Rattle.core_state.specs.declared.hand.HandFrame.{HandFrame}
use Rattle.core_state.specs.declared.held.Held.{Held}
use Rattle.core_state.specs.declared.keeper.Keeper.{Keeper}
use Rattle.core_state.specs.declared.keeper.Keeper.TheVariants.{OneOwner}
use Rattle.core_state.specs.declared.opening.Opening.{Opening}
use Rattle.core_state.specs.declared.seen.Seen.TheVariants as seen
use Rattle.core_state.specs.declared.snapshot.Snapshot.{Snapshot}
use Rattle.core_state.specs.declared.step.CallDone.{CallDone}
use Rattle.core_state.specs.declared.step.Step.{Step}
use Rattle.core_state.specs.declared.step.Step.TheVariants.{Take, Draw, Load, Store, Mark, Release}
use Rattle.core_state.specs.declared.view.View.{View}
use Rattle.core_state.specs.CoreState.{CoreState, seen_by}
use Rattle.core_state.specs.HandOvers.{IsAtRest}
use Rattle.core_state.specs.Parts.{Shaped, Turn}
use Rattle.core_state.specs.Sound.{Sound}
use Rattle.core_state.specs.Stepped.{word_found, words_after, snapshot_after}
use Rattle.core_state.specs.Steps.{MayLetGo, MayEnd, MayRelease, with_hand_store, held_page, word_after_release, pins_after, Allowed, view_after}
use Rattle.core_state.specs.Views.{Has, view_of, spent, hand_frame}
use Rattle.core_state.specs.Words.{entry_word_of, kind_in, released_word}
use Rattle.core_state.proofs.EntryWords.{same_flags-take, mapped_bit-released, unmovable_bit-released, frame_of-released}
use Rattle.core_state.proofs.FrameSteps.{hand-set_same}
use Rattle.core_state.proofs.Holding.{for_some}
use Rattle.core_state.proofs.Rooms.{seat_has}
use Rattle.core_state.proofs.SoundSteps.{steps_keep_sound}
use Rattle.core_state.proofs.WordsAt.{entry_word-here, entry_word-elsewhere, entry_word-other, entry_within}
use Rattle.machine.specs.declared.action.Heard.{Heard}
use Rattle.machine.specs.declared.action.Heard.TheVariants as heard
use Rattle.machine.specs.declared.parts.Parts.{Parts}
use Rattle.machine.specs.Consistent.{IsSetting, IsConsistent}
use Rattle.machine.specs.Made.{Made, heard_by, step_made}
use Rattle.machine.specs.MachineInside.{IsMachine, setting_of, world_of, made_of}
use Rattle.machine.specs.MayMake.{MayStep}
use Rattle.machine.specs.World.{Setting, World, scanner_seat, free_seat, unplugged_seat, IsOwnerSeat, IsActorSeat, HasFrame, space_now, unplugged_now, is_held}
use Rattle.machine.proofs.Quiet.{mover_kept, quiet_set, actor_there, mover_at}

-- ---- other words, and another view of an actor

-- where the word maps the page, the frame is out for it, with its kind
abbrev pub IsMappedOut : SpaceState → (page word : ℕ) → Type 0
IsMappedOut st page word = mapped_bit word ≡ 1 → out_for st (frame_of word) ≡ Some (record { page = page; kind = kind_in word })

-- the driver has the frames of the blocks that it holds
pub driver_has : (c : Setting) (w : World) (seat : ℕ) → IsConsistent c w → seat ≡ 0 → (block frame : ℕ) → is_held c w block ≡ true → is_frame_of c.sizes block frame ≡ true → HasFrame w seat frame
driver_has c w seat k first block frame held its = subst (λ (i : ℕ). HasFrame w i frame) (sym first) (k.driver block frame held its)

module _ (c : Setting) (w : World) (seat : ℕ) (words : List ℕ) (v : View) (k : IsConsistent c w) (actor : IsActorSeat c seat) where
  abbrev st : SpaceState
  st = space_now c w

  abbrev views : List View
  views = set w.snapshot.views seat v

  view_else : (i : ℕ) → i ≢ seat → view_of views i ≡ view_of w.snapshot.views i
  view_else i ne = get_or-set_other w.snapshot.views seat i v spent ne

  -- the seats behind the owners'
  view_behind : (i : ℕ) → c.owners < i → view_of views i ≡ view_of w.snapshot.views i
  view_behind i past = view_else i (λ e. omega arith)

  view_at : (i : ℕ) → i ≡ seat → view_of views i ≡ v
  view_at i e = ap (λ (j : ℕ). view_of views j) e ∙ get_or-set_same w.snapshot.views seat v spent (actor_there c w seat k actor)

  -- the view of an owner has frames alone that are out, and that of the driver those of the blocks that it holds
  pub consistent_with : Sound c.opening words views → ((i : ℕ) → seat ≡ suc i → v.mover ≡ []) → ((page : ℕ) → page < c.sizes.pages → IsMappedOut st page (entry_word_of words page))
      → (IsOwnerSeat c seat → (frame : ℕ) → IsSome (hand_frame v frame) → out_for st frame ≢ None)
      → (seat ≡ 0 → (block frame : ℕ) → is_held c w block ≡ true → is_frame_of c.sizes block frame ≡ true → IsSome (hand_frame v frame))
      → IsConsistent c (record w { snapshot = record { words = words; views = views } })
  consistent_with sound still mapped out held = record {
    sound = sound;
    seats = length-set w.snapshot.views seat v ∙ k.seats;
    quiet = quiet_set w.snapshot.views seat v still k.quiet;
    keeper_rests = subst (λ (u : View). IsAtRest c.opening u) (sym (view_behind (free_seat c) (omega arith))) k.keeper_rests;
    unplugged_rests = subst (λ (u : View). IsAtRest c.opening u) (sym (view_behind (unplugged_seat c) (omega arith))) k.unplugged_rests;
    possible = k.possible;
    answered = k.answered;
    free = λ frame low. subst (λ (u : View). IsSome (hand_frame u frame) ↔ ((out_for st frame ≡ None) × (is_frame_in c.sizes st.offline frame ≡ false))) (sym (view_behind (free_seat c) (omega arith))) (k.free frame low);
    unplugged = λ frame low. subst (λ (u : View). IsSome (hand_frame u frame) ↔ (is_frame_in c.sizes (unplugged_now c w) frame ≡ true)) (sym (view_behind (unplugged_seat c) (omega arith))) (k.unplugged frame low);
    driver = λ block frame is its. dite (ℕ_discrete 0 seat)
        (λ e. subst (λ (u : View). IsSome (hand_frame u frame)) (sym (view_at 0 e)) (held (sym e) block frame is its))
        (λ ne. subst (λ (u : View). IsSome (hand_frame u frame)) (sym (view_else 0 ne)) (k.driver block frame is its));
    scanner = λ frame. ap (λ (u : View). hand_frame u frame) (view_behind (scanner_seat c) (omega arith)) ∙ k.scanner frame;
    offline = k.offline;
    mapped = mapped;
    in_hand = λ i frame at has. dite (ℕ_discrete i seat)
        (λ e. out (subst (λ (j : ℕ). IsOwnerSeat c j) e at) frame (subst (λ (u : View). IsSome (hand_frame u frame)) (view_at i e) has))
        (λ ne. k.in_hand i frame at (subst (λ (u : View). IsSome (hand_frame u frame)) (view_else i ne) has));
  }

-- ---- the entry words

-- the one word maps its page as the other does
pub record MapsAs (w x : ℕ) : Type 0 where
  pub mapped : mapped_bit w ≡ mapped_bit x
  pub frame : frame_of w ≡ frame_of x
  pub kind : kind_in w ≡ kind_in x

-- then its frame is out, too
pub maps_out : (st : SpaceState) (page w x : ℕ) → MapsAs w x → IsMappedOut st page x → IsMappedOut st page w
maps_out st page w x same out on =
    ap (λ (f : ℕ). out_for st f) same.frame ∙ (out (sym same.mapped ∙ on) ∙ ap (λ (d : Kind). Some (record { page = page; kind = d })) (sym same.kind))

maps_same : (w x : ℕ) → w ≡ x → MapsAs w x
maps_same w x e = record { mapped = ap (λ (n : ℕ). mapped_bit n) e; frame = ap (λ (n : ℕ). frame_of n) e; kind = ap (λ (n : ℕ). kind_in n) e }

maps_taken : (w : ℕ) → MapsAs (bit_or w 1) w
maps_taken w = let f = same_flags-take w in record { mapped = f.mapped; frame = f.frame; kind = ap (λ (u : ℕ). kind_of (u == 0)) f.unmovable }

maps_released : (w x k b : ℕ) → k < 64 → x ≡ w → MapsAs (released_word w k b) x
maps_released w x k b low e = record {
  mapped = mapped_bit-released w k b low ∙ ap (λ (n : ℕ). mapped_bit n) (sym e);
  frame = frame_of-released w k b low ∙ ap (λ (n : ℕ). frame_of n) (sym e);
  kind = ap (λ (u : ℕ). kind_of (u == 0)) (unmovable_bit-released w k b low) ∙ ap (λ (n : ℕ). kind_in n) (sym e);
}

module _ (o : Opening) (words : List ℕ) (shaped : Shaped o words) where
  -- a word that isn't a page's is written
  maps_elsewhere : (j n page : ℕ) → entry_index page ≢ j → MapsAs (entry_word_of (set words j n) page) (entry_word_of words page)
  maps_elsewhere j n page ne = maps_same _ _ (entry_word-elsewhere words j n page ne)

  -- a page's word is written, and maps as it did
  maps_again : (q n page : ℕ) → page < o.pages → MapsAs n (entry_word_of words q) → MapsAs (entry_word_of (set words (entry_index q) n) page) (entry_word_of words page)
  maps_again q n page low same = dite (ℕ_discrete page q)
      (λ e. subst (λ (k : ℕ). MapsAs (entry_word_of (set words (entry_index k) n) page) (entry_word_of words page)) e
      (subst (λ (w : ℕ). MapsAs w (entry_word_of words page)) (sym (entry_word-here words n page (entry_within o words page shaped low)))
      (subst (λ (k : ℕ). MapsAs n (entry_word_of words k)) (sym e) same)))
      (λ ne. maps_same _ _ (entry_word-other words q n page ne))

  module _ (views : List View) (seat : ℕ) (v : View) (has : Has views seat v) (turn : Turn o words views) where
    abbrev Releases : Option CallDone → ℕ → Option Held → Type 0
    Releases end page held = MapsAs (entry_word_of (set words (entry_index (held_page held)) (word_after_release held end)) page) (entry_word_of words page)

    maps_release : (end : Option CallDone) → MayRelease o v end → (page : ℕ) → page < o.pages → Releases end page v.held
    maps_release None may page low =
        let q = for_some v.held (MayLetGo o v) may.1 in
        let h = q.0 in
        subst (Releases None page) (sym q.1)
        (maps_again h.page.0 (released_word h.word (pins_of h.word) (bound_of h.word)) page low (maps_released h.word (entry_word_of words h.page.0) (pins_of h.word) (bound_of h.word) (omega arith) ((turn.held_word seat v h has q.1).1)))
    maps_release (Some d) may page low =
        let q = for_some v.held (MayEnd o d) may.1 in
        let h = q.0 in
        let few = q.2.pins_fit in
        subst (Releases (Some d) page) (sym q.1)
        (maps_again h.page.0 (word_after_release (Some h) (Some d)) page low (maps_released h.word (entry_word_of words h.page.0) (pins_after d.call d.reply (pins_of h.word)) _ (omega arith) ((turn.held_word seat v h has q.1).1)))

    -- each page's word maps as it did
    pub maps_step : (step : Step) → Allowed o v step → (page : ℕ) → page < o.pages → MapsAs (entry_word_of (words_after o words v step) page) (entry_word_of words page)
    maps_step (Take p) may page low = maps_again p.0 (bit_or (entry_word_of words p.0) 1) page low (maps_taken (entry_word_of words p.0))
    maps_step Draw may page low = maps_elsewhere 0 _ page (λ e. absurd (omega arith))
    maps_step (Load cell) may page low = maps_elsewhere _ _ page (λ e. absurd (omega arith))
    maps_step (Store frame cell value) may page low = maps_elsewhere _ _ page (λ e. absurd (omega arith))
    maps_step (Mark frame) may page low = maps_elsewhere _ _ page (λ e. absurd (omega arith))
    maps_step (Release end) may page low = maps_release end may page low

-- ---- the hand

same_stored : (x : Option HandFrame) (cell value : ℕ) → is_some (with_hand_store x cell value) ≡ is_some x
same_stored None cell value = refl
same_stored (Some x) cell value = refl

-- the frames in hand are those that were
same_frames : (k : Keeper) (v : View) (step : Step) (found f : ℕ) → is_some (hand_frame (view_after k v step found) f) ≡ is_some (hand_frame v f)
same_frames k v (Take page) found f = refl
same_frames k v Draw found f = refl
same_frames k v (Load cell) found f = refl
same_frames k v (Store frame cell value) found f =
    let stored = with_hand_store (hand_frame v frame.0) cell value in
    dite (ℕ_discrete f frame.0)
    (λ e. subst (λ (g : ℕ). is_some (get_or (set v.hand frame.0 stored) g None) ≡ is_some (hand_frame v g)) (sym e)
    (ap (λ (x : Option HandFrame). is_some x) (hand-set_same v.hand frame.0 stored (λ none. ap (λ (x : Option HandFrame). with_hand_store x cell value) none)) ∙ same_stored (hand_frame v frame.0) cell value))
    (λ ne. ap (λ (x : Option HandFrame). is_some x) (get_or-set_other v.hand frame.0 f stored None ne))
same_frames k v (Mark frame) found f = refl
same_frames k v (Release None) found f = refl
same_frames k v (Release (Some d)) found f = refl

pub hand_before : (k : Keeper) (v : View) (step : Step) (found f : ℕ) → IsSome (hand_frame (view_after k v step found) f) → IsSome (hand_frame v f)
hand_before k v step found f some = sym (same_frames k v step found f) ∙ some

pub hand_behind : (k : Keeper) (v : View) (step : Step) (found f : ℕ) → IsSome (hand_frame v f) → IsSome (hand_frame (view_after k v step found) f)
hand_behind k v step found f some = same_frames k v step found f ∙ some

-- ---- the step

pub step_kept : (c : Setting) (seat : ℕ) (w : World) (step : Step) → IsSetting c → IsConsistent c w → MayStep c seat w step → IsConsistent c (step_made c seat w step).world
step_kept c seat w step r k may =
    let v = view_of w.snapshot.views seat in
    let has = seat_has w.snapshot.views seat (actor_there c w seat k may.actor) in
    let found = word_found c.opening w.snapshot.words v step in
    consistent_with c w seat (words_after c.opening w.snapshot.words v step) (view_after OneOwner v step found) k may.actor
    (steps_keep_sound OneOwner c.opening w.snapshot.words w.snapshot.views seat v step has k.sound may.allowed)
    (λ i e. mover_kept OneOwner v step found ∙ mover_at c w seat k may.actor i e)
    (λ page low. maps_out (space_now c w) page _ (entry_word_of w.snapshot.words page)
    (maps_step c.opening w.snapshot.words k.sound.shaped w.snapshot.views seat v has k.sound.turn step may.allowed page (let e = r.pages in omega arith)) (k.mapped page low))
    (λ owner frame some. k.in_hand seat frame owner (hand_before OneOwner v step found frame some))
    (λ first block frame held its. hand_behind OneOwner v step found frame (driver_has c w seat k first block frame held its))

-- ---- the parts of a machine

-- the machine with another core of the same opening
pub machine_with : (a : Parts) (core : CoreState) → core.opening ≡ a.core.opening → IsMachine a → IsConsistent (setting_of a) (record (world_of a) { snapshot = core.snapshot }) → IsMachine (record a { core = core })
machine_with a core same k kept = record {
  set = subst (λ (o : Opening). IsSetting (record (setting_of a) { opening = o })) (sym same) k.set;
  consistent = subst (λ (o : Opening). IsConsistent (record (setting_of a) { opening = o }) (record (world_of a) { snapshot = core.snapshot })) (sym same) kept;
  device = k.device;
  backing = k.backing;
  held = k.held;
  rising = k.rising;
  room = k.room;
}

-- the machine behind a step
pub machine_stepped : (a : Parts) (core : CoreState) (seat : ℕ) (step : Step) → core.opening ≡ a.core.opening → core.snapshot ≡ snapshot_after OneOwner a.core.opening a.core.snapshot seat step → IsMachine a → MayStep (setting_of a) seat (world_of a) step
    → IsMachine (record a { core = core })
machine_stepped a core seat step same is k may = machine_with a core same k
    (subst (λ (s : Snapshot). IsConsistent (setting_of a) (record (world_of a) { snapshot = s })) (sym is) (step_kept (setting_of a) seat (world_of a) step k.set k.consistent may))

-- and what its actor hears
pub step_heard : (a : Parts) (core : CoreState) (seat : ℕ) (step : Step) (hears : Heard) → core.snapshot ≡ snapshot_after OneOwner a.core.opening a.core.snapshot seat step
    → hears ≡ heard_by step (word_found a.core.opening a.core.snapshot.words (view_of a.core.snapshot.views seat) step) → made_of (record a { core = core }) hears ≡ step_made (setting_of a) seat (world_of a) step
step_heard a core seat step hears is said =
    let make : Snapshot → Heard → Made = λ s h. record { world = record (world_of a) { snapshot = s }; heard = h } in
    ap (λ (s : Snapshot). make s hears) is ∙ ap (λ (h : Heard). make (snapshot_after OneOwner a.core.opening a.core.snapshot seat step) h) said

-- what the seat sees of its step is what the actor hears
pub heard_word : (step : Step) (found word : ℕ) → seen_by step found ≡ seen.Word word → heard.Word word ≡ heard_by step found
heard_word step found word e = grind (arith)

pub heard_nothing : (step : Step) (found : ℕ) → seen_by step found ≡ seen.Nothing → heard.Nothing ≡ heard_by step found
heard_nothing step found e = grind (arith)
