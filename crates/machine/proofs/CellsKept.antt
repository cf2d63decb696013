-- Each cell of each frame has a number of 64 bits: all are 0 at the start, a store leaves such a number in one, and no other
-- action writes a cell.
use Rattle.std.proofs.Common.{◌≡◌, ℕ, zero, suc, ◌+◌, ◌<◌, ◌^◌, List, [], ◌∷◌, get_or, get_or-set_other, set, bit_or, sym, refl, ap, ◌∙◌, subst, arith, Option, Some, None}
use Rattle.std.proofs.lemmas.List.{set-get_or}
use Rattle.std.specs.List.{AllByRecursion}
use Rattle.evac_model.specs.declared.device.Response.{Response}
use Rattle.evac_model.specs.declared.names.BlockNo.{BlockNo}
use Rattle.evac_model.specs.declared.names.FrameNo.{FrameNo}
use Rattle.evac_model.specs.declared.names.Kind.{Kind}
use Rattle.evac_model.specs.declared.names.Kind.TheVariants.{Movable}
use Rattle.evac_model.specs.declared.names.PageNo.{PageNo}
use Rattle.evac_model.specs.declared.scenario.StartPage.{StartPage}
use Rattle.evac_model.specs.DeviceAnswer.{request_in}
use Rattle.evac_model.specs.DeviceJournal.{answer_to}
use Rattle.evac_model.specs.Geometry.{Sizes, frame_count, first_frame}
use Rattle.evac_model.specs.HostCommands.{plugged_by, blocks_of}
use Rattle.evac_model.specs.SpaceJournal.{Leased, lease_of}
use Rattle.evac_model.specs.StartPages.{IsStartPage}
use Rattle.evac_model.proofs.Lists.{get_or-replicate_same}
use Rattle.evac_words.specs.Table.{entry_index, dirty_index, cell_index, table_length}
use Rattle.core_state.specs.declared.held.Held.{Held}
use Rattle.core_state.specs.declared.snapshot.Snapshot.{Snapshot}
use Rattle.core_state.specs.declared.step.MoveStep.{MoveStep}
use Rattle.core_state.specs.declared.step.Step.{Step}
use Rattle.core_state.specs.declared.step.Step.TheVariants.{Take, Draw, Load, Store, Mark, Release}
use Rattle.core_state.specs.declared.view.View.{View}
use Rattle.core_state.specs.CoreOpens.{opening_words}
use Rattle.core_state.specs.Sound.{Sound}
use Rattle.core_state.specs.Stepped.{words_after, words_after_move}
use Rattle.core_state.specs.Steps.{Allowed, held_page, word_index, word_after_release}
use Rattle.core_state.specs.MoveSteps.{word_after_move}
use Rattle.core_state.specs.Views.{Has, view_of}
use Rattle.core_state.specs.Words.{mapped_word}
use Rattle.core_state.proofs.Rooms.{seat_has}
use Rattle.core_state.proofs.StepPlaces.{owned_frame}
use Rattle.core_state.proofs.TurnSteps.{holds_mine}
use Rattle.space.specs.Refusals.{first_unmovable, next_out}
use Rattle.machine.specs.declared.action.Action.{Action}
use Rattle.machine.specs.declared.action.Action.TheVariants as actions
use Rattle.machine.specs.declared.action.BlockCall.{BlockCall}
use Rattle.machine.specs.declared.action.BlockCall.TheVariants.{Isolate, Target, Undo, Offline, Online}
use Rattle.machine.specs.declared.action.DeviceCall.{DeviceCall}
use Rattle.machine.specs.declared.action.DeviceCall.TheVariants.{Request, Config}
use Rattle.machine.specs.declared.action.SpaceCall.{SpaceCall}
use Rattle.machine.specs.declared.action.SpaceCall.TheVariants.{Lease, Return}
use Rattle.machine.specs.CellNumbers.{HaveNumbersInCells}
use Rattle.machine.specs.Consistent.{IsSetting, IsConsistent}
use Rattle.machine.specs.Made.{lease_made, isolate_made, target_made, handed_frames, handed_blocks, unplugged_by, request_made, space_made, block_made, device_made, made}
use Rattle.machine.specs.MayMake.{MayMake}
use Rattle.machine.specs.Start.{MayStart, setting_at_start}
use Rattle.machine.specs.World.{Setting, World, unplugged_seat, space_now, device_now, calls_now}
use Rattle.machine.proofs.Quiet.{actor_there}

-- ---- at the start

-- start pages have entry words alone, which lie before the cells
cells_zero : (s : Sizes) (start : List StartPage) → AllByRecursion (IsStartPage s) start → (frame cell : ℕ) → get_or (opening_words s start) (cell_index s.pages (frame_count s) s.cells frame cell) 0 ≡ 0
cells_zero s [] each frame cell = get_or-replicate_same (table_length s.pages (frame_count s) s.cells) (cell_index s.pages (frame_count s) s.cells frame cell) 0
cells_zero s (p ∷ start) each frame cell =
    let low = each.0.page in
    get_or-set_other (opening_words s start) (entry_index p.page.0) (cell_index s.pages (frame_count s) s.cells frame cell) (mapped_word 0 p.frame.0 p.kind) 0 (λ e. absurd (omega arith))
    ∙ cells_zero s start each.1 frame cell

pub cells_at_start : (s : Sizes) (online : Kind) (start : List StartPage) (budgets fails : List ℕ) → MayStart s online start budgets → HaveNumbersInCells (setting_at_start s online start budgets fails) (opening_words s start)
cells_at_start s online start budgets fails may frame cell there in_frame = let zero_there = cells_zero s start may.start.each frame cell in omega arith

-- ---- a word is written

-- a number of 64 bits, in any place
small_put : (words : List ℕ) (j n i : ℕ) → n < 2 ^ 64 → get_or words i 0 < 2 ^ 64 → get_or (set words j n) i 0 < 2 ^ 64
small_put [] j n i fits small = small
small_put (x ∷ words) zero n zero fits small = fits
small_put (x ∷ words) zero n (suc i) fits small = small
small_put (x ∷ words) (suc j) n zero fits small = small
small_put (x ∷ words) (suc j) n (suc i) fits small = small_put words j n i fits small

module _ (c : Setting) (words : List ℕ) (cells : HaveNumbersInCells c words) where
  -- a word before the cells
  put_before : (j n : ℕ) → j < 1 + c.opening.pages + c.opening.frames → HaveNumbersInCells c (set words j n)
  put_before j n before frame cell there in_frame =
      let i = cell_index c.opening.pages c.opening.frames c.opening.cells frame cell in
      subst (λ (x : ℕ). x < 2 ^ 64) (sym (get_or-set_other words j i n 0 (λ e. absurd (omega arith)))) (cells frame cell there in_frame)

  put_small : (j n : ℕ) → n < 2 ^ 64 → HaveNumbersInCells c (set words j n)
  put_small j n fits frame cell there in_frame = small_put words j n (cell_index c.opening.pages c.opening.frames c.opening.cells frame cell) fits (cells frame cell there in_frame)

  -- the word that stands there
  put_again : (j : ℕ) → HaveNumbersInCells c (set words j (get_or words j 0))
  put_again j = subst (HaveNumbersInCells c) (sym (set-get_or words j 0)) cells

  -- the entry word of the page that a view holds
  module _ (views : List View) (sound : Sound c.opening words views) (seat : ℕ) (v : View) (has : Has views seat v) where
    put_held : (n : ℕ) → HaveNumbersInCells c (set words (entry_index (held_page v.held)) n)
    put_held n = λ frame cell there in_frame. put_before (entry_index (held_page v.held)) n (before frame there v.held refl) frame cell there in_frame where
      before : (frame : ℕ) → frame < c.opening.frames → (m : Option Held) → v.held ≡ m → entry_index (held_page v.held) < 1 + c.opening.pages + c.opening.frames
      before frame there None e = let none : held_page v.held ≡ 0 = ap held_page e in omega arith
      before frame there (Some h) e =
          let same : held_page v.held ≡ h.page.0 = ap held_page e in
          let low = holds_mine c.opening words views seat v sound.turn has h e in
          omega arith

    step_cells : (step : Step) → Allowed c.opening v step → HaveNumbersInCells c (words_after c.opening words v step)
    step_cells (Take p) may = let low = may.in_range in put_before (entry_index p.0) (bit_or (get_or words (entry_index p.0) 0) 1) (omega arith)
    step_cells Draw may = put_before 0 (get_or words 0 0 + 1) (omega arith)
    step_cells (Load cell) may = put_again (word_index c.opening v (Load cell))
    step_cells (Store frame cell value) may = put_small (word_index c.opening v (Store frame cell value)) value may.fits
    step_cells (Mark frame) may = let low = owned_frame c.opening words views sound seat v has frame.0 may in put_before (dirty_index c.opening.pages frame.0) 1 (omega arith)
    step_cells (Release end) may = put_held (word_after_release v.held end)

    move_cells : (step : MoveStep) → HaveNumbersInCells c (words_after_move words v step)
    move_cells step = put_held (word_after_move v step)

-- ---- hand-overs leave the words

handed_words : (s : Sizes) (from to : ℕ) (blocks : List ℕ) (x : Snapshot) → (handed_blocks s x from to blocks).words ≡ x.words
handed_words s from to [] x = refl
handed_words s from to (block ∷ more) x = handed_words s from to more (handed_frames x from to (first_frame s block) s.block)

module _ (c : Setting) (seat : ℕ) (w : World) (cells : HaveNumbersInCells c w.snapshot.words) where
  abbrev HaveStill : World → Type 0
  HaveStill then = HaveNumbersInCells c then.snapshot.words

  lease_cells : (page : PageNo) (kind : Kind) (l : Option Leased) → HaveStill (lease_made c seat w page kind l).world
  lease_cells page kind None = cells
  lease_cells page kind (Some l) = cells

  space_cells : (call : SpaceCall) → HaveStill (space_made c seat w call).world
  space_cells (Lease page kind) = lease_cells page kind (lease_of c.sizes c.online (space_now c w) seat kind)
  space_cells (Return frame) = cells

  isolate_cells : (block : BlockNo) (unmovable : Option (FrameNo × PageNo)) → HaveStill (isolate_made w block unmovable).world
  isolate_cells block None = cells
  isolate_cells block (Some at) = cells

  target_cells : (next : Option (FrameNo × PageNo)) (l : Option Leased) → HaveStill (target_made c w next l).world
  target_cells None l = cells
  target_cells (Some at) None = cells
  target_cells (Some at) (Some l) = cells

  block_cells : (call : BlockCall) → HaveStill (block_made c w call).world
  block_cells (Isolate block) = isolate_cells block (first_unmovable c.sizes (space_now c w) block.0)
  block_cells (Target block after) = target_cells (next_out c.sizes (space_now c w) block.0 after) (lease_of c.sizes c.online (space_now c w) 0 Movable)
  block_cells (Undo block) = cells
  block_cells (Offline block) = cells
  block_cells (Online block) = cells

  request_cells : (bytes : List ℕ) (response : Response) → HaveStill (request_made c w bytes response).world
  request_cells bytes response =
      let plugged = blocks_of (plugged_by c.sizes (request_in bytes) response) in
      let unplugged = unplugged_by c.sizes (device_now c w).plugged (request_in bytes) response in
      let given = handed_blocks c.sizes w.snapshot (unplugged_seat c) 0 plugged in
      subst (HaveNumbersInCells c) (sym (handed_words c.sizes 0 (unplugged_seat c) unplugged given ∙ handed_words c.sizes (unplugged_seat c) 0 plugged w.snapshot)) cells

  device_cells : (call : DeviceCall) → HaveStill (device_made c w call).world
  device_cells (Request bytes) = request_cells bytes (answer_to c.sizes (device_now c w) (calls_now c w) bytes)
  device_cells Config = cells

  -- ---- any action

  module _ (k : IsConsistent c w) where
    abbrev v : View
    v = view_of w.snapshot.views seat

    action_cells : (action : Action) → MayMake c seat w action → HaveStill (made c seat w action).world
    action_cells (actions.Step step) may = step_cells c w.snapshot.words cells w.snapshot.views k.sound seat v (seat_has w.snapshot.views seat (actor_there c w seat k may.actor)) step may.allowed
    action_cells (actions.Move step) may = move_cells c w.snapshot.words cells w.snapshot.views k.sound seat v (seat_has w.snapshot.views seat (actor_there c w seat k may.actor)) step
    action_cells (actions.Space call) may = space_cells call
    action_cells (actions.Block call) may = block_cells call
    action_cells (actions.Device call) may = device_cells call
    action_cells actions.Ended may = cells

pub cells_kept : (c : Setting) (seat : ℕ) (w : World) (action : Action) → IsSetting c → IsConsistent c w → MayMake c seat w action → HaveNumbersInCells c w.snapshot.words → HaveNumbersInCells c (made c seat w action).world.snapshot.words
cells_kept c seat w action set k may cells = action_cells c seat w cells k action may
