-- The frames in the driver's hand are those of the blocks that it holds, also behind an action that takes a block away, puts
-- one online, or asks the device.
use Rattle.std.proofs.Common.{◌≡◌, ℕ, ◌==◌, true, false, not, ◌||◌, List, refl, sym, ap, ◌∙◌, ⊎_elim}
use Rattle.std.specs.List.{range_with_len}
use Rattle.std.proofs.lemmas.Bool.{and_parts, and_from, or_left, or_right, or_cases, both_ways, not-true, not_from_false, false_from_ne_true, eqb-true, eq-eqb}
use Rattle.evac_model.specs.declared.device.Response.{Response}
use Rattle.evac_model.specs.declared.names.BlockNo.{BlockNo}
use Rattle.evac_model.specs.DeviceAnswer.{request_in}
use Rattle.evac_model.specs.DeviceJournal.{answer_to}
use Rattle.evac_model.specs.HostCommands.{plugged_by, blocks_of}
use Rattle.evac_model.specs.Numbers.{is_in}
use Rattle.evac_model.specs.SpaceJournal.{is_frame_of, is_frame_in}
use Rattle.space.proofs.BlockFrames.{frame_in_witness, frame_in_from}
use Rattle.machine.specs.Consistent.{IsSetting, IsConsistent}
use Rattle.machine.specs.Made.{offline_made, online_made, unplugged_by, request_made}
use Rattle.machine.specs.MayMake.{MayTakeOffline, MayPutOnline, MayRequest}
use Rattle.machine.specs.World.{Setting, World, HasFrame, device_now, calls_now, is_held}
use Rattle.machine.proofs.BlockFrames.{frame_in-one}
use Rattle.machine.proofs.HandedFrames.{has_frame}
use Rattle.machine.proofs.OfflinesKept.{held_offline, driver_offline}
use Rattle.machine.proofs.OnlinesKept.{held_online, driver_online}
use Rattle.machine.proofs.RequestsKept.{held_request, driver_request}
use Rattle.core_actors.specs.HostSeat.{IsOfHeldBlock}

abbrev pub AreOfHeldBlocks : Setting → World → Type 0
AreOfHeldBlocks c w = (frame : ℕ) → HasFrame w 0 frame → IsOfHeldBlock c w frame

module _ (c : Setting) (w : World) (set : IsSetting c) (k : IsConsistent c w) (hand : AreOfHeldBlocks c w) where
  -- ---- a block

  module _ (block : BlockNo) where
    -- the block alone
    abbrev one : List ℕ
    one = range_with_len block.0 1

    -- its frames come in the hand
    pub held_frames_offline : MayTakeOffline c 0 w block → AreOfHeldBlocks c (offline_made c w block).world
    held_frames_offline may f has = ⊎_elim
        (λ had.
        let b = hand f had in
        record { block = b.block; held = held_offline c w block set k may b.block ∙ or_left (is_held c w b.block) (b.block == block.0) b.held; in_block = b.in_block })
        (λ its.
        record { block = block.0; held = held_offline c w block set k may block.0 ∙ or_right (is_held c w block.0) (block.0 == block.0) (eq-eqb block.0 block.0 refl); in_block = sym (frame_in-one c.sizes block.0 f) ∙ its })
        (or_cases (has_frame w.snapshot.views 0 f) (is_frame_in c.sizes one f) (sym (driver_offline c w block set k may f) ∙ has))

    -- they go from it
    pub held_frames_online : MayPutOnline c 0 w block → AreOfHeldBlocks c (online_made c w block).world
    held_frames_online may f has =
        let parts = and_parts (has_frame w.snapshot.views 0 f) (not (is_frame_in c.sizes one f)) (sym (driver_online c w block set k may f) ∙ has) in
        let b = hand f parts.0 in
        let apart : is_frame_of c.sizes block.0 f ≡ false = sym (frame_in-one c.sizes block.0 f) ∙ not-true (is_frame_in c.sizes one f) parts.1 in
        let other : (b.block == block.0) ≡ false = false_from_ne_true (b.block == block.0) (λ e.
        both_ways (is_frame_of c.sizes block.0 f) apart (ap (λ (n : ℕ). is_frame_of c.sizes n f) (sym (eqb-true b.block block.0 e)) ∙ b.in_block)) in
        record { block = b.block; held = held_online c w block set k may b.block ∙ and_from (is_held c w b.block) (not (b.block == block.0)) b.held (not_from_false (b.block == block.0) other); in_block = b.in_block }

  -- ---- a request

  module _ (bytes : List ℕ) (may : MayRequest c 0 w bytes) where
    abbrev response : Response
    response = answer_to c.sizes (device_now c w) (calls_now c w) bytes

    -- the blocks that it plugs, and those that it unplugs
    abbrev came : List ℕ
    came = blocks_of (plugged_by c.sizes (request_in bytes) response)

    abbrev gone : List ℕ
    gone = unplugged_by c.sizes (device_now c w).plugged (request_in bytes) response

    -- a frame of a block that was held or came, and isn't gone
    of_held : (block f : ℕ) → (is_held c w block || is_in block came) ≡ true → is_frame_of c.sizes block f ≡ true → is_frame_in c.sizes gone f ≡ false → IsOfHeldBlock c (request_made c w bytes response).world f
    of_held block f had its still =
        let stays : is_in block gone ≡ false = false_from_ne_true (is_in block gone) (λ left. both_ways (is_frame_in c.sizes gone f) still (frame_in_from c.sizes gone block f left its)) in
        record { block = block; held = held_request c w bytes set k may block ∙ and_from (is_held c w block || is_in block came) (not (is_in block gone)) had (not_from_false (is_in block gone) stays); in_block = its }

    -- the frames of the first come in the hand, those of the others go from it
    pub held_frames_request : AreOfHeldBlocks c (request_made c w bytes response).world
    held_frames_request f has =
        let parts = and_parts (has_frame w.snapshot.views 0 f || is_frame_in c.sizes came f) (not (is_frame_in c.sizes gone f)) (sym (driver_request c w bytes set k may f) ∙ has) in
        let still : is_frame_in c.sizes gone f ≡ false = not-true (is_frame_in c.sizes gone f) parts.1 in
        ⊎_elim
        (λ had. let b = hand f had in of_held b.block f (or_left (is_held c w b.block) (is_in b.block came) b.held) b.in_block still)
        (λ new. let q = frame_in_witness c.sizes came f new in of_held q.0 f (or_right (is_held c w q.0) (is_in q.0 came) q.1) q.2 still)
        (or_cases (has_frame w.snapshot.views 0 f) (is_frame_in c.sizes came f) parts.0)
