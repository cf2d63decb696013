-- The frame space and the device behind what the host does between the evacuations of blocks: an emptied block is taken away, its cells
-- are zeroed, the device is asked, and blocks are put online.
use Rattle.std.proofs.Common.{◌≡◌, ℕ, zero, suc, ◌+◌, ◌-◌, ◌<◌, ◌≤◌, ◌==◌, ◌&&◌, ◌||◌, nat_lt, if◌then◌else◌, Bool, true, false, not, List, [], ◌∷◌, ◌++◌, length, drop, get_or, refl, sym, ap, ◌∙◌, subst, arith}
use Rattle.std.proofs.Math.Bool.{and-true, or-false, or_comm}
use Rattle.std.proofs.Math.Seq.{drop-cons}
use Rattle.std.proofs.lemmas.Bool.{true≢false, eqb-true, ltb-true}
use Rattle.std.proofs.lemmas.Option.{get_or_from_slice_get}
use Rattle.evac_model.specs.declared.host.HostCommand.{HostCommand}
use Rattle.evac_model.specs.declared.host.HostCommand.TheVariants as commands
use Rattle.evac_model.specs.declared.host.HostResult.{HostResult}
use Rattle.evac_model.specs.declared.names.BlockNo.{BlockNo}
use Rattle.evac_model.specs.declared.names.FrameNo.{FrameNo}
use Rattle.evac_model.specs.declared.space.SpaceAction.TheVariants as space
use Rattle.evac_model.specs.Geometry.{Sizes, first_frame}
use Rattle.evac_model.specs.Numbers.{is_in, AreDistinct}
use Rattle.evac_model.specs.SpaceJournal.{SpaceState, after_action}
use Rattle.evac_model.proofs.Bounds.{power_to_512_least}
use Rattle.core_state.specs.declared.snapshot.Snapshot.{Snapshot}
use Rattle.evacuate.specs.declared.stage.Stage.{Stage}
use Rattle.evacuate.specs.Tale.{Tale, nothing_tried}
use Rattle.host_work.specs.Requests.{block_no, emptied_lines}
use Rattle.space.proofs.BlockFrames.{frame_from, in_block, is_in-with_block, is_in-without_block}
use Rattle.space.proofs.Journals.{space_after-append}
use Rattle.machine.specs.Consistent.{IsSetting, IsConsistent}
use Rattle.machine.specs.Made.{Made, offline_made, online_made, made}
use Rattle.machine.specs.MayMake.{MayTakeOffline, MayPutOnline, MayMake}
use Rattle.machine.specs.World.{Setting, World, space_now, device_now}
use Rattle.machine.proofs.OfflinesKept.{offline_managed, held_offline}
use Rattle.machine.proofs.OnlinesKept.{held_online, online_kept}
use Rattle.machine.proofs.SpaceNow.{space_is}
use Rattle.core_actors.specs.declared.host_place.HostPlace.{HostPlace}
use Rattle.core_actors.specs.declared.host_place.HostPlace.TheVariants as places
use Rattle.core_actors.specs.HostHears.{host_after}
use Rattle.core_actors.specs.HostSeat.{HostSeat}
use Rattle.core_actors.specs.HostSpace.{has_isolated, HostSpace, tale_heard}
use Rattle.core_actors.specs.Hosts.{HostState, away, first_of, next_block, host_action, host_ended}
use Rattle.core_actors.proofs.HostAsked.{asked, configured}
use Rattle.core_actors.proofs.HostBegins.{HasBlocks, has_blocks, next_begins, has_result}
use Rattle.core_actors.proofs.HostPlaces.{IsBlockPlace}

-- ---- blocks from a place on

distinct_behind : (n : ℕ) (xs : List ℕ) → AreDistinct xs → AreDistinct (drop n xs)
distinct_behind zero xs h = h
distinct_behind (suc n) [] h = tt
distinct_behind (suc n) (x ∷ xs) h = distinct_behind n xs h.1

-- where another is tested first, and taken out again
but_first : (here later : Bool) → (here ≡ true → later ≡ false) → ((here || later) && not here) ≡ later
but_first true later none = sym (none refl)
but_first false later none = and-true later

-- the blocks behind the first one
is_in-behind : (x b : ℕ) (xs : List ℕ) → is_in x xs ≡ false → (is_in b (x ∷ xs) && not (b == x)) ≡ is_in b xs
is_in-behind x b xs none = but_first (b == x) (is_in b xs) (λ e. ap (λ (k : ℕ). is_in k xs) (eqb-true b x e) ∙ none)

-- ---- a block is taken away

module _ (c : Setting) (w : World) (block : BlockNo) (set : IsSetting c) (k : IsConsistent c w) where
  -- it is offline then
  offline_then : MayTakeOffline c 0 w block → (b : ℕ) → is_in b (space_now c (offline_made c w block).world).offline ≡ (is_in b (space_now c w).offline || b == block.0)
  offline_then may b =
      ap (λ (x : SpaceState). is_in b x.offline) (space_after-append c.sizes c.online c.space w.space (space.Offline block))
      ∙ is_in-with_block c.sizes block.0 (space_now c w).offline b (space_is c w set k).offline (offline_managed c w block set k may)

  isolated_then : (b : ℕ) → is_in b (space_now c (offline_made c w block).world).isolated ≡ is_in b (space_now c w).isolated
  isolated_then b = ap (λ (x : SpaceState). is_in b x.isolated) (space_after-append c.sizes c.online c.space w.space (space.Offline block))

  -- a block that is put online is neither offline nor isolated
  online_then : (b : ℕ) → is_in b (space_now c w).isolated ≡ is_in b (space_now c w).offline → is_in b (space_now c (online_made c w block).world).isolated ≡ is_in b (space_now c (online_made c w block).world).offline
  online_then b same =
      let st : SpaceState = space_now c w in
      let behind : space_now c (online_made c w block).world ≡ after_action c.sizes c.online st (space.Online block) = space_after-append c.sizes c.online c.space w.space (space.Online block) in
      ap (λ (x : SpaceState). is_in b x.isolated) behind
      ∙ (is_in-without_block c.sizes.managed block.0 st.isolated b (space_is c w set k).isolated
      ∙ (ap (λ (e : Bool). e && not (b == block.0)) same
      ∙ (sym (is_in-without_block c.sizes.managed block.0 st.offline b (space_is c w set k).offline)
      ∙ sym (ap (λ (x : SpaceState). is_in b x.offline) behind))))

-- ---- the places

module _ (c : Setting) (w : World) (t : Tale) (g : HostState) (command : HostCommand) (cs : List HostCommand) (set : IsSetting c) (k : IsConsistent c w) where
  abbrev standing : HostPlace → HostState
  standing place = record g { left = command ∷ cs; place = place }

  -- what holds behind what was made
  abbrev Behind : HostPlace → Type 0
  Behind place =
      let h : HostState = standing place in
      let x : Made = made c 0 w (host_action h) in
      HostSpace c x.world (host_after (device_now c x.world).plugged h x.heard) (tale_heard h t x.heard)

  -- ---- an emptied block is taken away

  taking_away : HostSpace c w (standing places.TakingAway) t → MayTakeOffline c 0 w g.evacuation.block → Behind places.TakingAway
  taking_away s may =
      let block : BlockNo = g.evacuation.block in
      let p = s.place.0 in
      let some = p.some_wait in
      let fits = s.waiting in
      let last : get_or g.blocks (g.waiting - 1) 0 ≡ block.0 = get_or_from_slice_get g.blocks (g.waiting - 1) block.0 0 p.block in
      let next : suc (g.waiting - 1) ≡ g.waiting = omega arith in
      let from : drop (g.waiting - 1) g.blocks ≡ block.0 ∷ drop g.waiting g.blocks =
      drop-cons g.blocks (g.waiting - 1) 0 (omega arith)
      ∙ (ap (λ (x : ℕ). x ∷ drop (suc (g.waiting - 1)) g.blocks) last
      ∙ ap (λ (n : ℕ). block.0 ∷ drop n g.blocks) next) in
      record {
        sizes = s.sizes;
        commands = s.commands;
        waiting = omega arith;
        managed = s.managed;
        distinct = s.distinct;
        held = λ b.
            held_offline c w block set k may b
            ∙ (ap (λ (e : Bool). e || b == block.0) (s.held b)
            ∙ (or_comm (is_in b (drop g.waiting g.blocks)) (b == block.0)
            ∙ ap (λ (l : List ℕ). is_in b l) (sym from)));
        isolated = λ b.
            isolated_then c w block set k b
            ∙ (s.isolated b
            ∙ (ap (λ (stage : Stage). is_in b (space_now c w).offline || (has_isolated stage && b == block.0)) s.place.1
            ∙ (sym (offline_then c w block set k may b)
            ∙ sym (or-false (is_in b (space_now c (offline_made c w block).world).offline)))));
        place = (
          record {
            blocks = p.blocks;
            block = p.block;
            in_block =
                let least = power_to_512_least c.sizes.block set.limits.block in
                let same : first_frame g.sizes block.0 ≡ first_frame c.sizes block.0 = ap (λ (z : Sizes). first_frame z block.0) s.sizes in
                in_block c.sizes block.0 (first_frame g.sizes block.0) (omega arith) (omega arith);
          },
          power_to_512_least c.sizes.cells set.limits.cells,
        );
      }

  -- ---- its cells are zeroed

  -- words and views change alone
  module _ (snapshot : Snapshot) where
    abbrev stepped : World
    stepped = record w { snapshot = snapshot }

    zeroed : (frame : FrameNo) (cell : ℕ) (more : Bool) → nat_lt (cell + 1) g.sizes.cells ≡ more → HostSpace c w (standing (places.Zeroing frame cell)) t
        → HostSpace c stepped (standing (if more then places.Zeroing frame (cell + 1) else places.MarkingZeros frame)) t
    zeroed frame cell true is s = record {
      sizes = s.sizes;
      commands = s.commands;
      waiting = s.waiting;
      managed = s.managed;
      distinct = s.distinct;
      held = s.held;
      isolated = s.isolated;
      place = (
        record { blocks = s.place.0.blocks; block = s.place.0.block; in_block = s.place.0.in_block },
        subst (λ (z : Sizes). cell + 1 < z.cells) s.sizes (ltb-true (cell + 1) g.sizes.cells is),
      );
    }
    zeroed frame cell false is s = record {
      sizes = s.sizes;
      commands = s.commands;
      waiting = s.waiting;
      managed = s.managed;
      distinct = s.distinct;
      held = s.held;
      isolated = s.isolated;
      place = record { blocks = s.place.0.blocks; block = s.place.0.block; in_block = s.place.0.in_block };
    }

    -- a frame's cells are zeroed: the next frame of the block follows, or the next block
    marked : (frame : FrameNo) (more : Bool) → nat_lt (frame.0 + 1) (first_frame g.sizes g.evacuation.block.0 + g.sizes.block) ≡ more → HostSpace c w (standing (places.MarkingZeros frame)) t
        → HostSpace c stepped (if more then standing (places.Zeroing (record { 0 = frame.0 + 1 }) 0) else next_block (record (standing (places.MarkingZeros frame)) { tried = g.tried ++ emptied_lines (g.evacuation.block.0 ∷ []) })) nothing_tried
    marked frame true is s =
        let b : ℕ = g.evacuation.block.0 in
        let from : first_frame c.sizes b ≤ frame.0 = frame_from c.sizes b frame.0 s.place.in_block in
        let below : frame.0 + 1 < first_frame c.sizes b + c.sizes.block = subst (λ (z : Sizes). frame.0 + 1 < first_frame z b + z.block) s.sizes (ltb-true (frame.0 + 1) (first_frame g.sizes b + g.sizes.block) is) in
        record {
          sizes = s.sizes;
          commands = s.commands;
          waiting = s.waiting;
          managed = s.managed;
          distinct = s.distinct;
          held = s.held;
          isolated = s.isolated;
          place = (
            record { blocks = s.place.blocks; block = s.place.block; in_block = in_block c.sizes b (frame.0 + 1) (omega arith) below },
            power_to_512_least c.sizes.cells set.limits.cells,
          );
        }
    marked frame false is s =
        let p : HasBlocks c w (standing (places.MarkingZeros frame)) = has_blocks c w (standing (places.MarkingZeros frame)) t s refl in
        next_begins c stepped (record (standing (places.MarkingZeros frame)) { tried = g.tried ++ emptied_lines (g.evacuation.block.0 ∷ []) }) set (record {
          sizes = p.sizes;
          commands = p.commands;
          waiting = p.waiting;
          managed = p.managed;
          distinct = p.distinct;
          held = p.held;
          isolated = p.isolated;
        }) s.place.blocks

  zeroing : (frame : FrameNo) (cell : ℕ) → HostSpace c w (standing (places.Zeroing frame cell)) t → Behind (places.Zeroing frame cell)
  zeroing frame cell s =
      let x : World = (made c 0 w (host_action (standing (places.Zeroing frame cell)))).world in
      zeroed x.snapshot frame cell (nat_lt (cell + 1) g.sizes.cells) refl s

  marking : (frame : FrameNo) → HostSpace c w (standing (places.MarkingZeros frame)) t → Behind (places.MarkingZeros frame)
  marking frame s =
      let x : World = (made c 0 w (host_action (standing (places.MarkingZeros frame)))).world in
      marked x.snapshot frame (nat_lt (frame.0 + 1) (first_frame g.sizes g.evacuation.block.0 + g.sizes.block)) refl s

  -- ---- blocks are put online

  putting : (result : HostResult) → HostSpace c w (standing (places.PuttingOnline result)) t → MayPutOnline c 0 w (block_no (first_of (away g))) → Behind (places.PuttingOnline result)
  putting result s may =
      let h : HostState = standing (places.PuttingOnline result) in
      let some : g.waiting < length g.blocks = s.place in
      let first : ℕ = first_of (away g) in
      let block : BlockNo = block_no first in
      let b : ℕ = get_or g.blocks g.waiting 0 in
      let rest : List ℕ = drop (suc g.waiting) g.blocks in
      let from : drop g.waiting g.blocks ≡ b ∷ rest = drop-cons g.blocks g.waiting 0 some in
      let is : first ≡ b = ap (λ (l : List ℕ). first_of l) from in
      let once : AreDistinct (b ∷ rest) = subst AreDistinct from (distinct_behind g.waiting g.blocks s.distinct) in
      let next : suc g.waiting ≡ g.waiting + 1 = omega arith in
      has_result c (online_made c w block).world (record h { waiting = g.waiting + 1 }) result set (online_kept c w block set k may) (record {
        sizes = s.sizes;
        commands = s.commands;
        waiting = omega arith;
        managed = s.managed;
        distinct = s.distinct;
        held = λ a.
            held_online c w block set k may a
            ∙ (ap (λ (e : Bool). e && not (a == first)) (s.held a)
            ∙ (ap (λ (l : List ℕ). is_in a l && not (a == first)) from
            ∙ (ap (λ (n : ℕ). is_in a (b ∷ rest) && not (a == n)) is
            ∙ (is_in-behind b a rest once.0
            ∙ ap (λ (n : ℕ). is_in a (drop n g.blocks)) next))));
        isolated = λ a. online_then c w block set k a ((has_blocks c w h t s refl).isolated a);
      })

-- ---- any of these actions

module _ (c : Setting) (w : World) (t : Tale) (g : HostState) (set : IsSetting c) (k : IsConsistent c w) where
  abbrev host : List HostCommand → HostPlace → HostState
  host left place = record g { left = left; place = place }

  abbrev After : HostState → Type 0
  After h =
      let x : Made = made c 0 w (host_action h) in
      HostSpace c x.world (host_after (device_now c x.world).plugged h x.heard) (tale_heard h t x.heard)

  asking : (command : HostCommand) (cs : List HostCommand) → HostSpace c w (host (command ∷ cs) places.Asking) t → MayMake c 0 w (host_action (host (command ∷ cs) places.Asking)) → After (host (command ∷ cs) places.Asking)
  asking (commands.Request bytes) cs s may = asked c w t g bytes cs set s k may
  asking commands.Config cs s may = configured c w t g cs set k s

  at_place : (left : List HostCommand) (place : HostPlace) → HostSpace c w (host left place) t → host_ended (host left place) ≡ false → IsBlockPlace place → MayMake c 0 w (host_action (host left place)) → After (host left place)
  at_place [] place s going here may = absurd (true≢false going)
  at_place (command ∷ cs) places.Asking s going here may = asking command cs s may
  at_place (command ∷ cs) places.Evacuating s going here may = absurd here
  at_place (command ∷ cs) (places.Moving lease at) s going here may = absurd here
  at_place (command ∷ cs) places.TakingAway s going here may = taking_away c w t g command cs set k s may
  at_place (command ∷ cs) (places.Zeroing frame cell) s going here may = zeroing c w t g command cs set k frame cell s
  at_place (command ∷ cs) (places.MarkingZeros frame) s going here may = marking c w t g command cs set k frame s
  at_place (command ∷ cs) (places.PuttingOnline result) s going here may = putting c w t g command cs set k result s may

pub space_after_block : (c : Setting) (w : World) (h : HostState) (t : Tale) → IsSetting c → IsConsistent c w → HostSeat c w h → HostSpace c w h t → host_ended h ≡ false → IsBlockPlace h.place → MayMake c 0 w (host_action h)
    → let x : Made = made c 0 w (host_action h) in
    HostSpace c x.world (host_after (device_now c x.world).plugged h x.heard) (tale_heard h t x.heard)
space_after_block c w h t set k seat s going here may = at_place c w t h set k h.left h.place s going here may
