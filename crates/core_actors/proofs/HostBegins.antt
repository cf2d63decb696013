-- Where a command begins, where its next block is tried, and where it has its result: no block is being emptied, and the frame space and
-- the device stand as the place that follows has them.
use Rattle.std.proofs.Common.{◌≡◌, ℕ, zero, suc, ◌-◌, ◌<◌, ◌≤◌, ◌==◌, ◌&&◌, ◌||◌, Bool, true, false, if◌then◌else◌, List, [], ◌∷◌, length, length-drop, drop, refl, sym, ap, ◌∙◌, subst, arith, Option, None, Some, slice_index_or}
use Rattle.std.specs.List.{AllByRecursion, range_with_len, slice_get}
use Rattle.std.proofs.Math.Bool.{or-false}
use Rattle.std.proofs.Math.Seq.{drop-length}
use Rattle.std.proofs.lemmas.Bool.{false≢true, and_parts}
use Rattle.std.proofs.lemmas.Option.{slice_get-get_or}
use Rattle.evac_model.specs.declared.device.Request.{Request}
use Rattle.evac_model.specs.declared.device.Request.TheVariants as requests
use Rattle.evac_model.specs.declared.host.HostCommand.{HostCommand}
use Rattle.evac_model.specs.declared.host.HostCommand.TheVariants as commands
use Rattle.evac_model.specs.declared.host.HostResult.{HostResult}
use Rattle.evac_model.specs.DeviceAnswer.{request_in, block_at, is_good_range, are_plugged, named_blocks}
use Rattle.evac_model.specs.Geometry.{Sizes}
use Rattle.evac_model.specs.Numbers.{is_in, AreDistinct, IsRisingBelow}
use Rattle.evac_model.proofs.Bounds.{power_to_512_most}
use Rattle.evac_model.proofs.Ranges.{range-list_all}
use Rattle.evacuate.specs.Tale.{Tale, nothing_tried}
use Rattle.evacuate.proofs.Starts.{goes_by_at_start}
use Rattle.host_work.specs.Requests.{block_no}
use Rattle.space.proofs.BlockFrames.{is_in_bound}
use Rattle.machine.specs.Consistent.{IsSetting, IsConsistent}
use Rattle.machine.specs.World.{Setting, World, space_now, device_now, is_held}
use Rattle.machine.proofs.BlockFrames.{range_bounds}
use Rattle.machine.proofs.NamedBlocks.{named_distinct}
use Rattle.machine.proofs.PlugAnswers.{plugged_rising}
use Rattle.core_actors.specs.HostHears.{ends_without, with_result}
use Rattle.core_actors.specs.HostSpace.{has_isolated, is_emptying, AreCommandBlocks, IsShort, HostSpace}
use Rattle.core_actors.specs.Hosts.{HostState, away, command_blocks, with_next_block, next_block, command_begun}

-- What holds of the blocks of a command where none is being emptied, whatever comes next: they are managed ones, each once. The driver
-- holds those that don't wait, and no others, and the offline blocks are the isolated ones.
pub record HasBlocks (c : Setting) (w : World) (h : HostState) : Type 0 where
  pub sizes : h.sizes ≡ c.sizes
  pub commands : AllByRecursion IsShort h.left
  pub waiting : h.waiting ≤ length h.blocks
  pub managed : (block : ℕ) → is_in block h.blocks ≡ true → block < c.sizes.managed
  pub distinct : AreDistinct h.blocks
  pub held : (block : ℕ) → is_held c w block ≡ is_in block (away h)
  pub isolated : (block : ℕ) → is_in block (space_now c w).isolated ≡ is_in block (space_now c w).offline

-- they hold at each place where none is being emptied
pub has_blocks : (c : Setting) (w : World) (h : HostState) (t : Tale) → HostSpace c w h t → is_emptying h.place ≡ false → HasBlocks c w h
has_blocks c w h t space none = record {
  sizes = space.sizes;
  commands = space.commands;
  waiting = space.waiting;
  managed = space.managed;
  distinct = space.distinct;
  held = space.held;
  isolated = λ b.
      space.isolated b
      ∙ (ap (λ (e : Bool). is_in b (space_now c w).offline || (e && (has_isolated h.evacuation.stage && b == h.evacuation.block.0))) none
      ∙ or-false (is_in b (space_now c w).offline));
}

-- ---- the next block

module _ (c : Setting) (w : World) (h : HostState) (set : IsSetting c) (p : HasBlocks c w h) (blocks : AreCommandBlocks c w h) where
  few : h.sizes.block ≤ 512
  few = subst (λ (s : Sizes). s.block ≤ 512) (sym p.sizes) (power_to_512_most c.sizes.block set.limits.block)

  next_by : (n : ℕ) → n ≡ h.waiting → HostSpace c w (with_next_block n h) nothing_tried
  next_by zero is = record {
    sizes = p.sizes;
    commands = p.commands;
    waiting = p.waiting;
    managed = p.managed;
    distinct = p.distinct;
    held = p.held;
    isolated = λ b. p.isolated b ∙ sym (or-false (is_in b (space_now c w).offline));
    place = (sym is, blocks);
  }
  next_by (suc n) is =
      let fits = p.waiting in
      let last : h.waiting - 1 ≡ n = omega arith in
      record {
        sizes = p.sizes;
        commands = p.commands;
        waiting = p.waiting;
        managed = p.managed;
        distinct = p.distinct;
        held = p.held;
        isolated = λ b. p.isolated b ∙ sym (or-false (is_in b (space_now c w).offline));
        place = (
          record {
            blocks = blocks;
            some_wait = omega arith;
            block = ap (λ (k : ℕ). slice_get h.blocks k) last ∙ slice_get-get_or h.blocks n 0 (omega arith);
            sizes = p.sizes;
            goes_by = goes_by_at_start h.sizes (block_no (slice_index_or h.blocks n 0)) few;
            space = tt;
          },
          tt,
        );
      }

-- the next block of the command is tried, or the device is asked
pub next_begins : (c : Setting) (w : World) (h : HostState) → IsSetting c → HasBlocks c w h → AreCommandBlocks c w h → HostSpace c w (next_block h) nothing_tried
next_begins c w h set p blocks = next_by c w h set p blocks h.waiting refl

-- ---- the blocks of a command

named_range : (t : Bool) (plugged : List ℕ) (first n b : ℕ) → (t ≡ true → are_plugged plugged first n ≡ true) → is_in b (if t then range_with_len first n else []) ≡ true → is_in b plugged ≡ true
named_range true plugged first n b whole its =
    let bounds = range_bounds first n b its in
    range-list_all (λ (j : ℕ). is_in j plugged) first n (whole refl) b bounds.0 bounds.1
named_range false plugged first n b whole its = absurd (false≢true its)

-- a request names plugged blocks alone
pub named_plugged : (s : Sizes) (plugged : List ℕ) (request : Option Request) (b : ℕ) → is_in b (named_blocks s plugged request) ≡ true → is_in b plugged ≡ true
named_plugged s plugged None b its = absurd (false≢true its)
named_plugged s plugged (Some (requests.Plug addr count)) b its = absurd (false≢true its)
named_plugged s plugged (Some (requests.Unplug addr count)) b its =
    let first : ℕ = block_at s addr in
    named_range (is_good_range s addr count && are_plugged plugged first count) plugged first count b (λ t. (and_parts (is_good_range s addr count) (are_plugged plugged first count) t).1) its
named_plugged s plugged (Some requests.UnplugAll) b its = its
named_plugged s plugged (Some (requests.State addr count)) b its = absurd (false≢true its)

commands_plugged : (s : Sizes) (plugged : List ℕ) (left : List HostCommand) (b : ℕ) → is_in b (command_blocks s plugged left) ≡ true → is_in b plugged ≡ true
commands_plugged s plugged [] b its = absurd (false≢true its)
commands_plugged s plugged (commands.Request bytes ∷ cs) b its = named_plugged s plugged (request_in bytes) b its
commands_plugged s plugged (commands.Config ∷ cs) b its = absurd (false≢true its)

commands_distinct : (s : Sizes) (plugged : List ℕ) (left : List HostCommand) → IsRisingBelow s.managed plugged → AreDistinct (command_blocks s plugged left)
commands_distinct s plugged [] r = tt
commands_distinct s plugged (commands.Request bytes ∷ cs) r = named_distinct s plugged (request_in bytes) r
commands_distinct s plugged (commands.Config ∷ cs) r = tt

-- ---- a command begins

-- The driver holds no block, and the offline blocks are the isolated ones.
pub begins : (c : Setting) (w : World) (h : HostState) → h.sizes ≡ c.sizes → AllByRecursion IsShort h.left → IsSetting c → IsConsistent c w → ((b : ℕ) → is_held c w b ≡ false) → ((b : ℕ) → is_in b (space_now c w).isolated ≡ is_in b (space_now c w).offline)
    → HostSpace c w (command_begun (device_now c w).plugged h) nothing_tried
begins c w h sizes short set k none same =
    let plugged : List ℕ = (device_now c w).plugged in
    let blocks : List ℕ = command_blocks h.sizes plugged h.left in
    let named : blocks ≡ command_blocks c.sizes plugged h.left = ap (λ (s : Sizes). command_blocks s plugged h.left) sizes in
    let rising : IsRisingBelow c.sizes.managed plugged = plugged_rising c w set k in
    next_begins c w (record h { blocks = blocks; waiting = length blocks; tried = [] }) set (record {
      sizes = sizes;
      commands = short;
      waiting = omega arith;
      managed = λ b its. is_in_bound c.sizes.managed plugged b rising (commands_plugged h.sizes plugged h.left b its);
      distinct = subst AreDistinct (sym named) (commands_distinct c.sizes plugged h.left rising);
      held = λ b. none b ∙ ap (λ (l : List ℕ). is_in b l) (sym (drop-length blocks));
      isolated = same;
    }) named

-- ---- the result of a command

short_behind : (left : List HostCommand) → AllByRecursion IsShort left → AllByRecursion IsShort (drop 1 left)
short_behind [] short = tt
short_behind (command ∷ cs) short = short.1

module _ (c : Setting) (w : World) (h : HostState) (result : HostResult) (set : IsSetting c) (k : IsConsistent c w) (p : HasBlocks c w h) where
  result_by : (blocks : List ℕ) → away h ≡ blocks → HostSpace c w (ends_without blocks (device_now c w).plugged h result).state nothing_tried
  result_by [] none =
      begins c w (record h { left = drop 1 h.left; number = suc h.number }) p.sizes (short_behind h.left p.commands) set k
      (λ b. p.held b ∙ ap (λ (l : List ℕ). is_in b l) none) p.isolated
  result_by (b ∷ blocks) some = record {
    sizes = p.sizes;
    commands = p.commands;
    waiting = p.waiting;
    managed = p.managed;
    distinct = p.distinct;
    held = p.held;
    isolated = λ a. p.isolated a ∙ sym (or-false (is_in a (space_now c w).offline));
    place =
        let long : length h.blocks - h.waiting ≡ suc (length blocks) = sym (length-drop h.waiting h.blocks) ∙ ap (λ (l : List ℕ). length l) some in
        omega arith;
  }

-- The command has its result: the blocks that the driver holds are put online, and without one the next command begins.
pub has_result : (c : Setting) (w : World) (h : HostState) (result : HostResult) → IsSetting c → IsConsistent c w → HasBlocks c w h → HostSpace c w (with_result (device_now c w).plugged h result).state nothing_tried
has_result c w h result set k p = result_by c w h result set k p (away h) refl
