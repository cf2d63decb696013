-- How many actions a host may still make: fewer behind each, at most so many at its start, and none once it has ended.
use Rattle.std.proofs.Common.{◌≡◌, ◌↔◌, ℕ, zero, suc, ◌+◌, ◌-◌, ◌*◌, ◌<◌, ◌≤◌, ◌==◌, ◌&&◌, ◌||◌, not, nat_lt, Bool, true, false, if◌then◌else◌, List, [], ◌∷◌, ◌++◌, length, length-drop, drop, refl, sym, ap, ◌∙◌, subst, arith, suc-mul, mul-le-mul_right, Option, Some, None}
use Rattle.std.specs.List.{range_with_len}
use Rattle.std.specs.Prelude.{⊤}
use Rattle.std.proofs.lemmas.Bool.{false≢true, and_parts}
use Rattle.std.proofs.lemmas.Bool.Decides.{nat_tests}
use Rattle.std.proofs.lemmas.List.FromFn.{length-range_with_len}
use Rattle.evac_model.specs.declared.device.Request.{Request}
use Rattle.evac_model.specs.declared.device.Request.TheVariants as requests
use Rattle.evac_model.specs.declared.device.Response.{Response}
use Rattle.evac_model.specs.declared.device.Response.TheVariants as responses
use Rattle.evac_model.specs.declared.evacuation.MoveLease.{MoveLease}
use Rattle.evac_model.specs.declared.host.HostCommand.{HostCommand}
use Rattle.evac_model.specs.declared.host.HostCommand.TheVariants as commands
use Rattle.evac_model.specs.declared.host.HostResult.{HostResult}
use Rattle.evac_model.specs.declared.host.HostResult.TheVariants as results
use Rattle.evac_model.specs.declared.host.HostRun.{HostRun}
use Rattle.evac_model.specs.declared.names.BlockNo.{BlockNo}
use Rattle.evac_model.specs.declared.names.FrameNo.{FrameNo}
use Rattle.evac_model.specs.DeviceAnswer.{request_in, block_at, is_good_range, are_plugged, named_blocks}
use Rattle.evac_model.specs.Geometry.{Sizes, frame_count, first_frame}
use Rattle.evac_model.specs.HostCommands.{BlockRange, blocks_of, plugged_by}
use Rattle.evac_model.specs.Numbers.{is_in, IsRisingBelow}
use Rattle.evac_model.proofs.Bounds.{power_to_512_least, good_within}
use Rattle.evac_model.proofs.Numbers.{length-numbers_where}
use Rattle.evac_words.specs.Word.{taken_bit}
use Rattle.evacuate.specs.declared.seen.EvacSeen.{EvacSeen}
use Rattle.evacuate.specs.declared.seen.EvacSeen.TheVariants as seen
use Rattle.evacuate.specs.declared.stage.Stage.{Stage}
use Rattle.evacuate.specs.declared.stage.Stage.TheVariants.{Isolating, Leasing, Moving, Returning, Undoing, Emptied, Failed}
use Rattle.evacuate.specs.Evacuating.{Evacuating, evacuation_at_start, answers, is_answer, action_of, round_ended, attempt_over, after_answer, evacuation_after}
use Rattle.evacuate.specs.Found.{maps, is_pinned}
use Rattle.evacuate.specs.Tale.{Tale, is_next}
use Rattle.evacuate.proofs.Frames.{inside_block, next_in_block, next_behind}
use Rattle.host_work.specs.Requests.{block_no, emptied_lines, failed_line}
use Rattle.machine.specs.declared.action.Heard.{Heard}
use Rattle.machine.specs.Consistent.{IsSetting, IsConsistent}
use Rattle.machine.specs.Made.{Made, made}
use Rattle.machine.specs.MayMake.{MayMake}
use Rattle.machine.specs.World.{Setting, World, device_now}
use Rattle.machine.proofs.ActionsKept.{action_kept}
use Rattle.machine.proofs.PlugAnswers.{plugged_rising}
use Rattle.core_state.specs.Views.{view_of}
use Rattle.core_actors.specs.declared.host_place.HostPlace.{HostPlace}
use Rattle.core_actors.specs.declared.host_place.HostPlace.TheVariants as places
use Rattle.core_actors.specs.declared.host_place.MovePlace.{MovePlace}
use Rattle.core_actors.specs.declared.host_place.MovePlace.TheVariants.{Taking, Beginning, Loading, Storing, Marking, Remapping, Releasing}
use Rattle.core_actors.specs.HostCounts.{page_most, round_most, zeros_most, block_most, command_most, frames_behind, rounds_left, move_left, evacuation_left, blocks_left, left_for, host_actions_left}
use Rattle.core_actors.specs.HostHears.{HostHeard, ends_without, with_result, answered, result_in, seen_in, goes_on_at, told, moves_on, stays, came_of, moved, taken_on, zeroed_on, marked_on, host_after}
use Rattle.core_actors.specs.HostKept.{HostKept}
use Rattle.core_actors.specs.HostSeat.{IsMovingAt, IsViewAt}
use Rattle.core_actors.specs.HostSpace.{AreCommandBlocks, StaysAt, IsPlacedAt, HostSpace}
use Rattle.core_actors.specs.Hosts.{HostState, away, command_blocks, with_next_block, command_begun, host_at_start, has_none, host_ended, host_action}
use Rattle.core_actors.specs.Places.{word_in}
use Rattle.core_actors.proofs.Cases.{if_then}
use Rattle.core_actors.proofs.HostAnswers.{seen_answers}
use Rattle.core_actors.proofs.HostDoesRounds.{evacuation_stays}
use Rattle.core_actors.proofs.HostTold.{told_back}

-- ---- products

-- of fewer things there is less by one of them at least
less : (m n k : ℕ) → m < n → m * k + k ≤ n * k
less m n k lt = let most : suc m * k ≤ n * k = mul-le-mul_right k lt in let one = suc-mul m k in omega arith

-- ---- how many blocks

few_in_range : (t : Bool) (first n most : ℕ) → (t ≡ true → n ≤ most) → length (if t then range_with_len first n else []) ≤ most
few_in_range true first n most fits = let count = length-range_with_len first n in let few = fits refl in omega arith
few_in_range false first n most fits = omega arith

within_good : (s : Sizes) (addr count : ℕ) (t : Bool) → (is_good_range s addr count && t) ≡ true → count ≤ s.managed
within_good s addr count t both = let inside = good_within s addr count (and_parts (is_good_range s addr count) t both).0 in omega arith

few_named : (s : Sizes) (plugged : List ℕ) (request : Option Request) → length plugged ≤ s.managed → length (named_blocks s plugged request) ≤ s.managed
few_named s plugged None few = omega arith
few_named s plugged (Some (requests.Plug addr count)) few = omega arith
few_named s plugged (Some (requests.Unplug addr count)) few =
    few_in_range (is_good_range s addr count && are_plugged plugged (block_at s addr) count) (block_at s addr) count s.managed
    (within_good s addr count (are_plugged plugged (block_at s addr) count))
few_named s plugged (Some requests.UnplugAll) few = few
few_named s plugged (Some (requests.State addr count)) few = omega arith

few_of_command : (s : Sizes) (plugged : List ℕ) (left : List HostCommand) → length plugged ≤ s.managed → length (command_blocks s plugged left) ≤ s.managed
few_of_command s plugged [] few = omega arith
few_of_command s plugged (commands.Request bytes ∷ cs) few = few_named s plugged (request_in bytes) few
few_of_command s plugged (commands.Config ∷ cs) few = omega arith

-- those that a request plugged
few_plugged : (s : Sizes) (request : Option Request) (response : Response) → length (blocks_of (plugged_by s request response)) ≤ s.managed
few_plugged s None response = omega arith
few_plugged s (Some (requests.Plug addr count)) (responses.Ack state) =
    if_then (λ (r : BlockRange). length (blocks_of r) ≤ s.managed) (is_good_range s addr count) _ _
    (λ good. let inside = good_within s addr count good in let long = length-range_with_len (block_at s addr) count in omega arith)
    (λ bad. omega arith)
few_plugged s (Some (requests.Plug addr count)) responses.Nack = omega arith
few_plugged s (Some (requests.Plug addr count)) responses.Busy = omega arith
few_plugged s (Some (requests.Plug addr count)) responses.Error = omega arith
few_plugged s (Some (requests.Unplug addr count)) response = omega arith
few_plugged s (Some requests.UnplugAll) response = omega arith
few_plugged s (Some (requests.State addr count)) response = omega arith

few_rising : (most : ℕ) (xs : List ℕ) → IsRisingBelow most xs → length xs ≤ most
few_rising most xs r = subst (λ (l : List ℕ). length l ≤ most) (sym r) (length-numbers_where (λ (b : ℕ). is_in b xs) most)

-- ---- where a block is tried next, and where a command begins

-- n blocks wait, each of which may cost e actions while it is emptied, and z behind that
one_waits : (n x e z k m r : ℕ) → x ≡ n → k ≡ e + z → e + z + (x * k + m + 1) + r ≤ suc n * k + m + 1 + r
one_waits n x e z k m r is cost = let same : x * k ≡ n * k = ap (λ (y : ℕ). y * k) is in let one = suc-mul n k in omega arith

-- a command whose n blocks all wait
whole_command : (x n m k r t : ℕ) → x ≤ n * k + m + 1 + r → n ≤ m → t ≡ r + (m * k + m + 1) → x ≤ t
whole_command x n m k r t few fits is = let most = mul-le-mul_right k fits in omega arith

module _ (g : HostState) (c : HostCommand) (cs : List HostCommand) where
  abbrev rest : ℕ
  rest = length cs * command_most g.sizes

  few_next : (n : ℕ) → host_actions_left (with_next_block n (record g { left = c ∷ cs; waiting = n })) ≤ blocks_left g.sizes n + rest
  few_next zero = omega arith
  few_next (suc n) = one_waits n (suc n - 1) (5 * round_most g.sizes + 2) (zeros_most g.sizes) (block_most g.sizes) g.sizes.managed rest (omega arith) refl

few_begun : (plugged : List ℕ) (g : HostState) (left : List HostCommand) → length plugged ≤ g.sizes.managed → host_actions_left (command_begun plugged (record g { left = left })) ≤ length left * command_most g.sizes
few_begun plugged g [] few = omega arith
few_begun plugged g (c ∷ cs) few =
    let blocks : List ℕ = command_blocks g.sizes plugged (c ∷ cs) in
    let h : HostState = record g { blocks = blocks; tried = [] } in
    whole_command (host_actions_left (command_begun plugged (record g { left = c ∷ cs }))) (length blocks) g.sizes.managed (block_most g.sizes) (length cs * command_most g.sizes) (suc (length cs) * command_most g.sizes)
    (few_next h c cs (length blocks)) (few_of_command g.sizes plugged (c ∷ cs) few) (suc-mul (length cs) (command_most g.sizes))

abbrev unstarted : Sizes → HostState
unstarted s = record { sizes = s; left = []; number = 0; place = places.Asking; evacuation = evacuation_at_start s (block_no 0); blocks = []; waiting = 0; tried = [] }

pub host_most : (s : Sizes) (plugged : List ℕ) (commands : List HostCommand) → IsRisingBelow s.managed plugged → host_actions_left (host_at_start s plugged commands) ≤ length commands * command_most s
host_most s plugged commands rising = few_begun plugged (unstarted s) commands (few_rising s.managed plugged rising)

-- ---- where a command has its result

module _ (plugged : List ℕ) (h : HostState) (c : HostCommand) (cs : List HostCommand) (is : h.left ≡ c ∷ cs) (few : length plugged ≤ h.sizes.managed) where
  few_ended : (left : List HostCommand) → left ≡ c ∷ cs → host_actions_left (command_begun plugged (record h { left = drop 1 left; number = suc h.number })) ≤ length cs * command_most h.sizes
  few_ended [] e = absurd (cc)
  few_ended (d ∷ ds) e =
      let same : ds ≡ cs = cc in
      subst (λ (l : List HostCommand). host_actions_left (command_begun plugged (record h { left = ds; number = suc h.number })) ≤ length l * command_most h.sizes) same
      (few_begun plugged (record h { number = suc h.number }) ds few)

  few_to_put : (result : HostResult) (left : List HostCommand) → left ≡ c ∷ cs → left_for (record h { place = places.PuttingOnline result }) left ≤ length (away h) + length cs * command_most h.sizes
  few_to_put result [] e = omega arith
  few_to_put result (d ∷ ds) e = let same : length ds ≡ length cs = ap (λ (l : List HostCommand). length l) (let s : ds ≡ cs = cc in s) in let cost = ap (λ (n : ℕ). n * command_most h.sizes) same in omega arith

  few_ends : (result : HostResult) (blocks : List ℕ) → host_actions_left (ends_without blocks plugged h result).state ≤ length (away h) + length cs * command_most h.sizes
  few_ends result [] = let ended = few_ended h.left is in omega arith
  few_ends result (b ∷ blocks) = few_to_put result h.left is

  -- the blocks that the driver holds are put online, and it ends
  few_with_result : (result : HostResult) → host_actions_left (with_result plugged h result).state ≤ length (away h) + length cs * command_most h.sizes
  few_with_result result = few_ends result (away h)

few_away : (h : HostState) → length (away h) ≤ length h.blocks
few_away h = let rest = length-drop h.waiting h.blocks in omega arith

-- ---- an evacuation

-- the frames behind the next one are fewer
fewer_behind : (s : Sizes) (b : BlockNo) (after : Option FrameNo) (from : FrameNo) → is_next s b after from.0 ≡ true → frames_behind s b (Some from) < frames_behind s b after
fewer_behind s b None from next =
    let inside = inside_block s b from.0 (next_in_block s b None from.0 next) in let low = inside.from in let high = inside.below in omega arith
fewer_behind s b (Some last) from next =
    let inside = inside_block s b from.0 (next_in_block s b (Some last) from.0 next) in
    let high = inside.below in
    let behind = next_behind s b last from.0 next in
    omega arith

-- five rounds, of which y are behind the first
five_rounds : (p y r : ℕ) → r ≡ p + 1 → y ≤ 4 * r → p + 1 + y + 1 < 5 * r + 2
five_rounds p y r is rest = omega arith

-- the next round, and x behind it, where y were behind the one that ended
next_round : (a p x y r : ℕ) → r ≡ p + 1 → x + r ≤ y → p + 1 + x + 1 < a + 1 + y + 1
next_round a p x y r is rest = omega arith

-- a page's move, and a behind it
next_page : (a b cells y : ℕ) → a + (2 * cells + 7) ≤ b → 2 * cells + 6 + (a + 1 + y + 1) < b + 1 + y + 1
next_page a b cells y rest = omega arith

module _ (e : Evacuating) where
  -- what is left of it once it stands so is less than that
  abbrev IsLeft : ℕ → Evacuating → Type 0
  IsLeft most after = evacuation_left after after.stage < most

  fewer_round : (after : Option FrameNo) (busy : Option MoveLease) → IsLeft (rounds_left e after) (round_ended e busy)
  fewer_round after None = omega arith
  fewer_round after (Some lease) = if_then (IsLeft (rounds_left e after)) (nat_lt e.round 4) _ _
      (λ more.
      let few : e.round < 4 = grind (arith, nat_tests) in
      next_round (frames_behind e.sizes e.block after * page_most e.sizes) (e.sizes.block * page_most e.sizes) ((4 - (e.round + 1)) * round_most e.sizes) ((4 - e.round) * round_most e.sizes) (round_most e.sizes) refl
      (less (4 - (e.round + 1)) (4 - e.round) (round_most e.sizes) (omega arith)))
      (λ none. omega arith)

  fewer_attempt : (lease : MoveLease) (found : Option ℕ) → IsLeft (1 + rounds_left e (Some lease.from)) (attempt_over e lease found)
  fewer_attempt lease None = omega arith
  fewer_attempt lease (Some word) = if_then (IsLeft (1 + rounds_left e (Some lease.from))) (is_pinned word lease.from.0) _ _ (λ pinned. omega arith) (λ busy. omega arith)

  -- behind an answer
  fewer_answered : (stage : Stage) (what : EvacSeen) → answers e.sizes e.block stage what ≡ true → IsLeft (evacuation_left e stage) (after_answer e stage what)
  fewer_answered Isolating seen.Isolated fits =
      five_rounds (e.sizes.block * page_most e.sizes) ((4 - e.round) * round_most e.sizes) (round_most e.sizes) refl (mul-le-mul_right (round_most e.sizes) (omega arith))
  fewer_answered Isolating (seen.Refused frame page) fits = omega arith
  fewer_answered (Leasing after) (seen.Leased lease) fits =
      next_page (frames_behind e.sizes e.block (Some lease.from) * page_most e.sizes) (frames_behind e.sizes e.block after * page_most e.sizes) e.sizes.cells ((4 - e.round) * round_most e.sizes)
      (less (frames_behind e.sizes e.block (Some lease.from)) (frames_behind e.sizes e.block after) (page_most e.sizes) (fewer_behind e.sizes e.block after lease.from fits))
  fewer_answered (Leasing after) seen.NoneLeft fits = fewer_round after e.busy
  fewer_answered (Leasing after) (seen.NoTarget from page at) fits = omega arith
  fewer_answered (Moving lease) seen.Moved fits = omega arith
  fewer_answered (Moving lease) (seen.Found word) fits = omega arith
  fewer_answered (Returning attempt) seen.Done fits = fewer_attempt attempt.lease attempt.found
  fewer_answered (Undoing why) seen.Done fits = omega arith
  fewer_answered _ _ fits = absurd (false≢true fits)

  fewer_after : (what : EvacSeen) → is_answer e what ≡ true → IsLeft (evacuation_left e e.stage) (evacuation_after e what)
  fewer_after what fits =
      subst (λ (t : Bool). IsLeft (evacuation_left e e.stage) (if t then after_answer e e.stage what else e)) (sym fits) (fewer_answered e.stage what fits)

-- ---- a block is being emptied

same_left : (x y z l t : ℕ) → x ≡ y → x + z + l + t ≤ y + z + l + t
same_left x y z l t is = omega arith

-- a move begins
move_begins : (cells d r z l t : ℕ) → d ≡ cells → 2 * cells + 5 + 1 + r + z + l + t ≤ 2 * d + 6 + r + z + l + t
move_begins cells d r z l t is = omega arith

-- what is stored is a cell of a page
abbrev IsCell : Sizes → MovePlace → Type 0
IsCell s Taking = ⊤
IsCell s Beginning = ⊤
IsCell s (Loading cell) = ⊤
IsCell s (Storing cell value) = cell < s.cells
IsCell s Marking = ⊤
IsCell s Remapping = ⊤
IsCell s (Releasing found) = ⊤

module _ (g : HostState) (c : HostCommand) (cs : List HostCommand) (plugged : List ℕ) (few : length plugged ≤ g.sizes.managed) (blocks : length g.blocks ≤ g.sizes.managed) where
  abbrev host : HostPlace → HostState
  host place = record g { left = c ∷ cs; place = place }

  -- what is left behind the evacuation of the block
  abbrev behind : ℕ → ℕ
  behind n = n + zeros_most g.sizes + blocks_left g.sizes (g.waiting - 1) + length cs * command_most g.sizes

  few_at : (place : HostPlace) (after : Evacuating) → after.sizes ≡ g.sizes → (stage : Stage) → after.stage ≡ stage → host_actions_left (goes_on_at stage plugged (record (host place) { evacuation = after })).state ≤ behind (evacuation_left after stage)
  few_at place after sizes Isolating is = same_left _ _ _ _ _ (ap (λ (s : Stage). evacuation_left after s) is)
  few_at place after sizes (Leasing frame) is = same_left _ _ _ _ _ (ap (λ (s : Stage). evacuation_left after s) is)
  few_at place after sizes (Moving lease) is =
      move_begins g.sizes.cells after.sizes.cells (rounds_left after (Some lease.from)) (zeros_most g.sizes) (blocks_left g.sizes (g.waiting - 1)) (length cs * command_most g.sizes) (ap (λ (s : Sizes). s.cells) sizes)
  few_at place after sizes (Returning attempt) is = same_left _ _ _ _ _ (ap (λ (s : Stage). evacuation_left after s) is)
  few_at place after sizes (Undoing why) is = same_left _ _ _ _ _ (ap (λ (s : Stage). evacuation_left after s) is)
  few_at place after sizes Emptied is = omega arith
  few_at place after sizes (Failed why) is =
      let h : HostState = record (host place) { evacuation = after; tried = g.tried ++ failed_line after.block.0 why ∷ [] } in
      let put = few_with_result plugged h c cs refl few results.Unsent in
      let held = few_away h in
      omega arith

  fewer_told : (place : HostPlace) (what : EvacSeen) → g.evacuation.sizes ≡ g.sizes → is_answer g.evacuation what ≡ true → host_actions_left (told plugged (host place) what).state < behind (evacuation_left g.evacuation g.evacuation.stage)
  fewer_told place what sizes fits =
      let after : Evacuating = evacuation_after g.evacuation what in
      let left = few_at place after ((evacuation_stays g.evacuation what).0 ∙ sizes) after.stage refl in
      let less = fewer_after g.evacuation what fits in
      omega arith

  -- ---- a page is being moved

  module _ (lease : MoveLease) where
    abbrev moving : MovePlace → HostState
    moving at = host (places.Moving lease at)

    abbrev IsFewer : MovePlace → HostState → Type 0
    IsFewer at h = host_actions_left h < host_actions_left (moving at)

    abbrev round_behind : ℕ
    round_behind = rounds_left g.evacuation (Some lease.from)

    step_fewer : (m n : ℕ) → m < n → behind (m + 1 + round_behind) < behind (n + 1 + round_behind)
    step_fewer m n lt = omega arith

    -- what came of it is told
    fewer_back : (at : MovePlace) (found : Option ℕ) → g.evacuation.stage ≡ Moving lease → StaysAt lease (Releasing found) → 1 ≤ move_left g.sizes at → IsFewer at (told plugged (moving at) (came_of found)).state
    fewer_back at found stage stay some =
        subst (λ (x : HostHeard). IsFewer at x.state) (sym (told_back plugged (moving at) lease found stage stay)) (back (move_left g.sizes at) some)
      where
        back : (m : ℕ) → 1 ≤ m → behind (1 + round_behind) < behind (m + 1 + round_behind)
        back m lt = omega arith

    fewer_found : (word : ℕ) (t : Bool) → (taken_bit word == 1) ≡ t → g.evacuation.stage ≡ Moving lease
        → IsFewer Taking (if t then told plugged (moving Taking) (seen.Found word) else moves_on (moving Taking) lease (if stays word lease.from.0 then Releasing (Some word) else Beginning)).state
    fewer_found word true is stage =
        fewer_back Taking (Some word) stage (ap (λ (b : Bool). (b || not (maps word lease.from.0)) || is_pinned word lease.from.0) is) (omega arith)
    fewer_found word false is stage =
        if_then (λ (at : MovePlace). IsFewer Taking (moving at)) (stays word lease.from.0) (Releasing (Some word)) Beginning
        (λ stay. step_fewer 1 (2 * g.sizes.cells + 5) (omega arith))
        (λ goes. step_fewer (2 * g.sizes.cells + 4) (2 * g.sizes.cells + 5) (omega arith))

    fewer_moved : (at : MovePlace) (heard : Heard) → g.evacuation.stage ≡ Moving lease → StaysAt lease at → IsCell g.sizes at → IsFewer at (moved plugged (moving at) lease at heard).state
    fewer_moved Taking heard stage stay low = fewer_found (word_in heard) (taken_bit (word_in heard) == 1) refl stage
    fewer_moved Beginning heard stage stay low = step_fewer (2 * (g.sizes.cells - 0) + 3) (2 * g.sizes.cells + 4) (omega arith)
    fewer_moved (Loading cell) heard stage stay low = step_fewer (2 * (g.sizes.cells - cell) + 2) (2 * (g.sizes.cells - cell) + 3) (omega arith)
    fewer_moved (Storing cell value) heard stage stay low =
        if_then (λ (at : MovePlace). IsFewer (Storing cell value) (moving at)) (nat_lt (cell + 1) g.sizes.cells) (Loading (cell + 1)) Marking
        (λ more. step_fewer (2 * (g.sizes.cells - (cell + 1)) + 3) (2 * (g.sizes.cells - cell) + 2) (omega arith))
        (λ last. step_fewer 3 (2 * (g.sizes.cells - cell) + 2) (omega arith))
    fewer_moved Marking heard stage stay low = step_fewer 2 3 (omega arith)
    fewer_moved Remapping heard stage stay low = step_fewer 1 2 (omega arith)
    fewer_moved (Releasing found) heard stage stay low = fewer_back (Releasing found) found stage stay (omega arith)

  -- ---- zeros

  -- a frame of n begins, m behind it
  frame_begins : (m n cells l t : ℕ) → m < n → m * (cells + 1) + (cells - 0) + 1 + l + t < n * (cells + 1) + 1 + l + t
  frame_begins m n cells l t lt = let one = less m n (cells + 1) lt in omega arith

  fewer_taken : 1 ≤ g.sizes.block → host_actions_left (taken_on (host places.TakingAway)) < host_actions_left (host places.TakingAway)
  fewer_taken some =
      let first : ℕ = first_frame g.sizes g.evacuation.block.0 in
      frame_begins (first + g.sizes.block - (first + 1)) g.sizes.block g.sizes.cells (blocks_left g.sizes (g.waiting - 1)) (length cs * command_most g.sizes) (omega arith)

  fewer_zeroed : (frame : FrameNo) (cell : ℕ) → cell < g.sizes.cells → host_actions_left (host (zeroed_on g frame cell)) < host_actions_left (host (places.Zeroing frame cell))
  fewer_zeroed frame cell low = if_then (λ (place : HostPlace). host_actions_left (host place) < host_actions_left (host (places.Zeroing frame cell))) (nat_lt (cell + 1) g.sizes.cells) _ _
      (λ more. omega arith) (λ last. omega arith)

  fewer_marked : (frame : FrameNo) → host_actions_left (marked_on (host (places.MarkingZeros frame)) frame) < host_actions_left (host (places.MarkingZeros frame))
  fewer_marked frame =
      let end : ℕ = first_frame g.sizes g.evacuation.block.0 + g.sizes.block in
      if_then (λ (h : HostState). host_actions_left h < host_actions_left (host (places.MarkingZeros frame))) (nat_lt (frame.0 + 1) end) _ _
      (λ more.
      let low : frame.0 + 1 < end = grind (arith, nat_tests) in
      frame_begins (end - (frame.0 + 1 + 1)) (end - (frame.0 + 1)) g.sizes.cells (blocks_left g.sizes g.waiting) (length cs * command_most g.sizes) (omega arith))
      (λ last. let next = few_next (record g { place = places.MarkingZeros frame; tried = g.tried ++ emptied_lines (g.evacuation.block.0 ∷ []) }) c cs g.waiting in omega arith)

-- ---- blocks are put online, and the device is asked

module _ (g : HostState) (cs : List HostCommand) (plugged : List ℕ) (few : length plugged ≤ g.sizes.managed) where
  abbrev at_command : HostCommand → HostPlace → HostState
  at_command c place = record g { left = c ∷ cs; place = place }

  fewer_put : (c : HostCommand) (result : HostResult) → g.waiting < length g.blocks
      → host_actions_left (with_result plugged (record (at_command c (places.PuttingOnline result)) { waiting = g.waiting + 1 }) result).state < host_actions_left (at_command c (places.PuttingOnline result))
  fewer_put c result some =
      let put = few_with_result plugged (record (at_command c (places.PuttingOnline result)) { waiting = g.waiting + 1 }) c cs refl few result in
      let one = length-drop (g.waiting + 1) g.blocks in
      let all = length-drop g.waiting g.blocks in
      omega arith

  module _ (blocks : length g.blocks ≤ g.sizes.managed) where
    abbrev IsFewAsked : HostCommand → HostResult → HostState → Type 0
    IsFewAsked c given h = host_actions_left (with_result plugged h given).state ≤ g.sizes.managed + length cs * command_most g.sizes

    few_still : (c : HostCommand) (given : HostResult) → IsFewAsked c given (at_command c places.Asking)
    few_still c given =
        let put = few_with_result plugged (at_command c places.Asking) c cs refl few given in let held = few_away g in omega arith

    few_asked : (c : HostCommand) (given : HostResult) → IsFewAsked c given (answered (at_command c places.Asking) c given)
    few_asked (commands.Request bytes) (results.Answered (responses.Ack state)) =
        let more : List ℕ = blocks_of (plugged_by g.sizes (request_in bytes) (responses.Ack state)) in
        let put = few_with_result plugged (record (at_command (commands.Request bytes) places.Asking) { blocks = more; waiting = 0 }) (commands.Request bytes) cs refl few (results.Answered (responses.Ack state)) in
        let came = few_plugged g.sizes (request_in bytes) (responses.Ack state) in
        omega arith
    few_asked (commands.Request bytes) (results.Answered responses.Nack) = few_still (commands.Request bytes) (results.Answered responses.Nack)
    few_asked (commands.Request bytes) (results.Answered responses.Busy) = few_still (commands.Request bytes) (results.Answered responses.Busy)
    few_asked (commands.Request bytes) (results.Answered responses.Error) = few_still (commands.Request bytes) (results.Answered responses.Error)
    few_asked (commands.Request bytes) results.Unsent = few_still (commands.Request bytes) results.Unsent
    few_asked (commands.Request bytes) (results.Config config) = few_still (commands.Request bytes) (results.Config config)
    few_asked commands.Config given = few_still commands.Config given

-- ---- any action

module _ (c : Setting) (w : World) (t : Tale) (g : HostState) (set : IsSetting c) (k : IsConsistent c w) (sizes : g.sizes ≡ c.sizes) where
  abbrev standing : List HostCommand → HostPlace → HostState
  standing left place = record g { left = left; place = place }

  few_blocks : (left : List HostCommand) (place : HostPlace) → AreCommandBlocks c w (standing left place) → length g.blocks ≤ g.sizes.managed
  few_blocks left place are =
      let now = few_rising c.sizes.managed (device_now c w).plugged (plugged_rising c w set k) in
      let named = few_of_command c.sizes (device_now c w).plugged left now in
      let long = ap (λ (l : List ℕ). length l) are in
      let managed = ap (λ (s : Sizes). s.managed) sizes in
      omega arith

  few_then : (h : HostState) → MayMake c 0 w (host_action h) → length (device_now c (made c 0 w (host_action h)).world).plugged ≤ g.sizes.managed
  few_then h may =
      let x : World = (made c 0 w (host_action h)).world in
      let behind = few_rising c.sizes.managed (device_now c x).plugged (plugged_rising c x set (action_kept c 0 w (host_action h) set k may)) in
      let managed = ap (λ (s : Sizes). s.managed) sizes in
      omega arith

  cell_of : (lease : MoveLease) (at : MovePlace) → IsMovingAt c.opening (view_of w.snapshot.views 0) lease at → IsCell g.sizes at
  cell_of lease Taking view = tt
  cell_of lease Beginning view = tt
  cell_of lease (Loading cell) view = tt
  cell_of lease (Storing cell value) view = let low = view.1 in let cells = set.cells in let same = ap (λ (s : Sizes). s.cells) sizes in omega arith
  cell_of lease Marking view = tt
  cell_of lease Remapping view = tt
  cell_of lease (Releasing found) view = tt

  fewer_at : (left : List HostCommand) (place : HostPlace) → IsPlacedAt c w (standing left place) t place → IsViewAt c.opening (view_of w.snapshot.views 0) place → has_none left ≡ false → MayMake c 0 w (host_action (standing left place))
      → let x : Made = made c 0 w (host_action (standing left place)) in
      host_actions_left (host_after (device_now c x.world).plugged (standing left place) x.heard) < host_actions_left (standing left place)
  fewer_at [] place p view going may = absurd (cc)
  fewer_at (command ∷ cs) places.Asking p view going may =
      let h : HostState = standing (command ∷ cs) places.Asking in
      let x : Made = made c 0 w (host_action h) in
      let asked = few_asked g cs (device_now c x.world).plugged (few_then h may) (few_blocks (command ∷ cs) places.Asking p.1) command (result_in x.heard) in
      omega arith
  fewer_at (command ∷ cs) places.Evacuating p view going may =
      let h : HostState = standing (command ∷ cs) places.Evacuating in
      let x : Made = made c 0 w (host_action h) in
      fewer_told g command cs (device_now c x.world).plugged (few_then h may) (few_blocks (command ∷ cs) places.Evacuating p.0.blocks) places.Evacuating (seen_in (action_of g.evacuation) x.heard) (p.0.sizes ∙ sym sizes)
      (seen_answers c w h t p.0 p.1)
  fewer_at (command ∷ cs) (places.Moving lease at) p view going may =
      let h : HostState = standing (command ∷ cs) (places.Moving lease at) in
      let x : Made = made c 0 w (host_action h) in
      fewer_moved g command cs (device_now c x.world).plugged (few_then h may) (few_blocks (command ∷ cs) (places.Moving lease at) p.0.blocks) lease at x.heard p.1 p.2 (cell_of lease at view)
  fewer_at (command ∷ cs) places.TakingAway p view going may =
      let h : HostState = standing (command ∷ cs) places.TakingAway in
      fewer_taken g command cs (device_now c (made c 0 w (host_action h)).world).plugged (few_then h may) (few_blocks (command ∷ cs) places.TakingAway p.0.blocks)
      (subst (λ (s : Sizes). 1 ≤ s.block) (sym sizes) (power_to_512_least c.sizes.block set.limits.block))
  fewer_at (command ∷ cs) (places.Zeroing frame cell) p view going may =
      let h : HostState = standing (command ∷ cs) (places.Zeroing frame cell) in
      fewer_zeroed g command cs (device_now c (made c 0 w (host_action h)).world).plugged (few_then h may) (few_blocks (command ∷ cs) (places.Zeroing frame cell) p.0.blocks) frame cell
      (subst (λ (s : Sizes). cell < s.cells) (sym sizes) p.1)
  fewer_at (command ∷ cs) (places.MarkingZeros frame) p view going may =
      let h : HostState = standing (command ∷ cs) (places.MarkingZeros frame) in
      fewer_marked g command cs (device_now c (made c 0 w (host_action h)).world).plugged (few_then h may) (few_blocks (command ∷ cs) (places.MarkingZeros frame) p.blocks) frame
  fewer_at (command ∷ cs) (places.PuttingOnline result) p view going may =
      let h : HostState = standing (command ∷ cs) (places.PuttingOnline result) in
      fewer_put g cs (device_now c (made c 0 w (host_action h)).world).plugged (few_then h may) command result p

pub host_fewer : (c : Setting) (w : World) (runs : List HostRun) (h : HostState) → IsSetting c → IsConsistent c w → HostKept c w runs h → host_ended h ≡ false → MayMake c 0 w (host_action h)
    → let x : Made = made c 0 w (host_action h) in host_actions_left (host_after (device_now c x.world).plugged h x.heard) < host_actions_left h
host_fewer c w runs h set k host going may = fewer_at c w host.tale h set k host.space.sizes h.left h.place host.space.place host.seat.view going may

-- ---- none is left

module _ (c : Setting) (w : World) (t : Tale) (g : HostState) where
  abbrev still : List HostCommand → HostPlace → HostState
  still left place = record g { left = left; place = place }

  some_left : (command : HostCommand) (cs : List HostCommand) (place : HostPlace) → IsPlacedAt c w (still (command ∷ cs) place) t place → 1 ≤ host_actions_left (still (command ∷ cs) place)
  some_left command cs places.Asking p = omega arith
  some_left command cs places.Evacuating p = omega arith
  some_left command cs (places.Moving lease at) p = omega arith
  some_left command cs places.TakingAway p = omega arith
  some_left command cs (places.Zeroing frame cell) p = omega arith
  some_left command cs (places.MarkingZeros frame) p = omega arith
  some_left command cs (places.PuttingOnline result) p = let rest = length-drop g.waiting g.blocks in omega arith

  none_at : (left : List HostCommand) (place : HostPlace) → IsPlacedAt c w (still left place) t place → (host_actions_left (still left place) ≡ 0) ↔ (has_none left ≡ true)
  none_at [] place p = ((λ e. refl), (λ e. refl))
  none_at (command ∷ cs) place p = ((λ e. let some = some_left command cs place p in absurd (omega arith)), (λ e. absurd (false≢true e)))

pub none_left : (c : Setting) (w : World) (h : HostState) (t : Tale) → HostSpace c w h t → (host_actions_left h ≡ 0) ↔ (host_ended h ≡ true)
none_left c w h t space = none_at c w t h h.left h.place space.place

-- ---- what a command costs at most

pub command_cost : (s : Sizes) → command_most s ≤ frame_count s * (11 * s.cells + 36) + 9 * s.managed + 4
command_cost s = omega arith
