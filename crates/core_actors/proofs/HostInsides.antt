-- A host as its fields have it: whether a command is left, which comes next, the action at its place, and what is heard there.
use Rattle.std.proofs.Common.{◌≡◌, ℕ, zero, suc, ◌+◌, ◌<◌, ◌≤◌, ◌==◌, Bool, true, false, nat_lt, ne_eqb, if◌then◌else◌, List, [], ◌∷◌, ◌++◌, length, drop, slice_index_or, Option, Some, refl, sym, ap, ◌∙◌, subst, arith}
use Rattle.std.proofs.lemmas.Bool.{eq-eqb}
use Rattle.std.proofs.lemmas.List.{length-drop}
use mathlib.Core.Logic.{dite}
use native.Mathlib.Decide.{dec_lt}
use Rattle.evac_model.specs.declared.device.Response.{Response}
use Rattle.evac_model.specs.declared.device.Response.TheVariants as responses
use Rattle.evac_model.specs.declared.evacuation.MoveLease.{MoveLease}
use Rattle.evac_model.specs.declared.host.HostCommand.{HostCommand}
use Rattle.evac_model.specs.declared.host.HostCommand.TheVariants as commands
use Rattle.evac_model.specs.declared.host.HostLine.{HostLine}
use Rattle.evac_model.specs.declared.host.HostResult.{HostResult}
use Rattle.evac_model.specs.declared.host.HostResult.TheVariants as results
use Rattle.evac_model.specs.declared.names.FrameNo.{FrameNo}
use Rattle.evac_model.specs.declared.tried.Tried.{Tried}
use Rattle.evac_model.specs.DeviceAnswer.{request_in}
use Rattle.evac_model.specs.Geometry.{Sizes, first_frame}
use Rattle.evac_model.specs.HostCommands.{blocks_of, plugged_by}
use Rattle.evac_words.specs.Word.{taken_bit}
use Rattle.evacuate.specs.declared.seen.EvacSeen.{EvacSeen}
use Rattle.evacuate.specs.declared.seen.EvacSeen.TheVariants as seen
use Rattle.evacuate.specs.declared.stage.Stage.{Stage}
use Rattle.evacuate.specs.declared.stage.Stage.TheVariants as stages
use Rattle.evacuate.specs.Evacuating.{Evacuating, evacuation_at_start, evacuation_after, action_of}
use Rattle.host_work.specs.Requests.{block_no, emptied_lines, failed_line}
use Rattle.machine.specs.declared.action.Action.{Action}
use Rattle.machine.specs.declared.action.Heard.{Heard}
use Rattle.core_actors.specs.declared.host.Host.TheInside.{Inside}
use Rattle.core_actors.specs.declared.host_place.HostPlace.{HostPlace}
use Rattle.core_actors.specs.declared.host_place.HostPlace.TheVariants as places
use Rattle.core_actors.specs.declared.host_place.MovePlace.{MovePlace}
use Rattle.core_actors.specs.declared.host_place.MovePlace.TheVariants.{Taking, Beginning, Loading, Storing, Marking, Remapping, Releasing}
use Rattle.core_actors.specs.HostInside.{HostView, host_state, host_view, IsPlaceInside, IsHostInside}
use Rattle.core_actors.specs.Hosts.{HostState, away, command_blocks, with_next_block, next_block, command_begun, has_none, host_ended, action_at, action_for, host_action}
use Rattle.core_actors.specs.HostHears.{HostHeard, goes_on, line_of, ends_without, with_result, result_in, held_behind, answered, seen_in, goes_on_at, told, moves_on, stays, came_of, moved, heard_at, heard_for, host_heard, host_after, line_after}
use Rattle.core_actors.specs.Places.{word_in}

-- ---- whether a command is left

some_before_end : (commands : List HostCommand) (at : ℕ) → at < length commands → has_none (drop at commands) ≡ false
some_before_end [] at lt = absurd (omega arith)
some_before_end (c ∷ cs) zero lt = refl
some_before_end (c ∷ cs) (suc at) lt = some_before_end cs at (omega arith)

drop_nothing : (n : ℕ) → ◌≡◌ {A = List HostCommand} (drop n []) []
drop_nothing zero = refl
drop_nothing (suc n) = refl

pub one_more_dropped : (commands : List HostCommand) (at : ℕ) → drop (at + 1) commands ≡ drop 1 (drop at commands)
one_more_dropped [] at = rw (drop_nothing at) (drop_nothing (at + 1))
one_more_dropped (c ∷ cs) zero = refl
one_more_dropped (c ∷ cs) (suc at) = let e : suc at + 1 ≡ suc (at + 1) = omega arith in ap (λ (k : ℕ). drop k (c ∷ cs)) e ∙ one_more_dropped cs at

none_at_end : (commands : List HostCommand) (at : ℕ) → length commands ≤ at → has_none (drop at commands) ≡ true
none_at_end [] at le = ap has_none (drop_nothing at)
none_at_end (c ∷ cs) zero le = absurd (omega arith)
none_at_end (c ∷ cs) (suc at) le = none_at_end cs at (omega arith)

pub is_going : (a : Inside) (count : ℕ) → IsHostInside a → count ≡ length a.commands → (a.at ≡ count → ⊥) → host_ended (host_state a) ≡ false
is_going a count inside is before = some_before_end a.commands a.at (let le = inside.at in omega arith)

-- it has ended just behind the last of its commands
pub ended_here : (a : Inside) (count : ℕ) → IsHostInside a → count ≡ length a.commands → (a.at == count) ≡ host_ended (host_state a)
ended_here a count inside is = dite (dec_lt a.at (length a.commands))
    (λ lt. ne_eqb a.at count (λ e. absurd (omega arith)) ∙ sym (some_before_end a.commands a.at lt))
    (λ past. eq-eqb a.at count (let le = inside.at in omega arith) ∙ sym (none_at_end a.commands a.at (omega arith)))

-- a command is under way just before the end
pub before_end : (commands : List HostCommand) (at : ℕ) → has_none (drop at commands) ≡ false → at < length commands
before_end commands at going = dite (dec_lt at (length commands)) (λ lt. lt) (λ past. absurd (let none = none_at_end commands at (omega arith) in cc))

-- the device can be asked with any blocks
pub asks_anywhere : (s : Sizes) (blocks : List ℕ) (waiting : ℕ) (p : HostPlace) → p ≡ places.Asking → IsPlaceInside s blocks waiting p
asks_anywhere s blocks waiting p is = subst (λ (q : HostPlace). IsPlaceInside s blocks waiting q) (sym is) tt

-- ---- the action at a place

action_going : (left : List HostCommand) (h : HostState) (x : Action) → has_none left ≡ false → ((c : HostCommand) → action_at c h h.place ≡ x) → action_for left h ≡ x
action_going [] h x going at = absurd (cc)
action_going (c ∷ cs) h x going at = at c

pub action_here : (h : HostState) (p : HostPlace) (x : Action) → host_ended h ≡ false → h.place ≡ p → ((c : HostCommand) → action_at c h p ≡ x) → x ≡ host_action h
action_here h p x going is at = sym (action_going h.left h x going (λ c. ap (λ (q : HostPlace). action_at c h q) is ∙ at c))

-- ---- the next block

pub next_some : (h : HostState) (n : ℕ) → h.waiting ≡ suc n
    → next_block h ≡ record h { place = places.Evacuating; evacuation = evacuation_at_start h.sizes (block_no (slice_index_or h.blocks n 0)) }
next_some h n is = ap (λ (k : ℕ). with_next_block k h) is

-- ---- the start of a command

module _ (s : Sizes) (left : List HostCommand) (number : ℕ) (e : Evacuating) (blocks : List ℕ) (waiting : ℕ) (tried : List Tried) where
  abbrev placed : HostPlace → HostState
  placed p = record { sizes = s; left = left; number = number; place = p; evacuation = e; blocks = blocks; waiting = waiting; tried = tried }

  place_forgotten : (n : ℕ) (p q : HostPlace) → with_next_block n (placed p) ≡ with_next_block n (placed q)
  place_forgotten zero p q = refl
  place_forgotten (suc n) p q = refl

-- how a command begins depends on no place, blocks or lines of the one before
pub begins_alike : (plugged : List ℕ) (a b : HostState) → a.sizes ≡ b.sizes → a.left ≡ b.left → a.number ≡ b.number → a.evacuation ≡ b.evacuation → command_begun plugged a ≡ command_begun plugged b
begins_alike plugged a b sizes left number evacuation =
    let blocks : List ℕ = command_blocks a.sizes plugged a.left in
    place_forgotten a.sizes a.left a.number a.evacuation blocks (length blocks) [] (length blocks) a.place b.place
    ∙ (ap (λ (s : Sizes). command_begun plugged (record { sizes = s; left = a.left; number = a.number; place = b.place; evacuation = a.evacuation; blocks = b.blocks; waiting = b.waiting; tried = b.tried })) sizes
    ∙ (ap (λ (l : List HostCommand). command_begun plugged (record { sizes = b.sizes; left = l; number = a.number; place = b.place; evacuation = a.evacuation; blocks = b.blocks; waiting = b.waiting; tried = b.tried })) left
    ∙ (ap (λ (n : ℕ). command_begun plugged (record { sizes = b.sizes; left = b.left; number = n; place = b.place; evacuation = a.evacuation; blocks = b.blocks; waiting = b.waiting; tried = b.tried })) number
    ∙ ap (λ (e : Evacuating). command_begun plugged (record { sizes = b.sizes; left = b.left; number = b.number; place = b.place; evacuation = e; blocks = b.blocks; waiting = b.waiting; tried = b.tried })) evacuation)))

next_sizes : (n : ℕ) (h : HostState) → (with_next_block n h).sizes ≡ h.sizes
next_sizes zero h = refl
next_sizes (suc n) h = refl

pub begun_sizes : (plugged : List ℕ) (h : HostState) → (command_begun plugged h).sizes ≡ h.sizes
begun_sizes plugged h =
    let blocks : List ℕ = command_blocks h.sizes plugged h.left in
    next_sizes (length blocks) (record h { blocks = blocks; waiting = length blocks; tried = [] })

-- ---- the result of a command

ends_with_some : (online plugged : List ℕ) (h : HostState) (given : HostResult) → 1 ≤ length online → ends_without online plugged h given ≡ goes_on (record h { place = places.PuttingOnline given })
ends_with_some [] plugged h given some = absurd (omega arith)
ends_with_some (b ∷ blocks) plugged h given some = refl

pub result_kept : (plugged : List ℕ) (h : HostState) (given : HostResult) → h.waiting < length h.blocks → with_result plugged h given ≡ goes_on (record h { place = places.PuttingOnline given })
result_kept plugged h given lt = ends_with_some (away h) plugged h given (let n = length-drop h.waiting h.blocks in omega arith)

-- it depends on no place
ends_anywhere : (online plugged : List ℕ) (h : HostState) (p : HostPlace) (given : HostResult) → ends_without online plugged (record h { place = p }) given ≡ ends_without online plugged h given
ends_anywhere [] plugged h p given =
    ap (λ (x : HostState). record { state = x; line = Some (line_of h given) })
    (begins_alike plugged (record h { left = drop 1 h.left; number = suc h.number; place = p }) (record h { left = drop 1 h.left; number = suc h.number }) refl refl refl refl)
ends_anywhere (b ∷ blocks) plugged h p given = refl

pub result_anywhere : (plugged : List ℕ) (h : HostState) (p : HostPlace) (given : HostResult) → with_result plugged (record h { place = p }) given ≡ with_result plugged h given
result_anywhere plugged h p given = ends_anywhere (away h) plugged h p given

-- ---- what the device gave

pub acked : (h : HostState) (c : HostCommand) (given : HostResult) (bytes : List ℕ) (response : Response) (state : ℕ) (blocks : List ℕ) → c ≡ commands.Request bytes → given ≡ results.Answered response → response ≡ responses.Ack state
    → blocks ≡ blocks_of (plugged_by h.sizes (request_in bytes) response) → record h { blocks = blocks; waiting = 0 } ≡ answered h c given
acked h c given bytes response state blocks command is ack by =
    ap (λ (b : List ℕ). record h { blocks = b; waiting = 0 }) (by ∙ ap (λ (r : Response). blocks_of (plugged_by h.sizes (request_in bytes) r)) ack)
    ∙ sym (ap (λ (x : HostCommand). answered h x given) command
    ∙ (ap (λ (x : HostResult). answered h (commands.Request bytes) x) is
    ∙ ap (λ (r : Response). answered h (commands.Request bytes) (results.Answered r)) ack))

-- ---- what is heard at a place

heard_going : (left : List HostCommand) (plugged : List ℕ) (h : HostState) (heard : Heard) (x : HostHeard) → has_none left ≡ false → ((c : HostCommand) → heard_at plugged c h h.place heard ≡ x) → heard_for plugged left h heard ≡ x
heard_going [] plugged h heard x going at = absurd (cc)
heard_going (c ∷ cs) plugged h heard x going at = at c

pub heard_here : (plugged : List ℕ) (h : HostState) (p : HostPlace) (heard : Heard) (x : HostHeard) → host_ended h ≡ false → h.place ≡ p → ((c : HostCommand) → heard_at plugged c h p heard ≡ x) → x ≡ host_heard plugged h heard
heard_here plugged h p heard x going is at = sym (heard_going h.left plugged h heard x going (λ c. ap (λ (q : HostPlace). heard_at plugged c h q heard) is ∙ at c))

heard_asking : (left : List HostCommand) (plugged : List ℕ) (h r : HostState) (heard : Heard) → h.left ≡ left → has_none left ≡ false → h.place ≡ places.Asking
    → ((c : HostCommand) (cs : List HostCommand) → h.left ≡ c ∷ cs → r ≡ answered h c (result_in heard)) → heard_for plugged left h heard ≡ with_result plugged r (result_in heard)
heard_asking [] plugged h r heard e going is by = absurd (cc)
heard_asking (c ∷ cs) plugged h r heard e going is by =
    ap (λ (q : HostPlace). heard_at plugged c h q heard) is ∙ ap (λ (x : HostState). with_result plugged x (result_in heard)) (sym (by c cs e))

pub asked_here : (plugged : List ℕ) (h r : HostState) (heard : Heard) → host_ended h ≡ false → h.place ≡ places.Asking
    → ((c : HostCommand) (cs : List HostCommand) → h.left ≡ c ∷ cs → r ≡ answered h c (result_in heard)) → with_result plugged r (result_in heard) ≡ host_heard plugged h heard
asked_here plugged h r heard going is by = sym (heard_asking h.left plugged h r heard refl going is by)

-- ---- the sizes stay

module _ (plugged : List ℕ) where
  ends_sizes : (online : List ℕ) (h : HostState) (given : HostResult) → (ends_without online plugged h given).state.sizes ≡ h.sizes
  ends_sizes [] h given = begun_sizes plugged (record h { left = drop 1 h.left; number = suc h.number })
  ends_sizes (b ∷ blocks) h given = refl

  result_sizes : (h : HostState) (given : HostResult) → (with_result plugged h given).state.sizes ≡ h.sizes
  result_sizes h given = ends_sizes (away h) h given

  on_sizes : (stage : Stage) (h : HostState) → (goes_on_at stage plugged h).state.sizes ≡ h.sizes
  on_sizes stages.Isolating h = refl
  on_sizes (stages.Leasing after) h = refl
  on_sizes (stages.Moving lease) h = refl
  on_sizes (stages.Returning attempt) h = refl
  on_sizes (stages.Undoing cause) h = refl
  on_sizes stages.Emptied h = refl
  on_sizes (stages.Failed cause) h = result_sizes (record h { tried = h.tried ++ failed_line h.evacuation.block.0 cause ∷ [] }) results.Unsent

  told_sizes : (h : HostState) (what : EvacSeen) → (told plugged h what).state.sizes ≡ h.sizes
  told_sizes h what = on_sizes (evacuation_after h.evacuation what).stage (record h { evacuation = evacuation_after h.evacuation what })

  found_sizes : (h : HostState) (lease : MoveLease) (word : ℕ) (taken : Bool) → (if taken then told plugged h (seen.Found word) else moves_on h lease (if stays word lease.from.0 then Releasing (Some word) else Beginning)).state.sizes ≡ h.sizes
  found_sizes h lease word true = told_sizes h (seen.Found word)
  found_sizes h lease word false = refl

  moved_sizes : (h : HostState) (lease : MoveLease) (at : MovePlace) (heard : Heard) → (moved plugged h lease at heard).state.sizes ≡ h.sizes
  moved_sizes h lease Taking heard = found_sizes h lease (word_in heard) (taken_bit (word_in heard) == 1)
  moved_sizes h lease Beginning heard = refl
  moved_sizes h lease (Loading cell) heard = refl
  moved_sizes h lease (Storing cell value) heard = refl
  moved_sizes h lease Marking heard = refl
  moved_sizes h lease Remapping heard = refl
  moved_sizes h lease (Releasing word) heard = told_sizes h (came_of word)

  held_sizes : (h : HostState) (blocks : List ℕ) (response : Response) → (held_behind h blocks response).sizes ≡ h.sizes
  held_sizes h blocks (responses.Ack state) = refl
  held_sizes h blocks responses.Nack = refl
  held_sizes h blocks responses.Busy = refl
  held_sizes h blocks responses.Error = refl

  answered_sizes : (h : HostState) (c : HostCommand) (given : HostResult) → (answered h c given).sizes ≡ h.sizes
  answered_sizes h (commands.Request bytes) (results.Answered response) = held_sizes h (blocks_of (plugged_by h.sizes (request_in bytes) response)) response
  answered_sizes h (commands.Request bytes) results.Unsent = refl
  answered_sizes h (commands.Request bytes) (results.Config config) = refl
  answered_sizes h commands.Config given = refl

  marked_sizes : (h : HostState) (frame : FrameNo) (more : Bool) (behind : HostState) → behind.sizes ≡ h.sizes
      → (if more then record h { place = places.Zeroing (record { 0 = frame.0 + 1 }) 0 } else behind).sizes ≡ h.sizes
  marked_sizes h frame true behind is = refl
  marked_sizes h frame false behind is = is

  at_sizes : (c : HostCommand) (h : HostState) (p : HostPlace) (heard : Heard) → (heard_at plugged c h p heard).state.sizes ≡ h.sizes
  at_sizes c h places.Asking heard = result_sizes (answered h c (result_in heard)) (result_in heard) ∙ answered_sizes h c (result_in heard)
  at_sizes c h places.Evacuating heard = told_sizes h (seen_in (action_of h.evacuation) heard)
  at_sizes c h (places.Moving lease at) heard = moved_sizes h lease at heard
  at_sizes c h places.TakingAway heard = refl
  at_sizes c h (places.Zeroing frame cell) heard = refl
  at_sizes c h (places.MarkingZeros frame) heard =
      marked_sizes h frame (nat_lt (frame.0 + 1) (first_frame h.sizes h.evacuation.block.0 + h.sizes.block)) (next_block (record h { tried = h.tried ++ emptied_lines (h.evacuation.block.0 ∷ []) }))
      (next_sizes h.waiting (record h { tried = h.tried ++ emptied_lines (h.evacuation.block.0 ∷ []) }))
  at_sizes c h (places.PuttingOnline result) heard = result_sizes (record h { waiting = h.waiting + 1 }) result

  for_sizes : (left : List HostCommand) (h : HostState) (heard : Heard) → (heard_for plugged left h heard).state.sizes ≡ h.sizes
  for_sizes [] h heard = refl
  for_sizes (c ∷ cs) h heard = at_sizes c h h.place heard

  pub after_sizes : (h : HostState) (heard : Heard) → (host_after plugged h heard).sizes ≡ h.sizes
  after_sizes h heard = for_sizes h.left h heard

-- ---- a host that hears, as its fields have it

module _ (plugged : List ℕ) (a : Inside) (now : HostView) (heard : Heard) (inside : IsHostInside a) (is : host_view a ≡ now) (count : ℕ) (len : count ≡ length a.commands) (before : a.at ≡ count → ⊥) where
  abbrev HearsAt : HostPlace → HostHeard → Type 0
  HearsAt p x = (c : HostCommand) → heard_at plugged c (host_state a) p heard ≡ x

  hears : (p : HostPlace) (x : HostHeard) → a.place ≡ p → HearsAt p x → x ≡ host_heard plugged now.state heard
  hears p x place at =
      heard_here plugged (host_state a) p heard x (is_going a count inside len before) place at ∙ ap (λ (v : HostView). host_heard plugged v.state heard) is

  pub hears_state : (p : HostPlace) (x : HostHeard) (new : HostState) → a.place ≡ p → HearsAt p x → new ≡ x.state → new ≡ host_after plugged now.state heard
  hears_state p x new place at e = e ∙ ap (λ (y : HostHeard). y.state) (hears p x place at)

  pub hears_line : (p : HostPlace) (x : HostHeard) (new : Option HostLine) → a.place ≡ p → HearsAt p x → new ≡ x.line → new ≡ line_after plugged now.state heard
  hears_line p x new place at e = e ∙ ap (λ (y : HostHeard). y.line) (hears p x place at)

  pub hears_sizes : (new : HostState) → new ≡ host_after plugged now.state heard → new.sizes ≡ now.state.sizes
  hears_sizes new e = ap (λ (y : HostState). y.sizes) e ∙ after_sizes plugged now.state heard

  module _ (r : HostState) (place : a.place ≡ places.Asking) (by : (c : HostCommand) (cs : List HostCommand) → drop a.at a.commands ≡ c ∷ cs → r ≡ answered (host_state a) c (result_in heard)) where
    asks : with_result plugged r (result_in heard) ≡ host_heard plugged now.state heard
    asks = asked_here plugged (host_state a) r heard (is_going a count inside len before) place by ∙ ap (λ (v : HostView). host_heard plugged v.state heard) is

    pub asks_state : (given : HostResult) (new : HostState) → given ≡ result_in heard → new ≡ (with_result plugged r given).state → new ≡ host_after plugged now.state heard
    asks_state given new g e = e ∙ (ap (λ (y : HostResult). (with_result plugged r y).state) g ∙ ap (λ (y : HostHeard). y.state) asks)

    pub asks_line : (given : HostResult) (new : Option HostLine) → given ≡ result_in heard → new ≡ (with_result plugged r given).line → new ≡ line_after plugged now.state heard
    asks_line given new g e = e ∙ (ap (λ (y : HostResult). (with_result plugged r y).line) g ∙ ap (λ (y : HostHeard). y.line) asks)
