-- What the host did, behind each action by which a block is being emptied.
use Rattle.std.proofs.Common.{◌≡◌, ℕ, suc, ◌-◌, ◌==◌, Bool, true, false, ◌||◌, not, nat_lt, if◌then◌else◌, List, [], ◌∷◌, ◌++◌, reverse, take, drop, append-nil, refl, sym, ap, ◌∙◌, subst, arith, Option, Some, None}
use Rattle.std.specs.List.{slice_get}
use Rattle.std.proofs.lemmas.List.{reverse-reverse}
use Rattle.evac_model.specs.declared.device_journal.DeviceAction.{DeviceAction}
use Rattle.evac_model.specs.declared.evacuation.EvacCause.{EvacCause}
use Rattle.evac_model.specs.declared.evacuation.MoveLease.{MoveLease}
use Rattle.evac_model.specs.declared.host.HostCommand.{HostCommand}
use Rattle.evac_model.specs.declared.host.HostCommand.TheVariants.{Request, Config}
use Rattle.evac_model.specs.declared.host.HostResult.TheVariants.{Unsent}
use Rattle.evac_model.specs.declared.host.HostRun.{HostRun}
use Rattle.evac_model.specs.declared.names.BlockNo.{BlockNo}
use Rattle.evac_model.specs.declared.space.SpaceAction.{SpaceAction}
use Rattle.evac_model.specs.declared.tried.Tried.{Tried}
use Rattle.evac_model.specs.HostCommands.{put_online}
use Rattle.evac_model.specs.Pairing.{actions_of}
use Rattle.evac_words.specs.Word.{taken_bit}
use Rattle.evacuate.specs.declared.seen.EvacSeen.{EvacSeen}
use Rattle.evacuate.specs.declared.seen.EvacSeen.TheVariants as seen
use Rattle.evacuate.specs.declared.stage.Stage.{Stage}
use Rattle.evacuate.specs.declared.stage.Stage.TheVariants.{Isolating, Leasing, Moving, Returning, Undoing, Emptied, Failed}
use Rattle.evacuate.specs.Evacuating.{Evacuating, action_at, action_of, is_answer, round_ended, attempt_over, after_answer, evacuation_after}
use Rattle.evacuate.specs.Found.{maps, is_pinned}
use Rattle.evacuate.specs.Tale.{Tale}
use Rattle.evacuate.specs.UnderWay.{LeasedWasBusy, tale_after, GoesOnBy}
use Rattle.evacuate.proofs.Steps.{goes_on}
use Rattle.host_work.specs.Evacuated.{space_action}
use Rattle.host_work.specs.Requests.{failed_line}
use Rattle.machine.specs.Consistent.{IsSetting, IsConsistent}
use Rattle.machine.specs.Made.{Made, made}
use Rattle.machine.specs.MayMake.{MayMake}
use Rattle.machine.specs.World.{Setting, World, device_now, device_at}
use Rattle.core_actors.specs.declared.host_place.HostPlace.{HostPlace}
use Rattle.core_actors.specs.declared.host_place.HostPlace.TheVariants as places
use Rattle.core_actors.specs.declared.host_place.MovePlace.{MovePlace}
use Rattle.core_actors.specs.declared.host_place.MovePlace.TheVariants as moves
use Rattle.core_actors.specs.HostDid.{run_list, taken_away, HasTaken, IsDoingBlock, IsDoingAt, IsDoneFor, IsPutting, HostDid}
use Rattle.core_actors.specs.HostFound.{truth, evacuation_did, HasToldTrue}
use Rattle.core_actors.specs.HostHears.{came_of, cell_on, moves_on, stays, goes_on_at, told, host_after, line_after, seen_in}
use Rattle.core_actors.specs.HostSeat.{HostSeat}
use Rattle.core_actors.specs.HostSpace.{HostSpace, IsEmptying, StaysAt, IsPlacedAt, tale_by, tale_told, tale_heard}
use Rattle.core_actors.specs.Hosts.{HostState, away, command_blocks, host_ended, host_action}
use Rattle.core_actors.specs.Places.{word_in}
use Rattle.core_actors.proofs.HostAnswers.{seen_answers, leased_was_busy}
use Rattle.core_actors.proofs.HostDoesLists.{down_from, behind, taken_still, begins_to_put, AreUntold, no_line, result_did}
use Rattle.core_actors.proofs.HostEndsTrue.{true_at_end}
use Rattle.core_actors.proofs.HostMakes.{Makes, makes, did_more}
use Rattle.core_actors.proofs.HostPlaces.{IsRoundPlace}
use Rattle.core_actors.proofs.HostTold.{fits, returning}

-- ---- an evacuation keeps its sizes and its block

module _ (e : Evacuating) where
  abbrev Stays : Evacuating → Type 0
  Stays after = (after.sizes ≡ e.sizes) × (after.block ≡ e.block)

  either_stays : (t : Bool) (x y : Evacuating) → Stays x → Stays y → Stays (if t then x else y)
  either_stays true x y h g = h
  either_stays false x y h g = g

  round_stays : (busy : Option MoveLease) → Stays (round_ended e busy)
  round_stays None = (refl, refl)
  round_stays (Some lease) = either_stays (nat_lt e.round 4) _ _ (refl, refl) (refl, refl)

  attempt_stays : (lease : MoveLease) (found : Option ℕ) → Stays (attempt_over e lease found)
  attempt_stays lease None = (refl, refl)
  attempt_stays lease (Some word) = either_stays (is_pinned word lease.from.0) _ _ (refl, refl) (refl, refl)

  answer_stays : (stage : Stage) (what : EvacSeen) → Stays (after_answer e stage what)
  answer_stays Isolating seen.Isolated = (refl, refl)
  answer_stays Isolating (seen.Refused frame page) = (refl, refl)
  answer_stays (Leasing after) (seen.Leased lease) = (refl, refl)
  answer_stays (Leasing after) seen.NoneLeft = round_stays e.busy
  answer_stays (Leasing after) (seen.NoTarget from page at) = (refl, refl)
  answer_stays (Moving lease) seen.Moved = (refl, refl)
  answer_stays (Moving lease) (seen.Found word) = (refl, refl)
  answer_stays (Returning attempt) seen.Done = attempt_stays attempt.lease attempt.found
  answer_stays (Undoing why) seen.Done = (refl, refl)
  answer_stays _ _ = (refl, refl)

  pub evacuation_stays : (what : EvacSeen) → Stays (evacuation_after e what)
  evacuation_stays what = either_stays (is_answer e what) (after_answer e e.stage what) e (answer_stays e.stage what) (refl, refl)

-- ---- the evacuation is told what its action gave

module _ (c : Setting) (y w x : World) (runs : List HostRun) (h : HostState) (t : Tale) (plugged : List ℕ) (what : EvacSeen) (did : HostDid c y w runs h t) (block : IsDoingBlock c y w did.done did.sent h t) (p : IsEmptying c w h t) (goes : GoesOnBy h.evacuation (evacuation_after h.evacuation what) t what)
    (more_made : actions_of 0 x.space ≡ actions_of 0 w.space ++ space_action (action_of h.evacuation) what) (same : x.device ≡ w.device) where
  abbrev after : Evacuating
  after = evacuation_after h.evacuation what

  abbrev next : Tale
  next = tale_after h.evacuation t what

  abbrev emptying : List SpaceAction
  emptying = block.0.emptying

  -- behind what it did for the blocks before
  made_now : actions_of 0 x.space ≡ did.done ++ (emptying ++ evacuation_did after next)
  made_now =
      behind c y w x did.done did.sent emptying (evacuation_did h.evacuation t) (space_action (action_of h.evacuation) what) block.0.made more_made
      ∙ ap (λ (l : List SpaceAction). did.done ++ (emptying ++ l)) (did_more h.evacuation after t what goes)

  sent_now : x.device ≡ did.sent
  sent_now = same ∙ block.0.nothing_sent

  taken : HasTaken c y x did.done did.sent (taken_away h) (evacuation_did after next)
  taken = record { emptying = emptying; taken = block.0.taken; made = made_now; nothing_sent = sent_now }

  untold : AreUntold x.device
  untold = subst AreUntold (sym same) did.no_notices

  -- it goes on
  on : (place : HostPlace) → IsDoingAt c y x did.done did.sent (record h { evacuation = after; place = place }) next place → HostDid c y x (runs ++ run_list h.left None) (record h { evacuation = after; place = place }) next
  on place doing = no_line c y x runs h.left (record h { evacuation = after; place = place }) next
      (record { done = did.done; sent = did.sent; ended = did.ended; numbers = did.numbers; doing = doing; no_notices = untold })

  -- it failed

  emptied_now : slice_get h.blocks (h.waiting - 1) ≡ Some after.block.0
  emptied_now = p.block ∙ ap (λ (b : BlockNo). Some b.0) (sym (evacuation_stays h.evacuation what).1)

  -- and all that it was told is true
  module _ (met : (why : EvacCause) → after.stage ≡ Failed why → truth c y (did.done ++ emptying) after.block (Some why) (evacuation_did after next)) where
    whole : (why : EvacCause) → after.stage ≡ Failed why → (left : List HostCommand) → h.blocks ≡ command_blocks c.sizes (device_at c.sizes did.sent).plugged left
        → IsDoneFor c y left did.done did.sent Unsent (h.tried ++ failed_line after.block.0 why ∷ []) ((emptying ++ evacuation_did after next) ++ put_online (away h)) []
    whole why failed [] blocks = absurd (let none : slice_get h.blocks (h.waiting - 1) ≡ None = ap (λ (l : List ℕ). slice_get l (h.waiting - 1)) blocks in let some = emptied_now in cc)
    whole why failed (Config ∷ cs) blocks = absurd (let none : slice_get h.blocks (h.waiting - 1) ≡ None = ap (λ (l : List ℕ). slice_get l (h.waiting - 1)) blocks in let some = emptied_now in cc)
    whole why failed (Request bytes ∷ cs) blocks =
        let some = p.some_wait in
        let waits : suc (h.waiting - 1) ≡ h.waiting = omega arith in
        let later : List ℕ = reverse (take (h.waiting - 1) h.blocks) in
        let all : reverse h.blocks ≡ taken_away h ++ after.block.0 ∷ later =
        subst (λ (k : ℕ). reverse h.blocks ≡ reverse (drop k h.blocks) ++ after.block.0 ∷ later) waits (down_from h.blocks (h.waiting - 1) after.block.0 emptied_now) in
        record {
          before = taken_away h;
          block = after.block.0;
          behind = later;
          blocks = ap (λ (l : List ℕ). reverse l) (sym blocks) ∙ all;
          cause = why;
          emptying = emptying;
          taken_away = block.0.taken;
          failing = evacuation_did after next;
          failed = met why failed;
          made = ap (λ (l : List ℕ). (emptying ++ evacuation_did after next) ++ put_online l) (sym (reverse-reverse (away h)));
          nothing_sent = refl;
          tried = ap (λ (l : List Tried). l ++ failed_line after.block.0 why ∷ []) block.1;
        }

    failing : (why : EvacCause) → after.stage ≡ Failed why → IsPutting c y x did.done did.sent (record h { evacuation = after; tried = h.tried ++ failed_line after.block.0 why ∷ [] }) Unsent
    failing why failed =
        begins_to_put c y x did.done did.sent (record h { evacuation = after; tried = h.tried ++ failed_line after.block.0 why ∷ [] }) Unsent
        (emptying ++ evacuation_did after next) [] made_now (sent_now ∙ sym (append-nil did.sent))
        (whole why failed h.left (subst (λ (j : List DeviceAction). h.blocks ≡ command_blocks c.sizes (device_at c.sizes j).plugged h.left) block.0.nothing_sent p.blocks))

    by_stage : (stage : Stage) → after.stage ≡ stage → HostDid c y x (runs ++ run_list h.left (goes_on_at stage plugged (record h { evacuation = after })).line) (goes_on_at stage plugged (record h { evacuation = after })).state (tale_by stage next)
    by_stage Isolating is = on places.Evacuating (taken, block.1)
    by_stage (Leasing frame) is = on places.Evacuating (taken, block.1)
    by_stage (Moving lease) is = on (places.Moving lease moves.Taking) (taken, block.1)
    by_stage (Returning attempt) is = on places.Evacuating (taken, block.1)
    by_stage (Undoing why) is = on places.Evacuating (taken, block.1)
    by_stage Emptied is = on places.TakingAway (taken, block.1)
    by_stage (Failed why) is = result_did c y x runs did.done did.sent plugged (record h { evacuation = after; tried = h.tried ++ failed_line after.block.0 why ∷ [] }) Unsent did.ended did.numbers untold (failing why is)

    pub told_did : HostDid c y x (runs ++ run_list h.left (told plugged h what).line) (told plugged h what).state (tale_told h t what)
    told_did = by_stage after.stage refl

-- ---- a command under way

module _ (c : Setting) (y w : World) (runs : List HostRun) (t : Tale) (g : HostState) (command : HostCommand) (cs : List HostCommand) where
  abbrev host : HostPlace → HostState
  host place = record g { left = command ∷ cs; place = place }

  -- what holds behind what was made
  abbrev Behind : HostState → Made → Type 0
  Behind h m = HostDid c y m.world (runs ++ run_list h.left (line_after (device_now c m.world).plugged h m.heard)) (host_after (device_now c m.world).plugged h m.heard) (tale_heard h t m.heard)

  -- a page is being moved: no step of a move is one of the frame space, and with none the evacuation fails

  module _ (lease : MoveLease) (at : MovePlace) (x : World) (still : actions_of 0 x.space ≡ actions_of 0 w.space) (same : x.device ≡ w.device) (plugged : List ℕ) (did : HostDid c y w runs (host (places.Moving lease at)) t) where
    abbrev mover : HostState
    mover = host (places.Moving lease at)

    next_step : (onward : MovePlace) → HostDid c y x (runs ++ run_list (command ∷ cs) None) (host (places.Moving lease onward)) t
    next_step onward = no_line c y x runs (command ∷ cs) (host (places.Moving lease onward)) t (record {
      done = did.done;
      sent = did.sent;
      ended = did.ended;
      numbers = did.numbers;
      doing = (taken_still c y w x did.done did.sent (taken_away mover) (evacuation_did mover.evacuation t) did.doing.0 still same, did.doing.1);
      no_notices = subst AreUntold (sym same) did.no_notices;
    })

    -- what came of the page
    came : (found : Option ℕ) → StaysAt lease (moves.Releasing found) → IsPlacedAt c w mover t (places.Moving lease at)
        → HostDid c y x (runs ++ run_list (command ∷ cs) (told plugged mover (came_of found)).line) (told plugged mover (came_of found)).state (tale_told mover t (came_of found))
    came found stay place =
        let what : EvacSeen = came_of found in
        let back = returning plugged mover lease found place.1 stay in
        let none : space_action (action_of g.evacuation) what ≡ [] = ap (λ (s : Stage). space_action (action_at g.evacuation.block s) what) place.1 in
        told_did c y w x runs mover t plugged what did did.doing place.0
        (goes_on g.evacuation t what place.0.goes_by (fits plugged mover lease found place.1 stay) (busy found))
        (still ∙ (sym (append-nil (actions_of 0 w.space)) ∙ ap (λ (l : List SpaceAction). actions_of 0 w.space ++ l) (sym none))) same
        (λ why failed. absurd (let other : Returning (record { lease = lease; found = found }) ≡ Failed why = sym (ap (λ (e : Evacuating). e.stage) back) ∙ failed in cc))
      where
        busy : (found : Option ℕ) → LeasedWasBusy t (came_of found)
        busy None = tt
        busy (Some word) = tt

    -- the page was taken: where somebody holds it, the evacuation is told so
    by_test : (word : ℕ) (held : Bool) (onward : MovePlace) → (taken_bit word == 1) ≡ held → IsPlacedAt c w mover t (places.Moving lease at)
        → HostDid c y x (runs ++ run_list (command ∷ cs) (if held then told plugged mover (seen.Found word) else moves_on mover lease onward).line) (if held then told plugged mover (seen.Found word) else moves_on mover lease onward).state (if held then tale_told mover t (seen.Found word) else t)
    by_test word true onward is place = came (Some word) (ap (λ (b : Bool). (b || not (maps word lease.from.0)) || is_pinned word lease.from.0) is) place
    by_test word false onward is place = next_step onward

  moved_on : (lease : MoveLease) (at : MovePlace) → HostDid c y w runs (host (places.Moving lease at)) t → IsPlacedAt c w (host (places.Moving lease at)) t (places.Moving lease at) → Behind (host (places.Moving lease at)) (made c 0 w (host_action (host (places.Moving lease at))))
  moved_on lease moves.Taking did place =
      let m : Made = made c 0 w (host_action (host (places.Moving lease moves.Taking))) in
      let word : ℕ = word_in m.heard in
      by_test lease moves.Taking m.world refl refl (device_now c m.world).plugged did word (taken_bit word == 1) (if stays word lease.from.0 then moves.Releasing (Some word) else moves.Beginning) refl place
  moved_on lease moves.Beginning did place =
      let m : Made = made c 0 w (host_action (host (places.Moving lease moves.Beginning))) in next_step lease moves.Beginning m.world refl refl (device_now c m.world).plugged did (moves.Loading 0)
  moved_on lease (moves.Loading cell) did place =
      let m : Made = made c 0 w (host_action (host (places.Moving lease (moves.Loading cell)))) in next_step lease (moves.Loading cell) m.world refl refl (device_now c m.world).plugged did (moves.Storing cell (word_in m.heard))
  moved_on lease (moves.Storing cell value) did place =
      let m : Made = made c 0 w (host_action (host (places.Moving lease (moves.Storing cell value)))) in
      next_step lease (moves.Storing cell value) m.world refl refl (device_now c m.world).plugged did (cell_on g.sizes.cells cell)
  moved_on lease moves.Marking did place =
      let m : Made = made c 0 w (host_action (host (places.Moving lease moves.Marking))) in next_step lease moves.Marking m.world refl refl (device_now c m.world).plugged did moves.Remapping
  moved_on lease moves.Remapping did place =
      let m : Made = made c 0 w (host_action (host (places.Moving lease moves.Remapping))) in next_step lease moves.Remapping m.world refl refl (device_now c m.world).plugged did (moves.Releasing None)
  moved_on lease (moves.Releasing found) did place =
      let m : Made = made c 0 w (host_action (host (places.Moving lease (moves.Releasing found)))) in came lease (moves.Releasing found) m.world refl refl (device_now c m.world).plugged did found place.2 place

-- ---- an action of the evacuation: what it was told is true of the world behind it

module _ (c : Setting) (w : World) (runs : List HostRun) (t : Tale) (g : HostState) (command : HostCommand) (cs : List HostCommand) where
  abbrev emptier : HostState
  emptier = record g { left = command ∷ cs; place = places.Evacuating }

  abbrev gives : Made
  gives = made c 0 w (host_action emptier)

  abbrev answer : EvacSeen
  answer = seen_in (action_of g.evacuation) gives.heard

  evacuates : HostDid c gives.world w runs emptier t → IsPlacedAt c w emptier t places.Evacuating → HasToldTrue c gives.world (evacuation_after g.evacuation answer) (tale_after g.evacuation t answer)
      → HostDid c gives.world gives.world (runs ++ run_list (command ∷ cs) (line_after (device_now c gives.world).plugged emptier gives.heard)) (host_after (device_now c gives.world).plugged emptier gives.heard) (tale_heard emptier t gives.heard)
  evacuates did place told_true =
      let plugged : List ℕ = (device_now c gives.world).plugged in
      let more : Makes w (action_of g.evacuation) gives = makes c w (action_of g.evacuation) in
      let goes : GoesOnBy g.evacuation (evacuation_after g.evacuation answer) t answer =
      goes_on g.evacuation t answer place.0.goes_by (seen_answers c w emptier t place.0 place.1) (leased_was_busy c w emptier t place.0 place.1) in
      told_did c gives.world w gives.world runs emptier t plugged answer did did.doing place.0 goes more.0 more.1
      (λ why failed. true_at_end c gives.world (evacuation_after g.evacuation answer) (tale_after g.evacuation t answer) did.done did.doing.0.emptying
      (made_now c gives.world w gives.world runs emptier t plugged answer did did.doing place.0 goes more.0 more.1) told_true
      ((evacuation_stays g.evacuation answer).0 ∙ place.0.sizes) goes.goes_by (Some why) failed)

-- ---- any action of a round

module _ (c : Setting) (w : World) (runs : List HostRun) (t : Tale) (g : HostState) where
  abbrev standing : List HostCommand → HostPlace → HostState
  standing left place = record g { left = left; place = place }

  at_place : (left : List HostCommand) (place : HostPlace)
      → let x : Made = made c 0 w (host_action (standing left place)) in
      let what : EvacSeen = seen_in (action_of g.evacuation) x.heard in
      HostDid c x.world w runs (standing left place) t → IsPlacedAt c w (standing left place) t place → host_ended (standing left place) ≡ false → IsRoundPlace place
      → (place ≡ places.Evacuating → HasToldTrue c x.world (evacuation_after g.evacuation what) (tale_after g.evacuation t what))
      → HostDid c x.world x.world (runs ++ run_list left (line_after (device_now c x.world).plugged (standing left place) x.heard)) (host_after (device_now c x.world).plugged (standing left place) x.heard) (tale_heard (standing left place) t x.heard)
  at_place [] place did at going round told_true = absurd (cc)
  at_place (command ∷ cs) places.Asking did at going round told_true = absurd round
  at_place (command ∷ cs) places.Evacuating did at going round told_true = evacuates c w runs t g command cs did at (told_true refl)
  at_place (command ∷ cs) (places.Moving lease move) did at going round told_true =
      moved_on c (made c 0 w (host_action (standing (command ∷ cs) (places.Moving lease move)))).world w runs t g command cs lease move did at
  at_place (command ∷ cs) places.TakingAway did at going round told_true = absurd round
  at_place (command ∷ cs) (places.Zeroing frame cell) did at going round told_true = absurd round
  at_place (command ∷ cs) (places.MarkingZeros frame) did at going round told_true = absurd round
  at_place (command ∷ cs) (places.PuttingOnline result) did at going round told_true = absurd round

-- by what it did as the world behind the action has it, and where that is one of the evacuation, by what this was told
pub did_after_round : (c : Setting) (w : World) (h : HostState) (t : Tale) (runs : List HostRun) → IsSetting c → IsConsistent c w → HostSeat c w h → HostSpace c w h t
    → let x : Made = made c 0 w (host_action h) in
    let what : EvacSeen = seen_in (action_of h.evacuation) x.heard in
    HostDid c x.world w runs h t → host_ended h ≡ false → IsRoundPlace h.place → MayMake c 0 w (host_action h)
    → (h.place ≡ places.Evacuating → HasToldTrue c x.world (evacuation_after h.evacuation what) (tale_after h.evacuation t what))
    → HostDid c x.world x.world (runs ++ run_list h.left (line_after (device_now c x.world).plugged h x.heard)) (host_after (device_now c x.world).plugged h x.heard) (tale_heard h t x.heard)
did_after_round c w h t runs set kept seat space did going round may told_true = at_place c w runs t h h.left h.place did space.place going round told_true
