-- What the host did, behind each action that isn't one of emptying a block.
use Rattle.std.proofs.Common.{◌≡◌, ℕ, zero, suc, ◌+◌, ◌-◌, ◌<◌, Bool, true, false, nat_lt, if◌then◌else◌, List, [], ◌∷◌, ◌++◌, length, get_or, reverse, drop, append-nil, refl, sym, ap, ◌∙◌, subst, arith, Some, None}
use Rattle.std.specs.List.{range_with_len, slice_get}
use Rattle.std.proofs.lemmas.List.{map-append}
use Rattle.std.proofs.lemmas.Option.{slice_get-get_or}
use Rattle.evac_model.specs.declared.device.Response.{Response}
use Rattle.evac_model.specs.declared.device.Response.TheVariants.{Ack, Nack, Busy, Error}
use Rattle.evac_model.specs.declared.device_journal.DeviceAction.{DeviceAction}
use Rattle.evac_model.specs.declared.host.HostCommand.{HostCommand}
use Rattle.evac_model.specs.declared.host.HostCommand.TheVariants.{Request, Config}
use Rattle.evac_model.specs.declared.host.HostResult.{HostResult}
use Rattle.evac_model.specs.declared.host.HostResult.TheVariants as results
use Rattle.evac_model.specs.declared.host.HostRun.{HostRun}
use Rattle.evac_model.specs.declared.names.FrameNo.{FrameNo}
use Rattle.evac_model.specs.declared.space.SpaceAction.{SpaceAction}
use Rattle.evac_model.specs.declared.space.SpaceAction.TheVariants as space
use Rattle.evac_model.specs.declared.tried.Tried.{Tried}
use Rattle.evac_model.specs.declared.tried.TriedResult.TheVariants as tried_results
use Rattle.evac_model.specs.DeviceAnswer.{DeviceState, request_in, named_blocks, config_of}
use Rattle.evac_model.specs.DeviceJournal.{answer_to}
use Rattle.evac_model.specs.Geometry.{Sizes, first_frame}
use Rattle.evac_model.specs.HostCommands.{request_action, blocks_of, plugged_by, put_online}
use Rattle.evac_model.specs.Pairing.{actions_of}
use Rattle.evac_model.proofs.Lists.{all_push}
use Rattle.evacuate.specs.Tale.{Tale, nothing_tried}
use Rattle.host_work.specs.Requests.{block_no, blocks_to_empty, blocks_back, AreTakenAway, emptied_lines}
use Rattle.machine.specs.Consistent.{IsSetting, IsConsistent}
use Rattle.machine.specs.Made.{Made, made}
use Rattle.machine.specs.MayMake.{MayMake}
use Rattle.machine.specs.World.{Setting, World, device_now, device_at, calls_now}
use Rattle.core_actors.specs.declared.host_place.HostPlace.{HostPlace}
use Rattle.core_actors.specs.declared.host_place.HostPlace.TheVariants as places
use Rattle.core_actors.specs.HostDid.{run_list, taken_away, HasTaken, IsDoingZeros, IsDoingAt, IsDoneFor, HostDid}
use Rattle.core_actors.specs.HostFound.{truth, evacuation_did, HasToldTrue, IsTruePlace, HostFound}
use Rattle.core_actors.specs.HostHears.{answered, taken_on, with_result, host_after, line_after}
use Rattle.core_actors.specs.HostSeat.{HostSeat}
use Rattle.core_actors.specs.HostSpace.{HostSpace, IsZeroing, IsPlacedAt, tale_heard}
use Rattle.core_actors.specs.Hosts.{HostState, away, first_of, with_next_block, next_block, host_ended, host_action}
use Rattle.evac_model.proofs.Pushes.{own_push}
use Rattle.core_actors.proofs.HostDoesLists.{from_place, down_to, taken_still, taken_one_more, put_one_more, begins_to_put, AreUntold, no_line, result_did}
use Rattle.core_actors.proofs.HostEndsTrue.{true_at_end}
use Rattle.core_actors.proofs.HostPlaces.{IsBlockPlace}
use Rattle.core_actors.proofs.HostTruths.{Adds, truth_on}

module _ (c : Setting) (y w : World) (runs : List HostRun) (t : Tale) (g : HostState) (command : HostCommand) (cs : List HostCommand) where
  abbrev host : HostPlace → HostState
  host place = record g { left = command ∷ cs; place = place }

  -- what holds behind what was made
  abbrev Behind : HostState → Made → Type 0
  Behind h m = HostDid c y m.world (runs ++ run_list h.left (line_after (device_now c m.world).plugged h m.heard)) (host_after (device_now c m.world).plugged h m.heard) (tale_heard h t m.heard)

  -- the command goes on
  module _ (x : World) (place : HostPlace) (did : HostDid c y w runs (host place) t) (same : x.device ≡ w.device) where
    on : (h : HostState) (u : Tale) → h.number ≡ g.number → IsDoingAt c y x did.done did.sent h u h.place → HostDid c y x (runs ++ run_list (command ∷ cs) None) h u
    on h u number doing = no_line c y x runs (command ∷ cs) h u (record {
      done = did.done;
      sent = did.sent;
      ended = did.ended;
      numbers = did.numbers ∙ ap (λ (n : ℕ). range_with_len 0 n) (sym number);
      doing = doing;
      no_notices = subst AreUntold (sym same) did.no_notices;
    })

  -- ---- an emptied block is taken away

  taking_away : HostDid c y w runs (host places.TakingAway) t → IsPlacedAt c w (host places.TakingAway) t places.TakingAway → HasToldTrue c w g.evacuation t → Adds c w y → Behind (host places.TakingAway) (made c 0 w (host_action (host places.TakingAway)))
  taking_away did place told_true adds =
      let m : Made = made c 0 w (host_action (host places.TakingAway)) in
      let b : ℕ = g.evacuation.block.0 in
      let p = place.0 in
      let some = p.some_wait in
      let waits : suc (g.waiting - 1) ≡ g.waiting = omega arith in
      let taken : reverse (drop (g.waiting - 1) g.blocks) ≡ taken_away g ++ b ∷ [] =
      down_to g.blocks (g.waiting - 1) b p.block ∙ ap (λ (k : ℕ). reverse (drop k g.blocks) ++ b ∷ []) waits in
      let has_taken = did.doing.0 in
      let emptied : truth c y (did.done ++ has_taken.emptying) (block_no b) None (evacuation_did g.evacuation t) =
      truth_on c w y adds (did.done ++ has_taken.emptying) (block_no b) None (evacuation_did g.evacuation t)
      (true_at_end c w g.evacuation t did.done has_taken.emptying has_taken.made told_true p.sizes p.goes_by None place.1) in
      let has : HasTaken c y m.world did.done did.sent (taken_away g ++ b ∷ []) [] =
      taken_one_more c y w m.world did.done did.sent (taken_away g) (evacuation_did g.evacuation t) b did.doing.0 emptied (own_push 0 w.space (space.Offline g.evacuation.block) refl) refl in
      on m.world places.TakingAway did refl (taken_on (host places.TakingAway)) t refl (
        subst (λ (l : List ℕ). HasTaken c y m.world did.done did.sent l []) (sym taken) has,
        did.doing.1 ∙ ap (λ (k : ℕ). emptied_lines (reverse (drop k g.blocks))) (sym waits),
      )

  -- ---- its cells are zeroed

  module _ (x : World) (still : actions_of 0 x.space ≡ actions_of 0 w.space) (same : x.device ≡ w.device) (place : HostPlace) (did : HostDid c y w runs (host place) t) (doing : IsDoingZeros c y w did.done did.sent g) where
    zeros_now : IsDoingZeros c y x did.done did.sent g
    zeros_now = (taken_still c y w x did.done did.sent (taken_away g) [] doing.0 still same, doing.1)

    zeroed : (u : Tale) (frame : FrameNo) (cell : ℕ) (more : Bool)
        → HostDid c y x (runs ++ run_list (command ∷ cs) None) (record g { left = command ∷ cs; place = if more then places.Zeroing frame (cell + 1) else places.MarkingZeros frame }) u
    zeroed u frame cell true = on x place did same (host (places.Zeroing frame (cell + 1))) u refl zeros_now
    zeroed u frame cell false = on x place did same (host (places.MarkingZeros frame)) u refl zeros_now

    -- all cells of the block are zeroed: its line is written, and the next block follows, or the device is asked
    abbrev written : HostState
    written = record g { left = command ∷ cs; place = place; tried = g.tried ++ emptied_lines (g.evacuation.block.0 ∷ []) }

    lines : slice_get g.blocks g.waiting ≡ Some g.evacuation.block.0 → g.tried ++ emptied_lines (g.evacuation.block.0 ∷ []) ≡ emptied_lines (taken_away g)
    lines last =
        let b : ℕ = g.evacuation.block.0 in
        ap (λ (l : List Tried). l ++ emptied_lines (b ∷ [])) doing.1
        ∙ (sym (map-append (λ (k : ℕ). record { block = block_no k; result = tried_results.Emptied }) (reverse (drop (suc g.waiting) g.blocks)) (b ∷ []))
        ∙ ap (λ (l : List ℕ). emptied_lines l) (sym (down_to g.blocks g.waiting b last)))

    next_by : (waiting : ℕ) → waiting ≡ g.waiting → slice_get g.blocks g.waiting ≡ Some g.evacuation.block.0 → HostDid c y x (runs ++ run_list (command ∷ cs) None) (with_next_block waiting written) nothing_tried
    next_by zero is last = on x place did same (with_next_block zero written) nothing_tried refl (zeros_now.0, lines last)
    next_by (suc n) is last = on x place did same (with_next_block (suc n) written) nothing_tried refl (zeros_now.0, lines last)

    marked : (frame : FrameNo) (more : Bool) → slice_get g.blocks g.waiting ≡ Some g.evacuation.block.0
        → HostDid c y x (runs ++ run_list (command ∷ cs) None) (if more then record g { left = command ∷ cs; place = places.Zeroing (record { 0 = frame.0 + 1 }) 0 } else next_block written) nothing_tried
    marked frame true last = on x place did same (host (places.Zeroing (record { 0 = frame.0 + 1 }) 0)) nothing_tried refl zeros_now
    marked frame false last = next_by g.waiting refl last

  zeroing : (frame : FrameNo) (cell : ℕ) → HostDid c y w runs (host (places.Zeroing frame cell)) t → Behind (host (places.Zeroing frame cell)) (made c 0 w (host_action (host (places.Zeroing frame cell))))
  zeroing frame cell did =
      let m : Made = made c 0 w (host_action (host (places.Zeroing frame cell))) in
      zeroed m.world refl refl (places.Zeroing frame cell) did did.doing t frame cell (nat_lt (cell + 1) g.sizes.cells)

  marking : (frame : FrameNo) → HostDid c y w runs (host (places.MarkingZeros frame)) t → IsZeroing c w (host (places.MarkingZeros frame)) frame → Behind (host (places.MarkingZeros frame)) (made c 0 w (host_action (host (places.MarkingZeros frame))))
  marking frame did zeros =
      let m : Made = made c 0 w (host_action (host (places.MarkingZeros frame))) in
      marked m.world refl refl (places.MarkingZeros frame) did did.doing frame (nat_lt (frame.0 + 1) (first_frame g.sizes g.evacuation.block.0 + g.sizes.block)) zeros.block

  -- ---- blocks are put online

  putting : (result : HostResult) → HostDid c y w runs (host (places.PuttingOnline result)) t → g.waiting < length g.blocks → Behind (host (places.PuttingOnline result)) (made c 0 w (host_action (host (places.PuttingOnline result))))
  putting result did some =
      let h : HostState = host (places.PuttingOnline result) in
      let m : Made = made c 0 w (host_action h) in
      let b : ℕ = get_or g.blocks g.waiting 0 in
      let at : slice_get g.blocks g.waiting ≡ Some b = slice_get-get_or g.blocks g.waiting 0 some in
      let first : first_of (away g) ≡ b = ap (λ (l : List ℕ). first_of l) (from_place g.blocks g.waiting b at) in
      let more : actions_of 0 m.world.space ≡ actions_of 0 w.space ++ space.Online (block_no b) ∷ [] =
      own_push 0 w.space (space.Online (block_no (first_of (away g)))) refl ∙ ap (λ (k : ℕ). actions_of 0 w.space ++ space.Online (block_no k) ∷ []) first in
      result_did c y m.world runs did.done did.sent (device_now c m.world).plugged (record h { waiting = g.waiting + 1 }) result did.ended did.numbers did.no_notices
      (put_one_more c y w m.world did.done did.sent h result b at did.doing more refl)

-- ---- the device is asked

module _ (c : Setting) (y w x : World) (runs : List HostRun) (t : Tale) (g : HostState) (command : HostCommand) (cs : List HostCommand) (plugged : List ℕ) (still : actions_of 0 x.space ≡ actions_of 0 w.space) (did : HostDid c y w runs (record g { left = command ∷ cs; place = places.Asking }) t) where
  abbrev emptying : List SpaceAction
  emptying = did.doing.0.emptying

  emptied : actions_of 0 x.space ≡ did.done ++ emptying
  emptied = still ∙ (did.doing.0.made ∙ ap (λ (l : List SpaceAction). did.done ++ l) (append-nil emptying))

  -- the command has that result, and these of its blocks or of others are to be put online
  has_result : (blocks : List ℕ) (waiting : ℕ) (result : HostResult) (mine : List DeviceAction) → x.device ≡ w.device ++ mine → AreUntold x.device → IsDoneFor c y (command ∷ cs) did.done did.sent result g.tried (emptying ++ put_online (drop waiting blocks)) mine
      → let h : HostState = record g { left = command ∷ cs; place = places.Asking; blocks = blocks; waiting = waiting } in
      HostDid c y x (runs ++ run_list (command ∷ cs) (with_result plugged h result).line) (with_result plugged h result).state nothing_tried
  has_result blocks waiting result mine same untold whole =
      let h : HostState = record g { left = command ∷ cs; place = places.Asking; blocks = blocks; waiting = waiting } in
      result_did c y x runs did.done did.sent plugged h result did.ended did.numbers untold
      (begins_to_put c y x did.done did.sent h result emptying mine emptied (same ∙ ap (λ (j : List DeviceAction). j ++ mine) did.doing.0.nothing_sent) whole)

module _ (c : Setting) (y w x : World) (runs : List HostRun) (t : Tale) (g : HostState) (bytes : List ℕ) (cs : List HostCommand) (plugged : List ℕ) (still : actions_of 0 x.space ≡ actions_of 0 w.space) (did : HostDid c y w runs (record g { left = Request bytes ∷ cs; place = places.Asking }) t) (none : g.waiting ≡ 0)
    (sizes : g.sizes ≡ c.sizes) (named : g.blocks ≡ named_blocks c.sizes (device_at c.sizes did.sent).plugged (request_in bytes)) where
  abbrev stood : DeviceState
  stood = device_at c.sizes did.sent

  -- all blocks of the command were taken away
  all_away : away g ≡ named_blocks c.sizes stood.plugged (request_in bytes)
  all_away = ap (λ (k : ℕ). drop k g.blocks) none ∙ named

  all_named : taken_away g ≡ blocks_to_empty c.sizes stood (request_in bytes)
  all_named = ap (λ (l : List ℕ). reverse l) all_away

  was_sent : (response : Response) (back : List ℕ) → back ≡ blocks_back c.sizes stood (request_in bytes) response
      → IsDoneFor c y (Request bytes ∷ cs) did.done did.sent (results.Answered response) g.tried (did.doing.0.emptying ++ put_online back) (request_action bytes response ∷ [])
  was_sent response back is = record {
    emptying = did.doing.0.emptying;
    taken_away = subst (λ (l : List ℕ). AreTakenAway (truth c y) did.done l did.doing.0.emptying) all_named did.doing.0.taken;
    made = ap (λ (l : List ℕ). did.doing.0.emptying ++ put_online l) is;
    sent = refl;
    tried = did.doing.1 ∙ ap (λ (l : List ℕ). emptied_lines l) all_named;
  }

  abbrev asking : HostState
  asking = record g { left = Request bytes ∷ cs; place = places.Asking }

  abbrev Answers : Response → HostState → Type 0
  Answers response h = HostDid c y x (runs ++ run_list (Request bytes ∷ cs) (with_result plugged h (results.Answered response)).line) (with_result plugged h (results.Answered response)).state nothing_tried

  answers : (response : Response) (blocks : List ℕ) (waiting : ℕ) → x.device ≡ w.device ++ request_action bytes response ∷ [] → drop waiting blocks ≡ blocks_back c.sizes stood (request_in bytes) response
      → Answers response (record asking { blocks = blocks; waiting = waiting })
  answers response blocks waiting same is =
      has_result c y w x runs t g (Request bytes) cs plugged still did blocks waiting (results.Answered response) (request_action bytes response ∷ []) same
      (subst AreUntold (sym same) (all_push (λ (a : DeviceAction). a.notices ≡ []) w.device did.no_notices (request_action bytes response) refl)) (was_sent response (drop waiting blocks) is)

  -- by the answer
  asked : (response : Response) → x.device ≡ w.device ++ request_action bytes response ∷ [] → Answers response (answered asking (Request bytes) (results.Answered response))
  asked (Ack state) same =
      answers (Ack state) (blocks_of (plugged_by g.sizes (request_in bytes) (Ack state))) 0 same (ap (λ (s : Sizes). blocks_of (plugged_by s (request_in bytes) (Ack state))) sizes)
  asked Nack same = answers Nack g.blocks g.waiting same all_away
  asked Busy same = answers Busy g.blocks g.waiting same all_away
  asked Error same = answers Error g.blocks g.waiting same all_away

module _ (c : Setting) (y w : World) (runs : List HostRun) (t : Tale) (g : HostState) where
  abbrev standing : List HostCommand → HostPlace → HostState
  standing left place = record g { left = left; place = place }

  -- what holds behind what was made
  abbrev After : HostState → Type 0
  After h =
      let x : Made = made c 0 w (host_action h) in
      HostDid c y x.world (runs ++ run_list h.left (line_after (device_now c x.world).plugged h x.heard)) (host_after (device_now c x.world).plugged h x.heard) (tale_heard h t x.heard)

  read_config : (cs : List HostCommand) → HostDid c y w runs (standing (Config ∷ cs) places.Asking) t → g.waiting ≡ 0 → g.blocks ≡ [] → After (standing (Config ∷ cs) places.Asking)
  read_config cs did none no_blocks =
      let all : away g ≡ [] = ap (λ (k : ℕ). drop k g.blocks) none ∙ no_blocks in
      let nothing : did.doing.0.emptying ≡ [] = subst (λ (l : List ℕ). AreTakenAway (truth c y) did.done (reverse l) did.doing.0.emptying) all did.doing.0.taken in
      has_result c y w w runs t g Config cs (device_now c w).plugged refl did g.blocks g.waiting (results.Config (config_of c.sizes (device_now c w))) [] (sym (append-nil w.device)) did.no_notices (record {
        told = ap (λ (j : List DeviceAction). results.Config (config_of c.sizes (device_at c.sizes j))) did.doing.0.nothing_sent;
        tried = did.doing.1 ∙ ap (λ (l : List ℕ). emptied_lines (reverse l)) all;
        nothing_made = ap (λ (l : List ℕ). did.doing.0.emptying ++ put_online l) all ∙ (append-nil did.doing.0.emptying ∙ nothing);
        nothing_sent = refl;
      })

  at_asking : (command : HostCommand) (cs : List HostCommand) → HostDid c y w runs (standing (command ∷ cs) places.Asking) t → IsPlacedAt c w (standing (command ∷ cs) places.Asking) t places.Asking → g.sizes ≡ c.sizes → After (standing (command ∷ cs) places.Asking)
  at_asking (Request bytes) cs did place sizes =
      let x : World = (made c 0 w (host_action (standing (Request bytes ∷ cs) places.Asking))).world in
      asked c y w x runs t g bytes cs (device_now c x).plugged refl did place.0 sizes
      (subst (λ (j : List DeviceAction). g.blocks ≡ named_blocks c.sizes (device_at c.sizes j).plugged (request_in bytes)) did.doing.0.nothing_sent place.1)
      (answer_to c.sizes (device_now c w) (calls_now c w) bytes) refl
  at_asking Config cs did place sizes = read_config cs did place.0 place.1

  -- ---- any of these actions

  at_place : (left : List HostCommand) (place : HostPlace) → HostDid c y w runs (standing left place) t → IsPlacedAt c w (standing left place) t place → IsTruePlace c w (standing left place) t place → Adds c w y → g.sizes ≡ c.sizes → host_ended (standing left place) ≡ false → IsBlockPlace place → After (standing left place)
  at_place [] place did at found adds sizes going block = absurd (cc)
  at_place (command ∷ cs) places.Asking did at found adds sizes going block = at_asking command cs did at sizes
  at_place (command ∷ cs) places.Evacuating did at found adds sizes going block = absurd block
  at_place (command ∷ cs) (places.Moving lease move) did at found adds sizes going block = absurd block
  at_place (command ∷ cs) places.TakingAway did at found adds sizes going block = taking_away c y w runs t g command cs did at found adds
  at_place (command ∷ cs) (places.Zeroing frame cell) did at found adds sizes going block = zeroing c y w runs t g command cs frame cell did
  at_place (command ∷ cs) (places.MarkingZeros frame) did at found adds sizes going block = marking c y w runs t g command cs frame did at
  at_place (command ∷ cs) (places.PuttingOnline result) did at found adds sizes going block = putting c y w runs t g command cs result did at

pub did_after_block : (c : Setting) (y w : World) (h : HostState) (t : Tale) (runs : List HostRun) → IsSetting c → IsConsistent c w → HostSeat c w h → HostSpace c w h t → HostFound c w h t → Adds c w y → HostDid c y w runs h t → host_ended h ≡ false → IsBlockPlace h.place → MayMake c 0 w (host_action h)
    → let x : Made = made c 0 w (host_action h) in
    HostDid c y x.world (runs ++ run_list h.left (line_after (device_now c x.world).plugged h x.heard)) (host_after (device_now c x.world).plugged h x.heard) (tale_heard h t x.heard)
did_after_block c y w h t runs set kept seat space found adds did going block may = at_place c y w runs t h h.left h.place did space.place found.place adds space.sizes going block
