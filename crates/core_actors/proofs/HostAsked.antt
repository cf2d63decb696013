-- The frame space and the device behind the device's answer to the host's command: an acknowledged PLUG gave the driver its blocks, an
-- acknowledged UNPLUG took all those that it held, and any other answer leaves it those that it has.
use Rattle.std.proofs.Common.{◌≡◌, ℕ, ◌<◌, ◌&&◌, ◌||◌, Bool, true, false, not, List, [], ◌∷◌, drop, refl, sym, ap, ◌∙◌, arith, Option, None, Some}
use Rattle.std.proofs.Math.Bool.{and-true}
use Rattle.std.proofs.lemmas.Bool.{true≢false}
use Rattle.evac_model.specs.declared.device.Request.{Request}
use Rattle.evac_model.specs.declared.device.Request.TheVariants as requests
use Rattle.evac_model.specs.declared.device.Response.{Response}
use Rattle.evac_model.specs.declared.device.Response.TheVariants.{Ack, Nack, Busy, Error}
use Rattle.evac_model.specs.declared.host.HostCommand.{HostCommand}
use Rattle.evac_model.specs.declared.host.HostCommand.TheVariants as commands
use Rattle.evac_model.specs.declared.host.HostResult.TheVariants as results
use Rattle.evac_model.specs.DeviceAnswer.{request_in, named_blocks, config_of}
use Rattle.evac_model.specs.DeviceJournal.{answer_to}
use Rattle.evac_model.specs.Geometry.{Sizes}
use Rattle.evac_model.specs.HostCommands.{blocks_of, plugged_by}
use Rattle.evac_model.specs.Numbers.{is_in}
use Rattle.evac_model.proofs.Distinct.{distinct-range_with_len}
use Rattle.evacuate.specs.Tale.{Tale, nothing_tried}
use Rattle.machine.specs.Consistent.{IsSetting, IsConsistent}
use Rattle.machine.specs.Made.{unplugged_by, request_made}
use Rattle.machine.specs.MayMake.{MayRequest}
use Rattle.machine.specs.World.{Setting, World, device_now, calls_now, is_held}
use Rattle.machine.proofs.PlugAnswers.{same_in}
use Rattle.machine.proofs.RequestBlocks.{plugged_managed, plugged_stays, held_request}
use Rattle.machine.proofs.RequestsKept.{request_kept}
use Rattle.core_actors.specs.declared.host_place.HostPlace.TheVariants as places
use Rattle.core_actors.specs.HostHears.{held_behind, with_result}
use Rattle.core_actors.specs.HostSpace.{HostSpace}
use Rattle.core_actors.specs.Hosts.{HostState}
use Rattle.core_actors.proofs.HostBegins.{HasBlocks, has_blocks, has_result}

-- ---- the answer

-- the world behind that answer to a request
abbrev behind_answer : Setting → World → List ℕ → Response → World
behind_answer c w bytes response = (request_made c w bytes response).world

-- the blocks that it plugged, and those that it unplugged
abbrev came : Setting → List ℕ → Response → List ℕ
came c bytes response = blocks_of (plugged_by c.sizes (request_in bytes) response)

abbrev gone : Setting → World → List ℕ → Response → List ℕ
gone c w bytes response = unplugged_by c.sizes (device_now c w).plugged (request_in bytes) response

-- the driver holds the first then, and the others no more
record IsAnswer (c : Setting) (w : World) (bytes : List ℕ) (response : Response) : Type 0 where
  kept : IsConsistent c (behind_answer c w bytes response)
  held : (b : ℕ) → is_held c (behind_answer c w bytes response) b ≡ ((is_held c w b || is_in b (came c bytes response)) && not (is_in b (gone c w bytes response)))
  managed : (b : ℕ) → is_in b (came c bytes response) ≡ true → b < c.sizes.managed
  apart : (b : ℕ) → is_in b (came c bytes response) ≡ true → is_in b (gone c w bytes response) ≡ false

is_answer : (c : Setting) (w : World) (bytes : List ℕ) → IsSetting c → IsConsistent c w → MayRequest c 0 w bytes → IsAnswer c w bytes (answer_to c.sizes (device_now c w) (calls_now c w) bytes)
is_answer c w bytes set k may = record {
  kept = request_kept c w bytes set k may;
  held = held_request c w bytes set k may;
  managed = plugged_managed c w bytes set k may;
  apart = plugged_stays c w bytes set k may;
}

-- without an acknowledgement no block is plugged
module _ (s : Sizes) where
  nack_plugs : (request : Option Request) → blocks_of (plugged_by s request Nack) ≡ []
  nack_plugs None = refl
  nack_plugs (Some (requests.Plug addr count)) = refl
  nack_plugs (Some (requests.Unplug addr count)) = refl
  nack_plugs (Some requests.UnplugAll) = refl
  nack_plugs (Some (requests.State addr count)) = refl

  busy_plugs : (request : Option Request) → blocks_of (plugged_by s request Busy) ≡ []
  busy_plugs None = refl
  busy_plugs (Some (requests.Plug addr count)) = refl
  busy_plugs (Some (requests.Unplug addr count)) = refl
  busy_plugs (Some requests.UnplugAll) = refl
  busy_plugs (Some (requests.State addr count)) = refl

  error_plugs : (request : Option Request) → blocks_of (plugged_by s request Error) ≡ []
  error_plugs None = refl
  error_plugs (Some (requests.Plug addr count)) = refl
  error_plugs (Some (requests.Unplug addr count)) = refl
  error_plugs (Some requests.UnplugAll) = refl
  error_plugs (Some (requests.State addr count)) = refl

-- the named ones were held, and go; those that came are others
only_came : (named came : Bool) → (came ≡ true → named ≡ false) → ((named || came) && not named) ≡ came
only_came true true apart = absurd (true≢false (apart refl))
only_came true false apart = refl
only_came false came apart = and-true came

-- ---- a request was answered

module _ (c : Setting) (w : World) (t : Tale) (g : HostState) (bytes : List ℕ) (cs : List HostCommand) (set : IsSetting c) (space : HostSpace c w (record g { left = commands.Request bytes ∷ cs; place = places.Asking }) t) where
  abbrev asking : HostState
  asking = record g { left = commands.Request bytes ∷ cs; place = places.Asking }

  -- all blocks that the request names are held, and no others
  named_held : (b : ℕ) → is_held c w b ≡ is_in b (named_blocks c.sizes (device_now c w).plugged (request_in bytes))
  named_held b =
      space.held b
      ∙ (ap (λ (n : ℕ). is_in b (drop n g.blocks)) space.place.0
      ∙ ap (λ (l : List ℕ). is_in b l) space.place.1)

  -- the answer leaves what the driver has
  still_has : (response : Response) → came c bytes response ≡ [] → gone c w bytes response ≡ [] → IsAnswer c w bytes response → HasBlocks c (behind_answer c w bytes response) asking
  still_has response none_came none_gone q =
      let p : HasBlocks c w asking = has_blocks c w asking t space refl in
      record {
        sizes = p.sizes;
        commands = p.commands;
        waiting = p.waiting;
        managed = p.managed;
        distinct = p.distinct;
        held = λ b.
            q.held b
            ∙ (ap (λ (l : List ℕ). (is_held c w b || is_in b l) && not (is_in b (gone c w bytes response))) none_came
            ∙ (ap (λ (l : List ℕ). (is_held c w b || false) && not (is_in b l)) none_gone
            ∙ (sym (same_in (is_held c w b))
            ∙ p.held b)));
        isolated = p.isolated;
      }

  -- it has the blocks that came
  now_has : (state : ℕ) → IsAnswer c w bytes (Ack state) → HasBlocks c (behind_answer c w bytes (Ack state)) (record asking { blocks = blocks_of (plugged_by g.sizes (request_in bytes) (Ack state)); waiting = 0 })
  now_has state q =
      let p : HasBlocks c w asking = has_blocks c w asking t space refl in
      let same : blocks_of (plugged_by g.sizes (request_in bytes) (Ack state)) ≡ came c bytes (Ack state) = ap (λ (s : Sizes). blocks_of (plugged_by s (request_in bytes) (Ack state))) space.sizes in
      record {
        sizes = p.sizes;
        commands = p.commands;
        waiting = omega arith;
        managed = λ b its. q.managed b (ap (λ (l : List ℕ). is_in b l) (sym same) ∙ its);
        distinct = distinct-range_with_len (plugged_by g.sizes (request_in bytes) (Ack state)).first (plugged_by g.sizes (request_in bytes) (Ack state)).count;
        held = λ b.
            q.held b
            ∙ (ap (λ (e : Bool). (e || is_in b (came c bytes (Ack state))) && not (is_in b (gone c w bytes (Ack state)))) (named_held b)
            ∙ (only_came (is_in b (gone c w bytes (Ack state))) (is_in b (came c bytes (Ack state))) (q.apart b)
            ∙ ap (λ (l : List ℕ). is_in b l) (sym same)));
        isolated = p.isolated;
      }

  -- behind that answer
  abbrev Behind : Response → Type 0
  Behind response =
      let x : World = behind_answer c w bytes response in
      HostSpace c x (with_result (device_now c x).plugged (held_behind asking (blocks_of (plugged_by g.sizes (request_in bytes) response)) response) (results.Answered response)).state nothing_tried

  by_answer : (response : Response) → IsAnswer c w bytes response → Behind response
  by_answer (Ack state) q = has_result c (behind_answer c w bytes (Ack state)) (record asking { blocks = blocks_of (plugged_by g.sizes (request_in bytes) (Ack state)); waiting = 0 }) (results.Answered (Ack state)) set q.kept (now_has state q)
  by_answer Nack q = has_result c (behind_answer c w bytes Nack) asking (results.Answered Nack) set q.kept (still_has Nack (nack_plugs c.sizes (request_in bytes)) refl q)
  by_answer Busy q = has_result c (behind_answer c w bytes Busy) asking (results.Answered Busy) set q.kept (still_has Busy (busy_plugs c.sizes (request_in bytes)) refl q)
  by_answer Error q = has_result c (behind_answer c w bytes Error) asking (results.Answered Error) set q.kept (still_has Error (error_plugs c.sizes (request_in bytes)) refl q)

  pub asked : IsConsistent c w → MayRequest c 0 w bytes → Behind (answer_to c.sizes (device_now c w) (calls_now c w) bytes)
  asked k may = by_answer (answer_to c.sizes (device_now c w) (calls_now c w) bytes) (is_answer c w bytes set k may)

-- ---- the configuration was read

pub configured : (c : Setting) (w : World) (t : Tale) (g : HostState) (cs : List HostCommand) → IsSetting c → IsConsistent c w → let h : HostState = record g { left = commands.Config ∷ cs; place = places.Asking } in
    HostSpace c w h t → HostSpace c w (with_result (device_now c w).plugged h (results.Config (config_of c.sizes (device_now c w)))).state nothing_tried
configured c w t g cs set k space =
    let h : HostState = record g { left = commands.Config ∷ cs; place = places.Asking } in
    has_result c w h (results.Config (config_of c.sizes (device_now c w))) set k (has_blocks c w h t space refl)
