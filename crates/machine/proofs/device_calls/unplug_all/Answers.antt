use Rattle.std.proofs.Common.{◌≡◌, ℕ, List, [], refl, sym, ap, subst, ◌∙◌}
use Rattle.evac_model.specs.Geometry.{Sizes}
use Rattle.evac_model.specs.Numbers.{IsRisingBelow}
use Rattle.evac_model.specs.DeviceAnswer.{request_in}
use Rattle.mem_device.specs.HandState.{HandState}
use Rattle.mem_device.proofs.Answers.{none_rising}
use Rattle.machine.specs.declared.parts.Parts.{Parts}
use Rattle.machine.specs.Made.{request_made}
use Rattle.machine.specs.MachineInside.{IsMachine, setting_of, world_of}
use Rattle.machine.proofs.BackBlocks.{whole_back}
use Rattle.machine.proofs.HeldBlocks.{all_in_hand, none_has, all_has, machine_request}
use Rattle.machine.proofs.RequestParts.{answer_of, response_is, named_is, unacknowledged, none_between, all_named, listed_gone, given_may, world_request, made_request, calls_request, setting_request}
use Rattle.machine.proofs.device_calls.unplug_all.Goals as goal
use Rattle.machine.proofs.device_calls.unplug_all.Goals.{In-Ok, After-drop-blocks-2, in-Ack, in_default}

-- the response is the device's answer
answered : (c : In-Ok) → c.in-Ok.field-0.response ≡ answer_of c.args.parts.now c.args.bytes.now
answered c = response_is c.args.parts.now c.requires.is c.args.bytes.now c.as_slice-sent.result.now c.requires.may c.as_slice-sent.ensures.bytes _ _ c.in-Ok.field-0.response c.in-Ok.ensures.response

-- the world then, whether it was acknowledged or not
world_then : (c : After-drop-blocks-2) → c.in-Ok.field-0.response ≡ answer_of c.args.parts.now c.args.bytes.now
    → world_of c.match-response.parts ≡ (request_made (setting_of c.args.parts.now) (world_of c.args.parts.now) c.args.bytes.now (answer_of c.args.parts.now c.args.bytes.now)).world
world_then c is =
    let b : Parts = c.match-response.parts in
    let sizes = c.geometry-g.ensures.sizes ∙ (c.plugged.ensures.sizes ∙ c.requires.is.device) in
    let start = none_between c.args.parts.now c.requires.is c.args.bytes.now c.as_slice-sent.result.now c.requires.may c.as_slice-sent.ensures.bytes c.requires.all in
    elim c.match-response.branch [
      | in-Ack x ↦
          world_request c.args.parts.now c.requires.is c.args.bytes.now c.as_slice-sent.result.now c.requires.may c.as_slice-sent.ensures.bytes
          b c.geometry-g.result c.args.parts.now.core.snapshot x.deref.result.now c.in-Ok.field-0.response sizes start
          (listed_gone c.args.parts.now c.requires.is c.args.bytes.now c.as_slice-sent.result.now c.requires.may c.as_slice-sent.ensures.bytes c.requires.all x.deref.result.now c.plugged-2.result.now.plugged x.in-Ack.state
          (x.deref.ensures.value ∙ c.in_ok-blocks.ensures) c.plugged-2.ensures.plugged (sym is ∙ x.in-Ack.is))
          is (ap (λ (p : Parts). p.core.snapshot) x.parts-is ∙ x.hand_each.ensures.handed) (ap (λ (p : Parts). p.space.journal) x.parts-is) (ap (λ (p : Parts). p.device.journal) x.parts-is ∙ c.in-Ok.ensures.journal)
      | in_default x ↦
          world_request c.args.parts.now c.requires.is c.args.bytes.now c.as_slice-sent.result.now c.requires.may c.as_slice-sent.ensures.bytes
          b c.geometry-g.result c.args.parts.now.core.snapshot [] c.in-Ok.field-0.response sizes start
          (sym (unacknowledged c.args.parts.now c.requires.is c.args.bytes.now c.as_slice-sent.result.now c.requires.may c.as_slice-sent.ensures.bytes (λ state ack. x.in_default.not-Ack state (is ∙ ack))))
          is (ap (λ (p : Parts). p.core.snapshot) x.parts-is) (ap (λ (p : Parts). p.space.journal) x.parts-is) (ap (λ (p : Parts). p.device.journal) x.parts-is ∙ c.in-Ok.ensures.journal)
    ]

-- and the setting
setting_then : (c : After-drop-blocks-2) → setting_of c.match-response.parts ≡ setting_of c.args.parts.now
setting_then c =
    let b : Parts = c.match-response.parts in
    elim c.match-response.branch [
      | in-Ack x ↦
          setting_request c.args.parts.now c.requires.is c.args.bytes.now c.as_slice-sent.result.now c.requires.may c.as_slice-sent.ensures.bytes c.answer.new.self.backing c.in-Ok.ensures.asked
          b _ x.hand_each.ensures.opening (ap (λ (p : Parts). setting_of p) x.parts-is)
      | in_default x ↦
          setting_request c.args.parts.now c.requires.is c.args.bytes.now c.as_slice-sent.result.now c.requires.may c.as_slice-sent.ensures.bytes c.answer.new.self.backing c.in-Ok.ensures.asked
          b _ refl (ap (λ (p : Parts). setting_of p) x.parts-is)
    ]

pub answer-requires-clause-held : goal.answer-requires-clause-held
answer-requires-clause-held c =
    ap (λ (h : HandState). h.blocks) c.replace-all.ensures.value
    ∙ (all_in_hand c.args.parts.now c.requires.is c.args.bytes.now c.as_slice-sent.result.now c.requires.may c.as_slice-sent.ensures.bytes c.requires.all
    ∙ (sym (all_named c.args.parts.now c.requires.is c.args.bytes.now c.as_slice-sent.result.now c.requires.may c.as_slice-sent.ensures.bytes c.requires.all)
    ∙ sym (named_is c.args.parts.now c.requires.is c.args.bytes.now c.as_slice-sent.result.now c.requires.may c.as_slice-sent.ensures.bytes)))

pub returns-in-Err-clause-is : goal.returns-in-Err-clause-is
returns-in-Err-clause-is c =
    let err = c.in-Err.ensures.err in
    let back = c.in-Err.ensures.held_back ∙ c.replace-all.ensures.value in
    subst (λ (p : Parts). IsMachine p) (sym (λ i. record c.args.parts.now { device = err i; held = back i })) c.requires.is

pub hand_each-requires-clause-may : goal.hand_each-requires-clause-may
hand_each-requires-clause-may c =
    let is = answered (goal.at.hand_each-requires-clause-may c).In-Ok in
    given_may c.args.parts.now c.requires.is c.args.bytes.now c.as_slice-sent.result.now c.requires.may c.as_slice-sent.ensures.bytes
    c.geometry-g.result c.args.parts.now.core.opening c.args.parts.now.core.snapshot c.deref.result.now (c.geometry-g.ensures.sizes ∙ (c.plugged.ensures.sizes ∙ c.requires.is.device)) refl
    (none_between c.args.parts.now c.requires.is c.args.bytes.now c.as_slice-sent.result.now c.requires.may c.as_slice-sent.ensures.bytes c.requires.all)
    (listed_gone c.args.parts.now c.requires.is c.args.bytes.now c.as_slice-sent.result.now c.requires.may c.as_slice-sent.ensures.bytes c.requires.all c.deref.result.now c.plugged-2.result.now.plugged c.in-Ack.state
    (c.deref.ensures.value ∙ c.in_ok-blocks.ensures) c.plugged-2.ensures.plugged (sym is ∙ c.in-Ack.is))

pub returns-clause-made : goal.returns-clause-made
returns-clause-made c =
    let h = goal.at.returns-clause-made c in
    let is = answered h.In-Ok in
    made_request c.args.parts.now c.requires.is c.args.bytes.now c.as_slice-sent.result.now c.requires.may c.as_slice-sent.ensures.bytes c.match-response.parts c.in-Ok.field-0.response is (world_then h.After-drop-blocks-2 is)

pub returns-clause-is : goal.returns-clause-is
returns-clause-is c =
    let h = goal.at.returns-clause-is c in
    let is = answered h.In-Ok in
    let m = c.requires.is in
    let managed : ℕ = c.args.parts.now.space.sizes.managed in
    let world = world_then h.After-drop-blocks-2 is in
    let b : Parts = c.match-response.parts in
    let calls = calls_request c.args.parts.now c.requires.is c.args.bytes.now c.as_slice-sent.result.now c.requires.may c.as_slice-sent.ensures.bytes c.answer.new.self.backing c.in-Ok.ensures.asked in
    elim c.match-response.branch [
      | in-Ack x ↦
          let now : b.held ≡ c.in_ok-none.none = ap (λ (p : Parts). p.held) x.parts-is ∙ c.replace-all.ensures.after in
          let none : b.held.blocks ≡ [] = ap (λ (t : HandState). t.blocks) now ∙ c.in_ok-none.ensures.blocks in
          machine_request c.args.parts.now c.requires.is c.args.bytes.now c.as_slice-sent.result.now c.requires.may c.as_slice-sent.ensures.bytes
          b (setting_then h.After-drop-blocks-2) world (ap (λ (p : Parts). p.device.sizes) x.parts-is ∙ c.in-Ok.ensures.sizes)
          (ap (λ (p : Parts). p.device.backing.calls) x.parts-is ∙ calls)
          (none_has c.args.parts.now c.requires.is c.args.bytes.now c.as_slice-sent.result.now c.requires.may c.as_slice-sent.ensures.bytes c.requires.all x.in-Ack.state (sym is ∙ x.in-Ack.is) b.held none)
          (ap (λ (t : HandState). t.room) now ∙ (c.in_ok-none.ensures.room ∙ (ap (λ (s : Sizes). s.managed) (c.geometry-g.ensures.sizes ∙ (c.plugged.ensures.sizes ∙ m.device)) ∙ sym m.room)))
          (subst (λ (l : List ℕ). IsRisingBelow managed l) (sym none) (none_rising managed))
      | in_default x ↦
          let now : b.held ≡ c.args.parts.now.held =
          ap (λ (p : Parts). p.held) x.parts-is
          ∙ (whole_back c.args.parts.now.device.sizes c.replace-all.result c.in-Ok.field-0.back (request_in c.as_slice-sent.result.now) c.in-Ok.field-0.response (ap (λ (l : List ℕ). request_in l) c.as_slice-sent.ensures.bytes ∙ c.requires.all)
          x.in_default.not-Ack c.in-Ok.ensures.back
          ∙ c.replace-all.ensures.value) in
          machine_request c.args.parts.now c.requires.is c.args.bytes.now c.as_slice-sent.result.now c.requires.may c.as_slice-sent.ensures.bytes
          b (setting_then h.After-drop-blocks-2) world (ap (λ (p : Parts). p.device.sizes) x.parts-is ∙ c.in-Ok.ensures.sizes)
          (ap (λ (p : Parts). p.device.backing.calls) x.parts-is ∙ calls)
          (all_has c.args.parts.now c.requires.is c.args.bytes.now c.as_slice-sent.result.now c.requires.may c.as_slice-sent.ensures.bytes c.requires.all (λ state ack. x.in_default.not-Ack state (is ∙ ack)) b.held now)
          (ap (λ (t : HandState). t.room) now)
          (subst (λ (t : HandState). IsRisingBelow managed t.blocks) (sym now) m.rising)
    ]
