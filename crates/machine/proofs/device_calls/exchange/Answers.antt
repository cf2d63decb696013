use Rattle.std.proofs.Common.{◌≡◌, ℕ, ◌⊎◌, true, [], refl, sym, ◌∙◌, arith}
use Rattle.std.specs.List.{range_with_len}
use Rattle.evac_model.specs.Numbers.{is_in}
use Rattle.machine.specs.declared.parts.Parts.{Parts}
use Rattle.machine.specs.Made.{request_made}
use Rattle.machine.specs.MachineInside.{setting_of, world_of}
use Rattle.machine.proofs.HeldBlocks.{named_in_hand, back_below, back_apart, given_known, machine_refused, answered_known, machine_answered}
use Rattle.machine.proofs.RequestParts.{answer_of, came_of, named_of, gone_of, between_of, range_is, response_is, plugged_is, acknowledged, unacknowledged, taken_may, given_may, between_is, between_seats, world_request, made_request, calls_request, setting_request}
use Rattle.machine.proofs.device_calls.exchange.Goals as goal
use Rattle.machine.proofs.device_calls.exchange.Goals.{After-named_range-n, In-Err, In-Ok, After-hand_range, In-Ack, In_default, After-hand_range-in-Ack}

-- the range that is given is that of the blocks that the request names
range : (c : After-named_range-n) → range_with_len c.named_range-n.result.0.0 c.named_range-n.result.1 ≡ named_of c.args.parts.now c.args.bytes.now
range c =
    range_is c.args.parts.now c.requires.is c.args.bytes.now c.as_slice-sent.result.now c.requires.may c.as_slice-sent.ensures.bytes c.plugged-2.result.now.sizes c.plugged-2.result.now.plugged
    c.named_range-n.result.0.0 c.named_range-n.result.1 c.plugged-2.ensures.sizes c.plugged-2.ensures.plugged c.named_range-n.ensures.named

-- the response is the device's answer
answered : (c : In-Ok) → c.in-Ok.field-0.response ≡ answer_of c.args.parts.now c.args.bytes.now
answered c = response_is c.args.parts.now c.requires.is c.args.bytes.now c.as_slice-sent.result.now c.requires.may c.as_slice-sent.ensures.bytes _ _ c.in-Ok.field-0.response c.in-Ok.ensures.response

-- where there is no memory, what comes back had been given
lost : (c : In-Err) → range_with_len c.named_range-n.result.0.0 c.named_range-n.result.1 ≡ named_of c.args.parts.now c.args.bytes.now
    → (b : ℕ) → is_in b c.in-Err.field-0.held.blocks ≡ true → (is_in b (came_of c.args.parts.now c.args.bytes.now) ≡ true) ⊎ (is_in b (named_of c.args.parts.now c.args.bytes.now) ≡ true)
lost c is =
    given_known c.args.parts.now c.requires.is c.args.bytes.now c.as_slice-sent.result.now c.requires.may c.as_slice-sent.ensures.bytes c.named_range-n.result.0.0 c.named_range-n.result.1
    c.part-given.new.self c.part-given.result is c.part-given.ensures.keeps c.part-given.ensures.gives c.in-Err.field-0.held c.in-Err.ensures.held_back

-- what comes back was plugged, or had been given
known : (c : In-Ok) → range_with_len c.named_range-n.result.0.0 c.named_range-n.result.1 ≡ named_of c.args.parts.now c.args.bytes.now
    → (b : ℕ) → is_in b c.in-Ok.field-0.back.blocks ≡ true → (is_in b (came_of c.args.parts.now c.args.bytes.now) ≡ true) ⊎ (is_in b (named_of c.args.parts.now c.args.bytes.now) ≡ true)
known c is =
    answered_known c.args.parts.now c.requires.is c.args.bytes.now c.as_slice-sent.result.now c.requires.may c.as_slice-sent.ensures.bytes c.named_range-n.result.0.0 c.named_range-n.result.1
    c.part-given.new.self c.part-given.result is c.part-given.ensures.keeps c.part-given.ensures.gives _ _ c.in-Ok.field-0.response c.in-Ok.field-0.back c.in-Ok.ensures.response c.in-Ok.ensures.back

-- the frames of the blocks that were plugged are in the driver's hand
moved : (c : After-hand_range) → c.in-Ok.field-0.response ≡ answer_of c.args.parts.now c.args.bytes.now → c.hand_range.new.core.snapshot ≡ between_of c.args.parts.now c.args.bytes.now
moved c is =
    let a = c.args.parts.now in
    let sent = c.as_slice-sent.result.now in
    let same = c.as_slice-sent.ensures.bytes in
    let sizes = c.geometry-g.ensures.sizes ∙ (c.plugged.ensures.sizes ∙ c.requires.is.device) in
    between_is a c.requires.is c.args.bytes.now sent c.requires.may same c.geometry-g.result c.hand_range.new.core.snapshot (range_with_len c.plugged_by-count.result.0.0 c.plugged_by-count.result.1) sizes
    (plugged_is a c.requires.is c.args.bytes.now sent c.requires.may same c.geometry-g.result c.in-Ok.field-0.response _ _ sizes is c.plugged_by-count.ensures.first c.plugged_by-count.ensures.count)
    c.hand_range.ensures.handed

-- those named are gone where they were acknowledged, and none else
all_gone : (c : In-Ack) → c.in-Ok.field-0.response ≡ answer_of c.args.parts.now c.args.bytes.now → range_with_len c.named_range-n.result.0.0 c.named_range-n.result.1 ≡ named_of c.args.parts.now c.args.bytes.now
    → range_with_len c.named_range-n.result.0.0 c.named_range-n.result.1 ≡ gone_of c.args.parts.now c.args.bytes.now
all_gone c is named = named ∙ sym (acknowledged c.args.parts.now c.requires.is c.args.bytes.now c.as_slice-sent.result.now c.requires.may c.as_slice-sent.ensures.bytes c.in-Ack.state (sym is ∙ c.in-Ack.is))

none_gone : (c : In_default) → c.in-Ok.field-0.response ≡ answer_of c.args.parts.now c.args.bytes.now → [] ≡ gone_of c.args.parts.now c.args.bytes.now
none_gone c is = sym (unacknowledged c.args.parts.now c.requires.is c.args.bytes.now c.as_slice-sent.result.now c.requires.may c.as_slice-sent.ensures.bytes (λ state ack. c.in_default.not-Ack state (is ∙ ack)))

-- the parts then, and their world, where it was acknowledged
abbrev parts_acknowledged : After-hand_range-in-Ack → Parts
parts_acknowledged c = record c.args.parts.now { core = c.hand_range-in-Ack.new.core; device = c.answer.new.self; held = c.merge-in-Ok.new.self }

world_acknowledged : (c : After-hand_range-in-Ack) → c.in-Ok.field-0.response ≡ answer_of c.args.parts.now c.args.bytes.now → c.hand_range.new.core.snapshot ≡ between_of c.args.parts.now c.args.bytes.now
    → range_with_len c.named_range-n.result.0.0 c.named_range-n.result.1 ≡ gone_of c.args.parts.now c.args.bytes.now
    → world_of (parts_acknowledged c) ≡ (request_made (setting_of c.args.parts.now) (world_of c.args.parts.now) c.args.bytes.now (answer_of c.args.parts.now c.args.bytes.now)).world
world_acknowledged c is between gone =
    world_request c.args.parts.now c.requires.is c.args.bytes.now c.as_slice-sent.result.now c.requires.may c.as_slice-sent.ensures.bytes
    (parts_acknowledged c) c.geometry-g.result c.hand_range.new.core.snapshot (range_with_len c.named_range-n.result.0.0 c.named_range-n.result.1) c.in-Ok.field-0.response (c.geometry-g.ensures.sizes ∙ (c.plugged.ensures.sizes ∙ c.requires.is.device))
    between gone is c.hand_range-in-Ack.ensures.handed refl c.in-Ok.ensures.journal

-- and where it wasn't
abbrev parts_unacknowledged : In_default → Parts
parts_unacknowledged c = record c.args.parts.now { core = c.hand_range.new.core; device = c.answer.new.self; held = c.merge-in-Ok.new.self }

world_unacknowledged : (c : In_default) → c.in-Ok.field-0.response ≡ answer_of c.args.parts.now c.args.bytes.now → c.hand_range.new.core.snapshot ≡ between_of c.args.parts.now c.args.bytes.now
    → world_of (parts_unacknowledged c) ≡ (request_made (setting_of c.args.parts.now) (world_of c.args.parts.now) c.args.bytes.now (answer_of c.args.parts.now c.args.bytes.now)).world
world_unacknowledged c is between =
    world_request c.args.parts.now c.requires.is c.args.bytes.now c.as_slice-sent.result.now c.requires.may c.as_slice-sent.ensures.bytes
    (parts_unacknowledged c) c.geometry-g.result c.hand_range.new.core.snapshot [] c.in-Ok.field-0.response (c.geometry-g.ensures.sizes ∙ (c.plugged.ensures.sizes ∙ c.requires.is.device))
    between (none_gone c is) is refl refl c.in-Ok.ensures.journal

pub part-given-requires-clause-has : goal.part-given-requires-clause-has
part-given-requires-clause-has c =
    named_in_hand c.args.parts.now c.requires.is c.args.bytes.now c.as_slice-sent.result.now c.requires.may c.as_slice-sent.ensures.bytes c.named_range-n.result.0.0 c.named_range-n.result.1
    (range (goal.at.part-given-requires-clause-has c).After-named_range-n)

pub merge-requires-clause-below : goal.merge-requires-clause-below
merge-requires-clause-below c =
    let is = range (goal.at.merge-requires-clause-below c).After-named_range-n in
    back_below c.args.parts.now c.requires.is c.args.bytes.now c.as_slice-sent.result.now c.requires.may c.as_slice-sent.ensures.bytes c.named_range-n.result.0.0 c.named_range-n.result.1
    c.part-given.new.self c.part-given.result is c.part-given.ensures.keeps c.part-given.ensures.gives c.in-Err.field-0.held (lost (goal.at.merge-requires-clause-below c).In-Err is) c.part-given.ensures.room

pub merge-requires-clause-apart : goal.merge-requires-clause-apart
merge-requires-clause-apart c =
    let is = range (goal.at.merge-requires-clause-apart c).After-named_range-n in
    back_apart c.args.parts.now c.requires.is c.args.bytes.now c.as_slice-sent.result.now c.requires.may c.as_slice-sent.ensures.bytes c.named_range-n.result.0.0 c.named_range-n.result.1
    c.part-given.new.self c.part-given.result is c.part-given.ensures.keeps c.part-given.ensures.gives c.in-Err.field-0.held (lost (goal.at.merge-requires-clause-apart c).In-Err is)

pub merge-requires-in-Ok-clause-below : goal.merge-requires-in-Ok-clause-below
merge-requires-in-Ok-clause-below c =
    let is = range (goal.at.merge-requires-in-Ok-clause-below c).After-named_range-n in
    back_below c.args.parts.now c.requires.is c.args.bytes.now c.as_slice-sent.result.now c.requires.may c.as_slice-sent.ensures.bytes c.named_range-n.result.0.0 c.named_range-n.result.1
    c.part-given.new.self c.part-given.result is c.part-given.ensures.keeps c.part-given.ensures.gives c.in-Ok.field-0.back (known (goal.at.merge-requires-in-Ok-clause-below c).In-Ok is) c.part-given.ensures.room

pub merge-requires-in-Ok-clause-apart : goal.merge-requires-in-Ok-clause-apart
merge-requires-in-Ok-clause-apart c =
    let is = range (goal.at.merge-requires-in-Ok-clause-apart c).After-named_range-n in
    back_apart c.args.parts.now c.requires.is c.args.bytes.now c.as_slice-sent.result.now c.requires.may c.as_slice-sent.ensures.bytes c.named_range-n.result.0.0 c.named_range-n.result.1
    c.part-given.new.self c.part-given.result is c.part-given.ensures.keeps c.part-given.ensures.gives c.in-Ok.field-0.back (known (goal.at.merge-requires-in-Ok-clause-apart c).In-Ok is)

pub hand_range-requires-clause-may : goal.hand_range-requires-clause-may
hand_range-requires-clause-may c =
    let a = c.args.parts.now in
    let sent = c.as_slice-sent.result.now in
    let same = c.as_slice-sent.ensures.bytes in
    let sizes = c.geometry-g.ensures.sizes ∙ (c.plugged.ensures.sizes ∙ c.requires.is.device) in
    taken_may a c.requires.is c.args.bytes.now sent c.requires.may same c.geometry-g.result (range_with_len c.plugged_by-count.result.0.0 c.plugged_by-count.result.1) sizes
    (plugged_is a c.requires.is c.args.bytes.now sent c.requires.may same c.geometry-g.result c.in-Ok.field-0.response _ _ sizes (answered (goal.at.hand_range-requires-clause-may c).In-Ok) c.plugged_by-count.ensures.first c.plugged_by-count.ensures.count)

pub hand_range-requires-in-Ack-clause-from : goal.hand_range-requires-in-Ack-clause-from
hand_range-requires-in-Ack-clause-from c =
    let h = goal.at.hand_range-requires-in-Ack-clause-from c in
    let seats = between_seats c.args.parts.now c.requires.is c.args.bytes.now c.as_slice-sent.result.now c.requires.may c.as_slice-sent.ensures.bytes
    c.hand_range.new.core.snapshot (moved h.After-hand_range (answered h.In-Ok)) in omega arith

pub hand_range-requires-in-Ack-clause-to : goal.hand_range-requires-in-Ack-clause-to
hand_range-requires-in-Ack-clause-to c =
    let h = goal.at.hand_range-requires-in-Ack-clause-to c in
    let seats = between_seats c.args.parts.now c.requires.is c.args.bytes.now c.as_slice-sent.result.now c.requires.may c.as_slice-sent.ensures.bytes
    c.hand_range.new.core.snapshot (moved h.After-hand_range (answered h.In-Ok)) in omega arith

pub hand_range-requires-in-Ack-clause-may : goal.hand_range-requires-in-Ack-clause-may
hand_range-requires-in-Ack-clause-may c =
    let h = goal.at.hand_range-requires-in-Ack-clause-may c in
    let is = answered h.In-Ok in
    given_may c.args.parts.now c.requires.is c.args.bytes.now c.as_slice-sent.result.now c.requires.may c.as_slice-sent.ensures.bytes
    c.geometry-g.result c.hand_range.new.core.opening c.hand_range.new.core.snapshot (range_with_len c.named_range-n.result.0.0 c.named_range-n.result.1) (c.geometry-g.ensures.sizes ∙ (c.plugged.ensures.sizes ∙ c.requires.is.device))
    c.hand_range.ensures.opening (moved h.After-hand_range is) (all_gone h.In-Ack is (range h.After-named_range-n))

pub returns-in-Err-clause-is : goal.returns-in-Err-clause-is
returns-in-Err-clause-is c =
    let h = goal.at.returns-in-Err-clause-is c in
    let err = c.in-Err.ensures.err in
    machine_refused c.args.parts.now c.requires.is c.args.bytes.now c.as_slice-sent.result.now c.requires.may c.as_slice-sent.ensures.bytes c.named_range-n.result.0.0 c.named_range-n.result.1
    c.part-given.new.self c.part-given.result (range h.After-named_range-n) c.part-given.ensures.keeps c.part-given.ensures.gives c.in-Err.field-0.held c.in-Err.ensures.held_back
    (record c.args.parts.now { device = c.answer.new.self; held = c.merge.new.self }) (λ i. setting_of (record c.args.parts.now { device = err i; held = c.merge.new.self })) (λ i. world_of (record c.args.parts.now { device = err i; held = c.merge.new.self })) err
    c.merge.ensures.takes (c.merge.ensures.room ∙ c.part-given.ensures.room)

pub returns-in-Ack-clause-made : goal.returns-in-Ack-clause-made
returns-in-Ack-clause-made c =
    let h = goal.at.returns-in-Ack-clause-made c in
    let is = answered h.In-Ok in
    made_request c.args.parts.now c.requires.is c.args.bytes.now c.as_slice-sent.result.now c.requires.may c.as_slice-sent.ensures.bytes
    (parts_acknowledged h.After-hand_range-in-Ack) c.in-Ok.field-0.response is (world_acknowledged h.After-hand_range-in-Ack is (moved h.After-hand_range is) (all_gone h.In-Ack is (range h.After-named_range-n)))

pub returns-in_default-clause-made : goal.returns-in_default-clause-made
returns-in_default-clause-made c =
    let h = goal.at.returns-in_default-clause-made c in
    let is = answered h.In-Ok in
    made_request c.args.parts.now c.requires.is c.args.bytes.now c.as_slice-sent.result.now c.requires.may c.as_slice-sent.ensures.bytes
    (parts_unacknowledged h.In_default) c.in-Ok.field-0.response is (world_unacknowledged h.In_default is (moved h.After-hand_range is))

pub returns-in-Ack-clause-is : goal.returns-in-Ack-clause-is
returns-in-Ack-clause-is c =
    let h = goal.at.returns-in-Ack-clause-is c in
    let is = answered h.In-Ok in
    let named = range h.After-named_range-n in
    let b : Parts = parts_acknowledged h.After-hand_range-in-Ack in
    machine_answered c.args.parts.now c.requires.is c.args.bytes.now c.as_slice-sent.result.now c.requires.may c.as_slice-sent.ensures.bytes c.named_range-n.result.0.0 c.named_range-n.result.1
    c.part-given.new.self c.part-given.result named c.part-given.ensures.keeps c.part-given.ensures.gives _ _ c.in-Ok.field-0.response c.in-Ok.field-0.back c.in-Ok.ensures.response c.in-Ok.ensures.back
    b (setting_request c.args.parts.now c.requires.is c.args.bytes.now c.as_slice-sent.result.now c.requires.may c.as_slice-sent.ensures.bytes c.answer.new.self.backing c.in-Ok.ensures.asked b _ (c.hand_range-in-Ack.ensures.opening ∙ c.hand_range.ensures.opening) refl)
    (world_acknowledged h.After-hand_range-in-Ack is (moved h.After-hand_range is) (all_gone h.In-Ack is named))
    c.in-Ok.ensures.sizes (calls_request c.args.parts.now c.requires.is c.args.bytes.now c.as_slice-sent.result.now c.requires.may c.as_slice-sent.ensures.bytes c.answer.new.self.backing c.in-Ok.ensures.asked)
    c.merge-in-Ok.ensures.takes (c.merge-in-Ok.ensures.room ∙ c.part-given.ensures.room)

pub returns-in_default-clause-is : goal.returns-in_default-clause-is
returns-in_default-clause-is c =
    let h = goal.at.returns-in_default-clause-is c in
    let is = answered h.In-Ok in
    let named = range h.After-named_range-n in
    let b : Parts = parts_unacknowledged h.In_default in
    machine_answered c.args.parts.now c.requires.is c.args.bytes.now c.as_slice-sent.result.now c.requires.may c.as_slice-sent.ensures.bytes c.named_range-n.result.0.0 c.named_range-n.result.1
    c.part-given.new.self c.part-given.result named c.part-given.ensures.keeps c.part-given.ensures.gives _ _ c.in-Ok.field-0.response c.in-Ok.field-0.back c.in-Ok.ensures.response c.in-Ok.ensures.back
    b (setting_request c.args.parts.now c.requires.is c.args.bytes.now c.as_slice-sent.result.now c.requires.may c.as_slice-sent.ensures.bytes c.answer.new.self.backing c.in-Ok.ensures.asked b _ c.hand_range.ensures.opening refl)
    (world_unacknowledged h.In_default is (moved h.After-hand_range is))
    c.in-Ok.ensures.sizes (calls_request c.args.parts.now c.requires.is c.args.bytes.now c.as_slice-sent.result.now c.requires.may c.as_slice-sent.ensures.bytes c.answer.new.self.backing c.in-Ok.ensures.asked)
    c.merge-in-Ok.ensures.takes (c.merge-in-Ok.ensures.room ∙ c.part-given.ensures.room)
