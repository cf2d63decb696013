use Rattle.std.proofs.Common.{◌≡◌, ℕ, ◌<◌, length, sym, ap, ◌∙◌, subst}
use Rattle.core_state.specs.declared.keeper.Keeper.TheVariants.{OneOwner}
use Rattle.core_state.specs.declared.opening.Opening.{Opening}
use Rattle.core_state.specs.declared.snapshot.Snapshot.{Snapshot}
use Rattle.core_state.specs.declared.step.Step.{Step}
use Rattle.core_state.specs.CoreState.{CoreState}
use Rattle.core_state.specs.Stepped.{word_found, snapshot_after}
use Rattle.core_state.specs.Views.{view_of}
use Rattle.machine.specs.declared.action.Heard.{Heard}
use Rattle.machine.specs.declared.parts.Parts.{Parts}
use Rattle.machine.specs.Consistent.{IsConsistent}
use Rattle.machine.specs.Made.{heard_by, step_made}
use Rattle.machine.specs.MachineInside.{IsMachine, setting_of, world_of, state_of, made_of}
use Rattle.machine.specs.MayMake.{MayStep}
use Rattle.machine.specs.World.{MachineState}
use Rattle.machine.proofs.Quiet.{actor_there, needs_no_room}
use Rattle.machine.proofs.StepsKept.{machine_with, machine_stepped, step_heard, heard_word, heard_nothing}
use Rattle.machine.proofs.steps.step.Goals as goal

-- the machine whose core may have more room for notices, and a step then
module _ (a : Parts) (core : CoreState) (seat : ℕ) (step : Step) (opening : core.opening ≡ a.core.opening) (snapshot : core.snapshot ≡ a.core.snapshot) (is : IsMachine a) (may : MayStep (setting_of a) seat (world_of a) step) where
  abbrev b : Parts
  b = record a { core = core }

  same_state : state_of b ≡ state_of a
  same_state =
      let state : Opening → Snapshot → MachineState = λ o x. record { setting = record (setting_of a) { opening = o }; world = record (world_of a) { snapshot = x } } in
      ap (λ (o : Opening). state o core.snapshot) opening ∙ ap (λ (x : Snapshot). state a.core.opening x) snapshot

  still_machine : IsMachine b
  still_machine = machine_with a core opening is (subst (λ (x : Snapshot). IsConsistent (setting_of a) (record (world_of a) { snapshot = x })) (sym snapshot) is.consistent)

  still_may : MayStep (setting_of b) seat (world_of b) step
  still_may = subst (λ (m : MachineState). MayStep m.setting seat m.world step) (sym same_state) may

  still_there : seat < length core.snapshot.views
  still_there = actor_there (setting_of b) (world_of b) seat still_machine.consistent still_may.actor

  module _ (after : CoreState) (stepped : after.snapshot ≡ snapshot_after OneOwner core.opening core.snapshot seat step) where
    stepped_made : (hears : Heard) → hears ≡ heard_by step (word_found core.opening core.snapshot.words (view_of core.snapshot.views seat) step) → made_of (record a { core = after }) hears ≡ step_made (setting_of a) seat (world_of a) step
    stepped_made hears said = step_heard b after seat step hears stepped said ∙ ap (λ (m : MachineState). step_made m.setting seat m.world step) same_state

    stepped_machine : after.opening ≡ core.opening → IsMachine (record a { core = after })
    stepped_machine same = machine_stepped b after seat step same stepped still_machine still_may

pub make_room-requires : goal.make_room-requires
make_room-requires c = record { none = needs_no_room _ _ c.args.seat c.requires.is.consistent c.requires.may.actor c.args.step.now }

pub step-requires-clause-seat : goal.step-requires-clause-seat
step-requires-clause-seat c = still_there c.args.parts.now c.make_room.new.core c.args.seat c.args.step.now c.make_room.ensures.opening c.make_room.ensures.snapshot c.requires.is c.requires.may

pub returns-in-Word-clause-made : goal.returns-in-Word-clause-made
returns-in-Word-clause-made c =
    stepped_made c.args.parts.now c.make_room.new.core c.args.seat c.args.step.now c.make_room.ensures.opening c.make_room.ensures.snapshot c.requires.is c.requires.may
    c.step.new.self c.step.ensures.snapshot _ (heard_word c.args.step.now _ _ (sym c.step.ensures.seen ∙ c.in-Word.is))

pub returns-in-Word-clause-is : goal.returns-in-Word-clause-is
returns-in-Word-clause-is c =
    stepped_machine c.args.parts.now c.make_room.new.core c.args.seat c.args.step.now c.make_room.ensures.opening c.make_room.ensures.snapshot c.requires.is c.requires.may
    c.step.new.self c.step.ensures.snapshot c.step.ensures.opening

pub returns-in-Nothing-clause-made : goal.returns-in-Nothing-clause-made
returns-in-Nothing-clause-made c =
    stepped_made c.args.parts.now c.make_room.new.core c.args.seat c.args.step.now c.make_room.ensures.opening c.make_room.ensures.snapshot c.requires.is c.requires.may
    c.step.new.self c.step.ensures.snapshot _ (heard_nothing c.args.step.now _ (sym c.step.ensures.seen ∙ c.in-Nothing.is))

pub returns-in-Nothing-clause-is : goal.returns-in-Nothing-clause-is
returns-in-Nothing-clause-is c =
    stepped_machine c.args.parts.now c.make_room.new.core c.args.seat c.args.step.now c.make_room.ensures.opening c.make_room.ensures.snapshot c.requires.is c.requires.may
    c.step.new.self c.step.ensures.snapshot c.step.ensures.opening
