use Rattle.std.proofs.Common.{◌≡◌, ℕ, length, refl, sym, ap, ◌∙◌, subst, Option, Some}
use Rattle.evac_model.specs.declared.evacuation.MoveLease.{MoveLease}
use Rattle.evac_model.specs.declared.names.BlockNo.{BlockNo}
use Rattle.evac_model.specs.declared.names.FrameNo.{FrameNo}
use Rattle.evac_model.specs.declared.names.Kind.TheVariants.{Movable}
use Rattle.evac_model.specs.declared.names.PageNo.{PageNo}
use Rattle.evac_model.specs.declared.space.SpaceAction.TheVariants as space
use Rattle.evac_model.specs.SpaceJournal.{Leased, lease_of, IsPossible}
use Rattle.core_state.specs.CoreState.{CoreState}
use Rattle.core_state.specs.HandOvers.{MayHandOver}
use Rattle.core_state.specs.Views.{view_of}
use Rattle.space.specs.JournaledSpace.{JournaledSpace, space_state, with_action, IsLeasableFor}
use Rattle.space.specs.Refusals.{next_out}
use Rattle.space.proofs.Leases.{refused_none}
use Rattle.space.proofs.LeasesKept.{IsLeaseOf, lease_chosen}
use Rattle.machine.specs.declared.action.BlockHeard.TheVariants as blocks
use Rattle.machine.specs.declared.action.Heard.{Heard}
use Rattle.machine.specs.declared.action.Heard.TheVariants.{Block}
use Rattle.machine.specs.declared.parts.Parts.{Parts}
use Rattle.machine.specs.Made.{target_made, handed}
use Rattle.machine.specs.MachineInside.{IsMachine, setting_of, world_of, made_of}
use Rattle.machine.specs.MayMake.{MayTarget}
use Rattle.machine.specs.World.{Setting, World, free_seat, space_now}
use Rattle.machine.proofs.PartsKept.{machine_again, setting_again, made_again}
use Rattle.machine.proofs.SpaceNow.{space_is}
use Rattle.machine.proofs.TargetsKept.{target_hands, target_kept, target_held}
use Rattle.machine.proofs.block_calls.lease_target.Goals as goal

module _ (a : Parts) (block : BlockNo) (after : Option FrameNo) (is : IsMachine a) (may : MayTarget (setting_of a) 0 (world_of a) block) where
  abbrev s : Setting
  s = setting_of a

  abbrev w : World
  w = world_of a

  abbrev next : Option (FrameNo × PageNo)
  next = next_out s.sizes (space_now s w) block.0 after

  abbrev chosen : Option Leased
  chosen = lease_of s.sizes s.online (space_now s w) 0 Movable

  -- ---- a target was leased

  module _ (lease : MoveLease) (here : next ≡ Some (lease.from, lease.page)) (possible : IsPossible a.space.sizes a.space.online (space_state a.space) (space.MoveLease lease.target lease.page)) where
    given : IsLeaseOf chosen lease.target.0
    given = lease_chosen chosen lease.target.0 possible.1

    leased_hands : MayHandOver s.opening (view_of w.snapshot.views (free_seat s)) (view_of w.snapshot.views 0) lease.target.0 1
    leased_hands =
        subst (λ (f : ℕ). MayHandOver s.opening (view_of w.snapshot.views (free_seat s)) (view_of w.snapshot.views 0) f 1) given.gave
        (target_hands s w block after (lease.from, lease.page) given.leased is.set is.consistent may here given.is)

    leased_so : target_made s w next chosen ≡ target_made s w (Some (lease.from, lease.page)) (Some (record { frame = lease.target.0; caches = given.leased.caches }))
    leased_so =
        ap (λ (n : Option (FrameNo × PageNo)). target_made s w n chosen) here
        ∙ (ap (λ (m : Option Leased). target_made s w (Some (lease.from, lease.page)) m) given.is
        ∙ ap (λ (f : ℕ). target_made s w (Some (lease.from, lease.page)) (Some (record { frame = f; caches = given.leased.caches }))) given.gave)

    module _ (core : CoreState) (sp : JournaledSpace) (opening : core.opening ≡ a.core.opening) (snapshot : core.snapshot ≡ handed w.snapshot (free_seat s) 0 lease.target.0)
        (taken : sp ≡ with_action (space.MoveLease lease.target lease.page) a.space) where
      abbrev b : Parts
      b = record a { core = core; space = sp }

      abbrev heard : Heard
      heard = Block (blocks.Leased lease)

      leased_made : made_of b heard ≡ target_made s w next chosen
      leased_made = made_again a core sp (space.MoveLease lease.target lease.page) opening taken (handed w.snapshot (free_seat s) 0 lease.target.0) heard snapshot ∙ sym leased_so

      leased_setting : setting_of b ≡ s
      leased_setting = setting_again a core sp (space.MoveLease lease.target lease.page) opening taken

      leased_machine : IsMachine b
      leased_machine =
          machine_again a b heard (target_made s w next chosen) is leased_setting refl refl leased_made
          (target_kept s w block after next chosen is.set is.consistent may refl refl)
          (target_held s w block after next chosen is.set is.consistent may refl refl)

  -- ---- none was leased

  refused_made : (from : FrameNo) (page : PageNo) (at : ℕ) → next ≡ Some (from, page) → at ≡ length a.space.journal → ((frame : ℕ) → ¬ IsLeasableFor a.space Movable frame)
      → made_of a (Block (blocks.NoTarget from page at)) ≡ target_made s w next chosen
  refused_made from page at here is_at none =
      ap (λ (n : ℕ). made_of a (Block (blocks.NoTarget from page n))) is_at
      ∙ sym (ap (λ (n : Option (FrameNo × PageNo)). target_made s w n chosen) here
      ∙ ap (λ (m : Option Leased). target_made s w (Some (from, page)) m) ((refused_none a.space 0 Movable is.set.limits (space_is s w is.set is.consistent)).1 none))

-- ---- the goals

pub hand_over-requires-clause-may : goal.hand_over-requires-clause-may
hand_over-requires-clause-may c =
    let lease = c.in-Ok-Some.lease in
    leased_hands c.args.parts.now c.args.block c.args.after c.requires.is c.requires.may lease (c.lease_for_move.ensures.next lease (cc)) (c.lease_for_move.ensures.possible lease (cc))

pub returns-in-Ok-Some-clause-is : goal.returns-in-Ok-Some-clause-is
returns-in-Ok-Some-clause-is c =
    let lease = c.in-Ok-Some.lease in
    leased_machine c.args.parts.now c.args.block c.args.after c.requires.is c.requires.may lease (c.lease_for_move.ensures.next lease (cc)) (c.lease_for_move.ensures.possible lease (cc))
    c.hand_over.new.core c.lease_for_move.new.self c.hand_over.ensures.opening c.hand_over.ensures.snapshot (c.lease_for_move.ensures.leased lease (cc))

pub returns-in-Ok-Some-clause-setting : goal.returns-in-Ok-Some-clause-setting
returns-in-Ok-Some-clause-setting c =
    let lease = c.in-Ok-Some.lease in
    setting_again c.args.parts.now c.hand_over.new.core c.lease_for_move.new.self (space.MoveLease lease.target lease.page) c.hand_over.ensures.opening (c.lease_for_move.ensures.leased lease (cc))

pub returns-in-Ok-Some-clause-made : goal.returns-in-Ok-Some-clause-made
returns-in-Ok-Some-clause-made c =
    let lease = c.in-Ok-Some.lease in
    leased_made c.args.parts.now c.args.block c.args.after c.requires.is c.requires.may lease (c.lease_for_move.ensures.next lease (cc)) (c.lease_for_move.ensures.possible lease (cc))
    c.hand_over.new.core c.lease_for_move.new.self c.hand_over.ensures.opening c.hand_over.ensures.snapshot (c.lease_for_move.ensures.leased lease (cc))

pub returns-in-Err-NoTarget-clause-made : goal.returns-in-Err-NoTarget-clause-made
returns-in-Err-NoTarget-clause-made c =
    let a = c.args.parts.now in
    let from = c.in-Err-NoTarget.from in
    let page = c.in-Err-NoTarget.page in
    let at = c.in-Err-NoTarget.at in
    let told = c.lease_for_move.ensures in
    ap (λ (sp : JournaledSpace). made_of (record a { space = sp }) (Block (blocks.NoTarget from page at))) c.in-Err-NoTarget.ensures.err
    ∙ refused_made a c.args.block c.args.after c.requires.is c.requires.may from page at (told.no_target from page at (cc)) (told.at from page at (cc)) (λ frame. told.none_free from page at frame (cc))
