use Rattle.std.proofs.Common.{◌≡◌, ℕ, length, refl, sym, ap, ◌∙◌, subst, Option, Some}
use Rattle.evac_model.specs.declared.names.FrameNo.{FrameNo}
use Rattle.evac_model.specs.declared.names.Kind.{Kind}
use Rattle.evac_model.specs.declared.names.PageNo.{PageNo}
use Rattle.evac_model.specs.declared.space.SpaceAction.TheVariants as space
use Rattle.evac_model.specs.SpaceJournal.{Leased, lease_of, IsPossible}
use Rattle.core_state.specs.CoreState.{CoreState}
use Rattle.core_state.specs.HandOvers.{MayHandOver}
use Rattle.core_state.specs.Views.{view_of}
use Rattle.space.specs.JournaledSpace.{JournaledSpace, space_state, with_action, IsLeasableFor}
use Rattle.space.proofs.Leases.{refused_none}
use Rattle.space.proofs.LeasesKept.{IsLeaseOf, lease_chosen}
use Rattle.machine.specs.declared.action.Heard.TheVariants as heard
use Rattle.machine.specs.declared.parts.Parts.{Parts}
use Rattle.machine.specs.Made.{Made, lease_made, handed}
use Rattle.machine.specs.MachineInside.{IsMachine, setting_of, world_of, made_of}
use Rattle.machine.specs.MayMake.{MayLease}
use Rattle.machine.specs.World.{Setting, World, free_seat, space_now}
use Rattle.machine.proofs.LeasesKept.{lease_hands, lease_kept, lease_held}
use Rattle.machine.proofs.PartsKept.{machine_again, setting_again, made_again}
use Rattle.machine.proofs.SpaceNow.{space_is}
use Rattle.machine.proofs.space_calls.lease.Goals as goal

module _ (a : Parts) (seat : ℕ) (page : PageNo) (kind : Kind) (is : IsMachine a) (may : MayLease (setting_of a) seat (world_of a) page) where
  abbrev s : Setting
  s = setting_of a

  abbrev w : World
  w = world_of a

  abbrev chosen : Option Leased
  chosen = lease_of s.sizes s.online (space_now s w) seat kind

  -- ---- a frame was leased

  module _ (frame : FrameNo) (possible : IsPossible a.space.sizes a.space.online (space_state a.space) (space.Lease seat frame page kind)) where
    given : IsLeaseOf chosen frame.0
    given = lease_chosen chosen frame.0 possible.2

    leased_hands : MayHandOver s.opening (view_of w.snapshot.views (free_seat s)) (view_of w.snapshot.views seat) frame.0 1
    leased_hands =
        subst (λ (f : ℕ). MayHandOver s.opening (view_of w.snapshot.views (free_seat s)) (view_of w.snapshot.views seat) f 1) given.gave
        (lease_hands s seat w page kind given.leased is.set is.consistent may given.is)

    leased_so : lease_made s seat w page kind chosen ≡ lease_made s seat w page kind (Some (record { frame = frame.0; caches = given.leased.caches }))
    leased_so =
        ap (λ (m : Option Leased). lease_made s seat w page kind m) given.is
        ∙ ap (λ (f : ℕ). lease_made s seat w page kind (Some (record { frame = f; caches = given.leased.caches }))) given.gave

    module _ (core : CoreState) (sp : JournaledSpace) (opening : core.opening ≡ a.core.opening) (snapshot : core.snapshot ≡ handed w.snapshot (free_seat s) seat frame.0)
        (taken : sp ≡ with_action (space.Lease seat frame page kind) a.space) where
      abbrev b : Parts
      b = record a { core = core; space = sp }

      leased_made : made_of b (heard.Leased frame) ≡ lease_made s seat w page kind chosen
      leased_made = made_again a core sp (space.Lease seat frame page kind) opening taken (handed w.snapshot (free_seat s) seat frame.0) (heard.Leased frame) snapshot ∙ sym leased_so

      leased_setting : setting_of b ≡ s
      leased_setting = setting_again a core sp (space.Lease seat frame page kind) opening taken

      leased_machine : IsMachine b
      leased_machine =
          machine_again a b (heard.Leased frame) (lease_made s seat w page kind chosen) is leased_setting refl refl leased_made
          (lease_kept s seat w page kind chosen is.set is.consistent may refl)
          (lease_held s seat w page kind chosen is.set is.consistent may refl)

  -- ---- none was leased

  refused_made : (at : ℕ) → at ≡ length a.space.journal → ((frame : ℕ) → ¬ IsLeasableFor a.space kind frame) → made_of a (heard.NoFrame at) ≡ lease_made s seat w page kind chosen
  refused_made at is_at none =
      ap (λ (n : ℕ). let m : Made = record { world = w; heard = heard.NoFrame n } in m) is_at
      ∙ sym (ap (λ (m : Option Leased). lease_made s seat w page kind m) ((refused_none a.space seat kind is.set.limits (space_is s w is.set is.consistent)).1 none))

-- ---- the goals

pub hand_over-requires-clause-may : goal.hand_over-requires-clause-may
hand_over-requires-clause-may c = leased_hands c.args.parts.now c.args.seat c.args.page c.args.kind c.requires.is c.requires.may c.in-Ok.frame c.in-Ok.ensures.possible

pub returns-in-Ok-clause-is : goal.returns-in-Ok-clause-is
returns-in-Ok-clause-is c =
    leased_machine c.args.parts.now c.args.seat c.args.page c.args.kind c.requires.is c.requires.may c.in-Ok.frame c.in-Ok.ensures.possible c.hand_over.new.core c.lease.new.self
    c.hand_over.ensures.opening c.hand_over.ensures.snapshot c.in-Ok.ensures.leased

pub returns-in-Err-NoFrame-clause-made : goal.returns-in-Err-NoFrame-clause-made
returns-in-Err-NoFrame-clause-made c =
    let a = c.args.parts.now in
    let at = c.in-Err-NoFrame.at in
    ap (λ (sp : JournaledSpace). made_of (record a { space = sp }) (heard.NoFrame at)) c.in-Err-NoFrame.ensures.err
    ∙ refused_made a c.args.seat c.args.page c.args.kind c.requires.is c.requires.may at (c.lease.ensures.at at (cc)) (λ frame. c.lease.ensures.none_free at frame (cc))
