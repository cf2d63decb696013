use Rattle.std.proofs.Common.{rules, ◌≡◌, true, false, sym, ◌∙◌, None}
use Rattle.evac_model.specs.Numbers.{is_in}
use Rattle.core_state.specs.HandOvers.{IsAtRest}
use Rattle.core_state.specs.Views.{view_of}
use Rattle.space.proofs.NextOut.{none_next, emptied_next}
use Rattle.machine.specs.MachineInside.{setting_of, world_of}
use Rattle.machine.specs.World.{space_now}
use Rattle.machine.proofs.SpaceNow.{isolated_managed}
use Rattle.machine.proofs.allowed.may_take_offline.Goals as goal

pub out_after-requires : goal.out_after-requires
out_after-requires c =
    let a = c.args.parts.now in
    let isolated : is_in c.args.block.0 (space_now (setting_of a) (world_of a)).isolated ≡ true = search rules in
    isolated_managed (setting_of a) (world_of a) c.requires.is.set c.requires.is.consistent c.args.block.0 isolated

pub returns-then-not-is_offline : goal.returns-then-not-is_offline
returns-then-not-is_offline c =
    let a = c.args.parts.now in
    let st = space_now (setting_of a) (world_of a) in
    let driver : c.args.seat ≡ 0 = search rules in
    let rests : IsAtRest a.core.opening (view_of a.core.snapshot.views 0) = search rules in
    let isolated : is_in c.args.block.0 st.isolated ≡ true = search rules in
    let there : is_in c.args.block.0 st.offline ≡ false = search rules in (
      (λ is.
          let none : c.out_after.result ≡ None = search rules in
          record { driver = driver; rests = rests; isolated = isolated; there = there; emptied = none_next a.space.sizes st c.args.block.0 (sym c.out_after.ensures ∙ none) }),
      (λ may. let none : c.out_after.result ≡ None = c.out_after.ensures ∙ emptied_next a.space.sizes st c.args.block.0 may.emptied in search rules),
    )
