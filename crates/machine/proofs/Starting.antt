-- The parts of a machine at its start.
use Rattle.std.proofs.Common.{◌≡◌, ℕ, List, [], length, refl, sym, ap, ◌∙◌, subst}
use Rattle.evac_model.specs.declared.names.Kind.{Kind}
use Rattle.evac_model.specs.declared.scenario.StartPage.{StartPage}
use Rattle.evac_model.specs.Counts.{first_of_calls}
use Rattle.evac_model.specs.Geometry.{Sizes}
use Rattle.evac_model.specs.Numbers.{is_in, IsRisingBelow}
use Rattle.evac_model.specs.SpaceJournal.{space_at_start}
use Rattle.evac_model.proofs.Numbers.{numbers_where-none}
use Rattle.core_state.specs.CoreOpens.{opening_of, opening_words, opening_views}
use Rattle.space.specs.JournaledSpace.{JournaledSpace}
use Rattle.machine.specs.declared.parts.Parts.{Parts}
use Rattle.machine.specs.Consistent.{IsSetting, IsConsistent}
use Rattle.machine.specs.MachineInside.{none_made, state_of, IsMachine}
use Rattle.machine.specs.Start.{MayStart, setting_at_start, world_at_start}
use Rattle.machine.specs.World.{MachineState, calls_now, is_held}
use Rattle.machine.proofs.Opened.{opened_set, opened_consistent, opened_none}

-- each part as it is opened
pub record AreStartParts (a : Parts) (s : Sizes) (online : Kind) (start : List StartPage) (budgets fails : List ℕ) : Type 0 where
  pub opening : a.core.opening ≡ opening_of s start budgets
  pub words : a.core.snapshot.words ≡ opening_words s start
  pub views : a.core.snapshot.views ≡ opening_views s start budgets
  pub space : a.space ≡ record { sizes = s; online = online; opening = space_at_start s start; journal = [] }
  pub sizes : a.device.sizes ≡ s
  pub journal : a.device.journal ≡ []
  pub backing : a.device.backing.calls ≡ first_of_calls fails
  pub held : a.held.blocks ≡ []
  pub room : a.held.room ≡ s.managed
  pub owners : a.owners ≡ length budgets

module _ (a : Parts) (s : Sizes) (online : Kind) (start : List StartPage) (budgets fails : List ℕ) (p : AreStartParts a s online start budgets fails) where
  abbrev opened : MachineState
  opened = record { setting = setting_at_start s online start budgets fails; world = world_at_start s start budgets }

  pub state_is : state_of a ≡ opened
  state_is = λ i. record {
    setting = record { opening = p.opening i; sizes = (p.space i).sizes; online = (p.space i).online; space = (p.space i).opening; owners = p.owners i; backing = none_made (p.backing i) };
    world = record { snapshot = record { words = p.words i; views = p.views i }; space = (p.space i).journal; device = p.journal i };
  }

  pub machine_is : MayStart s online start budgets → IsMachine a
  machine_is r = record {
    set = subst (λ (m : MachineState). IsSetting m.setting) (sym state_is) (opened_set s online start budgets fails r);
    consistent = subst (λ (m : MachineState). IsConsistent m.setting m.world) (sym state_is) (opened_consistent s online start budgets fails r);
    device = p.sizes ∙ sym (ap (λ (y : JournaledSpace). y.sizes) p.space);
    backing = p.backing ∙ sym (ap (λ (m : MachineState). calls_now m.setting m.world) state_is);
    held = λ block.
        ap (λ (l : List ℕ). is_in block l) p.held
        ∙ sym (ap (λ (m : MachineState). is_held m.setting m.world block) state_is ∙ opened_none s online start budgets fails block);
    rising = subst (λ (l : List ℕ). IsRisingBelow a.space.sizes.managed l) (sym p.held) (sym (numbers_where-none (λ b. is_in b []) a.space.sizes.managed (λ b. refl)));
    room = p.room ∙ sym (ap (λ (y : JournaledSpace). y.sizes.managed) p.space);
  }
