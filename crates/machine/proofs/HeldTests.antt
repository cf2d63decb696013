-- Whether the driver holds each of some blocks, as a loop over numbers finds it, and which blocks are named then.
use Rattle.std.proofs.Common.{◌≡◌, ◌↔◌, ℕ, ◌+◌, ◌<◌, ◌≤◌, Bool, true, false, List, refl, sym, ap, ◌∙◌, arith, Option, Some, IsTrue}
use Rattle.std.specs.List.{range_with_len}
use Rattle.std.proofs.lemmas.Bool.{false≢true}
use Rattle.evac_model.specs.declared.device.Request.{Request}
use Rattle.evac_model.specs.declared.device.Request.TheVariants.{UnplugAll}
use Rattle.evac_model.specs.DeviceAnswer.{DeviceState, device_after, device_at_start}
use Rattle.evac_model.specs.Geometry.{Sizes}
use Rattle.evac_model.specs.Numbers.{is_in, IsRisingBelow}
use Rattle.evac_model.specs.DeviceAnswer.{named_blocks}
use Rattle.mem_device.specs.DeviceView.{device_state}
use Rattle.space.proofs.BlockFrames.{is_in_bound}
use Rattle.machine.specs.declared.parts.Parts.{Parts}
use Rattle.machine.specs.MachineInside.{IsMachine, setting_of, world_of}
use Rattle.machine.specs.World.{device_now}
use Rattle.machine.proofs.BlockFrames.{range_bounds}

-- ---- tests of numbers

-- each number of a list passes the test
abbrev pub AllPass : (ℕ → Bool) → List ℕ → Type 0
AllPass test xs = (b : ℕ) → is_in b xs ≡ true → test b ≡ true

pub one_fails : (test : ℕ → Bool) (xs : List ℕ) (b : ℕ) → is_in b xs ≡ true → test b ≡ false → IsTrue false ↔ AllPass test xs
one_fails test xs b its fails = ((λ no. absurd (false≢true no)), (λ all. sym fails ∙ all b its))

pub none_fails : (test : ℕ → Bool) (xs : List ℕ) → AllPass test xs → IsTrue true ↔ AllPass test xs
none_fails test xs all = ((λ yes. all), (λ passes. refl))

-- the numbers of a range, and those of a list that is rising
pub range_passes : (test : ℕ → Bool) (first n last : ℕ) → first + n ≤ last → ((b : ℕ) → first ≤ b → b < last → test b ≡ true) → AllPass test (range_with_len first n)
range_passes test first n last to each b its = let bounds = range_bounds first n b its in each b bounds.0 (omega (arith, bounds.1))

pub list_passes : (test : ℕ → Bool) (n last : ℕ) (xs : List ℕ) → IsRisingBelow n xs → n ≤ last → ((b : ℕ) → b < last → is_in b xs ≡ true → test b ≡ true) → AllPass test xs
list_passes test n last xs rising to each b its = each b (let low = is_in_bound n xs b rising its in omega arith) its

-- ---- the blocks

module _ (a : Parts) (is : IsMachine a) where
  pub device_is : device_state a.device ≡ device_now (setting_of a) (world_of a)
  device_is = ap (λ (s : Sizes). device_after s (device_at_start s) a.device.journal) is.device

  -- those that a request names, of the plugged blocks of the device
  pub named_is : (s : Sizes) (plugged : List ℕ) (request : Option Request) → s ≡ a.device.sizes → plugged ≡ (device_state a.device).plugged
      → named_blocks s plugged request ≡ named_blocks (setting_of a).sizes (device_now (setting_of a) (world_of a)).plugged request
  named_is s plugged request sizes has =
      ap (λ (t : Sizes). named_blocks t plugged request) (sizes ∙ is.device)
      ∙ ap (λ (l : List ℕ). named_blocks a.space.sizes l request) (has ∙ ap (λ (d : DeviceState). d.plugged) device_is)

-- an UNPLUG_ALL names all of them
pub all_named : (s : Sizes) (plugged : List ℕ) (request : Option Request) → request ≡ Some UnplugAll → named_blocks s plugged request ≡ plugged
all_named s plugged request is = ap (λ (r : Option Request). named_blocks s plugged r) is
