-- The plugged blocks that a request names, and those of them that it unplugs: none where it is no request that unplugs,
-- each once, and none where it plugs blocks.
use Rattle.std.proofs.Common.{◌≡◌, ℕ, ◌&&◌, Bool, true, false, if◌then◌else◌, List, [], refl, Option, None, Some}
use Rattle.std.specs.List.{range_with_len}
use Rattle.std.proofs.lemmas.Bool.{false≢true}
use Rattle.evac_model.specs.declared.device.Request.{Request}
use Rattle.evac_model.specs.declared.device.Request.TheVariants.{Plug, Unplug, UnplugAll, State}
use Rattle.evac_model.specs.declared.device.Response.{Response}
use Rattle.evac_model.specs.declared.device.Response.TheVariants.{Ack, Nack, Busy, Error}
use Rattle.evac_model.specs.Geometry.{Sizes}
use Rattle.evac_model.specs.Numbers.{is_in, AreDistinct, IsRisingBelow}
use Rattle.evac_model.specs.DeviceAnswer.{block_at, is_good_range, are_plugged, named_blocks}
use Rattle.evac_model.specs.HostCommands.{unplugs, plugged_by, no_blocks}
use Rattle.evac_model.proofs.DeviceJournal.{named_none}
use Rattle.evac_model.proofs.Distinct.{distinct-range_with_len, rising_distinct}
use Rattle.machine.specs.Made.{unplugged_by}

-- ---- none

pub unplugged_none : (s : Sizes) (plugged : List ℕ) (request : Option Request) (response : Response) → unplugs request ≡ false → unplugged_by s plugged request response ≡ []
unplugged_none s plugged request (Ack state) none = named_none s plugged request none
unplugged_none s plugged request Nack none = refl
unplugged_none s plugged request Busy none = refl
unplugged_none s plugged request Error none = refl

-- a request that unplugs plugs none
pub plugged_none : (s : Sizes) (request : Option Request) (response : Response) → unplugs request ≡ true → plugged_by s request response ≡ no_blocks
plugged_none s None response unplugging = absurd (cc)
plugged_none s (Some (Plug addr count)) response unplugging = absurd (cc)
plugged_none s (Some (Unplug addr count)) response unplugging = refl
plugged_none s (Some UnplugAll) response unplugging = refl
plugged_none s (Some (State addr count)) response unplugging = absurd (cc)

-- ---- those unplugged are named

pub unplugged_named : (s : Sizes) (plugged : List ℕ) (request : Option Request) (response : Response) (b : ℕ) → is_in b (unplugged_by s plugged request response) ≡ true → is_in b (named_blocks s plugged request) ≡ true
unplugged_named s plugged request (Ack state) b gone = gone
unplugged_named s plugged request Nack b gone = absurd (false≢true gone)
unplugged_named s plugged request Busy b gone = absurd (false≢true gone)
unplugged_named s plugged request Error b gone = absurd (false≢true gone)

-- ---- each once

range_distinct : (t : Bool) (first n : ℕ) → AreDistinct (if t then range_with_len first n else [])
range_distinct true first n = distinct-range_with_len first n
range_distinct false first n = tt

pub named_distinct : (s : Sizes) (plugged : List ℕ) (request : Option Request) → IsRisingBelow s.managed plugged → AreDistinct (named_blocks s plugged request)
named_distinct s plugged None r = tt
named_distinct s plugged (Some (Plug addr count)) r = tt
named_distinct s plugged (Some (Unplug addr count)) r = range_distinct (is_good_range s addr count && are_plugged plugged (block_at s addr) count) (block_at s addr) count
named_distinct s plugged (Some UnplugAll) r = rising_distinct s.managed plugged r
named_distinct s plugged (Some (State addr count)) r = tt

pub unplugged_distinct : (s : Sizes) (plugged : List ℕ) (request : Option Request) (response : Response) → IsRisingBelow s.managed plugged → AreDistinct (unplugged_by s plugged request response)
unplugged_distinct s plugged request (Ack state) r = named_distinct s plugged request r
unplugged_distinct s plugged request Nack r = tt
unplugged_distinct s plugged request Busy r = tt
unplugged_distinct s plugged request Error r = tt
