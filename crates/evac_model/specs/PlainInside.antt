-- How the plain machine is kept: a slot for each page number.
use Rattle.std.specs.Prelude.{◌≡◌, length, map}
use Rattle.std.specs.List.{AllByRecursion}
use Rattle.evac_model.specs.declared.plain.Plain.TheInside.{Inside}
use Rattle.evac_model.specs.PlainMachine.{PlainMachine}
use Rattle.evac_model.specs.Slots.{page_of, IsSlot}
use Rattle.evac_model.specs.Tables.{table_map}

abbrev pub machine_of : Inside → PlainMachine
machine_of a = record { sizes = a.geometry; state = table_map (map page_of a.slots.items) }

pub record IsPlainInside (a : Inside) : Type 0 where
  pub count : length a.slots.items ≡ a.geometry.pages
  pub each : AllByRecursion (IsSlot a.geometry.cells) a.slots.items
