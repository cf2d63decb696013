-- The choice of a free run, from which frames are free in a part for the boot blocks and in one for the
-- managed blocks.
use Rattle.std.specs.Prelude.{ℕ, ◌+◌, ◌*◌, ◌^◌, Bool, ◌&&◌, nat_lt, if◌then◌else◌, List, [], ◌∷◌, map, Option, None}
use Rattle.std.specs.List.{range_with_len}
use Rattle.std.specs.Option.{option_or, option_map}
use Rattle.evac_model.specs.declared.names.Kind.{Kind}
use Rattle.evac_model.specs.Geometry.{Sizes}
use Rattle.evac_model.specs.Numbers.{is_in}
use Rattle.evac_model.specs.FreeRuns.{fits}
use Rattle.buddy.specs.Parts.{Part, lowest_run}

-- which of 2^order frames from `base` on are free; those from `count` on are none of the machine's part
abbrev pub part_free : List ℕ → (base count order : ℕ) → List Bool
part_free free base count order = map (λ k. nat_lt k count && is_in (base + k) free) (range_with_len 0 (2 ^ order))

-- the lowest free run of exactly that order, in boot blocks before managed ones, where these take the kind;
-- the managed blocks' frames begin behind those of the boot blocks
abbrev pub choice_of_order : (boot_frames : ℕ) → (boot managed : Part) → (takes : Bool) → (wanted : ℕ) → Option ℕ
choice_of_order boot_frames boot managed takes wanted =
    option_or (lowest_run boot.top boot.order boot.free wanted)
    (if takes then option_map (λ place. boot_frames + place) (lowest_run managed.top managed.order managed.free wanted) else None)

-- over the wanted orders in turn, the first run that is there
abbrev pub first_choice : (ℕ → Option ℕ) → (orders : List ℕ) → Option ℕ
first_choice run [] = None
first_choice run (order ∷ orders) = option_or (run order) (first_choice run orders)

-- the run to take from: the smallest order that is there
abbrev pub tree_choice : (boot_frames : ℕ) → (boot managed : Part) → (takes : Bool) → (order : ℕ) → Option ℕ
tree_choice boot_frames boot managed takes order =
    first_choice (choice_of_order boot_frames boot managed takes) (range_with_len order 10)

-- the lowest free run of an order, by which of the machine's frames are free
abbrev pub lowest_choice : Sizes → (online kind : Kind) → (top boot_order managed_order : ℕ) → (boot managed : List Bool) → (wanted : ℕ) → Option ℕ
lowest_choice s online kind top boot_order managed_order boot managed =
    choice_of_order (s.boot * s.block) (record { top = top; order = boot_order; free = boot })
    (record { top = top; order = managed_order; free = managed }) (fits s online kind (s.boot * s.block))
