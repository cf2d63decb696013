-- A part of a machine's frames: which of them are free, and the free runs among them.
use Rattle.std.specs.Prelude.{ℕ, zero, suc, ◌+◌, ◌^◌, Bool, ◌==◌, ◌&&◌, nat_le, if◌then◌else◌, List, ◌++◌, take, drop, Option, None, Some}
use Rattle.std.specs.List.{list_all}
use Rattle.std.specs.Option.{option_or, option_map}

-- 2^order frames, each free or not; a run is of order top at most
pub record Part : Type 0 where
  pub top : ℕ
  pub order : ℕ
  pub free : List Bool

-- whether the part is a free run as a whole
abbrev pub is_whole : (top order : ℕ) → List Bool → Bool
is_whole top order free = nat_le order top && list_all (λ b. b) free

-- the place of the lowest free run of that order, if there is one
abbrev pub lowest_run : (top order : ℕ) → List Bool → (wanted : ℕ) → Option ℕ
lowest_run top zero free wanted = if is_whole top 0 free && wanted == 0 then Some 0 else None
lowest_run top (suc k) free wanted =
    if is_whole top (suc k) free
    then (if wanted == suc k then Some 0 else None)
    else option_or (lowest_run top k (take (2 ^ k) free) wanted) (option_map (λ place. 2 ^ k + place) (lowest_run top k (drop (2 ^ k) free) wanted))

-- frames with n others in their place, from `first` on
abbrev pub replaced : (first n : ℕ) → List Bool → List Bool → List Bool
replaced first n others free = take first free ++ others ++ drop (first + n) free
