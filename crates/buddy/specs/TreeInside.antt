-- What the bits of a node of the tree say.
use Rattle.std.specs.Prelude.{ℕ, zero, suc, ◌^◌, Bool, true, false, ◌==◌, ◌&&◌, nat_le, if◌then◌else◌, List, take, drop, replicate, Option, None, Some, bit_or}
use Rattle.buddy.specs.Parts.{Part, is_whole}

-- the orders of the free runs of a part, a bit for each
abbrev pub orders_of : (top order : ℕ) → List Bool → ℕ
orders_of top zero free = if is_whole top 0 free then 1 else 0
orders_of top (suc k) free =
    if is_whole top (suc k) free
    then 2 ^ suc k
    else bit_or (orders_of top k (take (2 ^ k) free)) (orders_of top k (drop (2 ^ k) free))

-- whether all frames are free, or none is, where these bits say so
abbrev pub alike : (top order orders : ℕ) → Option Bool
alike top order orders =
    if orders == 0 then Some false else if nat_le order top && orders == 2 ^ order then Some true else None

-- the part with all frames free or none, if that is said
abbrev pub handed : Option Bool → Part → Part
handed None p = p
handed (Some free) p = record p { free = replicate (2 ^ p.order) free }

-- the flags of 2^order frames that are all free or none, if that is said, and else these
abbrev pub flags : Option Bool → (order : ℕ) → List Bool → List Bool
flags None order free = free
flags (Some b) order free = replicate (2 ^ order) b
