-- Entries at the places of their tickets. A place has at most one.
use Rattle.std.specs.Prelude.{List, [], ◌∷◌, slice_index_or, slice_set}
use Rattle.evac_model.specs.declared.entry.Entry.{Entry}
use Rattle.core_state.specs.declared.view.View.{View}

abbrev pub first_of : List Entry → Entry → List Entry
first_of [] e = e ∷ []
first_of (x ∷ xs) e = x ∷ xs

-- the entry stands at the place of its ticket, if that is there and empty
abbrev pub place_at : List (List Entry) → Entry → List (List Entry)
place_at places e = slice_set places e.ticket (first_of (slice_index_or places e.ticket []) e)

-- entries at the places of their tickets, one after another
abbrev pub placed : List (List Entry) → List Entry → List (List Entry)
placed places [] = places
placed places (e ∷ es) = placed (place_at places e) es

-- those of all views
abbrev pub all_placed : List (List Entry) → List View → List (List Entry)
all_placed places [] = places
all_placed places (v ∷ vs) = all_placed (placed places v.entries) vs
