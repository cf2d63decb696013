-- The history of the scripts: each call of each script once, in its caller's order, and no other call.
use Rattle.std.specs.Prelude.{◌≡◌, ℕ, ◌==◌, zero, suc, List, [], map, filter, slice_index_or}
use Rattle.std.specs.List.{enumerate_from}
use Rattle.evac_model.specs.declared.names.PageNo.{PageNo}
use Rattle.evac_model.specs.declared.call.Call.{Call}
use Rattle.evac_model.specs.declared.entry.Entry.{Entry}

-- the script of a caller, where `scripts` has that of caller 1 first; caller 0 has none
abbrev pub script_of : List (List (PageNo × Call)) → ℕ → List (PageNo × Call)
script_of scripts zero = []
script_of scripts (suc k) = slice_index_or scripts k []

-- the entries of a caller, in the order of their tickets
abbrev pub entries_of : ℕ → List Entry → List Entry
entries_of caller entries = filter (λ e. e.caller == caller) entries

-- the number of an entry in its caller's script, and what was called
abbrev pub numbered_call : Entry → ℕ × (PageNo × Call)
numbered_call e = (e.call_no, (e.page, e.call))

-- The entries of each caller are the calls of its script, numbered from 0, none missing. A number
-- that has no script makes no call.
abbrev pub IsOfScripts : List (List (PageNo × Call)) → List Entry → Type 0
IsOfScripts scripts entries =
    (caller : ℕ) → map numbered_call (entries_of caller entries) ≡ enumerate_from 0 (script_of scripts caller)
