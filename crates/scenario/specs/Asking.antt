-- What the words of a line ask for.
use Rattle.std.specs.Prelude.{ℕ, ◌||◌, ◌==◌, List, [], ◌∷◌, length, codes, if◌then◌else◌, is_some}
use Rattle.std.specs.Str.{bytes_eq}
use Rattle.evac_model.specs.ScenarioLines.{line_names, call_names, command_names, later_commands}
use Rattle.scenario.specs.declared.ask.Ask.{Ask}
use Rattle.scenario.specs.declared.ask.Ask.TheVariants.{Unknown, Later, Read}
use Rattle.scenario.specs.Numbers.{number_of}
use Rattle.scenario.specs.Words.{is_one_of}

-- by a call's word
abbrev pub ask_of_call : List ℕ → Ask
ask_of_call word = if length word == 0 || is_one_of call_names word then Read else Unknown

-- behind an owner's number and a count of calls
abbrev pub ask_behind_count : List (List ℕ) → Ask
ask_behind_count [] = Read
ask_behind_count (word ∷ rest) = ask_of_call word

-- behind an owner's number
abbrev pub ask_of_owner : List (List ℕ) → Ask
ask_of_owner [] = Read
ask_of_owner ([] ∷ rest) = Read
ask_of_owner ((b ∷ bs) ∷ rest) = if b == 120 then ask_behind_count rest else ask_of_call (b ∷ bs)

-- by a command's word
abbrev pub ask_of_command : List ℕ → Ask
ask_of_command word =
    if is_one_of later_commands word then Later
    else if length word == 0 || is_one_of command_names word then Read
    else Unknown

-- behind the word of the host
abbrev pub ask_of_host : List (List ℕ) → Ask
ask_of_host [] = Read
ask_of_host (word ∷ rest) = ask_of_command word

-- by all the words; the laws in proofs/Askings.antt tie it to the grammar
abbrev pub ask_of_words : List (List ℕ) → Ask
ask_of_words [] = Read
ask_of_words (word ∷ rest) =
    if is_some (number_of word) then ask_of_owner rest
    else if bytes_eq word (codes "host") then ask_of_host rest
    else if length word == 0 || is_one_of line_names word then Read
    else Unknown
