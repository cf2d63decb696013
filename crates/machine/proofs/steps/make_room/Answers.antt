use Rattle.std.proofs.Common.{ℕ, ◌≤◌, Bool, true, false, get_or, arith}
use Rattle.evac_words.specs.Word.{bit_of}
use Rattle.core_state.specs.declared.view.View.{View}
use Rattle.core_state.specs.Views.{right_to}

bit_small : (b : Bool) → bit_of b ≤ 1
bit_small true = omega arith
bit_small false = omega arith

-- a page is moved by one right
one_right : (v : View) (page : ℕ) → right_to page v ≤ 1
one_right v page = bit_small (get_or v.mover page false)
