-- The page that is held is that of the call, and the cells of the call are cells of it.
use Rattle.std.proofs.Common.{◌≡◌, ℕ, eqb, eq-eqb, ◌+◌, ◌≤◌, ◌==◌, Bool, true, List, length, bit_or, ap, ◌∙◌, arith, if◌then◌else◌, Option, Some, None, IsSomeAnd}
use Rattle.evac_model.specs.declared.names.PageNo.{PageNo}
use Rattle.evac_model.specs.declared.call.Call.{Call}
use Rattle.evac_model.specs.declared.call.Call.TheVariants.{Alloc, Free, Read, Write, Add, Pin, Unpin}
use Rattle.evac_model.specs.Geometry.{Sizes}
use Rattle.evac_model.specs.Calls.{IsCallFor}
use Rattle.evac_words.specs.Word.{mapped_bit, frame_of}
use Rattle.core_state.specs.declared.held.Held.{Held}
use Rattle.core_state.specs.Steps.{held_page}
use Rattle.core_state.specs.Views.{maps_to}
use Rattle.core_state.proofs.EntryWords.{same_flags-take}
use Rattle.core_actors.specs.CallSteps.{first_cell, load_count, values_of}
use Rattle.core_actors.specs.Fits.{PageHeld, IsHeldAs}

-- ---- the cells of a call

pub loads_within : (s : Sizes) (call : Call) → IsCallFor s call → first_cell call + load_count call ≤ s.cells
loads_within s (Alloc kind) fits = omega arith
loads_within s Free fits = omega arith
loads_within s (Read first count) fits = fits.2
loads_within s (Write first values) fits = let few = fits.2 in omega arith
loads_within s (Add cell value) fits = omega arith
loads_within s Pin fits = omega arith
loads_within s Unpin fits = omega arith

pub stores_within : (s : Sizes) (loads : List ℕ) (call : Call) → IsCallFor s call → first_cell call + length (values_of loads call) ≤ s.cells
stores_within s loads (Alloc kind) fits = omega arith
stores_within s loads Free fits = omega arith
stores_within s loads (Read first count) fits = let few = fits.2 in omega arith
stores_within s loads (Write first values) fits = fits.2
stores_within s loads (Add cell value) fits = omega arith
stores_within s loads Pin fits = omega arith
stores_within s loads Unpin fits = omega arith

-- ---- the page that is held

pub held_page_is : (cells : ℕ) (c : PageNo × Call) (p : PageHeld) (held : Option Held) → IsSomeAnd held (IsHeldAs cells c p) → held_page held ≡ (c.0).0
held_page_is cells c p None some = absurd some
held_page_is cells c p (Some h) some = ap (λ (q : PageNo). q.0) some.page

-- the held word maps the frame that the take found
pub maps_here : (w : ℕ) → mapped_bit w ≡ 1 → maps_to (frame_of w) (bit_or w 1) ≡ 1
maps_here w mapped =
    let same = same_flags-take w in
    let m : eqb (mapped_bit (bit_or w 1)) 1 ≡ true = eq-eqb _ _ (same.mapped ∙ mapped) in
    let f : eqb (frame_of (bit_or w 1)) (frame_of w) ≡ true = eq-eqb _ _ same.frame in
    ap (λ (b : Bool). if b then (if frame_of (bit_or w 1) == frame_of w then 1 else 0) else 0) m ∙ ap (λ (b : Bool). if b then 1 else 0) f
