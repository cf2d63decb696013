-- The release of a call answers it, whatever page was taken.
use Rattle.std.proofs.Common.{◌≡◌, ◌≢◌, ℕ, eq-eqb, ne_eqb, ◌+◌, ◌-◌, ◌%◌, ◌^◌, ◌<◌, ◌≤◌, ◌==◌, List, [], ◌∷◌, length, take, drop, get_or, set, refl, sym, ap, ◌∙◌, arith, Option, Some, None, if◌then◌else◌}
use mathlib.Core.Logic.{dite}
use native.Mathlib.Decide.{ℕ_discrete}
use Rattle.evac_model.specs.declared.call.Call.{Call}
use Rattle.evac_model.specs.declared.call.Call.TheVariants.{Alloc, Free, Read, Write, Add, Pin, Unpin}
use Rattle.evac_model.specs.declared.reply.Reply.TheVariants.{Done, Values, Old, Mapped, Pinned, PinLimit, NotPinned}
use Rattle.evac_model.specs.Geometry.{Sizes}
use Rattle.evac_model.specs.Calls.{IsCallFor}
use Rattle.evac_model.specs.Page.{PlainPage, Page}
use Rattle.evac_model.specs.Answer.{written}
use Rattle.evac_words.specs.Word.{mapped_bit, pins_of}
use Rattle.core_state.specs.Pages.{answer_at, Agrees, patched, with_stores, with_pins}
use Rattle.core_state.specs.Steps.{pins_after}
use Rattle.core_actors.specs.declared.action.LeaseSeen.{LeaseSeen}
use Rattle.core_actors.specs.declared.action.LeaseSeen.TheVariants.{NotAsked, Got, Refused}
use Rattle.core_actors.specs.CallSteps.{first_cell, load_count, values_of, mapped_reply, unmapped_reply, reply_of}
use Rattle.core_actors.specs.Fits.{known_from}
use Rattle.core_actors.proofs.Known.{known_from-at, known_from-none, known_from-patched, patched_by_nothing, written_one, read_back}

pub reply-mapped : (lease : LeaseSeen) (found : ℕ) (loads : List ℕ) (call : Call) → mapped_bit found ≡ 1 → reply_of lease found loads call ≡ mapped_reply (pins_of found) loads call
reply-mapped lease found loads call e = ap (λ (k : ℕ). if k == 1 then mapped_reply (pins_of found) loads call else unmapped_reply lease call) e

pub reply-unmapped : (lease : LeaseSeen) (found : ℕ) (loads : List ℕ) (call : Call) → mapped_bit found ≡ 0 → reply_of lease found loads call ≡ unmapped_reply lease call
reply-unmapped lease found loads call e = ap (λ (k : ℕ). if k == 1 then mapped_reply (pins_of found) loads call else unmapped_reply lease call) e

-- ---- the calls that leave the mapping as it is

-- a free of a page with pins
abbrev pub KeepsMapped : (pins : ℕ) → Call → Type 0
KeepsMapped pins (Alloc kind) = Unit {0}
KeepsMapped pins Free = 0 < pins
KeepsMapped pins (Read first count) = Unit {0}
KeepsMapped pins (Write first values) = Unit {0}
KeepsMapped pins (Add cell value) = Unit {0}
KeepsMapped pins Pin = Unit {0}
KeepsMapped pins Unpin = Unit {0}

abbrev pub IsRefused : LeaseSeen → Type 0
IsRefused NotAsked = ⊥
IsRefused (Got frame) = ⊥
IsRefused (Refused at) = Unit {0}

-- an alloc whose lease was refused
abbrev pub KeepsUnmapped : LeaseSeen → Call → Type 0
KeepsUnmapped lease (Alloc kind) = IsRefused lease
KeepsUnmapped lease Free = Unit {0}
KeepsUnmapped lease (Read first count) = Unit {0}
KeepsUnmapped lease (Write first values) = Unit {0}
KeepsUnmapped lease (Add cell value) = Unit {0}
KeepsUnmapped lease Pin = Unit {0}
KeepsUnmapped lease Unpin = Unit {0}

-- ---- pins

pub pins_few : (pins : ℕ) (loads : List ℕ) (call : Call) → pins ≤ 63 → pins_after call (mapped_reply pins loads call) pins ≤ 63
pins_few pins loads (Alloc kind) le = le
pins_few pins loads Free le = dite (ℕ_discrete pins 0)
    (λ none. rw (eq-eqb pins 0 none) le)
    (λ some. rw (ne_eqb pins 0 some) le)
pins_few pins loads (Read first count) le = le
pins_few pins loads (Write first values) le = le
pins_few pins loads (Add cell value) le = le
pins_few pins loads Pin le = dite (ℕ_discrete pins 63)
    (λ full. rw (eq-eqb pins 63 full) le)
    (λ room. rw (ne_eqb pins 63 room) (omega arith))
pins_few pins loads Unpin le = dite (ℕ_discrete pins 0)
    (λ none. rw (eq-eqb pins 0 none) le)
    (λ some. rw (ne_eqb pins 0 some) (omega arith))

pub pins-unmapped : (lease : LeaseSeen) (pins : ℕ) (call : Call) → pins_after call (unmapped_reply lease call) pins ≡ pins
pins-unmapped NotAsked pins (Alloc kind) = refl
pins-unmapped (Got frame) pins (Alloc kind) = refl
pins-unmapped (Refused at) pins (Alloc kind) = refl
pins-unmapped lease pins Free = refl
pins-unmapped lease pins (Read first count) = refl
pins-unmapped lease pins (Write first values) = refl
pins-unmapped lease pins (Add cell value) = refl
pins-unmapped lease pins Pin = refl
pins-unmapped lease pins Unpin = refl

-- ---- a mapped page

-- the page that the holder leaves, with those stores and pins
abbrev left_with : ℕ → List (Option ℕ) → PlainPage → Page
left_with pins stores m = with_pins pins (with_stores stores (Some m))

module _ (s : Sizes) (cells pins : ℕ) (loads : List ℕ) (m : PlainPage) (same : cells ≡ s.cells) (long : length m.cells ≡ cells) (pins_are : pins ≡ m.pins) where
  untouched : (first : ℕ) → first ≤ cells → m.cells ≡ patched (known_from cells first []) m.cells
  untouched first le = sym (ap (λ (l : List (Option ℕ)). patched l m.cells) (known_from-none cells first le) ∙ patched_by_nothing cells m.cells long)

  agreed : (first i : ℕ) → Agrees (known_from cells first loads) m.cells → i < length loads → first + length loads ≤ cells → get_or m.cells (first + i) 0 ≡ get_or loads i 0
  agreed first i a lt le = a (first + i) (get_or loads i 0) (known_from-at cells first loads i lt le)

  pub answers-mapped : (call : Call) → IsCallFor s call → KeepsMapped pins call → length loads ≡ load_count call → Agrees (known_from cells (first_cell call) loads) m.cells
      → answer_at cells (Some m) call (mapped_reply pins loads call)
      ≡ (mapped_reply pins loads call, left_with (pins_after call (mapped_reply pins loads call) pins) (known_from cells (first_cell call) (values_of loads call)) m)
  answers-mapped (Alloc kind) fits has many a =
      let kept = untouched 0 (omega arith) in
      λ i. (Mapped, Some (record { cells = kept i; kind = m.kind; pins = sym pins_are i }))
  answers-mapped Free fits has many a =
      let kept = untouched 0 (omega arith) in
      let some : pins ≢ 0 = omega arith in
      rw (ne_eqb pins 0 some, ne_eqb m.pins 0 (λ e. some (pins_are ∙ e))) (λ i. (Pinned, Some (record { cells = kept i; kind = m.kind; pins = sym pins_are i })))
  answers-mapped (Read first count) fits has many a =
      let within = fits.2 in
      let read : take count (drop first m.cells) ≡ loads = ap (λ (n : ℕ). take n (drop first m.cells)) (sym many) ∙ read_back m.cells first loads (omega arith) (λ i lt. agreed first i a lt (omega arith)) in
      let kept = untouched first (omega arith) in
      λ i. (Values (read i), Some (record { cells = kept i; kind = m.kind; pins = sym pins_are i }))
  answers-mapped (Write first values) fits has many a =
      let within = fits.2 in
      let put : written first values m.cells ≡ patched (known_from cells first values) m.cells = sym (known_from-patched cells first values m.cells long (omega arith)) in
      λ i. (Done, Some (record { cells = put i; kind = m.kind; pins = sym pins_are i }))
  answers-mapped (Add cell value) fits has many a =
      let z : cell + 0 ≡ cell = omega arith in
      let old : get_or m.cells cell 0 ≡ get_or loads 0 0 = sym (ap (λ (n : ℕ). get_or m.cells n 0) z) ∙ agreed cell 0 a (omega arith) (omega arith) in
      let sum : ℕ = (get_or loads 0 0 + value) % 2 ^ 64 in
      let put : set m.cells cell ((get_or m.cells cell 0 + value) % 2 ^ 64) ≡ patched (known_from cells cell (sum ∷ [])) m.cells =
      ap (λ (n : ℕ). set m.cells cell ((n + value) % 2 ^ 64)) old
      ∙ sym (known_from-patched cells cell (sum ∷ []) m.cells long (omega arith) ∙ written_one m.cells cell sum (omega arith)) in
      λ i. (Old (old i), Some (record { cells = put i; kind = m.kind; pins = sym pins_are i }))
  answers-mapped Pin fits has many a =
      let kept = untouched 0 (omega arith) in
      dite (ℕ_discrete pins 63)
      (λ full. rw (eq-eqb pins 63 full, eq-eqb m.pins 63 (sym pins_are ∙ full)) (λ i. (PinLimit, Some (record { cells = kept i; kind = m.kind; pins = sym pins_are i }))))
      (λ room. rw (ne_eqb pins 63 room, ne_eqb m.pins 63 (λ e. room (pins_are ∙ e))) (λ i. (Done, Some (record { cells = kept i; kind = m.kind; pins = sym pins_are i + 1 }))))
  answers-mapped Unpin fits has many a =
      let kept = untouched 0 (omega arith) in
      dite (ℕ_discrete pins 0)
      (λ none. rw (eq-eqb pins 0 none, eq-eqb m.pins 0 (sym pins_are ∙ none)) (λ i. (NotPinned, Some (record { cells = kept i; kind = m.kind; pins = sym pins_are i }))))
      (λ some. rw (ne_eqb pins 0 some, ne_eqb m.pins 0 (λ e. some (pins_are ∙ e))) (λ i. (Done, Some (record { cells = kept i; kind = m.kind; pins = sym pins_are i - 1 }))))

-- ---- an unmapped page

pub answers-unmapped : (n : ℕ) (lease : LeaseSeen) (call : Call) (stores : List (Option ℕ)) (pins : ℕ) → KeepsUnmapped lease call
    → answer_at n None call (unmapped_reply lease call) ≡ (unmapped_reply lease call, with_pins pins (with_stores stores None))
answers-unmapped n NotAsked (Alloc kind) stores pins has = absurd has
answers-unmapped n (Got frame) (Alloc kind) stores pins has = absurd has
answers-unmapped n (Refused at) (Alloc kind) stores pins has = refl
answers-unmapped n lease Free stores pins has = refl
answers-unmapped n lease (Read first count) stores pins has = refl
answers-unmapped n lease (Write first values) stores pins has = refl
answers-unmapped n lease (Add cell value) stores pins has = refl
answers-unmapped n lease Pin stores pins has = refl
answers-unmapped n lease Unpin stores pins has = refl
