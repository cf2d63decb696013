-- No frame is mapped twice, or mapped and in hand.
use Rattle.std.specs.Prelude.{IsSomeAnd}
use Rattle.std.proofs.Common.{◌≡◌, ℕ, ◌+◌, ◌<◌, ◌≤◌, ◌≢◌, List, sym, refl, ap, ◌∙◌, ⊎_elim, arith, Some}
use Rattle.std.proofs.lemmas.Grind.{common_steps}
use mathlib.Core.Logic.{dite}
use native.Mathlib.Decide.{ℕ_discrete, dec_le}
use Rattle.evac_words.specs.Word.{mapped_bit, frame_of}
use Rattle.core_state.specs.declared.held.Held.{Held}
use Rattle.core_state.specs.declared.opening.Opening.{Opening}
use Rattle.core_state.specs.declared.view.View.{View}
use Rattle.core_state.specs.Words.{entry_word_of}
use Rattle.core_state.specs.Views.{Has, holds_page, times_in_hand, times_in_hands, maps_to, Owns}
use Rattle.core_state.specs.Parts.{Shaped, Turn}
use Rattle.core_state.specs.Frames.{all_entry_words, times_mapped, Frames}
use Rattle.core_state.proofs.Lists.{member_le_sum_by, two_members_le_sum_by}
use Rattle.core_state.proofs.Holding.{for_some, holds_page-same}
use Rattle.core_state.proofs.Cells.{at_entry}

pub maps_to-one : (f w : ℕ) → mapped_bit w ≡ 1 → frame_of w ≡ f → maps_to f w ≡ 1
maps_to-one f w m e = grind (arith, common_steps)

pub maps_to-is : (f w : ℕ) → maps_to f w ≡ 1 → (mapped_bit w ≡ 1) × (frame_of w ≡ f)
maps_to-is f w e = (grind (arith, common_steps), grind (arith, common_steps))

module _ (o : Opening) (words : List ℕ) (views : List View) (s : Shaped o words) (t : Turn o words views) (k : Frames o words views) where
  pub frame_once : (f : ℕ) → times_mapped o f words + times_in_hands f views ≤ 1
  frame_once f = dite (dec_le o.frames f)
      (λ high. let a = k.no_other f high in omega arith)
      (λ low. let a = k.each_once f (omega arith) in omega arith)

  -- a frame that some view owns, or some page is mapped to, is one of the machine
  pub frame_in_range : (f : ℕ) → 0 < times_mapped o f words + times_in_hands f views → f < o.frames
  frame_in_range f some = dite (dec_le o.frames f) (λ high. absurd (let a = k.no_other f high in omega arith)) (λ low. omega arith)

  pub maps_le : (f p : ℕ) → p < o.pages → maps_to f (entry_word_of words p) ≤ times_mapped o f words
  maps_le f p lt = member_le_sum_by (λ w. maps_to f w) (all_entry_words o words) p (entry_word_of words p) (at_entry o words p s lt)

  -- the page that is mapped to a frame that a view owns is the one that the view holds
  pub owned : (i : ℕ) (v : View) (f p : ℕ) → Has views i v → Owns v f → p < o.pages → maps_to f (entry_word_of words p) ≡ 1 → (h : Held) × (v.held ≡ Some h) × (h.page.0 ≡ p)
  owned i v f p at own lt maps = ⊎_elim
      (λ hand. absurd (let a = member_le_sum_by (λ x. times_in_hand f x) views i v at in let b = maps_le f p lt in let c = frame_once f in omega arith))
      (λ held. let q = for_some v.held (λ h. maps_to f h.word ≡ 1) held in let r = t.held_word i v q.0 at q.1 in (
        q.0,
        q.1,
        dite (ℕ_discrete (q.0).page.0 p) (λ e. e) (λ ne. absurd (
            let a = two_members_le_sum_by (λ w. maps_to f w) (all_entry_words o words) (q.0).page.0 p (entry_word_of words (q.0).page.0) (entry_word_of words p) ne (at_entry o words (q.0).page.0 s r.0) (at_entry o words p s lt) in
            let b : maps_to f (entry_word_of words (q.0).page.0) ≡ 1 = ap (λ w. maps_to f w) r.1 ∙ q.2 in
            let c = frame_once f in omega arith)),
      ))
      own

  -- a frame has one owner at most
  two_holders : (i j : ℕ) (v y : View) (f : ℕ) → i ≢ j → Has views i v → Has views j y → Owns v f → IsSomeAnd y.held (λ h. maps_to f h.word ≡ 1) → ⊥
  two_holders i j v y f ne at has own held = let p = for_some y.held (λ h. maps_to f h.word ≡ 1) held in let w = t.held_word j y p.0 has p.1 in
      let g = owned i v f (p.0).page.0 at own w.0 (ap (λ x. maps_to f x) w.1 ∙ p.2) in
      absurd (let n = two_members_le_sum_by (λ x. holds_page (p.0).page.0 x.held) views i j v y ne at has in
      let a = holds_page-same (p.0).page.0 v.held g.0 g.1 g.2 in let b = holds_page-same (p.0).page.0 y.held p.0 p.1 refl in
      let c = t.taken_by_one (p.0).page.0 w.0 in omega arith)

  pub one_owner : (i j : ℕ) (v y : View) (f : ℕ) → i ≢ j → Has views i v → Has views j y → Owns v f → Owns y f → ⊥
  one_owner i j v y f ne at has mine other = ⊎_elim
      (λ a. ⊎_elim
      (λ b. absurd (let n = two_members_le_sum_by (λ x. times_in_hand f x) views i j v y ne at has in let most = frame_once f in omega arith))
      (λ b. two_holders i j v y f ne at has mine b)
      other)
      (λ a. two_holders j i y v f (λ e. ne (sym e)) has at other a)
      mine

  pub owned_in_range : (i : ℕ) (v : View) (f : ℕ) → Has views i v → Owns v f → f < o.frames
  owned_in_range i v f at own = frame_in_range f (⊎_elim
      (λ hand. let a = member_le_sum_by (λ x. times_in_hand f x) views i v at in omega arith)
      (λ held. let q = for_some v.held (λ h. maps_to f h.word ≡ 1) held in let r = t.held_word i v q.0 at q.1 in
      let a = maps_le f (q.0).page.0 r.0 in let b : maps_to f (entry_word_of words (q.0).page.0) ≡ 1 = ap (λ w. maps_to f w) r.1 ∙ q.2 in omega arith)
      own)
