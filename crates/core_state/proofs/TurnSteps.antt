-- `Turn` is kept by each step of a call.
use Rattle.std.proofs.Common.{◌≡◌, ℕ, Bool, false, subst, ◌+◌, ◌<◌, ◌≤◌, ◌≢◌, ◌⊎◌, bit_or, List, length, get_or, set, sym, refl, ap, ◌∙◌, inl, inr, ⊎_elim, arith, Option, Some, None}
use Rattle.std.proofs.lemmas.Option.{same_Some, none-some}
use Rattle.std.proofs.lemmas.Grind.{common_steps}
use mathlib.Core.Logic.{dite}
use native.Mathlib.Decide.{ℕ_discrete}
use Rattle.evac_model.specs.declared.names.PageNo.{PageNo}
use Rattle.evac_words.specs.Word.{taken_bit, bit_of}
use Rattle.evac_words.specs.Table.{entry_index}
use Rattle.core_state.specs.declared.held.Held.{Held}
use Rattle.core_state.specs.declared.keeper.Keeper.{Keeper}
use Rattle.core_state.specs.declared.opening.Opening.{Opening}
use Rattle.core_state.specs.declared.step.CallDone.{CallDone}
use Rattle.core_state.specs.declared.step.Step.{Step}
use Rattle.core_state.specs.declared.step.Step.TheVariants.{Take, Draw, Load, Store, Mark, Release}
use Rattle.core_state.specs.declared.view.View.{View}
use Rattle.core_state.specs.Words.{next_ticket_of, entry_word_of}
use Rattle.core_state.specs.Views.{Has, holders, holds_page, movers, right_to}
use Rattle.core_state.specs.Parts.{Turn, Shaped}
use Rattle.core_state.specs.Steps.{MayTake, MayLetGo, MayEnd, held_page, word_after_release, after_take, after_draw, after_load, after_store, after_mark, after_release, Allowed}
use Rattle.core_state.specs.Stepped.{words_after, views_after}
use Rattle.core_state.proofs.Lists.{at_set, sum_by_kept, sum_by_replaced, two_members_le_sum_by, member_le_sum_by}
use Rattle.core_state.proofs.EntryWords.{take_again, taken_bit-released}
use Rattle.evac_words.proofs.Words.{taken_bit-bit_or}
use Rattle.core_state.proofs.WordsAt.{entry_word-elsewhere, entry_word-here, entry_apart, entry_within}
use Rattle.core_state.proofs.Holding.{for_some, Drawing, drawing, with_ticket-some, holds_page-none, holds_page-same, holds_page-other, held_alike-same, held_alike-load, held_alike-store, Alike}

-- a right that is kept
pub right_kept : (v w : View) (page : ℕ) → w.mover ≡ v.mover → right_to page w ≡ right_to page v
right_kept v w page e = ap (λ (m : List Bool). bit_of (get_or m page false)) e

module _ (o : Opening) (words : List ℕ) (views : List View) (i : ℕ) (v : View) (t : Turn o words views) (at : Has views i v) where
  one_mover-kept : (w : View) → w.mover ≡ v.mover → (page : ℕ) → movers page (set views i w) ≤ 1
  one_mover-kept w e page = let a = t.one_mover page in let b = sum_by_kept (λ x. right_to page x) views i v w at (right_kept v w page e) in omega arith

  -- a step on a word that is no entry word, by a seat that goes on holding what it held
  pub turn-elsewhere : (j n : ℕ) (w : View) → ((page : ℕ) → page < o.pages → entry_index page ≢ j)
      → ((page : ℕ) → holds_page page w.held ≡ holds_page page v.held)
      → ((h : Held) → w.held ≡ Some h → (h.page.0 < o.pages) × (entry_word_of words h.page.0 ≡ h.word))
      → w.mover ≡ v.mover
      → Turn o (set words j n) (set views i w)
  turn-elsewhere j n w off same ok right = record {
    taken_by_one = λ page lt. sum_by_kept (λ x. holds_page page x.held) views i v w at (same page) ∙ t.taken_by_one page lt ∙ ap taken_bit (sym (entry_word-elsewhere words j n page (off page lt)));
    held_word = λ k x h has is. ⊎_elim
        (λ p. let q = ok h (subst (λ (y : View). y.held ≡ Some h) (sym p.1) is) in (q.0, entry_word-elsewhere words j n h.page.0 (off h.page.0 q.0) ∙ q.1))
        (λ p. let q = t.held_word k x h p.1 is in (q.0, entry_word-elsewhere words j n h.page.0 (off h.page.0 q.0) ∙ q.1))
        (at_set views i k w x has);
    one_mover = one_mover-kept w right;
  }

  pub turn-alike : (j n : ℕ) (w : View) → ((page : ℕ) → page < o.pages → entry_index page ≢ j) → Alike v w → Turn o (set words j n) (set views i w)
  turn-alike j n w off a = turn-elsewhere j n w off a.held.page
      (λ h is. let q = a.held.before h is in let r = t.held_word i v q.0 at q.1 in
      (subst (λ (p : PageNo). p.0 < o.pages) (sym q.2) r.0, ap (λ (p : PageNo). entry_word_of words p.0) q.2 ∙ r.1 ∙ sym q.3))
      a.mover

  -- a step on the entry word of a page, by a seat that holds no other page then
  pub turn-at_entry : (p n : ℕ) (w : View) → p < o.pages → entry_index p < length words
      → ((page : ℕ) → page ≢ p → holds_page page w.held ≡ holds_page page v.held)
      → holds_page p w.held + taken_bit (entry_word_of words p) ≡ holds_page p v.held + taken_bit n
      → (n ≡ entry_word_of words p) ⊎ (taken_bit (entry_word_of words p) ≡ holds_page p v.held)
      → ((h : Held) → w.held ≡ Some h → (h.page.0 ≡ p) × (n ≡ h.word))
      → w.mover ≡ v.mover
      → Turn o (set words (entry_index p) n) (set views i w)
  turn-at_entry p n w lt in_words same balance alone ok right = record {
    taken_by_one = λ page l. dite (ℕ_discrete page p)
        (λ e. subst (λ (q : ℕ). holders q (set views i w) ≡ taken_bit (entry_word_of (set words (entry_index p) n) q)) (sym e)
        (let s = sum_by_replaced (λ x. holds_page p x.held) views i v w at in let b = t.taken_by_one p lt in let g = ap taken_bit (entry_word-here words n p in_words) in omega arith))
        (λ ne. sum_by_kept (λ x. holds_page page x.held) views i v w at (same page ne) ∙ t.taken_by_one page l ∙ ap taken_bit (sym (entry_word-elsewhere words (entry_index p) n page (entry_apart p page ne))));
    held_word = λ k x h has is. ⊎_elim
        (λ q. let r = ok h (subst (λ (y : View). y.held ≡ Some h) (sym q.1) is) in
        (subst (λ (m : ℕ). m < o.pages) (sym r.0) lt, ap (λ m. entry_word_of (set words (entry_index p) n) m) r.0 ∙ entry_word-here words n p in_words ∙ r.1))
        (λ q. let r = t.held_word k x h q.1 is in (
          r.0,
          dite (ℕ_discrete h.page.0 p)
              (λ e. ap (λ m. entry_word_of (set words (entry_index p) n) m) e ∙ entry_word-here words n p in_words ∙ ⊎_elim
              (λ u. u ∙ ap (λ m. entry_word_of words m) (sym e) ∙ r.1)
              (λ u. absurd (two_hold k x h q.0 q.1 is e u)) alone)
              (λ ne. entry_word-elsewhere words (entry_index p) n h.page.0 (entry_apart p h.page.0 ne) ∙ r.1),
        ))
        (at_set views i k w x has);
    one_mover = one_mover-kept w right;
  } where
    -- no other view holds the page
    two_hold : (k : ℕ) (x : View) (h : Held) → k ≢ i → Has views k x → x.held ≡ Some h → h.page.0 ≡ p → taken_bit (entry_word_of words p) ≡ holds_page p v.held → ⊥
    two_hold k x h ne has is e u = let s = two_members_le_sum_by (λ y. holds_page p y.held) views k i x v ne has at in
        let a : holds_page p x.held ≡ 1 = holds_page-same p x.held h is e in
        let b = t.taken_by_one p lt in absurd (omega arith)

  -- the page that the seat holds
  pub holds_mine : (h : Held) → v.held ≡ Some h → h.page.0 < o.pages
  holds_mine h is = (t.held_word i v h at is).0

  pub taken_mine : (h : Held) → v.held ≡ Some h → taken_bit (entry_word_of words h.page.0) ≡ 1
  taken_mine h is = let a = t.taken_by_one h.page.0 (holds_mine h is) in let b = member_le_sum_by (λ x. holds_page h.page.0 x.held) views i v at in
      let c = holds_page-same h.page.0 v.held h is refl in omega arith

  pub turn-take : (k : Keeper) (page : PageNo) → MayTake o v page.0 → Shaped o words
      → Turn o (set words (entry_index page.0) (bit_or (entry_word_of words page.0) 1)) (set views i (after_take k v page (entry_word_of words page.0)))
  turn-take k page may s = let b = taken_bit-bit_or (entry_word_of words page.0) in let none = may.holds_none in
      turn-at_entry page.0 _ (after_take k v page (entry_word_of words page.0)) may.in_range (entry_within o words page.0 s may.in_range)
      (λ p ne. grind (arith, common_steps))
      (grind (arith, common_steps))
      (dite (ℕ_discrete (taken_bit (entry_word_of words page.0)) 0) (λ free. inr (grind (arith, common_steps))) (λ busy. inl (take_again (entry_word_of words page.0) (omega arith))))
      (λ h is. (grind (arith, common_steps), grind (arith, common_steps)))
      refl

  pub turn-draw : (h : Held) → Drawing v h → Turn o (set words 0 (next_ticket_of words + 1)) (set views i (after_draw v (next_ticket_of words)))
  turn-draw h may = let w = with_ticket-some v.held h (next_ticket_of words) may.holds in turn-elsewhere 0 _ (after_draw v (next_ticket_of words))
      (λ page lt e. absurd (omega arith))
      (λ page. ap (λ m. holds_page page m) w ∙ sym (ap (λ m. holds_page page m) may.holds))
      (λ g is. let s = same_Some _ _ (sym w ∙ is) in let r = t.held_word i v h at may.holds in
      (subst (λ (m : PageNo). m.0 < o.pages) (ap (λ (x : Held). x.page) s) r.0, ap (λ (x : Held). entry_word_of words x.page.0) (sym s) ∙ r.1 ∙ ap (λ (x : Held). x.word) s))
      refl

  -- the held page is let go
  pub turn-release : (h : Held) (n : ℕ) (w : View) → v.held ≡ Some h → w.held ≡ None → w.mover ≡ v.mover → taken_bit n ≡ 0 → Shaped o words
      → Turn o (set words (entry_index h.page.0) n) (set views i w)
  turn-release h n w holds empty right clear s =
      let mine = holds_page-same h.page.0 _ h holds refl in
      let none = holds_page-none h.page.0 _ empty in
      let lone = taken_mine h holds in
      turn-at_entry h.page.0 n w (holds_mine h holds) (entry_within o words h.page.0 s (holds_mine h holds))
      (λ page ne. holds_page-none page _ empty ∙ sym (holds_page-other page _ h holds (λ q. ne (sym q))))
      (omega arith)
      (inr (lone ∙ sym mine))
      (λ g is. absurd (none-some g (sym empty ∙ is)))
      right

-- ---- any step of a call

pub alike-load : (v : View) (cell found : ℕ) → Alike v (after_load v cell found)
alike-load v cell found = record { held = held_alike-load v.held cell found; caller = refl; entries = refl; noticed = refl; left = refl; seen = refl; mover = refl }

pub alike-store : (v : View) (frame : Rattle.evac_model.specs.declared.names.FrameNo.FrameNo) (cell value : ℕ) → Alike v (after_store v frame cell value)
alike-store v frame cell value = record { held = held_alike-store v.held frame.0 cell value; caller = refl; entries = refl; noticed = refl; left = refl; seen = refl; mover = refl }

pub alike-mark : (v : View) (frame : Rattle.evac_model.specs.declared.names.FrameNo.FrameNo) → Alike v (after_mark v frame)
alike-mark v frame = record { held = held_alike-same v.held; caller = refl; entries = refl; noticed = refl; left = refl; seen = refl; mover = refl }

module _ (k : Keeper) (o : Opening) (words : List ℕ) (views : List View) (seat : ℕ) (v : View) (t : Turn o words views) (at : Has views seat v) (s : Shaped o words) where
  turn-end : (end : Option CallDone) (h : Held) → v.held ≡ Some h → (after_release v end).held ≡ None → (after_release v end).mover ≡ v.mover → taken_bit (word_after_release v.held end) ≡ 0
      → Turn o (set words (entry_index (held_page v.held)) (word_after_release v.held end)) (set views seat (after_release v end))
  turn-end end h holds empty right clear = subst (λ (p : ℕ). Turn o (set words (entry_index p) (word_after_release v.held end)) (set views seat (after_release v end)))
      (sym (ap (λ m. held_page m) holds)) (turn-release o words views seat v t at h _ _ holds empty right clear s)

pub steps_keep_turn : (k : Keeper) (o : Opening) (words : List ℕ) (views : List View) (seat : ℕ) (v : View) (step : Step) → Has views seat v → Shaped o words → Turn o words views → Allowed o v step
    → Turn o (words_after o words v step) (views_after k o words views seat v step)
steps_keep_turn k o words views seat v (Take page) at s t may = turn-take o words views seat v t at k page may s
steps_keep_turn k o words views seat v Draw at s t may = let d = drawing v may in turn-draw o words views seat v t at d.0 d.1
steps_keep_turn k o words views seat v (Load cell) at s t may = turn-alike o words views seat v t at _ _ _ (λ page lt e. absurd (omega arith)) (alike-load v cell _)
steps_keep_turn k o words views seat v (Store frame cell value) at s t may = turn-alike o words views seat v t at _ _ _ (λ page lt e. absurd (omega arith)) (alike-store v frame cell value)
steps_keep_turn k o words views seat v (Mark frame) at s t may = turn-alike o words views seat v t at _ _ _ (λ page lt e. absurd (omega arith)) (alike-mark v frame)
steps_keep_turn k o words views seat v (Release None) at s t may = let p = for_some v.held (MayLetGo o v) may.1 in turn-end k o words views seat v t at s None p.0 p.1 refl refl (taken_bit-released _ _ _)
steps_keep_turn k o words views seat v (Release (Some d)) at s t may = let p = for_some v.held (MayEnd o d) may.1 in turn-end k o words views seat v t at s (Some d) p.0 p.1 refl refl (taken_bit-released _ _ _)
