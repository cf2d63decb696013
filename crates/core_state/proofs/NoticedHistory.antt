-- What the noticed words of a sound snapshot tell of its history.
use Rattle.std.proofs.Common.{◌≡◌, ℕ, ◌+◌, ◌-◌, ◌≤◌, List, length, get_or, take, drop, slice_get, sym, ap, ◌∙◌, subst, inl, inr, ⊎_elim, arith, Some}
use Rattle.std.proofs.lemmas.List.{length-take-le, take-append-drop}
use Rattle.std.proofs.lemmas.Option.{none-some, slice_get-get_or}
use Rattle.evac_model.specs.declared.entry.Entry.{Entry}
use Rattle.evac_model.specs.Page.{Page}
use Rattle.evac_model.specs.State.{PlainState}
use Rattle.evac_model.specs.History.{after_entries}
use Rattle.evac_words.specs.Word.{taken_bit, bound_of}
use Rattle.core_state.specs.declared.noticed.Notice.{Notice}
use Rattle.core_state.specs.declared.opening.Opening.{Opening}
use Rattle.core_state.specs.declared.view.View.{View}
use Rattle.core_state.specs.Views.{Has}
use Rattle.core_state.specs.Pages.{entry_with, Flagged}
use Rattle.core_state.specs.NoticedWords.{HasEntry, HasHolder, IsNoticed}
use Rattle.core_state.specs.Sound.{Sound}
use Rattle.core_state.specs.Histories.{IsOpeningState, IsHistoryOf, AllLetGo}
use Rattle.core_state.specs.Rearranged.{HasNotice}
use Rattle.core_state.specs.NoticedHistory.{WasNoticed, AnsweredSince, TellsHistory}
use Rattle.core_state.proofs.Lists.{at_longer}
use Rattle.core_state.proofs.Found.{uses_few, has_entry-found, has_entry-drawn}
use Rattle.core_state.proofs.Histories.{IsStateAfter, states_from}

-- what stands in the first part of a list stands in the list
at_taken : (es : List Entry) (n j : ℕ) (e : Entry) → slice_get (take n es) j ≡ Some e → slice_get es j ≡ Some e
at_taken es n j e at = ap (λ (l : List Entry). slice_get l j) (sym (take-append-drop n es)) ∙ at_longer (take n es) (drop n es) j e at

module _ (o : Opening) (words : List ℕ) (views : List View) (entries : List Entry) (s : Sound o words views) (h : IsHistoryOf o words views entries) where
  -- an entry of a view is one of the history
  in_history : (e : Entry) → HasEntry views e → (k : ℕ) × (slice_get entries k ≡ Some e)
  in_history e has =
      let drawn = has_entry-drawn o words views e s.tickets has in
      let low = drawn.0 in
      let high = drawn.1 in
      let count = h.count in
      let up : o.first + (e.ticket - o.first) ≡ e.ticket = omega arith in
      let at = slice_get-get_or entries (e.ticket - o.first) e (omega arith) in
      let found = h.each (e.ticket - o.first) (get_or entries (e.ticket - o.first) e) at in
      let same = sym (ap (λ (t : ℕ). entry_with t views) up ∙ has_entry-found views e has (uses_few o words views e.ticket s.tickets)) ∙ found in
      (e.ticket - o.first, at ∙ sym same)

  -- ---- a word that was taken

  followed : AllLetGo views → (i : ℕ) (v : View) (c : Notice) → Has views i v → HasNotice v c → taken_bit c.word ≡ 1 → AnsweredSince entries c
  followed free i v c has is one = ⊎_elim
      (λ a. let p = in_history a.entry a.has in record { place = p.0; entry = a.entry; at = p.1; on = a.on; late = a.late })
      (λ l. absurd (⊎_elim (λ a. nobody a.holder) (λ a. nobody a.holder) l))
      (s.noticed.followed i v is.0 c has is.1 one) where
        nobody : HasHolder views c.page.0 → ⊥
        nobody p = none-some p.hold (sym (free p.seat p.view p.has) ∙ p.is)

  -- ---- a word that wasn't taken

  module _ (start : PlainState) (is : IsOpeningState o start) where
    -- the state after the first entries has the pages after so many tickets
    state_after : (n : ℕ) → n ≤ length entries → IsStateAfter o views n (after_entries o.cells start (take n entries))
    state_after n le =
        let first = length-take-le n entries le in let long : 0 + length (take n entries) ≡ n = omega arith in
        subst (λ (m : ℕ). IsStateAfter o views m (after_entries o.cells start (take n entries))) long
        (states_from o views 0 start (take n entries) is
        (λ j e at. let a : o.first + (0 + j) ≡ o.first + j = omega arith in ap (λ (t : ℕ). entry_with t views) a ∙ h.each j e (at_taken entries n j e at)))

    tells : (c : Notice) → IsNoticed o words views c → TellsHistory o start entries c
    tells c p = record {
      in_range = p.in_range;
      bound_is = ⊎_elim
          (λ q. inl q)
          (λ q. let k = in_history q.entry q.has in inr record { place = k.0; entry = q.entry; at = k.1; on = q.on; next = q.next })
          p.bound_is;
      bound_low = low;
      free = λ free. let f = p.flags free in let l = low in
          record { still = f.0; flags = subst (λ (m : Page). Flagged c.word m) (sym (state_after (bound_of c.word - o.first) (omega arith) c.page.0)) f.1 };
    } where
      low : bound_of c.word ≤ o.first + length entries
      low = let a = p.bound_low in let b = s.bounds.bound_low c.page.0 p.in_range in let d = h.count in omega arith

    told : (i : ℕ) (v : View) (c : Notice) → Has views i v → WasNoticed v c → TellsHistory o start entries c
    told i v c has = ⊎_elim
        (λ q. tells c (s.noticed.by_right i v q.0 c has q.1))
        (λ q. tells c (s.noticed.last i v c has q))

pub noticed_words_tell_the_history : (o : Opening) (words : List ℕ) (views : List View) (start : PlainState) (entries : List Entry) (i : ℕ) (v : View) (c : Notice) → Sound o words views → IsOpeningState o start → IsHistoryOf o words views entries → Has views i v → WasNoticed v c
    → TellsHistory o start entries c
noticed_words_tell_the_history o words views start entries i v c s is h has n = told o words views entries s h start is i v c has n

pub taken_words_are_followed : (o : Opening) (words : List ℕ) (views : List View) (entries : List Entry) (i : ℕ) (v : View) (c : Notice) → Sound o words views → IsHistoryOf o words views entries → AllLetGo views → Has views i v → HasNotice v c → taken_bit c.word ≡ 1
    → AnsweredSince entries c
taken_words_are_followed o words views entries i v c s h free has n one = followed o words views entries s h free i v c has n one
