-- `NoticedWords` is kept by each step of a call.
use Rattle.std.proofs.Common.{◌≡◌, ℕ, cond, Bool, eq-eqb, ne_eqb, suc, ◌+◌, ◌-◌, ◌<◌, ◌≤◌, ◌≢◌, ◌⊎◌, List, [], ◌∷◌, set, sym, refl, ap, ◌∙◌, subst, inl, inr, ⊎_elim, arith, Option, Some, IsSome, bit_or, ◌++◌, length, get_or, None}
use Rattle.std.specs.List.{slice_get}
use Rattle.std.proofs.lemmas.Option.{same_Some, none-some}
use mathlib.Core.Logic.{dite}
use native.Mathlib.Decide.{ℕ_discrete, dec_le}
use Rattle.evac_model.specs.declared.entry.Entry.{Entry}
use Rattle.evac_model.specs.declared.names.PageNo.{PageNo}
use Rattle.evac_model.specs.Page.{Page}
use Rattle.evac_words.specs.Word.{taken_bit, bound_of, pins_of}
use Rattle.core_state.specs.declared.held.Held.{Held}
use Rattle.core_state.specs.declared.noticed.Notice.{Notice}
use Rattle.core_state.specs.declared.noticed.Noticed.{Noticed}
use Rattle.core_state.specs.declared.opening.Opening.{Opening}
use Rattle.core_state.specs.declared.view.View.{View}
use Rattle.core_state.specs.Words.{next_ticket_of, entry_word_of, released_word}
use Rattle.core_state.specs.Views.{Has, right_to, holds_page}
use Rattle.core_state.specs.Parts.{Bounds, bound_by, latest_in, latest, Shaped, Turn, Tickets}
use Rattle.core_state.specs.Pages.{page_before, page_after, page_now, Flagged, number_or, Pages}
use Rattle.core_state.specs.NoticedWords.{HasEntry, HasHolder, IsFollowed, IsNoticed, MayHold, NoticedWords}
use Rattle.core_state.proofs.Lists.{at_set, set_here, set_else, within, at_longer, at_snoc, at_last, sum_by_member, two_members_le_sum_by}
use Rattle.core_state.proofs.Holding.{Alike, for_some, some_is, is_some-some, Drawing, drawing, with_ticket-some, held_after_take-free, held_after_take-busy, held_where}
use Rattle.core_state.proofs.Entries.{entry_with-kept, page_after-kept, page_after-quiet, entry_with-found}
use Rattle.core_state.proofs.TurnSteps.{right_kept, alike-load, alike-store, alike-mark}
use Rattle.evac_words.specs.Table.{entry_index}
use Rattle.core_state.specs.declared.keeper.Keeper.{Keeper}
use Rattle.core_state.specs.declared.step.CallDone.{CallDone}
use Rattle.core_state.specs.declared.step.Step.{Step}
use Rattle.core_state.specs.declared.step.Step.TheVariants.{Take, Draw, Load, Store, Mark, Release}
use Rattle.core_state.specs.Steps.{MayTake, MayLetGo, MayEnd, notice_of, held_page, held_word, held_ticket, pins_after, word_after_release, entry_of, after_take, after_draw, after_release, Allowed}
use Rattle.core_state.specs.Stepped.{words_after, views_after}
use Rattle.core_state.proofs.EntryWords.{bound_of-take, bound_of-released}
use Rattle.core_state.proofs.WordsAt.{entry_word-elsewhere, entry_word-here, entry_word-other, entry_within}
use Rattle.core_state.proofs.BoundSteps.{bound-same}
use Rattle.core_state.proofs.PageReleases.{Ends, ended, page_low, page_other, ticket_high, bound_low}
use Rattle.core_state.proofs.PageCells.{ends}

-- the latest of a page is 0, or comes from one of its entries
pub record Reached (views : List View) (page n : ℕ) : Type 0 where
  pub entry : Entry
  pub has : HasEntry views entry
  pub on : entry.page.0 ≡ page
  pub next : n ≡ entry.ticket + 1

in_entries : (page : ℕ) (es : List Entry) → (latest_in page es ≡ 0) ⊎ ((k : ℕ) × (e : Entry) × (slice_get es k ≡ Some e) × (e.page.0 ≡ page) × (latest_in page es ≡ e.ticket + 1))
in_entries page [] = inl refl
in_entries page (e ∷ es) = dite (dec_le (latest_in page es) (bound_by page e))
    (λ high. dite (ℕ_discrete e.page.0 page)
    (λ q. inr (0, e, refl, q, let a : bound_by page e ≡ e.ticket + 1 = ap (λ (b : Bool). cond b (e.ticket + 1) 0) (eq-eqb e.page.0 page q) in omega arith))
    (λ ne. inl (let a : bound_by page e ≡ 0 = ap (λ (b : Bool). cond b (e.ticket + 1) 0) (ne_eqb e.page.0 page ne) in omega arith)))
    (λ low. ⊎_elim (λ z. absurd (omega arith)) (λ r. inr (suc r.0, r.1, r.2, r.3, let a = r.4 in omega arith)) (in_entries page es))

pub latest-reached : (page : ℕ) (views : List View) → (latest page views ≡ 0) ⊎ Reached views page (latest page views)
latest-reached page [] = inl refl
latest-reached page (v ∷ vs) = dite (dec_le (latest page vs) (latest_in page v.entries))
    (λ high. ⊎_elim (λ z. inl (omega arith))
    (λ r. inr record { entry = r.1; has = record { seat = 0; view = v; place = r.0; has = refl; at = r.2 }; on = r.3; next = (let a = r.4 in omega arith) }) (in_entries page v.entries))
    (λ low. ⊎_elim (λ z. absurd (omega arith))
    (λ r. inr record { entry = r.entry; has = record { seat = suc r.has.seat; view = r.has.view; place = r.has.place; has = r.has.has; at = r.has.at }; on = r.on; next = (let a = r.next in omega arith) }) (latest-reached page vs))

-- the page before its bound is the page as it is now
pub page_before-bound : (o : Opening) (words : List ℕ) (views : List View) (page : ℕ) → page < o.pages → Bounds o words views → page_before o views page (bound_of (entry_word_of words page)) ≡ page_now o words views page
page_before-bound o words views page lt b =
    let low = b.bound_low page lt in
    let q : next_ticket_of words - o.first ≡ (bound_of (entry_word_of words page) - o.first) + ((next_ticket_of words - o.first) - (bound_of (entry_word_of words page) - o.first)) = omega arith in
    sym (ap (λ k. page_after o views page k) q ∙ page_after-quiet o views page (bound_of (entry_word_of words page) - o.first) ((next_ticket_of words - o.first) - (bound_of (entry_word_of words page) - o.first))
    (λ u e from upto found on. let f = (entry_with-found (o.first + u) views e found).1 in
    let g : latest e.page.0 views ≡ latest page views = ap (λ p. latest p views) on in
    let c = b.bound_is page lt in absurd (omega arith)))

pub page_before-kept : (o : Opening) (views : List View) (i : ℕ) (v w : View) (page t : ℕ) → Has views i v → w.entries ≡ v.entries → page_before o (set views i w) page t ≡ page_before o views page t
page_before-kept o views i v w page t at e = page_after-kept o (set views i w) views page (t - o.first) (λ j lt. entry_with-kept (o.first + j) views i v w at e)

pub has_entry-kept : (views : List View) (i : ℕ) (v w : View) (e : Entry) → Has views i v → ((k : ℕ) (x : Entry) → slice_get v.entries k ≡ Some x → slice_get w.entries k ≡ Some x) → HasEntry views e → HasEntry (set views i w) e
has_entry-kept views i v w e at keep p = dite (ℕ_discrete p.seat i)
    (λ q. let same : v ≡ p.view = same_Some v p.view (sym at ∙ ap (λ k. slice_get views k) (sym q) ∙ p.has) in
    record { seat = i; view = w; place = p.place; has = set_here views i w (within views i v at); at = keep p.place e (ap (λ (x : View). slice_get x.entries p.place) same ∙ p.at) })
    (λ ne. record { seat = p.seat; view = p.view; place = p.place; has = set_else views i p.seat w ne ∙ p.has; at = p.at })

-- with the entries that it had
pub has_entry-same : (views : List View) (i : ℕ) (v w : View) → Has views i v → w.entries ≡ v.entries → (e : Entry) → HasEntry views e → HasEntry (set views i w) e
has_entry-same views i v w at same e = has_entry-kept views i v w e at (λ k x q. ap (λ (es : List Entry). slice_get es k) same ∙ q)

module _ (o : Opening) (words : List ℕ) (views : List View) (i : ℕ) (v : View) (s : NoticedWords o words views) (at : Has views i v) where
  pub is_noticed-kept : (j n : ℕ) (w : View) (c : Notice)
      → ((e : Entry) → HasEntry views e → HasEntry (set views i w) e)
      → bound_of (entry_word_of words c.page.0) ≤ bound_of (entry_word_of (set words j n) c.page.0)
      → page_before o (set views i w) c.page.0 (bound_of c.word) ≡ page_before o views c.page.0 (bound_of c.word)
      → IsNoticed o words views c → IsNoticed o (set words j n) (set views i w) c
  is_noticed-kept j n w c keep low same p = record {
    in_range = p.in_range;
    bound_is = ⊎_elim (λ q. inl q) (λ q. inr record { entry = q.entry; has = keep q.entry q.has; on = q.on; next = q.next }) p.bound_is;
    bound_low = (let a = p.bound_low in omega arith);
    flags = λ free. ((p.flags free).0, subst (λ (m : Page). Flagged c.word m) (sym same) (p.flags free).1);
  }

  -- a word that came to be followed stays so, unless by the seat that steps
  pub followed-kept : (w : View) (c : Notice)
      → ((e : Entry) → HasEntry views e → HasEntry (set views i w) e)
      → ((h : Held) (t : ℕ) → v.held ≡ Some h → h.page.0 ≡ c.page.0 → h.ticket ≡ Some t → bound_of c.word ≤ t → IsFollowed (set views i w) c)
      → ((h : Held) → v.held ≡ Some h → h.page.0 ≡ c.page.0 → 0 < v.left → right_to c.page.0 v ≡ 0 → IsFollowed (set views i w) c)
      → IsFollowed views c → IsFollowed (set views i w) c
  followed-kept w c keep drew draws l = ⊎_elim
      (λ a. inl record { entry = a.entry; has = keep a.entry a.has; on = a.on; late = a.late })
      (⊎_elim
      (λ a. dite (ℕ_discrete a.holder.seat i)
      (λ q. let same = mine a.holder.seat a.holder.view q a.holder.has in
      drew a.holder.hold a.ticket (ap (λ (x : View). x.held) same ∙ a.holder.is) a.holder.on a.drawn a.late)
      (λ ne. inr (inl record { holder = other a.holder ne; ticket = a.ticket; drawn = a.drawn; late = a.late })))
      (λ a. dite (ℕ_discrete a.holder.seat i)
      (λ q. let same = mine a.holder.seat a.holder.view q a.holder.has in
      draws a.holder.hold (ap (λ (x : View). x.held) same ∙ a.holder.is) a.holder.on
      (subst (λ (x : View). 0 < x.left) (sym same) a.left) (ap (λ (x : View). right_to c.page.0 x) same ∙ a.no_right))
      (λ ne. inr (inr record { holder = other a.holder ne; left = a.left; no_right = a.no_right })))) l where
        mine : (k : ℕ) (x : View) → k ≡ i → Has views k x → v ≡ x
        mine k x q has = same_Some v x (sym at ∙ ap (λ m. slice_get views m) (sym q) ∙ has)

        other : (p : HasHolder views c.page.0) → p.seat ≢ i → HasHolder (set views i w) c.page.0
        other p ne = record { seat = p.seat; view = p.view; hold = p.hold; has = set_else views i p.seat w ne ∙ p.has; is = p.is; on = p.on }

  pub noticed-kept : (j n : ℕ) (w : View)
      → ((e : Entry) → HasEntry views e → HasEntry (set views i w) e)
      → ((page : ℕ) → page < o.pages → bound_of (entry_word_of words page) ≤ bound_of (entry_word_of (set words j n) page))
      → ((c : Notice) → IsNoticed o words views c → page_before o (set views i w) c.page.0 (bound_of c.word) ≡ page_before o views c.page.0 (bound_of c.word))
      → ((h : Held) → w.held ≡ Some h → MayHold w h)
      → ((k : ℕ) (c : Notice) → slice_get w.noticed.by_right k ≡ Some c → (slice_get v.noticed.by_right k ≡ Some c) ⊎ (IsNoticed o words views c × (taken_bit c.word ≡ 1 → IsFollowed (set views i w) c)))
      → ((c : Notice) → w.noticed.last ≡ Some c → (v.noticed.last ≡ Some c) ⊎ IsNoticed o words views c)
      → ((c : Notice) → IsNoticed o words views c → IsFollowed views c → IsFollowed (set views i w) c)
      → NoticedWords o (set words j n) (set views i w)
  noticed-kept j n w keep low same go new_right new_last cases = record {
    may_hold = λ k x h has is. ⊎_elim
        (λ q. subst (λ (y : View). MayHold y h) q.1 (go h (ap (λ (y : View). y.held) q.1 ∙ is)))
        (λ q. s.may_hold k x h q.1 is)
        (at_set views i k w x has);
    by_right = λ k x m c has is. ⊎_elim
        (λ q. kept c (⊎_elim (λ old. s.by_right i v m c at old) (λ new. new.0) (new_right m c (ap (λ (y : View). slice_get y.noticed.by_right m) q.1 ∙ is))))
        (λ q. kept c (s.by_right k x m c q.1 is))
        (at_set views i k w x has);
    last = λ k x c has is. ⊎_elim
        (λ q. kept c (⊎_elim (λ old. s.last i v c at old) (λ new. new) (new_last c (ap (λ (y : View). y.noticed.last) q.1 ∙ is))))
        (λ q. kept c (s.last k x c q.1 is))
        (at_set views i k w x has);
    followed = λ k x m c has is one. ⊎_elim
        (λ q. ⊎_elim (λ old. cases c (s.by_right i v m c at old) (s.followed i v m c at old one)) (λ new. new.1 one) (new_right m c (ap (λ (y : View). slice_get y.noticed.by_right m) q.1 ∙ is)))
        (λ q. cases c (s.by_right k x m c q.1 is) (s.followed k x m c q.1 is one))
        (at_set views i k w x has);
  } where
    kept : (c : Notice) → IsNoticed o words views c → IsNoticed o (set words j n) (set views i w) c
    kept c p = is_noticed-kept j n w c keep (low c.page.0 p.in_range) (same c p) p

  -- a step that leaves word 0 and the entry words, by a seat that holds what it held
  pub noticed-alike : (j n : ℕ) (w : View) → ((page : ℕ) → page < o.pages → entry_word_of (set words j n) page ≡ entry_word_of words page) → Alike v w → NoticedWords o (set words j n) (set views i w)
  noticed-alike j n w words_same a = noticed-kept j n w (has_entry-same views i v w at a.entries)
      (λ page lt. let e : bound_of (entry_word_of (set words j n) page) ≡ bound_of (entry_word_of words page) = ap bound_of (words_same page lt) in omega arith)
      (λ c old. page_before-kept o views i v w c.page.0 (bound_of c.word) at a.entries)
      (λ h is. let q = a.held.before h is in ⊎_elim
      (λ d. inl (subst (λ (m : Option ℕ). IsSome m) (sym q.4) d))
      (⊎_elim (λ d. inr (inl (let e = a.left in omega arith))) (λ d. inr (inr (subst (λ (p : PageNo). 0 < right_to p.0 w) (sym q.2) (let e = right_kept v w (q.0).page.0 a.mover in omega arith)))))
      (s.may_hold i v q.0 at q.1))
      (λ x c is. inl (ap (λ (y : Noticed). slice_get y.by_right x) (sym a.noticed) ∙ is))
      (λ c is. inl (ap (λ (y : Noticed). y.last) (sym a.noticed) ∙ is))
      (λ c old l. followed-kept w c (has_entry-same views i v w at a.entries)
      (λ h t is on drawn late. let q = a.held.later h is in inr (inl record { holder = mine c.page.0 q.0 q.1 (ap (λ (p : PageNo). p.0) q.2 ∙ on); ticket = t; drawn = q.4 ∙ drawn; late = late }))
      (λ h is on some no. let q = a.held.later h is in inr (inr record { holder = mine c.page.0 q.0 q.1 (ap (λ (p : PageNo). p.0) q.2 ∙ on); left = (let e = a.left in omega arith); no_right = right_kept v w c.page.0 a.mover ∙ no })) l) where
        mine : (page : ℕ) (h : Held) → w.held ≡ Some h → h.page.0 ≡ page → HasHolder (set views i w) page
        mine page h is on = record { seat = i; view = w; hold = h; has = set_here views i w (within views i v at); is = is; on = on }

module _ (o : Opening) (words : List ℕ) (views : List View) (i : ℕ) (v : View) (t : Turn o words views) (b : Bounds o words views) (s : NoticedWords o words views) (at : Has views i v) where
  pub noticed-take : (k : Keeper) (page : PageNo) → Pages o words views → Shaped o words → MayTake o v page.0
      → NoticedWords o (set words (entry_index page.0) (bit_or (entry_word_of words page.0) 1)) (set views i (after_take k v page (entry_word_of words page.0)))
  noticed-take k page g shaped may = noticed-kept o words views i v s at (entry_index page.0) (bit_or (entry_word_of words page.0) 1) (after_take k v page (entry_word_of words page.0))
      (λ e. keep e)
      (λ p lt. let a = bound-same o words views i v b at page.0 (bit_or (entry_word_of words page.0) 1) (entry_within o words page.0 shaped may.in_range) (bound_of-take (entry_word_of words page.0)) p in omega arith)
      (λ c old. page_before-kept o views i v (after_take k v page (entry_word_of words page.0)) c.page.0 (bound_of c.word) at refl)
      (λ h is. dite (ℕ_discrete (taken_bit (entry_word_of words page.0)) 0)
      (λ free. let q : page.0 ≡ h.page.0 = ap (λ (x : Held). x.page.0) (same_Some _ _ (sym (held_after_take-free v.cells page (entry_word_of words page.0) free) ∙ is)) in
      inr (subst (λ (m : ℕ). (0 < v.left) ⊎ (0 < right_to m v)) q may.leave))
      (λ busy. absurd (none-some h (sym (held_after_take-busy v.cells page (entry_word_of words page.0) busy) ∙ is))))
      (λ x c is. dite (ℕ_discrete (right_to page.0 v) 0)
      (λ no. inl (subst (λ (d : Bool). slice_get (cond d v.noticed.by_right (v.noticed.by_right ++ notice_of v page (entry_word_of words page.0) ∷ [])) x ≡ Some c) (eq-eqb (right_to page.0 v) 0 no) is))
      (λ yes. ⊎_elim (λ old. inl old) (λ q. inr (subst (λ (d : Notice). IsNoticed o words views d × (taken_bit d.word ≡ 1 → IsFollowed (set views i (after_take k v page (entry_word_of words page.0))) d)) q (noticed, later yes)))
      (at_snoc v.noticed.by_right (notice_of v page (entry_word_of words page.0)) c x (subst (λ (d : Bool). slice_get (cond d v.noticed.by_right (v.noticed.by_right ++ notice_of v page (entry_word_of words page.0) ∷ [])) x ≡ Some c) (ne_eqb (right_to page.0 v) 0 yes) is))))
      (λ c is. dite (ℕ_discrete v.left 0)
      (λ no. inl (subst (λ (d : Bool). cond d v.noticed.last (Some (notice_of v page (entry_word_of words page.0))) ≡ Some c) (eq-eqb v.left 0 no) is))
      (λ yes. inr (subst (λ (d : Notice). IsNoticed o words views d) (same_Some _ _ (subst (λ (d : Bool). cond d v.noticed.last (Some (notice_of v page (entry_word_of words page.0))) ≡ Some c) (ne_eqb v.left 0 yes) is)) noticed)))
      (λ c old l. followed-kept o words views i v s at (after_take k v page (entry_word_of words page.0)) c (λ e. keep e)
      (λ h u holds. absurd (none-some h (sym may.holds_none ∙ holds)))
      (λ h holds. absurd (none-some h (sym may.holds_none ∙ holds))) l) where
        keep : (e : Entry) → HasEntry views e → HasEntry (set views i (after_take k v page (entry_word_of words page.0))) e
        keep e = has_entry-kept views i v (after_take k v page (entry_word_of words page.0)) e at (λ x y q. q)

        noticed : IsNoticed o words views (notice_of v page (entry_word_of words page.0))
        noticed = record {
          in_range = may.in_range;
          bound_is = (let c = b.bound_is page.0 may.in_range in dite (dec_le (latest page.0 views) (get_or o.bounds page.0 0))
              (λ high. inl (omega arith))
              (λ low. ⊎_elim (λ z. absurd (omega arith)) (λ r. inr record { entry = r.entry; has = r.has; on = r.on; next = (let a = r.next in omega arith) }) (latest-reached page.0 views)));
          bound_low = omega arith;
          flags = λ free. let f = g.free page.0 may.in_range (t.taken_by_one page.0 may.in_range ∙ free) in
              (f.still, subst (λ (m : Page). Flagged (entry_word_of words page.0) m) (sym (page_before-bound o words views page.0 may.in_range b)) f.shows.flags);
        }

        found : (j : ℕ) (x : View) (h : Held) → Has views j x → x.held ≡ Some h → h.page.0 ≡ page.0 → right_to page.0 v ≢ 0 → IsFollowed (set views i (after_take k v page (entry_word_of words page.0))) (notice_of v page (entry_word_of words page.0))
        found j x h has is on right = dite (ℕ_discrete j i)
            (λ same. absurd (none-some h (sym may.holds_none ∙ ap (λ (y : View). y.held) (same_Some v x (sym at ∙ ap (λ m. slice_get views m) (sym same) ∙ has)) ∙ is)))
            (λ ne. let holder : HasHolder (set views i (after_take k v page (entry_word_of words page.0))) page.0 = record { seat = j; view = x; hold = h; has = set_else views i j (after_take k v page (entry_word_of words page.0)) ne ∙ has; is = is; on = on } in
            ⊎_elim
            (λ d. let u = some_is h.ticket d in inr (inl record {
              holder = holder;
              ticket = u.0;
              drawn = u.1;
              late =
                  (let w = t.held_word j x h has is in let a = b.drawn_late j x h u.0 has is u.1 in
                  let c : bound_of (entry_word_of words page.0) ≡ bound_of h.word = ap (λ m. bound_of (entry_word_of words m)) (sym on) ∙ ap bound_of w.1 in omega arith);
            }))
            (⊎_elim
            (λ left. inr (inr record {
              holder = holder;
              left = left;
              no_right =
                  (let a = two_members_le_sum_by (λ y. right_to page.0 y) views j i x v ne has at in let c = t.one_mover page.0 in omega arith);
            }))
            (λ r. absurd (let a = two_members_le_sum_by (λ y. right_to page.0 y) views j i x v ne has at in let c = t.one_mover page.0 in
            let d : right_to h.page.0 x ≡ right_to page.0 x = ap (λ m. right_to m x) on in omega arith)))
            (s.may_hold j x h has is))

        later : right_to page.0 v ≢ 0 → taken_bit (entry_word_of words page.0) ≡ 1 → IsFollowed (set views i (after_take k v page (entry_word_of words page.0))) (notice_of v page (entry_word_of words page.0))
        later right one =
            let m = sum_by_member (λ x. holds_page page.0 x.held) views (let a = t.taken_by_one page.0 may.in_range in omega arith) in
            let h = held_where page.0 (m.1).held m.3 in found m.0 m.1 h.0 m.2 h.1 h.2 right

  pub noticed-draw : (h : Held) → Drawing v h
      → NoticedWords o (set words 0 (next_ticket_of words + 1)) (set views i (after_draw v (next_ticket_of words)))
  noticed-draw h may = noticed-kept o words views i v s at 0 (next_ticket_of words + 1) (after_draw v (next_ticket_of words)) (λ e. keep e)
      (λ page lt. let a : bound_of (entry_word_of (set words 0 (next_ticket_of words + 1)) page) ≡ bound_of (entry_word_of words page) = ap bound_of (entry_word-elsewhere words 0 (next_ticket_of words + 1) page (λ e. absurd (omega arith))) in omega arith)
      (λ c old. page_before-kept o views i v (after_draw v (next_ticket_of words)) c.page.0 (bound_of c.word) at refl)
      (λ g is. inl (is_some-some g.ticket (next_ticket_of words) (ap (λ (x : Held). x.ticket) (sym (same_Some _ _ (sym now ∙ is))))))
      (λ k c is. inl is)
      (λ c is. inl is)
      (λ c old l. followed-kept o words views i v s at (after_draw v (next_ticket_of words)) c (λ e. keep e)
      (λ g u holds on drawn. absurd (none-some u (sym may.undrawn ∙ ap (λ (x : Held). x.ticket) (same_Some _ _ (sym may.holds ∙ holds)) ∙ drawn)))
      (λ g holds on left no. inr (inl record {
        holder = record {
          seat = i;
          view = after_draw v (next_ticket_of words);
          hold = record h { ticket = Some (next_ticket_of words) };
          has = set_here views i (after_draw v (next_ticket_of words)) (within views i v at);
          is = now;
          on = ap (λ (x : Held). x.page.0) (same_Some _ _ (sym may.holds ∙ holds)) ∙ on;
        };
        ticket = next_ticket_of words;
        drawn = refl;
        late = (let a = old.bound_low in let d = b.bound_low c.page.0 old.in_range in omega arith);
      })) l) where
        keep : (e : Entry) → HasEntry views e → HasEntry (set views i (after_draw v (next_ticket_of words))) e
        keep e = has_entry-kept views i v (after_draw v (next_ticket_of words)) e at (λ k x q. q)

        now : (after_draw v (next_ticket_of words)).held ≡ Some record h { ticket = Some (next_ticket_of words) }
        now = with_ticket-some v.held h (next_ticket_of words) may.holds

  -- a release without an entry
  pub noticed-let_go : (h : Held) (n : ℕ) → Shaped o words → v.held ≡ Some h → MayLetGo o v h → bound_of n ≡ bound_of h.word
      → NoticedWords o (set words (entry_index h.page.0) n) (set views i (after_release v None))
  noticed-let_go h n shaped holds may same = noticed-kept o words views i v s at (entry_index h.page.0) n (after_release v None) (λ e. keep e)
      (λ page lt. let a = bound-same o words views i v b at h.page.0 n (entry_within o words h.page.0 shaped (t.held_word i v h at holds).0) (same ∙ ap bound_of (sym (t.held_word i v h at holds).1)) page in omega arith)
      (λ c old. page_before-kept o views i v (after_release v None) c.page.0 (bound_of c.word) at refl)
      (λ g is. absurd (none-some g is)) (λ k c is. inl is) (λ c is. inl is)
      (λ c old l. followed-kept o words views i v s at (after_release v None) c (λ e. keep e)
      (λ g u is on drawn. absurd (none-some u (sym may.undrawn ∙ ap (λ (x : Held). x.ticket) (same_Some _ _ (sym holds ∙ is)) ∙ drawn)))
      (λ g is on some no. absurd (let a = may.right in let q : right_to h.page.0 v ≡ right_to c.page.0 v = ap (λ p. right_to p v) (ap (λ (x : Held). x.page.0) (same_Some _ _ (sym holds ∙ is)) ∙ on) in omega arith)) l) where
        keep : (e : Entry) → HasEntry views e → HasEntry (set views i (after_release v None)) e
        keep e = has_entry-kept views i v (after_release v None) e at (λ k x q. q)

-- a release with an entry
pub noticed-end : (o : Opening) (words : List ℕ) (views : List View) (i : ℕ) (v : View) (h : Held) (u n : ℕ) (e : Entry) → Ends o words views i v h u e → NoticedWords o words views → bound_of n ≡ u + 1
    → NoticedWords o (set words (entry_index h.page.0) n) (set views i (ended v e))
noticed-end o words views i v h u n e r s new = noticed-kept o words views i v s r.at (entry_index h.page.0) n (ended v e) (λ x. keep x)
    (λ page lt. dite (ℕ_discrete page h.page.0)
    (λ q. subst (λ (m : ℕ). bound_of (entry_word_of words m) ≤ bound_of (entry_word_of (set words (entry_index h.page.0) n) m)) (sym q)
    (let a : bound_of (entry_word_of (set words (entry_index h.page.0) n) h.page.0) ≡ u + 1 = ap bound_of (entry_word-here words n h.page.0 (entry_within o words h.page.0 r.shaped (r.turn.held_word i v h r.at r.holds).0)) ∙ new in let c = bound_low o words views i v h u e r in omega arith))
    (λ ne. let a : bound_of (entry_word_of (set words (entry_index h.page.0) n) page) ≡ bound_of (entry_word_of words page) = ap bound_of (entry_word-other words h.page.0 n page ne) in omega arith))
    (λ c old. dite (ℕ_discrete c.page.0 h.page.0)
    (λ q. page_low o words views i v h u e r c.page.0 (bound_of c.word - o.first)
    (let a = ticket_high o words views i v h u e r in let d = bound_low o words views i v h u e r in let f = old.bound_low in let g : bound_of (entry_word_of words c.page.0) ≡ bound_of (entry_word_of words h.page.0) = ap (λ m. bound_of (entry_word_of words m)) q in omega arith))
    (λ ne. page_other o words views i v h u e r c.page.0 (bound_of c.word - o.first) ne))
    (λ g is. absurd (none-some g is))
    (λ k c is. inl is)
    (λ c is. inl is)
    (λ c old l. followed-kept o words views i v s r.at (ended v e) c (λ x. keep x)
    (λ g t holds on drawn late. above c old (ap (λ (x : Held). x.page.0) (same_Some _ _ (sym r.holds ∙ holds)) ∙ on))
    (λ g holds on left no. above c old (ap (λ (x : Held). x.page.0) (same_Some _ _ (sym r.holds ∙ holds)) ∙ on)) l) where
      keep : (x : Entry) → HasEntry views x → HasEntry (set views i (ended v e)) x
      keep x = has_entry-kept views i v (ended v e) x r.at (λ k y q. at_longer v.entries (e ∷ []) k y q)

      above : (c : Notice) → IsNoticed o words views c → h.page.0 ≡ c.page.0 → IsFollowed (set views i (ended v e)) c
      above c old on = inl record {
        entry = e;
        has = record { seat = i; view = ended v e; place = length v.entries; has = set_here views i (ended v e) (within views i v r.at); at = at_last v.entries e };
        on = r.page_is ∙ on;
        late = (let a = old.bound_low in let d = bound_low o words views i v h u e r in let f = r.ticket_is in let g : bound_of (entry_word_of words c.page.0) ≡ bound_of (entry_word_of words h.page.0) = ap (λ m. bound_of (entry_word_of words m)) (sym on) in omega arith);
      }

module _ (k : Keeper) (o : Opening) (words : List ℕ) (views : List View) (seat : ℕ) (v : View) (n : NoticedWords o words views) (at : Has views seat v) (s : Shaped o words) (t : Turn o words views) (u : Tickets o words views) (b : Bounds o words views) (g : Pages o words views) where
  let_go : (h : Held) → v.held ≡ Some h → MayLetGo o v h → NoticedWords o (set words (entry_index (held_page v.held)) (word_after_release v.held None)) (set views seat (after_release v None))
  let_go h holds may = subst (λ (m : Option Held). NoticedWords o (set words (entry_index (held_page m)) (word_after_release m None)) (set views seat (after_release v None))) (sym holds)
      (noticed-let_go o words views seat v t b n at h _ s holds may (bound_of-released h.word (pins_of h.word) (bound_of h.word) (omega arith)))

  end : (d : CallDone) (h : Held) → v.held ≡ Some h → MayEnd o d h → NoticedWords o (set words (entry_index (held_page v.held)) (word_after_release v.held (Some d))) (set views seat (after_release v (Some d)))
  end d h holds may = let x = some_is h.ticket may.drawn in
      let ticket : held_ticket v.held ≡ x.0 = ap (λ m. held_ticket m) holds ∙ ap (λ m. number_or m 0) x.1 in
      let fits = may.pins_fit in
      subst (λ (m : Option Held). NoticedWords o (set words (entry_index (held_page m)) (released_word (held_word m) (pins_after d.call d.reply (pins_of (held_word m))) (held_ticket v.held + 1))) (set views seat (after_release v (Some d)))) (sym holds)
      (noticed-end o words views seat v h x.0 _ (entry_of v d) (ends o words views seat v h x.0 d s t u b at holds x.1) n
      (bound_of-released h.word (pins_after d.call d.reply (pins_of h.word)) (held_ticket v.held + 1) (omega arith) ∙ ap (λ y. y + 1) ticket))

pub steps_keep_noticed_words : (k : Keeper) (o : Opening) (words : List ℕ) (views : List View) (seat : ℕ) (v : View) (step : Step) → Has views seat v → Shaped o words → Turn o words views → Tickets o words views → Bounds o words views → Pages o words views → NoticedWords o words views → Allowed o v step
    → NoticedWords o (words_after o words v step) (views_after k o words views seat v step)
steps_keep_noticed_words k o words views seat v (Take page) at s t u b g n may = noticed-take o words views seat v t b n at k page g s may
steps_keep_noticed_words k o words views seat v Draw at s t u b g n may = let d = drawing v may in noticed-draw o words views seat v t b n at d.0 d.1
steps_keep_noticed_words k o words views seat v (Load cell) at s t u b g n may = noticed-alike o words views seat v n at _ _ _ (λ page lt. entry_word-elsewhere words _ _ page (λ e. absurd (omega arith))) (alike-load v cell _)
steps_keep_noticed_words k o words views seat v (Store frame cell value) at s t u b g n may = noticed-alike o words views seat v n at _ _ _ (λ page lt. entry_word-elsewhere words _ _ page (λ e. absurd (omega arith))) (alike-store v frame cell value)
steps_keep_noticed_words k o words views seat v (Mark frame) at s t u b g n may = noticed-alike o words views seat v n at _ _ _ (λ page lt. entry_word-elsewhere words _ _ page (λ e. absurd (omega arith))) (alike-mark v frame)
steps_keep_noticed_words k o words views seat v (Release None) at s t u b g n may = let p = for_some v.held (MayLetGo o v) may.1 in let_go k o words views seat v n at s t u b g p.0 p.1 p.2
steps_keep_noticed_words k o words views seat v (Release (Some d)) at s t u b g n may = let p = for_some v.held (MayEnd o d) may.1 in end k o words views seat v n at s t u b g d p.0 p.1 p.2
