-- A split and a join rearrange the views.
use Rattle.std.proofs.Common.{◌≡◌, ℕ, eqb, ◌+◌, ◌≤◌, ◌≢◌, ◌⊎◌, List, [], ◌∷◌, ◌++◌, length, length-set, slice_get, set, sym, refl, ap, ◌∙◌, subst, inl, inr, ⊎_elim, arith, Option, Some, None, IsSome}
use Rattle.std.specs.Prelude.{is_some, IsSomeAnd}
use Rattle.std.specs.List.{count_by}
use Rattle.std.proofs.lemmas.List.Sums.{sum_by-append}
use Rattle.std.proofs.lemmas.Option.{none-some}
use mathlib.Core.Logic.{dite}
use native.Mathlib.Decide.{dec_le}
use Rattle.evac_model.specs.declared.entry.Entry.{Entry}
use Rattle.evac_model.specs.declared.names.FrameNo.{FrameNo}
use Rattle.evac_words.specs.Word.{bit_of}
use Rattle.core_state.specs.declared.held.Held.{Held}
use Rattle.core_state.specs.declared.noticed.Notice.{Notice}
use Rattle.core_state.specs.declared.noticed.Noticed.{Noticed}
use Rattle.core_state.specs.declared.opening.Opening.{Opening}
use Rattle.core_state.specs.declared.scan.Scan.{Scan}
use Rattle.core_state.specs.declared.view.View.{View}
use Rattle.core_state.specs.Views.{Has, spent, holds_page, right_to, times_in_hand, times_unmarked, maps_to, Owns, scans, keeps_journal}
use Rattle.core_state.specs.Parts.{is_at, drawn_as, uses_of}
use Rattle.core_state.specs.Rearranged.{SomeView, GoesOn, HasNotice, HadBefore, Rearranged}
use Rattle.core_state.specs.SeatMoves.{Splits, Joins, caller_of_both, views_after_split, views_after_join}
use Rattle.core_state.proofs.Lists.{at_longer, at_append, at_beyond, at_last, set_longer, set_last, within}
use Rattle.core_state.proofs.Holding.{holds_page-none}
use Rattle.core_state.proofs.Rearranging.{some_here, none_unmarked, had_at_rest, rearranged_twice, sum_of_two, two_alike, each_of_two, entry_of_two, two_rearranged}
use Rattle.core_state.proofs.Reordered.{had_spent, spent_added}

-- no ticket is drawn where no page is held
pub drawn_as-none : (t : ℕ) (m : Option Held) → m ≡ None → drawn_as t m ≡ 0
drawn_as-none t m e = ap (λ x. drawn_as t x) e

-- how often entries have a ticket
abbrev entries_with : ℕ → List Entry → ℕ
entries_with t es = count_by (λ e. eqb e.ticket t) es

-- one where there is a scanner's part, else 0
abbrev scanning : Option Scan → ℕ
scanning s = bit_of (is_some s)

-- ---- a split

module _ (o : Opening) (v kept given : View) (p : Splits o v kept given) where
  abbrev parts : List View
  parts = v ∷ spent ∷ []

  whole : (P : View → Type 0) → P v → SomeView parts P
  whole = some_here parts 0 v refl

  scan_from : (s : Scan) → (kept.scan ≡ Some s) ⊎ (given.scan ≡ Some s) → v.scan ≡ Some s
  scan_from s = ⊎_elim
      (λ q. ⊎_elim (λ r. sym r.0 ∙ q) (λ r. absurd (none-some s (sym r.0 ∙ q))) p.scan)
      (λ q. ⊎_elim (λ r. absurd (none-some s (sym r.1 ∙ q))) (λ r. sym r.1 ∙ q) p.scan)

  kept_had : HadBefore o parts kept
  kept_had = had_at_rest o parts kept p.kept_rests
      (λ some. whole _ (record { left = (let a = p.left in omega arith); caller = λ c. subst IsSome (sym p.caller) c }))
      (λ n all. let a = all 0 v refl in let b = p.seen in omega arith)
      (λ c is. whole _ (is.0, ap (λ (n : Noticed). slice_get n.by_right is.0) (sym p.noticed) ∙ is.1))
      (λ c is. whole _ (ap (λ (n : Noticed). n.last) (sym p.noticed) ∙ is))
      (λ f x is. whole _ (p.stored f x is))
      (λ s is. whole _ (scan_from s (inl is)))

  given_had : HadBefore o parts given
  given_had = had_at_rest o parts given p.given_rests
      (λ some. whole _ (record { left = (let a = p.left in omega arith); caller = λ c. p.given_caller some }))
      (λ n all. let a = all 0 v refl in let b = p.given_seen in omega arith)
      (λ c is. absurd (none-some c (ap (λ (n : Noticed). slice_get n.by_right is.0) (sym p.no_notices) ∙ is.1)))
      (λ c is. absurd (none-some c (ap (λ (n : Noticed). n.last) (sym p.no_notices) ∙ is)))
      (λ f x is. whole _ (p.given_stored f x is))
      (λ s is. whole _ (scan_from s (inr is)))

  no_holder : (page : ℕ) → holds_page page kept.held + holds_page page given.held ≡ holds_page page v.held
  no_holder page =
      let a = holds_page-none page v.held p.rests.holds_none in
      let b = holds_page-none page kept.held p.kept_rests.holds_none in
      let c = holds_page-none page given.held p.given_rests.holds_none in
      omega arith

  same_uses : (t : ℕ) → uses_of t kept + uses_of t given ≡ uses_of t v
  same_uses t =
      let a = drawn_as-none t v.held p.rests.holds_none in
      let b = drawn_as-none t kept.held p.kept_rests.holds_none in
      let c = drawn_as-none t given.held p.given_rests.holds_none in
      let d : entries_with t kept.entries ≡ entries_with t v.entries = ap (entries_with t) p.entries in
      let e : entries_with t given.entries ≡ 0 = ap (entries_with t) p.no_entries in
      omega arith

  all_marked : (f : ℕ) → times_unmarked f kept + times_unmarked f given ≡ times_unmarked f v
  all_marked f =
      let a = none_unmarked o v f p.rests in
      let b = none_unmarked o kept f p.kept_rests in
      let c = none_unmarked o given f p.given_rests in
      omega arith

  same_scanner : scans kept + scans given ≡ scans v
  same_scanner = ⊎_elim
      (λ r. let a : scans kept ≡ scans v = ap scanning r.0 in let b : scans given ≡ 0 = ap scanning r.1 in omega arith)
      (λ r. let a : scans kept ≡ 0 = ap scanning r.0 in let b : scans given ≡ scans v = ap scanning r.1 in omega arith)
      p.scan

  two_parts : Rearranged o parts (kept ∷ given ∷ [])
  two_parts = record {
    entries = λ e h. entry_of_two _ v spent e
        (λ j at. record { seat = 0; view = kept; place = j; has = refl; at = ap (λ (es : List Entry). slice_get es j) p.entries ∙ at })
        (λ j at. absurd (none-some e at)) h;
    no_new_entry = λ e h. entry_of_two _ kept given e
        (λ j at. record { seat = 0; view = v; place = j; has = refl; at = ap (λ (es : List Entry). slice_get es j) (sym p.entries) ∙ at })
        (λ j at. absurd (none-some e (ap (λ (es : List Entry). slice_get es j) (sym p.no_entries) ∙ at))) h;
    holders = λ page. two_alike (λ x. holds_page page x.held) v spent kept given (let a = no_holder page in omega arith);
    movers = λ page. two_alike (λ x. right_to page x) v spent kept given (let a = p.rights page in omega arith);
    uses = λ t. two_alike (λ x. uses_of t x) v spent kept given (let a = same_uses t in omega arith);
    left = two_alike (λ x. x.left) v spent kept given (let a = p.left in omega arith);
    in_hands = λ f. two_alike (λ x. times_in_hand f x) v spent kept given (let a = p.in_hand f in omega arith);
    unmarked = λ f. two_alike (λ x. times_unmarked f x) v spent kept given (let a = all_marked f in omega arith);
    scanners = (let a = two_alike scans v spent kept given (let b = same_scanner in omega arith) in omega arith);
    journals = (let a = two_alike keeps_journal v spent kept given (let b = p.journal in omega arith) in omega arith);
    each = each_of_two (λ x. HadBefore o parts x) kept given kept_had given_had;
  }

  module _ (views : List View) (seat : ℕ) (at : Has views seat v) where
    in_longer : seat ≢ length views
    in_longer e = absurd (let a = within views seat v at in omega arith)

    as_split : set (set (views ++ spent ∷ []) seat kept) (length views) given ≡ views_after_split views seat kept given
    as_split =
        ap (λ (l : List View). set l (length views) given) (set_longer views (spent ∷ []) seat kept (within views seat v at))
        ∙ ap (λ (n : ℕ). set (set views seat kept ++ spent ∷ []) n given) (sym (length-set views seat kept))
        ∙ set_last (set views seat kept) spent given

    pub split_rearranged : Rearranged o views (views_after_split views seat kept given)
    split_rearranged = subst (λ (l : List View). Rearranged o views l) as_split
        (rearranged_twice o views (views ++ spent ∷ []) (set (set (views ++ spent ∷ []) seat kept) (length views) given)
        (spent_added o views 1)
        (two_rearranged o v spent kept given two_parts (views ++ spent ∷ []) seat (length views) (at_longer views (spent ∷ []) seat v at) (at_last views spent) in_longer))

pub split : (o : Opening) (views : List View) (seat : ℕ) (v kept given : View) → Has views seat v → Splits o v kept given → Rearranged o views (views_after_split views seat kept given)
split o views seat v kept given at p = split_rearranged o v kept given p views seat at

-- ---- a join

own_caller : (c other : Option ℕ) → IsSome c → IsSome (caller_of_both c other)
own_caller None other is = absurd (cc)
own_caller (Some n) other is = is

other_caller : (c other : Option ℕ) → IsSome other → IsSome (caller_of_both c other)
other_caller None other is = is
other_caller (Some n) other is = refl

module _ (o : Opening) (v w both : View) (p : Joins o v w both) where
  abbrev seats : List View
  seats = v ∷ w ∷ []

  own : (P : View → Type 0) → P v → SomeView seats P
  own = some_here seats 0 v refl

  gained : (P : View → Type 0) → P w → SomeView seats P
  gained = some_here seats 1 w refl

  left_enough : (v.left ≤ both.left) × (w.left ≤ both.left)
  left_enough = let a = p.left in (omega arith, omega arith)

  goes_on : (h : Held) → both.held ≡ Some h → GoesOn v both h
  goes_on h is = let on : v.held ≡ Some h = sym p.held ∙ is in record {
    held_before = on;
    held_after = is;
    caller = λ c. subst IsSome (sym p.caller) (own_caller v.caller w.caller c);
    left = left_enough.0;
    right = (let a = p.rights h.page.0 in let b = p.no_right h on in omega arith);
  }

  -- a frame of the seat stays its own
  owns : (f : ℕ) → Owns v f → Owns both f
  owns f = ⊎_elim
      (λ q. inl (let a = p.in_hand f in omega arith))
      (λ q. inr (subst (λ (m : Option Held). IsSomeAnd m (λ h. maps_to f h.word ≡ 1)) (sym p.held) q))

  same_unmarked : (f : ℕ) → times_unmarked f both ≡ times_unmarked f v
  same_unmarked f = ap (λ (l : List FrameNo). count_by (λ x. eqb x.0 f) l) p.unmarked

  both_had : HadBefore o seats both
  both_had = record {
    holds = λ h is. own (λ x. GoesOn x both h) (goes_on h is);
    caller = λ some. dite (dec_le 1 v.left)
        (λ q. own _ (record { left = q; caller = λ c. subst IsSome (sym p.caller) (own_caller v.caller w.caller c) }))
        (λ no. gained _ (record { left = (let a = p.left in omega arith); caller = λ c. subst IsSome (sym p.caller) (other_caller v.caller w.caller c) }));
    seen = λ n all. let a = all 0 v refl in let b = all 1 w refl in let c = p.seen in omega arith;
    by_right = λ c is. ⊎_elim
        (λ q. own (λ x. HasNotice x c) (is.0, q))
        (λ q. gained (λ x. HasNotice x c) (q.0, q.1))
        (at_append v.noticed.by_right w.noticed.by_right is.0 c (ap (λ (l : List Notice). slice_get l is.0) (sym p.by_right) ∙ is.1));
    last = λ c is. own _ (sym p.last ∙ is);
    stored = λ f x is. ⊎_elim (λ q. own _ q) (λ q. gained _ q) (p.stored f x is);
    unmarked = λ f some. own _ (record { unmarked = (let a = same_unmarked f in omega arith); own = owns f });
    scan = λ s is. own _ (sym p.scan ∙ is);
    places = inr (inl p.seated);
  }

  same_holder : (page : ℕ) → holds_page page both.held ≡ holds_page page v.held
  same_holder page = ap (λ (m : Option Held). holds_page page m) p.held

  uses_together : (t : ℕ) → uses_of t both ≡ uses_of t v + uses_of t w
  uses_together t =
      let a : drawn_as t both.held ≡ drawn_as t v.held = ap (λ m. drawn_as t m) p.held in
      let b = drawn_as-none t w.held p.rests.holds_none in
      let c : entries_with t both.entries ≡ entries_with t (v.entries ++ w.entries) = ap (entries_with t) p.entries in
      let d = sum_by-append (λ (e : Entry). is_at t (Some e.ticket)) v.entries w.entries in
      omega arith

  two_seats : Rearranged o seats (both ∷ spent ∷ [])
  two_seats = record {
    entries = λ e h. entry_of_two _ v w e
        (λ j at. record { seat = 0; view = both; place = j; has = refl; at = ap (λ (es : List Entry). slice_get es j) p.entries ∙ at_longer v.entries w.entries j e at })
        (λ j at. record { seat = 0; view = both; place = length v.entries + j; has = refl; at = ap (λ (es : List Entry). slice_get es (length v.entries + j)) p.entries ∙ at_beyond v.entries w.entries j e at }) h;
    no_new_entry = λ e h. entry_of_two _ both spent e
        (λ j at. ⊎_elim
        (λ q. record { seat = 0; view = v; place = j; has = refl; at = q })
        (λ q. record { seat = 1; view = w; place = q.0; has = refl; at = q.1 })
        (at_append v.entries w.entries j e (ap (λ (es : List Entry). slice_get es j) (sym p.entries) ∙ at)))
        (λ j at. absurd (none-some e at)) h;
    holders = λ page. two_alike (λ x. holds_page page x.held) v w both spent (let a = same_holder page in let b = holds_page-none page w.held p.rests.holds_none in omega arith);
    movers = λ page. two_alike (λ x. right_to page x) v w both spent (let a = p.rights page in omega arith);
    uses = λ t. two_alike (λ x. uses_of t x) v w both spent (let a = uses_together t in omega arith);
    left = two_alike (λ x. x.left) v w both spent (let a = p.left in omega arith);
    in_hands = λ f. two_alike (λ x. times_in_hand f x) v w both spent (let a = p.in_hand f in omega arith);
    unmarked = λ f. two_alike (λ x. times_unmarked f x) v w both spent (let a = same_unmarked f in let b = none_unmarked o w f p.rests in omega arith);
    scanners = (let a : scans both ≡ scans v = ap scanning p.scan in
        let b = sum_of_two scans v w in
        let c = sum_of_two scans both spent in omega arith);
    journals = (let a = p.journal in let b = sum_of_two keeps_journal v w in let c = sum_of_two keeps_journal both spent in omega arith);
    each = each_of_two (λ x. HadBefore o seats x) both spent both_had (had_spent o seats);
  }

pub joined : (o : Opening) (views : List View) (seat gone : ℕ) (v w both : View) → Has views seat v → Has views gone w → seat ≢ gone → Joins o v w both → Rearranged o views (views_after_join views seat gone both)
joined o views seat gone v w both at_v at_w apart p = two_rearranged o v w both spent (two_seats o v w both p) views seat gone at_v at_w apart
