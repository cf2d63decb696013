-- What views have that others had: of all views, one after another, and of the views of two seats.
use Rattle.std.proofs.Common.{◌≡◌, ℕ, eqb, zero, suc, ◌+◌, ◌<◌, ◌≤◌, ◌≢◌, ◌⊎◌, List, [], ◌∷◌, slice_get, set, sym, refl, ap, ◌∙◌, subst, inl, inr, ⊎_elim, arith, Some}
use Rattle.std.specs.List.{sum_by, count_by}
use Rattle.std.proofs.lemmas.List.Sums.{sum_by-cons}
use Rattle.std.proofs.lemmas.Option.{same_Some, none-some}
use mathlib.Core.Logic.{dite}
use native.Mathlib.Decide.{ℕ_discrete}
use Rattle.evac_model.specs.declared.entry.Entry.{Entry}
use Rattle.evac_model.specs.declared.names.FrameNo.{FrameNo}
use Rattle.core_state.specs.declared.hand.HandFrame.{HandFrame}
use Rattle.core_state.specs.declared.held.Held.{Held}
use Rattle.core_state.specs.declared.noticed.Notice.{Notice}
use Rattle.core_state.specs.declared.opening.Opening.{Opening}
use Rattle.core_state.specs.declared.scan.Scan.{Scan}
use Rattle.core_state.specs.declared.view.View.{View}
use Rattle.core_state.specs.Views.{Has, IsSeated, spent, hand_frame, times_unmarked, scans, keeps_journal}
use Rattle.core_state.specs.NoticedWords.{HasEntry}
use Rattle.core_state.specs.HandOvers.{IsAtRest}
use Rattle.core_state.specs.Rearranged.{SomeView, GoesOn, KeepsCaller, HasStored, HasNotice, HadBefore, Rearranged}
use Rattle.core_state.proofs.Lists.{at_set, sum_by_replaced, within, set_here, set_else}

-- ---- views among more

-- each of the views is among these
abbrev pub AreAmong : (views more : List View) → Type 0
AreAmong views more = (i : ℕ) (v : View) → Has views i v → (j : ℕ) × Has more j v

pub some_among : (views more : List View) (P : View → Type 0) → AreAmong views more → SomeView views P → SomeView more P
some_among views more P among q = let p = among q.seat q.view q.has in record { seat = p.0; view = q.view; has = p.1; is = q.is }

pub has_entry-among : (views more : List View) (e : Entry) → AreAmong views more → HasEntry views e → HasEntry more e
has_entry-among views more e among q = let p = among q.seat q.view q.has in record { seat = p.0; view = q.view; place = q.place; has = p.1; at = q.at }

pub had_among : (o : Opening) (views more : List View) (z : View) → AreAmong views more → HadBefore o views z → HadBefore o more z
had_among o views more z among b = record {
  holds = λ h is. some_among views more _ among (b.holds h is);
  caller = λ some. some_among views more _ among (b.caller some);
  seen = λ n all. b.seen n (λ i w has. let p = among i w has in all p.0 w p.1);
  by_right = λ c is. some_among views more _ among (b.by_right c is);
  last = λ c is. some_among views more _ among (b.last c is);
  stored = λ f x is. some_among views more _ among (b.stored f x is);
  unmarked = λ f some. some_among views more _ among (b.unmarked f some);
  scan = λ s is. some_among views more _ among (b.scan s is);
  places = ⊎_elim (λ q. inl (some_among views more _ among q)) (λ q. inr q) b.places;
}

-- this view is so
pub some_here : (views : List View) (i : ℕ) (v : View) → Has views i v → (P : View → Type 0) → P v → SomeView views P
some_here views i v has P p = record { seat = i; view = v; has = has; is = p }

-- a view had what it has
pub had_itself : (o : Opening) (views : List View) (i : ℕ) (v : View) → Has views i v → HadBefore o views v
had_itself o views i v has = record {
  holds = λ h is. some_here views i v has (λ w. GoesOn w v h) (record { held_before = is; held_after = is; caller = λ c. c; left = omega arith; right = refl });
  caller = λ some. some_here views i v has _ (record { left = some; caller = λ c. c });
  seen = λ n all. all i v has;
  by_right = λ c is. some_here views i v has _ is;
  last = λ c is. some_here views i v has _ is;
  stored = λ f x is. some_here views i v has _ (x, is, refl);
  unmarked = λ f some. some_here views i v has _ (record { unmarked = some; own = λ own. own });
  scan = λ s is. some_here views i v has _ is;
  places = inl (some_here views i v has _ refl);
}

-- a view at rest has nothing unmarked
pub none_unmarked : (o : Opening) (v : View) (f : ℕ) → IsAtRest o v → times_unmarked f v ≡ 0
none_unmarked o v f rests = ap (λ (l : List FrameNo). count_by (λ x. eqb x.0 f) l) rests.all_marked

-- what is left to be said of a view at rest
pub had_at_rest : (o : Opening) (views : List View) (v : View) → IsAtRest o v
    → (0 < v.left → SomeView views (λ w. KeepsCaller w v))
    → ((n : ℕ) → ((i : ℕ) (w : View) → Has views i w → w.seen ≤ n) → v.seen ≤ n)
    → ((c : Notice) → HasNotice v c → SomeView views (λ w. HasNotice w c))
    → ((c : Notice) → v.noticed.last ≡ Some c → SomeView views (λ w. w.noticed.last ≡ Some c))
    → ((frame : ℕ) (x : HandFrame) → hand_frame v frame ≡ Some x → SomeView views (λ w. HasStored w frame x.stores))
    → ((s : Scan) → v.scan ≡ Some s → SomeView views (λ w. w.scan ≡ Some s)) → HadBefore o views v
had_at_rest o views v rests caller seen by_right last stored scan = record {
  holds = λ h is. absurd (none-some h (sym rests.holds_none ∙ is));
  caller = caller;
  seen = seen;
  by_right = by_right;
  last = last;
  stored = stored;
  unmarked = λ f some. absurd (let a = none_unmarked o v f rests in omega arith);
  scan = scan;
  places = inr (inl rests.seated);
}

-- ---- one change after another

goes_on-later : (u w z : View) (h : Held) → GoesOn u w h → GoesOn w z h → GoesOn u z h
goes_on-later u w z h a b = record {
  held_before = a.held_before;
  held_after = b.held_after;
  caller = λ c. b.caller (a.caller c);
  left = (let p = a.left in let q = b.left in omega arith);
  right = b.right ∙ a.right;
}

module _ (o : Opening) (first second : List View) (each : (i : ℕ) (w : View) → Has second i w → HadBefore o first w) where
  -- what holds of a view there comes from one of the first
  chained : (P Q : View → Type 0) → ((i : ℕ) (w : View) → Has second i w → P w → SomeView first Q) → SomeView second P → SomeView first Q
  chained P Q step q = step q.seat q.view q.has q.is

  had_later : (z : View) → HadBefore o second z → HadBefore o first z
  had_later z b = record {
    holds = λ h is. chained (λ w. GoesOn w z h) (λ u. GoesOn u z h)
        (λ i w has g. let p = (each i w has).holds h g.held_before in record { seat = p.seat; view = p.view; has = p.has; is = goes_on-later p.view w z h p.is g }) (b.holds h is);
    caller = λ some. chained _ _
        (λ i w has g. let p = (each i w has).caller g.left in record { seat = p.seat; view = p.view; has = p.has; is = record { left = p.is.left; caller = λ c. g.caller (p.is.caller c) } }) (b.caller some);
    seen = λ n all. b.seen n (λ i w has. (each i w has).seen n all);
    by_right = λ c is. chained _ _ (λ i w has g. (each i w has).by_right c g) (b.by_right c is);
    last = λ c is. chained _ _ (λ i w has g. (each i w has).last c g) (b.last c is);
    stored = λ f x is. chained _ _
        (λ i w has g. let p = (each i w has).stored f g.0 g.1 in record { seat = p.seat; view = p.view; has = p.has; is = (p.is.0, p.is.1, p.is.2 ∙ g.2) }) (b.stored f x is);
    unmarked = λ f some. chained _ _
        (λ i w has g. let p = (each i w has).unmarked f g.unmarked in record { seat = p.seat; view = p.view; has = p.has; is = record { unmarked = p.is.unmarked; own = λ own. g.own (p.is.own own) } }) (b.unmarked f some);
    scan = λ s is. chained _ _ (λ i w has g. (each i w has).scan s g) (b.scan s is);
    places = ⊎_elim (λ q. subst (λ (v : View). SomeView first (λ w. w ≡ v) ⊎ (IsSeated o v ⊎ (v ≡ spent))) q.is (each q.seat q.view q.has).places) (λ q. inr q) b.places;
  }

pub rearranged_twice : (o : Opening) (first second third : List View) → Rearranged o first second → Rearranged o second third → Rearranged o first third
rearranged_twice o first second third a b = record {
  entries = λ e h. b.entries e (a.entries e h);
  no_new_entry = λ e h. a.no_new_entry e (b.no_new_entry e h);
  holders = λ page. b.holders page ∙ a.holders page;
  movers = λ page. b.movers page ∙ a.movers page;
  uses = λ t. b.uses t ∙ a.uses t;
  left = b.left ∙ a.left;
  in_hands = λ f. b.in_hands f ∙ a.in_hands f;
  unmarked = λ f. b.unmarked f ∙ a.unmarked f;
  scanners = (let p = a.scanners in let q = b.scanners in omega arith);
  journals = (let p = a.journals in let q = b.journals in omega arith);
  each = λ i z has. had_later o first second a.each z (b.each i z has);
}

-- ---- the views of two seats

pub sum_of_two : (f : View → ℕ) (v w : View) → sum_by f (v ∷ w ∷ []) ≡ f v + f w
sum_of_two f v w = omega (arith, sum_by-cons f v (w ∷ []), sum_by-cons f w [])

-- two views weigh together what two others weigh
pub two_alike : (f : View → ℕ) (v w x y : View) → f x + f y ≡ f v + f w → sum_by f (x ∷ y ∷ []) ≡ sum_by f (v ∷ w ∷ [])
two_alike f v w x y e = sum_of_two f x y ∙ e ∙ sym (sum_of_two f v w)

-- what holds of both holds of each
pub each_of_two : (P : View → Type 0) (v w : View) → P v → P w → (k : ℕ) (z : View) → Has (v ∷ w ∷ []) k z → P z
each_of_two P v w p q zero z has = subst P (same_Some v z has) p
each_of_two P v w p q (suc zero) z has = subst P (same_Some w z has) q
each_of_two P v w p q (suc (suc k)) z has = absurd (none-some z has)

-- an entry of one of two views
pub entry_of_two : (G : Type 0) (v w : View) (e : Entry) → ((k : ℕ) → slice_get v.entries k ≡ Some e → G) → ((k : ℕ) → slice_get w.entries k ≡ Some e → G) → HasEntry (v ∷ w ∷ []) e → G
entry_of_two G v w e p q h = each_of_two (λ z. (k : ℕ) → slice_get z.entries k ≡ Some e → G) v w p q h.seat h.view h.has h.place h.at

module _ (o : Opening) (v w x y : View) (r : Rearranged o (v ∷ w ∷ []) (x ∷ y ∷ [])) (views : List View) (i j : ℕ) (at_v : Has views i v) (at_w : Has views j w) (apart : i ≢ j) where
  abbrev now : List View
  now = set (set views i x) j y

  at_w_then : Has (set views i x) j w
  at_w_then = set_else views i j x (λ e. apart (sym e)) ∙ at_w

  olds_among : AreAmong (v ∷ w ∷ []) views
  olds_among = each_of_two (λ z. (m : ℕ) × Has views m z) v w (i, at_v) (j, at_w)

  news_among : AreAmong (x ∷ y ∷ []) now
  news_among = each_of_two (λ z. (m : ℕ) × Has now m z) x y
      (i, set_else (set views i x) j i y apart ∙ set_here views i x (within views i v at_v))
      (j, set_here (set views i x) j y (within (set views i x) j w at_w_then))

  summed : (f : View → ℕ) → sum_by f now + sum_by f (v ∷ w ∷ []) ≡ sum_by f views + sum_by f (x ∷ y ∷ [])
  summed f =
      let a = sum_by_replaced f views i v x at_v in
      let b = sum_by_replaced f (set views i x) j w y at_w_then in
      let c = sum_of_two f v w in
      let d = sum_of_two f x y in
      omega arith

  alike : (f : View → ℕ) → sum_by f (x ∷ y ∷ []) ≡ sum_by f (v ∷ w ∷ []) → sum_by f now ≡ sum_by f views
  alike f e = let a = summed f in omega arith

  -- each view is one of the two new ones, or one that stays
  from_where : (k : ℕ) (z : View) → Has now k z → ((m : ℕ) × Has (x ∷ y ∷ []) m z) ⊎ Has views k z
  from_where k z has = ⊎_elim
      (λ q. inl (1, ap (λ (u : View). Some u) q.1))
      (λ q. ⊎_elim (λ p. inl (0, ap (λ (u : View). Some u) p.1)) (λ p. inr p.1) (at_set views i k x z q.1))
      (at_set (set views i x) j k y z has)

  to_where : (k : ℕ) (z : View) → Has views k z → ((m : ℕ) × Has (v ∷ w ∷ []) m z) ⊎ Has now k z
  to_where k z has = dite (ℕ_discrete k i)
      (λ q. inl (0, sym at_v ∙ ap (λ (m : ℕ). slice_get views m) (sym q) ∙ has))
      (λ ne. dite (ℕ_discrete k j)
      (λ q. inl (1, sym at_w ∙ ap (λ (m : ℕ). slice_get views m) (sym q) ∙ has))
      (λ no. inr (set_else (set views i x) j k y no ∙ set_else views i k x ne ∙ has)))

  pub two_rearranged : Rearranged o views now
  two_rearranged = record {
    entries = λ e h. ⊎_elim
        (λ q. has_entry-among (x ∷ y ∷ []) now e news_among (r.entries e (record { seat = q.0; view = h.view; place = h.place; has = q.1; at = h.at })))
        (λ q. record { seat = h.seat; view = h.view; place = h.place; has = q; at = h.at })
        (to_where h.seat h.view h.has);
    no_new_entry = λ e h. ⊎_elim
        (λ q. has_entry-among (v ∷ w ∷ []) views e olds_among (r.no_new_entry e (record { seat = q.0; view = h.view; place = h.place; has = q.1; at = h.at })))
        (λ q. record { seat = h.seat; view = h.view; place = h.place; has = q; at = h.at })
        (from_where h.seat h.view h.has);
    holders = λ page. alike _ (r.holders page);
    movers = λ page. alike _ (r.movers page);
    uses = λ t. alike _ (r.uses t);
    left = alike _ r.left;
    in_hands = λ f. alike _ (r.in_hands f);
    unmarked = λ f. alike _ (r.unmarked f);
    scanners = (let a = summed scans in let b = r.scanners in omega arith);
    journals = (let a = summed keeps_journal in let b = r.journals in omega arith);
    each = λ k z has. ⊎_elim (λ q. had_among o (v ∷ w ∷ []) views z olds_among (r.each q.0 z q.1)) (λ q. had_itself o views k z q) (from_where k z has);
  }
