-- Views that have what sound ones had are sound.
use Rattle.std.proofs.Common.{◌≡◌, ◌⊎◌, ℕ, ◌+◌, ◌-◌, max, List, [], length, slice_get, slice_index, sym, refl, ap, ◌∙◌, subst, inl, inr, ⊎_elim, arith, Option, Some, None}
use Rattle.std.proofs.lemmas.Option.{same_Some, none-some}
use mathlib.Core.Logic.{dite}
use native.Mathlib.Decide.{ℕ_discrete}
use Rattle.evac_model.specs.declared.entry.Entry.{Entry}
use Rattle.evac_model.specs.Page.{Page}
use Rattle.evac_words.specs.Word.{bound_of}
use Rattle.core_state.specs.declared.held.Held.{Held}
use Rattle.core_state.specs.declared.noticed.Notice.{Notice}
use Rattle.core_state.specs.declared.scan.Scan.{Scan}
use Rattle.core_state.specs.declared.opening.Opening.{Opening}
use Rattle.core_state.specs.declared.view.View.{View}
use Rattle.core_state.specs.Words.{next_ticket_of, entry_word_of, cells_of_frame}
use Rattle.core_state.specs.Views.{Has, IsSeated, spent, holds_page, right_to}
use Rattle.core_state.specs.Seats.{IsSeat, Seats}
use Rattle.core_state.specs.Parts.{Turn, Tickets, Bounds}
use Rattle.core_state.specs.Pages.{entry_with, page_after, page_cells, answer_at, Agrees, Flagged, FreeShows, HeldShows, Pages}
use Rattle.core_state.specs.Frames.{Frames}
use Rattle.core_state.specs.NoticedWords.{HasHolder, HolderMayDraw, IsFollowed, IsNoticed, NoticedWords}
use Rattle.core_state.specs.Image.{Image}
use Rattle.core_state.specs.Sound.{Sound}
use Rattle.core_state.specs.Rearranged.{SomeView, GoesOn, Rearranged}
use Rattle.core_state.proofs.Lists.{member_le_sum_by, two_members_le_sum_by, sum_by_member}
use Rattle.core_state.proofs.Holding.{holds_page-same, held_where}
use Rattle.core_state.proofs.SeatSteps.{held_room, hand_room}
use Rattle.core_state.proofs.Entries.{page_after-kept, entry_with-found}
use Rattle.core_state.proofs.Found.{entry_with-has, has_entry-found, uses_few, latest-le}

module _ (o : Opening) (words : List ℕ) (views other : List View) (s : Sound o words views) (r : Rearranged o views other) where
  -- ---- the same history

  entry_same : (t : ℕ) → entry_with t other ≡ entry_with t views
  entry_same t = here (entry_with t other) refl (entry_with t views) refl where
    found : (e : Entry) → entry_with t views ≡ Some e → entry_with t other ≡ Some e
    found e is = let p = (entry_with-found t views e is).0 in let u = r.uses e.ticket in let f = uses_few o words views e.ticket s.tickets in
        ap (λ (n : ℕ). entry_with n other) (sym p) ∙ has_entry-found other e (r.entries e (entry_with-has t views e is)) (omega arith)

    here : (m : Option Entry) → entry_with t other ≡ m → (n : Option Entry) → entry_with t views ≡ n → entry_with t other ≡ entry_with t views
    here None a None b = a ∙ sym b
    here m a (Some e) b = found e b ∙ sym b
    here (Some e) a None b = absurd (none-some e (sym b ∙ ap (λ (n : ℕ). entry_with n views) (sym (entry_with-found t other e a).0) ∙ has_entry-found views e (r.no_new_entry e (entry_with-has t other e a)) (uses_few o words views e.ticket s.tickets)))

  page_same : (page k : ℕ) → page_after o other page k ≡ page_after o views page k
  page_same page k = page_after-kept o other views page k (λ j lt. entry_same (o.first + j))

  -- ---- the same holders

  -- who held a page goes on with it
  goes_on : (page : ℕ) → (p : HasHolder views page) → SomeView other (λ w. GoesOn p.view w p.hold)
  goes_on page p =
      let held = holds_page-same p.hold.page.0 p.view.held p.hold p.is refl in
      let one = member_le_sum_by (λ x. holds_page p.hold.page.0 x.held) views p.seat p.view p.has in
      let same = r.holders p.hold.page.0 in
      let m = sum_by_member (λ x. holds_page p.hold.page.0 x.held) other (omega arith) in
      let g = held_where p.hold.page.0 m.1.held m.3 in
      let q = (r.each m.0 m.1 m.2).holds g.0 g.1 in
      dite (ℕ_discrete q.seat p.seat)
      (λ e. let v : q.view ≡ p.view = same_Some q.view p.view (sym q.has ∙ ap (λ k. slice_get views k) e ∙ p.has) in
      let h : g.0 ≡ p.hold = same_Some g.0 p.hold (sym q.is.held_before ∙ ap (λ (x : View). x.held) v ∙ p.is) in
      record { seat = m.0; view = m.1; has = m.2; is = subst (λ (x : View). GoesOn x m.1 p.hold) v (subst (λ (x : Held). GoesOn q.view m.1 x) h q.is) })
      (λ ne. absurd (let both = two_members_le_sum_by (λ x. holds_page p.hold.page.0 x.held) views q.seat p.seat q.view p.view ne q.has p.has in
      let again = holds_page-same p.hold.page.0 q.view.held g.0 q.is.held_before g.2 in
      let lone = s.turn.taken_by_one p.hold.page.0 (s.turn.held_word p.seat p.view p.hold p.has p.is).0 in omega arith))

  abbrev as_holder : (page : ℕ) → (p : HasHolder views page) → SomeView other (λ w. GoesOn p.view w p.hold) → HasHolder other page
  as_holder page p q = record { seat = q.seat; view = q.view; hold = p.hold; has = q.has; is = q.is.held_after; on = p.on }

  -- ---- the parts

  turn : Turn o words other
  turn = record {
    taken_by_one = λ page lt. r.holders page ∙ s.turn.taken_by_one page lt;
    held_word = λ i v h has is. let q = (r.each i v has).holds h is in s.turn.held_word q.seat q.view h q.has q.is.held_before;
    one_mover = λ page. let a = s.turn.one_mover page in let b = r.movers page in omega arith;
  }

  frames : Frames o words other
  frames = record {
    each_once = λ f lt. let a = r.in_hands f in let b = s.frames.each_once f lt in omega arith;
    no_other = λ f high. let a = r.in_hands f in let b = s.frames.no_other f high in omega arith;
    stored = λ i v f x has is. let q = (r.each i v has).stored f x is in
        subst (λ (l : List (Option ℕ)). Agrees l (cells_of_frame o words f)) q.is.2 (s.frames.stored q.seat q.view f q.is.0 q.has q.is.1);
    unmarked = λ i v f has some. let q = (r.each i v has).unmarked f some in q.is.own (s.frames.unmarked q.seat q.view f q.has q.is.unmarked);
  }

  tickets : Tickets o words other
  tickets = record {
    from_first = s.tickets.from_first;
    each_once = λ t low high. r.uses t ∙ s.tickets.each_once t low high;
    none_before = λ t low. r.uses t ∙ s.tickets.none_before t low;
    none_from = λ t high. r.uses t ∙ s.tickets.none_from t high;
    budget_is = (let a = s.tickets.budget_is in let b = r.left in omega arith);
    budget_small = s.tickets.budget_small;
    caller_with_left = λ i v has some. let q = (r.each i v has).caller some in q.is.caller (s.tickets.caller_with_left q.seat q.view q.has q.is.left);
    caller_with_drawn = λ i v h t has is on. let q = (r.each i v has).holds h is in q.is.caller (s.tickets.caller_with_drawn q.seat q.view h t q.has q.is.held_before on);
  }

  bounds : Bounds o words other
  bounds = record {
    bound_is = λ page lt. s.bounds.bound_is page lt
        ∙ ap (λ m. max (slice_index o.bounds page) m) (let a = latest-le views other page r.entries in let b = latest-le other views page r.no_new_entry in omega arith);
    drawn_late = λ i v h t has is on. let q = (r.each i v has).holds h is in s.bounds.drawn_late q.seat q.view h t q.has q.is.held_before on;
    bound_low = s.bounds.bound_low;
    seen_low = λ i v has. (r.each i v has).seen (next_ticket_of words) s.bounds.seen_low;
  }

  pages : Pages o words other
  pages = record {
    replies = λ k e low found. ap (λ (m : Page). (answer_at o.cells m e.call e.reply).0) (page_same e.page.0 k) ∙ s.pages.replies k e low (sym (entry_same (o.first + k)) ∙ found);
    sized = λ page lt. ap (λ (m : Page). length (page_cells o.cells m)) (page_same page (next_ticket_of words - o.first)) ∙ s.pages.sized page lt;
    free = λ page lt none. subst (λ (m : Page). FreeShows o words (entry_word_of words page) m) (sym (page_same page (next_ticket_of words - o.first))) (s.pages.free page lt (sym (r.holders page) ∙ none));
    held = λ i v h has is. let q = (r.each i v has).holds h is in
        subst (λ (m : Page). HeldShows o words h m) (sym (page_same h.page.0 (next_ticket_of words - o.first))) (s.pages.held q.seat q.view h q.has q.is.held_before);
  }

  is_noticed : (c : Notice) → IsNoticed o words views c → IsNoticed o words other c
  is_noticed c p = record {
    in_range = p.in_range;
    bound_is = ⊎_elim (λ q. inl q) (λ q. inr record { entry = q.entry; has = r.entries q.entry q.has; on = q.on; next = q.next }) p.bound_is;
    bound_low = p.bound_low;
    flags = λ free. ((p.flags free).0, subst (λ (m : Page). Flagged c.word m) (sym (page_same c.page.0 (bound_of c.word - o.first))) (p.flags free).1);
  }

  followed : (c : Notice) → IsFollowed views c → IsFollowed other c
  followed c = ⊎_elim
      (λ a. inl record { entry = a.entry; has = r.entries a.entry a.has; on = a.on; late = a.late })
      (λ l. inr (⊎_elim
      (λ a. inl record { holder = as_holder c.page.0 a.holder (goes_on c.page.0 a.holder); ticket = a.ticket; drawn = a.drawn; late = a.late })
      (λ a. inr (may_draw a (goes_on c.page.0 a.holder))) l)) where
        may_draw : (a : HolderMayDraw views c) → SomeView other (λ w. GoesOn a.holder.view w a.holder.hold) → HolderMayDraw other c
        may_draw a q = record {
          holder = as_holder c.page.0 a.holder q;
          left = (let b = a.left in let d = q.is.left in omega arith);
          no_right = subst (λ (p : ℕ). right_to p q.view ≡ right_to p a.holder.view) a.holder.on q.is.right ∙ a.no_right;
        }

  noticed : NoticedWords o words other
  noticed = record {
    may_hold = λ i v h has is. let q = (r.each i v has).holds h is in ⊎_elim
        (λ d. inl d)
        (⊎_elim (λ l. inr (inl (let a = q.is.left in omega arith))) (λ l. inr (inr (let a = q.is.right in omega arith))))
        (s.noticed.may_hold q.seat q.view h q.has q.is.held_before);
    by_right = λ i v k c has is. let q = (r.each i v has).by_right c (k, is) in is_noticed c (s.noticed.by_right q.seat q.view q.is.0 c q.has q.is.1);
    last = λ i v c has is. let q = (r.each i v has).last c is in is_noticed c (s.noticed.last q.seat q.view c q.has q.is);
    followed = λ i v k c has is one. let q = (r.each i v has).by_right c (k, is) in followed c (s.noticed.followed q.seat q.view q.is.0 c q.has q.is.1 one);
  }

  image : Image o words other
  image = record {
    one_scanner = (let a = s.image.one_scanner in let b = r.scanners in omega arith);
    dirty = s.image.dirty;
    copied = λ i v x f has is lt clean none. let q = (r.each i v has).scan x is in s.image.copied q.seat q.view x f q.has q.is lt clean (sym (r.unmarked f) ∙ none);
  }

  -- a view that has the scanner's part isn't spent
  scanning_seat : (i : ℕ) (w : View) (x : Scan) → Has views i w → w.scan ≡ Some x → IsSeat o w
  scanning_seat i w x has is = ⊎_elim (λ e. absurd (none-some x (sym (ap (λ (y : View). y.scan) e) ∙ is))) (λ q. q) (s.seats.each i w has)

  seat : (i : ℕ) (v : View) → Has other i v → IsSeated o v → IsSeat o v
  seat i v has seated = record {
    seated = seated;
    held = λ h is. let q = (r.each i v has).holds h is in held_room o views s.seats q.seat q.view q.has h q.is.held_before;
    in_hand = λ f x is. let q = (r.each i v has).stored f x is in
        ap (λ (l : List (Option ℕ)). length l) (sym q.is.2) ∙ hand_room o views s.seats q.seat q.view q.has f q.is.0 q.is.1;
    copies = λ x f is lt. let q = (r.each i v has).scan x is in (scanning_seat q.seat q.view x q.has q.is).copies x f q.is lt;
  }

  seats : Seats o other
  seats = record {
    each = λ i v has. ⊎_elim
        (λ q. subst (λ (x : View). (x ≡ spent) ⊎ IsSeat o x) q.is (s.seats.each q.seat q.view q.has))
        (⊎_elim (λ q. inr (seat i v has q)) (λ q. inl q))
        (r.each i v has).places;
    one_journal = (let a = s.seats.one_journal in let b = r.journals in omega arith);
  }

  pub rearranged_stays_sound : Sound o words other
  rearranged_stays_sound = record {
    shaped = s.shaped;
    seats = seats;
    turn = turn;
    frames = frames;
    tickets = tickets;
    bounds = bounds;
    pages = pages;
    noticed = noticed;
    image = image;
  }
