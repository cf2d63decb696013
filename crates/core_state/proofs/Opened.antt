-- The opening is sound.
use Rattle.std.proofs.Common.{◌≡◌, ℕ, eqb, zero, suc, ◌-◌, List, [], ◌∷◌, length, get_or, take, sym, refl, ap, ◌∙◌, subst, inr, arith, Option, None}
use Rattle.std.specs.List.{slice_get, count_by}
use Rattle.std.proofs.lemmas.List.{length-replicate}
use Rattle.std.proofs.lemmas.Option.{none-some}
use Rattle.evac_model.specs.declared.names.FrameNo.{FrameNo}
use Rattle.evac_model.specs.declared.entry.Entry.{Entry}
use Rattle.evac_model.specs.Page.{Page}
use Rattle.core_state.specs.declared.noticed.Notice.{Notice}
use Rattle.core_state.specs.declared.opening.Opening.{Opening}
use Rattle.core_state.specs.declared.view.View.{View}
use Rattle.core_state.specs.Words.{next_ticket_of, entry_word_of, cells_of_frame}
use Rattle.core_state.specs.Views.{Has, holds_page, times_unmarked}
use Rattle.core_state.specs.Parts.{uses, uses_of, drawn_as, latest_in, latest}
use Rattle.core_state.specs.Pages.{page_after, page_now, page_cells, FreeShows, Agrees}
use Rattle.core_state.specs.Copies.{Copied}
use Rattle.core_state.specs.Seats.{IsSeat}
use Rattle.core_state.specs.Opens.{IsNew, Opens}
use Rattle.core_state.specs.Sound.{Sound}
use Rattle.core_state.proofs.Lists.{sum_by_none}
use Rattle.core_state.proofs.Pages.{agrees-nothing}

latest-none : (page : ℕ) (l : List View) → ((i : ℕ) (v : View) → Has l i v → v.entries ≡ []) → latest page l ≡ 0
latest-none page [] h = refl
latest-none page (x ∷ xs) h = let a : latest_in page x.entries ≡ 0 = ap (λ (es : List Entry). latest_in page es) (h 0 x refl) in omega (arith, latest-none page xs (λ i v e. h (suc i) v e))

module _ (o : Opening) (words : List ℕ) (views : List View) (p : Opens o words views) where
  unused : (t : ℕ) → uses t views ≡ 0
  unused t = sum_by_none (λ v. uses_of t v) views (λ i v has. let n = p.new i v has in
      let a = ap (λ (es : List Entry). count_by (λ e. eqb e.ticket t) es) n.entries in let b : drawn_as t v.held ≡ 0 = ap (λ m. drawn_as t m) n.held in omega arith)

  now : (page : ℕ) → page_now o words views page ≡ get_or o.start page None
  now page = let a = p.first_is in let q : next_ticket_of words - o.first ≡ zero = omega arith in ap (λ k. page_after o views page k) q

  new_seat : (v : View) → IsNew o v → IsSeat o v
  new_seat v n = record {
    seated = n.seated;
    held = λ h is. absurd (none-some h (sym n.held ∙ is));
    in_hand = λ f x is. ap (λ (l : List (Option ℕ)). length l) (n.hand f x is) ∙ length-replicate o.cells None;
    copies = λ s f is lt. ap (λ (c : Copied). c.places) (n.copies s f is lt);
  }

  pub openings_are_sound : Sound o words views
  openings_are_sound = record {
    shaped = p.shaped;
    seats = record {
      each = λ i v has. inr (new_seat v (p.new i v has));
      one_journal = p.one_journal;
    };
    turn = record {
      taken_by_one = λ page lt. sum_by_none (λ v. holds_page page v.held) views (λ i v has. ap (λ m. holds_page page m) (p.new i v has).held) ∙ sym (p.free page lt);
      held_word = λ i v h has is. absurd (none-some h (sym (p.new i v has).held ∙ is));
      one_mover = p.one_mover;
    };
    frames = record {
      each_once = p.each_once;
      no_other = p.no_other;
      stored = λ i v f x has is. subst (λ (l : List (Option ℕ)). Agrees l (cells_of_frame o words f)) (sym ((p.new i v has).hand f x is)) (agrees-nothing o.cells (cells_of_frame o words f));
      unmarked = λ i v f has some. absurd (let a : times_unmarked f v ≡ 0 = ap (λ (l : List FrameNo). count_by (λ x. eqb x.0 f) l) (p.new i v has).unmarked in omega arith);
    };
    tickets = record {
      from_first = (let a = p.first_is in omega arith);
      each_once = λ t low high. absurd (let a = p.first_is in omega arith);
      none_before = λ t low. unused t;
      none_from = λ t high. unused t;
      budget_is = (let a = p.first_is in let b = p.budget_is in omega arith);
      budget_small = p.budget_small;
      caller_with_left = λ i v has some. (p.new i v has).caller some;
      caller_with_drawn = λ i v h t has is drawn. absurd (none-some h (sym (p.new i v has).held ∙ is));
    };
    bounds = record {
      bound_is = λ page lt. let a = p.bound_is page lt in let b = latest-none page views (λ i v has. (p.new i v has).entries) in omega arith;
      drawn_late = λ i v h t has is drawn. absurd (none-some h (sym (p.new i v has).held ∙ is));
      bound_low = λ page lt. let a = p.bound_is page lt in let b = p.bound_low page lt in let c = p.first_is in omega arith;
      seen_low = λ i v has. let a = (p.new i v has).seen in omega arith;
    };
    pages = record {
      replies = λ k e low found. absurd (let a = p.first_is in omega arith);
      sized = λ page lt. ap (λ m. length (page_cells o.cells m)) (now page) ∙ p.sized page lt;
      free = λ page lt none. subst (λ (m : Page). FreeShows o words (entry_word_of words page) m) (sym (now page)) (p.shows page lt);
      held = λ i v h has is. absurd (none-some h (sym (p.new i v has).held ∙ is));
    };
    noticed = record {
      may_hold = λ i v h has is. absurd (none-some h (sym (p.new i v has).held ∙ is));
      by_right = λ i v k c has is. absurd (none-some c (ap (λ (l : List Notice). slice_get l k) (sym (p.new i v has).by_right) ∙ is));
      last = λ i v c has is. absurd (none-some c (sym (p.new i v has).last ∙ is));
      followed = λ i v k c has is one. absurd (none-some c (ap (λ (l : List Notice). slice_get l k) (sym (p.new i v has).by_right) ∙ is));
    };
    image = record {
      one_scanner = p.one_scanner;
      dirty = λ f lt. let a = p.clean f lt in omega arith;
      copied = λ i v s f has is lt zero_word none. subst (λ (l : List ℕ). l ≡ take (length l) (cells_of_frame o words f)) (sym (ap (λ (c : Copied). c.cells) ((p.new i v has).copies s f is lt))) refl;
    };
  }
