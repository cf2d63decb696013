-- Where a step acts lies in the table, and the nodes and numbers that it needs are there.
use Rattle.std.proofs.Common.{◌≡◌, ℕ, ◌+◌, ◌^◌, ◌<◌, ◌≤◌, List, [], length, get_or, sym, refl, ap, ◌∙◌, subst, inr, arith, Option, Some, None, IsSome}
use Rattle.std.specs.Prelude.{IsSomeAnd, IfSome}
use Rattle.std.specs.List.{slice_get}
use Rattle.std.proofs.lemmas.Option.{same_Some}
use Rattle.std.proofs.lemmas.List.{get_or_default}
use Rattle.std.proofs.lemmas.Nat.{row_fits}
use mathlib.Core.Logic.{dite}
use native.Mathlib.Decide.{ℕ_discrete}
use Rattle.evac_model.specs.declared.names.FrameNo.{FrameNo}
use Rattle.evac_words.specs.Word.{mapped_bit, frame_of, pins_of}
use Rattle.evac_words.specs.Table.{entry_index, cell_index}
use Rattle.core_state.specs.declared.held.Held.{Held}
use Rattle.core_state.specs.declared.opening.Opening.{Opening}
use Rattle.core_state.specs.declared.room.Room.{Room}
use Rattle.core_state.specs.declared.step.CallDone.{CallDone}
use Rattle.core_state.specs.declared.view.View.{View}
use Rattle.core_state.specs.Views.{Has, times_unmarked, times_unmarked_in, maps_to, Owns}
use Rattle.core_state.specs.Pages.{number_or}
use Rattle.core_state.specs.Sound.{Sound}
use Rattle.core_state.specs.Room.{due_of, HasRoom}
use Rattle.core_state.specs.Steps.{MayLoad, MayLetGo, MayEnd, MayRelease, pins_after, held_page, held_word, held_ticket}
use Rattle.core_state.proofs.Lists.{member_le_sum_by, sum_by_none}
use Rattle.core_state.proofs.Holding.{for_some}
use Rattle.core_state.proofs.Frames.{maps_to-one, owned_in_range, one_owner}
use Rattle.core_state.proofs.TurnSteps.{holds_mine}
use Rattle.core_state.proofs.TicketSteps.{drawn-used, used-drawn}
use Rattle.core_state.proofs.Rooms.{due_drawn}

module _ (o : Opening) (words : List ℕ) (views : List View) (s : Sound o words views) where
  pub cell_within : (f c : ℕ) → f < o.frames → c < o.cells → cell_index o.pages o.frames o.cells f c < length words
  cell_within f c low lt = let a = s.shaped.long in let b = row_fits f o.cells o.frames o.cells low (omega arith) in omega arith

  pub entry_within : (page : ℕ) → page < o.pages → entry_index page < length words
  entry_within page lt = let a = s.shaped.long in omega arith

  module _ (seat : ℕ) (v : View) (at : Has views seat v) where
    pub owned_frame : (f : ℕ) → Owns v f → f < o.frames
    owned_frame f own = owned_in_range o words views s.shaped s.turn s.frames seat v f at own

    pub loaded_frame : (cell : ℕ) → MayLoad o v cell → frame_of (held_word v.held) < o.frames
    loaded_frame cell may = let q = for_some v.held (λ h. mapped_bit h.word ≡ 1) may.mapped in
        let own : Owns v (frame_of (q.0).word) = inr (subst (λ (m : Option Held). IsSomeAnd m (λ h. maps_to (frame_of (q.0).word) h.word ≡ 1)) (sym q.1) (maps_to-one (frame_of (q.0).word) (q.0).word q.2 refl)) in
        subst (λ (m : Option Held). frame_of (held_word m) < o.frames) (sym q.1) (owned_frame (frame_of (q.0).word) own)

    -- a frame that its owner has marked is unmarked in no view
    pub unmarked_nowhere : (f : ℕ) → Owns v f → times_unmarked f v ≡ 0 → times_unmarked_in f views ≡ 0
    unmarked_nowhere f own none = sum_by_none (λ x. times_unmarked f x) views (λ i y has. dite (ℕ_discrete i seat)
        (λ e. let same : v ≡ y = same_Some v y (sym at ∙ ap (λ (n : ℕ). slice_get views n) (sym e) ∙ has) in ap (λ (x : View). times_unmarked f x) (sym same) ∙ none)
        (λ ne. dite (ℕ_discrete (times_unmarked f y) 0)
        (λ z. z)
        (λ some. absurd (one_owner o words views s.shaped s.turn s.frames i seat y v f ne has at (s.frames.unmarked i y f has (omega arith)) own))))

    pub node_there : (r : Room) (f : ℕ) (node : List FrameNo) → HasRoom o views r → Owns v f → f < length r.unmarked → node ≡ get_or r.unmarked f node → times_unmarked f v ≡ 0 → 0 < length node
    node_there r f node k own lt lent none =
        let a = k.nodes f (owned_frame f own) in
        let b = unmarked_nowhere f own none in
        let c = ap (λ (l : List FrameNo). length l) (lent ∙ get_or_default r.unmarked f node [] lt) in
        omega arith

    pub ticket_small : (h : Held) → v.held ≡ Some h → held_ticket (Some h) + 1 < 2 ^ 34
    ticket_small h is = by_ticket h.ticket refl where
      by_ticket : (m : Option ℕ) → h.ticket ≡ m → number_or h.ticket 0 + 1 < 2 ^ 34
      by_ticket None e = let a : number_or h.ticket 0 ≡ 0 = ap (λ (m : Option ℕ). number_or m 0) e in omega arith
      by_ticket (Some t) e = let a : number_or h.ticket 0 ≡ t = ap (λ (m : Option ℕ). number_or m 0) e in
          let c = used-drawn o words views t s.tickets (drawn-used views seat v h t at is e) in let d = c.1 in let b = s.tickets.budget_is in let f = s.tickets.budget_small in omega arith

    -- the entry of a release has a node
    pub entry_node : (r : Room) (done : Option CallDone) → HasRoom o views r → MayRelease o v done → IsSome done → 0 < length r.entries
    entry_node r None k may some = absurd (cc)
    entry_node r (Some d) k may some =
        let a = due_drawn o views seat v r at k d may.1 in
        let b = member_le_sum_by due_of views seat v at in
        let c = k.entries in omega arith

    -- a page is held
    pub release_holds : (done : Option CallDone) → MayRelease o v done → IsSome v.held
    release_holds None may = let q = for_some v.held (MayLetGo o v) may.1 in subst (λ (m : Option Held). IsSome m) (sym q.1) refl
    release_holds (Some d) may = let q = for_some v.held (MayEnd o d) may.1 in subst (λ (m : Option Held). IsSome m) (sym q.1) refl

    pub release_pins : (done : Option CallDone) (h : Held) → MayRelease o v done → v.held ≡ Some h → IfSome done (λ d. pins_after d.call d.reply (pins_of h.word) ≤ 63)
    release_pins None h may is = tt
    release_pins (Some d) h may is = let q = for_some v.held (MayEnd o d) may.1 in
        let e : q.0 ≡ h = same_Some q.0 h (sym q.1 ∙ is) in
        subst (λ (x : Held). pins_after d.call d.reply (pins_of x.word) ≤ 63) e q.2.pins_fit

    pub released_within : (done : Option CallDone) → MayRelease o v done → entry_index (held_page v.held) < length words
    released_within done may = by_held v.held refl (release_holds done may) where
      by_held : (m : Option Held) → v.held ≡ m → IsSome m → entry_index (held_page v.held) < length words
      by_held None e some = absurd (cc)
      by_held (Some h) e some = subst (λ (m : Option Held). entry_index (held_page m) < length words) (sym e) (entry_within h.page.0 (holds_mine o words views seat v s.turn at h e))
