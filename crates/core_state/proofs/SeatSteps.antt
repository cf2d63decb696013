-- `Seats` is kept by each step of a call.
use Rattle.std.proofs.Common.{◌≡◌, ◌⊎◌, ℕ, zero, suc, eqb, cond, true, false, List, [], ◌∷◌, length, length-set, get_or, set, sym, refl, ap, ◌∙◌, subst, inr, ⊎_elim, arith, Option, Some, None}
use Rattle.std.specs.Prelude.{is_some, IfSome}
use Rattle.std.proofs.lemmas.List.{length-replicate}
use Rattle.std.proofs.lemmas.Option.{same_Some, none-some}
use Rattle.std.proofs.lemmas.Grind.{common_steps}
use Rattle.evac_model.specs.declared.names.PageNo.{PageNo}
use Rattle.evac_words.specs.Word.{mapped_bit, bit_of}
use Rattle.core_state.specs.declared.actions.Actions.{Actions}
use Rattle.core_state.specs.declared.hand.HandFrame.{HandFrame}
use Rattle.core_state.specs.declared.held.Held.{Held}
use Rattle.core_state.specs.declared.keeper.Keeper.{Keeper}
use Rattle.core_state.specs.declared.opening.Opening.{Opening}
use Rattle.core_state.specs.declared.scan.Scan.{Scan}
use Rattle.core_state.specs.declared.step.Step.{Step}
use Rattle.core_state.specs.declared.step.Step.TheVariants.{Take, Draw, Load, Store, Mark, Release}
use Rattle.core_state.specs.declared.view.View.{View}
use Rattle.core_state.specs.Views.{Has, IsSeated, spent, hand_frame, maps_to, Owns, keeps_journal}
use Rattle.core_state.specs.Seats.{IsHeldRoom, IsSeat, Seats}
use Rattle.core_state.specs.Steps.{MayLetGo, MayEnd, held_after_take, with_ticket, with_load, with_store, with_hand_store, note, after_take, after_draw, after_load, after_store, after_mark, after_release, Allowed}
use Rattle.core_state.specs.Stepped.{word_found, views_after}
use Rattle.core_state.proofs.Lists.{at_set, sum_by_kept}
use Rattle.core_state.proofs.Holding.{for_some, drawing}

-- ---- what is held before and after, in the same places

pub record SameRoom (m n : Option Held) : Type 0 where
  pub free : n ≡ None → m ≡ None
  pub held : (g : Held) → n ≡ Some g → (h : Held) × (m ≡ Some h) × (length g.loads ≡ length h.loads) × (length g.stores ≡ length h.stores)

same_room-none : SameRoom None None
same_room-none = record { free = λ e. e; held = λ g e. absurd (none-some g e) }

same_room-some : (h g : Held) → length g.loads ≡ length h.loads → length g.stores ≡ length h.stores → SameRoom (Some h) (Some g)
same_room-some h g l s = record {
  free = λ e. absurd (none-some g (sym e));
  held = λ k e. let q = same_Some g k e in (h, refl, ap (λ (x : Held). length x.loads) (sym q) ∙ l, ap (λ (x : Held). length x.stores) (sym q) ∙ s);
}

pub same_room-refl : (m : Option Held) → SameRoom m m
same_room-refl m = record { free = λ e. e; held = λ h e. (h, e, refl, refl) }

pub same_room-ticket : (m : Option Held) (t : ℕ) → SameRoom m (with_ticket m t)
same_room-ticket None t = same_room-none
same_room-ticket (Some h) t = same_room-some h (record h { ticket = Some t }) refl refl

length-note : (m : Option ℕ) (loads : List (Option ℕ)) (cell x : ℕ) → length (note m loads cell x) ≡ length loads
length-note m loads cell x = grind (arith, common_steps, length-set loads cell (Some x))

pub same_room-load : (m : Option Held) (cell x : ℕ) → SameRoom m (with_load m cell x)
same_room-load None cell x = same_room-none
same_room-load (Some h) cell x = same_room-some h (record h { loads = note (get_or h.stores cell None) h.loads cell x }) (length-note (get_or h.stores cell None) h.loads cell x) refl

pub same_room-store : (m : Option Held) (frame cell x : ℕ) → SameRoom m (with_store m frame cell x)
same_room-store None frame cell x = same_room-none
same_room-store (Some h) frame cell x = same_room-some h (cond (eqb (maps_to frame h.word) 1) (record h { stores = set h.stores cell (Some x) }) h)
    (grind (arith, common_steps)) (grind (arith, common_steps, length-set h.stores cell (Some x)))

-- ---- the hand before and after, each frame in its place

pub record SameHand (m n : List (Option HandFrame)) : Type 0 where
  pub times : (f : ℕ) → bit_of (is_some (get_or n f None)) ≡ bit_of (is_some (get_or m f None))
  pub stores : (f : ℕ) (y : HandFrame) → get_or n f None ≡ Some y → (x : HandFrame) × (get_or m f None ≡ Some x) × (length y.stores ≡ length x.stores)

pub same_hand : (m n : List (Option HandFrame)) → n ≡ m → SameHand m n
same_hand m n e = subst (λ (l : List (Option HandFrame)). SameHand m l) (sym e) (record { times = λ f. refl; stores = λ f y is. (y, is, refl) })

times-store : (l : List (Option HandFrame)) (i cell x f : ℕ) → bit_of (is_some (get_or (set l i (with_hand_store (get_or l i None) cell x)) f None)) ≡ bit_of (is_some (get_or l f None))
times-store [] i cell x f = refl
times-store (m ∷ l) zero cell x zero = grind (arith, common_steps)
times-store (m ∷ l) zero cell x (suc f) = refl
times-store (m ∷ l) (suc i) cell x zero = refl
times-store (m ∷ l) (suc i) cell x (suc f) = times-store l i cell x f

stores-store : (l : List (Option HandFrame)) (i cell x f : ℕ) (z : HandFrame) → get_or (set l i (with_hand_store (get_or l i None) cell x)) f None ≡ Some z
    → (y : HandFrame) × (get_or l f None ≡ Some y) × (length z.stores ≡ length y.stores)
stores-store [] i cell x f z is = absurd (none-some z is)
stores-store (None ∷ l) zero cell x zero z is = absurd (none-some z is)
stores-store (Some y ∷ l) zero cell x zero z is = (y, refl, ap (λ (q : HandFrame). length q.stores) (sym (same_Some (record y { stores = set y.stores cell (Some x) }) z is)) ∙ length-set y.stores cell (Some x))
stores-store (m ∷ l) zero cell x (suc f) z is = (z, is, refl)
stores-store (m ∷ l) (suc i) cell x zero z is = (z, is, refl)
stores-store (m ∷ l) (suc i) cell x (suc f) z is = stores-store l i cell x f z is

pub same_hand-store : (l : List (Option HandFrame)) (i cell x : ℕ) → SameHand l (set l i (with_hand_store (get_or l i None) cell x))
same_hand-store l i cell x = record { times = times-store l i cell x; stores = stores-store l i cell x }

-- ---- which views aren't the spent one

module _ (o : Opening) (v : View) (is : (v ≡ spent) ⊎ IsSeat o v) where
  pub seated_seat : IsSeated o v → IsSeat o v
  seated_seat seated = ⊎_elim
      (λ e. record {
        seated = seated;
        held = λ h holds. absurd (none-some h (sym (ap (λ (x : View). x.held) e) ∙ holds));
        in_hand = λ f x has. absurd (none-some x (sym (ap (λ (y : View). hand_frame y f) e) ∙ has));
        copies = λ s f scans lt. absurd (none-some s (sym (ap (λ (x : View). x.scan) e) ∙ scans));
      })
      (λ q. q)
      is

  pub holding_seat : (h : Held) → v.held ≡ Some h → IsSeat o v
  holding_seat h holds = ⊎_elim (λ e. absurd (none-some h (sym (ap (λ (x : View). x.held) e) ∙ holds))) (λ q. q) is

  pub in_hand_seat : (f : ℕ) (x : HandFrame) → hand_frame v f ≡ Some x → IsSeat o v
  in_hand_seat f x has = ⊎_elim (λ e. absurd (none-some x (sym (ap (λ (y : View). hand_frame y f) e) ∙ has))) (λ q. q) is

  nothing_owned : (f : ℕ) → Owns spent f → ⊥
  nothing_owned f = ⊎_elim (λ a. absurd (omega arith)) (λ b. b)

  pub owning_seat : (f : ℕ) → Owns v f → IsSeat o v
  owning_seat f own = ⊎_elim (λ e. absurd (nothing_owned f (subst (λ (x : View). Owns x f) e own))) (λ q. q) is

-- ---- what a view that isn't the spent one has places for

module _ (o : Opening) (views : List View) (s : Seats o views) (i : ℕ) (v : View) (at : Has views i v) where
  pub held_room : (h : Held) → v.held ≡ Some h → IsHeldRoom o.cells h
  held_room h is = (holding_seat o v (s.each i v at) h is).held h is

  pub hand_room : (f : ℕ) (x : HandFrame) → hand_frame v f ≡ Some x → length x.stores ≡ o.cells
  hand_room f x is = (in_hand_seat o v (s.each i v at) f x is).in_hand f x is

  pub seats-set : (w : View) → IsSeat o w → w.actions ≡ v.actions → Seats o (set views i w)
  seats-set w seat actions = record {
    each = λ j u has. ⊎_elim
        (λ q. subst (λ (x : View). (x ≡ spent) ⊎ IsSeat o x) q.1 (inr seat))
        (λ q. s.each j u q.1)
        (at_set views i j w u has);
    one_journal = (let a = sum_by_kept keeps_journal views i v w at (ap (λ (x : Actions). bit_of (is_some x.journal)) actions) in let b = s.one_journal in omega arith);
  }

-- a view with the same scanner's part, whose page and frames have their places
pub seat-kept : (o : Opening) (v w : View) → IsSeat o v → w.cells ≡ v.cells → length w.hand ≡ length v.hand → w.scan ≡ v.scan
    → ((h : Held) → w.held ≡ Some h → IsHeldRoom o.cells h) → ((f : ℕ) (x : HandFrame) → hand_frame w f ≡ Some x → length x.stores ≡ o.cells) → IsSeat o w
seat-kept o v w s cells hand scan held in_hand = record {
  seated = record { cells = cells ∙ s.seated.cells; hand = hand ∙ s.seated.hand; image = subst (λ (m : Option Scan). IfSome m (λ z. length z.image ≡ o.frames)) (sym scan) s.seated.image };
  held = held;
  in_hand = in_hand;
  copies = λ z f is lt. s.copies z f (sym scan ∙ is) lt;
}

-- what is held and what is in hand is in the same places
seat-same : (o : Opening) (v w : View) → IsSeat o v → w.cells ≡ v.cells → length w.hand ≡ length v.hand → w.scan ≡ v.scan → SameRoom v.held w.held → SameHand v.hand w.hand → IsSeat o w
seat-same o v w s cells size scan room hand = seat-kept o v w s cells size scan
    (λ h is. let q = room.held h is in let p = s.held q.0 q.1 in record { loads = q.2 ∙ p.loads; stores = q.3 ∙ p.stores })
    (λ f x is. let q = hand.stores f x is in q.2 ∙ s.in_hand f q.0 q.1)

-- ---- the steps

take_held : (o : Opening) (v : View) (page : PageNo) (found : ℕ) → v.cells ≡ o.cells → (h : Held) → held_after_take v.cells page found ≡ Some h → IsHeldRoom o.cells h
take_held o v page found size h e = grind (arith, common_steps, length-replicate {A = Option ℕ} v.cells None)

pub steps_keep_seats : (k : Keeper) (o : Opening) (words : List ℕ) (views : List View) (seat : ℕ) (v : View) (step : Step) → Has views seat v → Seats o views → Allowed o v step
    → Seats o (views_after k o words views seat v step)
steps_keep_seats k o words views seat v (Take page) at s may = let is = seated_seat o v (s.each seat v at) may.seated in
    seats-set o views s seat v at (after_take k v page (word_found o words v (Take page)))
    (seat-kept o v (after_take k v page (word_found o words v (Take page))) is refl refl refl (take_held o v page (word_found o words v (Take page)) may.seated.cells) is.in_hand) refl
steps_keep_seats k o words views seat v Draw at s may = let d = drawing v may in
    seats-set o views s seat v at (after_draw v (word_found o words v Draw))
    (seat-same o v (after_draw v (word_found o words v Draw)) (holding_seat o v (s.each seat v at) d.0 d.1.holds) refl refl refl (same_room-ticket v.held (word_found o words v Draw)) (same_hand v.hand v.hand refl)) refl
steps_keep_seats k o words views seat v (Load cell) at s may = let q = for_some v.held (λ h. mapped_bit h.word ≡ 1) may.mapped in
    seats-set o views s seat v at (after_load v cell (word_found o words v (Load cell)))
    (seat-same o v (after_load v cell (word_found o words v (Load cell))) (holding_seat o v (s.each seat v at) q.0 q.1) refl refl refl (same_room-load v.held cell (word_found o words v (Load cell))) (same_hand v.hand v.hand refl)) refl
steps_keep_seats k o words views seat v (Store frame cell value) at s may =
    seats-set o views s seat v at (after_store v frame cell value)
    (seat-same o v (after_store v frame cell value) (owning_seat o v (s.each seat v at) frame.0 may.own) refl (length-set v.hand frame.0 (with_hand_store (hand_frame v frame.0) cell value)) refl
    (same_room-store v.held frame.0 cell value) (same_hand-store v.hand frame.0 cell value)) refl
steps_keep_seats k o words views seat v (Mark frame) at s may =
    seats-set o views s seat v at (after_mark v frame)
    (seat-same o v (after_mark v frame) (owning_seat o v (s.each seat v at) frame.0 may) refl refl refl (same_room-refl v.held) (same_hand v.hand v.hand refl)) refl
steps_keep_seats k o words views seat v (Release None) at s may = let q = for_some v.held (MayLetGo o v) may.1 in let is = holding_seat o v (s.each seat v at) q.0 q.1 in
    seats-set o views s seat v at (after_release v None) (seat-kept o v (after_release v None) is refl refl refl (λ h e. absurd (none-some h e)) is.in_hand) refl
steps_keep_seats k o words views seat v (Release (Some d)) at s may = let q = for_some v.held (MayEnd o d) may.1 in let is = holding_seat o v (s.each seat v at) q.0 q.1 in
    seats-set o views s seat v at (after_release v (Some d)) (seat-kept o v (after_release v (Some d)) is refl refl refl (λ h e. absurd (none-some h e)) is.in_hand) refl
