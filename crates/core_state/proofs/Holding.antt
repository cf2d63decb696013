-- What a seat holds before and after a step.
use Rattle.std.proofs.Common.{◌≡◌, ℕ, eqb, cond, Bool, true, false, eq-eqb, ne_eqb, ◌<◌, ◌≢◌, set, get_or, sym, refl, ap, ◌∙◌, arith, Option, Some, None, IsSome}
use Rattle.std.specs.Prelude.{IsSomeAnd}
use Rattle.std.proofs.lemmas.Option.{same_Some, none-some}
use Rattle.std.proofs.lemmas.Grind.{common_steps}
use Rattle.evac_model.specs.declared.names.PageNo.{PageNo}
use Rattle.evac_words.specs.Word.{taken_bit}
use Rattle.core_state.specs.declared.held.Held.{Held}
use Rattle.core_state.specs.declared.view.View.{View}
use Rattle.core_state.specs.Views.{holds_page, maps_to}
use Rattle.core_state.specs.Parts.{drawn_as, is_at}
use Rattle.core_state.specs.Steps.{newly_held, held_after_take, MayDraw, with_ticket, note, with_load, with_store}

pub for_some : (m : Option Held) (P : Held → Type 0) → IsSomeAnd m P → (h : Held) × (m ≡ Some h) × P h
for_some None P p = absurd p
for_some (Some h) P p = (h, refl, p)

pub some_is : (m : Option ℕ) → IsSome m → (n : ℕ) × (m ≡ Some n)
some_is None p = absurd (cc)
some_is (Some n) p = (n, refl)

pub is_some-some : (m : Option ℕ) (n : ℕ) → m ≡ Some n → IsSome m
is_some-some m n e = ap (λ (x : Option ℕ). Rattle.std.specs.Prelude.is_some x) e

pub held_after_take-free : (cells : ℕ) (page : PageNo) (found : ℕ) → taken_bit found ≡ 0 → held_after_take cells page found ≡ Some (newly_held cells page found)
held_after_take-free cells page found e = ap (λ (b : Bool). cond b (Some (newly_held cells page found)) None) (eq-eqb (taken_bit found) 0 e)

pub held_after_take-busy : (cells : ℕ) (page : PageNo) (found : ℕ) → taken_bit found ≢ 0 → held_after_take cells page found ≡ None
held_after_take-busy cells page found ne = ap (λ (b : Bool). cond b (Some (newly_held cells page found)) None) (ne_eqb (taken_bit found) 0 ne)

pub holds_page-none : (page : ℕ) (m : Option Held) → m ≡ None → holds_page page m ≡ 0
holds_page-none page m e = ap (λ x. holds_page page x) e

pub holds_page-same : (page : ℕ) (m : Option Held) (h : Held) → m ≡ Some h → h.page.0 ≡ page → holds_page page m ≡ 1
holds_page-same page m h e s = ap (λ x. holds_page page x) e ∙ ap (λ (b : Bool). cond b 1 0) (eq-eqb h.page.0 page s)

pub holds_page-other : (page : ℕ) (m : Option Held) (h : Held) → m ≡ Some h → h.page.0 ≢ page → holds_page page m ≡ 0
holds_page-other page m h e s = ap (λ x. holds_page page x) e ∙ ap (λ (b : Bool). cond b 1 0) (ne_eqb h.page.0 page s)

-- who counts as a holder of the page holds it
pub held_where : (page : ℕ) (m : Option Held) → 0 < holds_page page m → (h : Held) × (m ≡ Some h) × (h.page.0 ≡ page)
held_where page None some = absurd (omega arith)
held_where page (Some h) some = (h, refl, grind (arith, common_steps))

pub drawn_as-take : (cells t : ℕ) (page : PageNo) (found : ℕ) → drawn_as t (held_after_take cells page found) ≡ 0
drawn_as-take cells t page found = grind (arith, common_steps)

-- a seat that may draw, with the page that it holds
pub record Drawing (v : View) (h : Held) : Type 0 where
  pub holds : v.held ≡ Some h
  pub undrawn : h.ticket ≡ None
  pub leave : 0 < v.left

pub drawing : (v : View) → MayDraw v → (h : Held) × Drawing v h
drawing v may = let q = for_some v.held (λ h. h.ticket ≡ None) may.undrawn in (q.0, record { holds = q.1; undrawn = q.2; leave = may.leave })

pub with_ticket-some : (m : Option Held) (h : Held) (t : ℕ) → m ≡ Some h → with_ticket m t ≡ Some record h { ticket = Some t }
with_ticket-some m h t e = ap (λ (x : Option Held). with_ticket x t) e

-- ---- a seat that goes on holding what it held

-- the same page with the same word and ticket, of which more may be known
pub record HeldAlike (m n : Option Held) : Type 0 where
  pub before : (h : Held) → n ≡ Some h → (g : Held) × (m ≡ Some g) × (h.page ≡ g.page) × (h.word ≡ g.word) × (h.ticket ≡ g.ticket)
  pub later : (g : Held) → m ≡ Some g → (h : Held) × (n ≡ Some h) × (h.page ≡ g.page) × (h.word ≡ g.word) × (h.ticket ≡ g.ticket)
  pub page : (p : ℕ) → holds_page p n ≡ holds_page p m
  pub drawn : (t : ℕ) → drawn_as t n ≡ drawn_as t m

pub held_alike-none : HeldAlike None None
held_alike-none = record {
  before = λ h e. absurd (none-some h e);
  later = λ g e. absurd (none-some g e);
  page = λ p. refl;
  drawn = λ t. refl;
}

pub held_alike-some : (g h : Held) → h.page ≡ g.page → h.word ≡ g.word → h.ticket ≡ g.ticket → HeldAlike (Some g) (Some h)
held_alike-some g h p w t = record {
  before = λ k e. let s = same_Some h k e in (g, refl, ap (λ (x : Held). x.page) (sym s) ∙ p, ap (λ (x : Held). x.word) (sym s) ∙ w, ap (λ (x : Held). x.ticket) (sym s) ∙ t);
  later = λ k e. let s = same_Some g k e in (h, refl, p ∙ ap (λ (x : Held). x.page) s, w ∙ ap (λ (x : Held). x.word) s, t ∙ ap (λ (x : Held). x.ticket) s);
  page = λ q. ap (λ (x : PageNo). cond (eqb x.0 q) 1 0) p;
  drawn = λ u. ap (λ (x : Option ℕ). is_at u x) t;
}

pub held_alike-same : (m : Option Held) → HeldAlike m m
held_alike-same None = held_alike-none
held_alike-same (Some h) = held_alike-some h h refl refl refl

pub held_alike-load : (m : Option Held) (cell value : ℕ) → HeldAlike m (with_load m cell value)
held_alike-load None cell value = held_alike-none
held_alike-load (Some h) cell value = held_alike-some h (record h { loads = note (get_or h.stores cell None) h.loads cell value }) refl refl refl

pub held_alike-store : (m : Option Held) (frame cell value : ℕ) → HeldAlike m (with_store m frame cell value)
held_alike-store None frame cell value = held_alike-none
held_alike-store (Some h) frame cell value = held_alike-some h (cond (eqb (maps_to frame h.word) 1) (record h { stores = set h.stores cell (Some value) }) h) (grind (arith, common_steps)) (grind (arith, common_steps)) (grind (arith, common_steps))

-- the seat holds what it held, and has the entries, tickets, notices and right that it had
pub record Alike (v w : View) : Type 0 where
  pub held : HeldAlike v.held w.held
  pub caller : w.caller ≡ v.caller
  pub entries : w.entries ≡ v.entries
  pub noticed : w.noticed ≡ v.noticed
  pub left : w.left ≡ v.left
  pub seen : w.seen ≡ v.seen
  pub mover : w.mover ≡ v.mover
