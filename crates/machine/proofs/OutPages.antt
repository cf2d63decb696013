-- Frames are out for pages of the machine: at the start, and behind each action that the frame space may take. Those of an
-- isolated block are out for movable ones.
use Rattle.std.proofs.Common.{◌≡◌, ◌⊎◌, inl, inr, ⊎_elim, ℕ, zero, suc, ◌<◌, Bool, true, false, cond, eqb, List, [], ◌∷◌, map, get_or, set, sym, ◌∙◌, subst, arith, Option, Some, None}
use Rattle.std.proofs.lemmas.List.{get_or_past}
use Rattle.std.proofs.lemmas.List.FromFn.{length-map-range_with_len}
use Rattle.std.proofs.lemmas.Option.{same_Some, none-some}
use Rattle.std.specs.List.{AllByRecursion, range_with_len}
use mathlib.Core.Logic.{dite}
use native.Mathlib.Decide.{dec_lt}
use Rattle.evac_model.specs.declared.names.Kind.{Kind}
use Rattle.evac_model.specs.declared.names.Kind.TheVariants.{Movable}
use Rattle.evac_model.specs.declared.scenario.StartPage.{StartPage}
use Rattle.evac_model.specs.declared.space.SpaceAction.{SpaceAction}
use Rattle.evac_model.specs.declared.space.SpaceAction.TheVariants.{Lease, MoveLease, Return, Isolate, Undo, Offline, Online}
use Rattle.evac_model.specs.Geometry.{Sizes, frame_count}
use Rattle.evac_model.specs.SpaceJournal.{SpaceState, Out, Leased, out_for, is_frame_in, lease_of, after_lease, after_action, space_after, out_at_start, space_at_start, IsPossible, IsPossibleJournal}
use Rattle.evac_model.specs.StartPages.{IsStartPage}
use Rattle.space.proofs.Opens.{out_at_place}
use Rattle.machine.specs.Consistent.{IsSetting, IsConsistent}
use Rattle.machine.specs.OutPages.{NamesPages}
use Rattle.machine.specs.Start.{MayStart, setting_at_start}
use Rattle.machine.specs.World.{Setting, World, space_now}
use Rattle.machine.proofs.SpaceNow.{space_is}

-- ---- at the start

abbrev start_page : StartPage → Out
start_page p = record { page = p.page.0; kind = p.kind }

first_out : (s : Sizes) (p : StartPage) (here : Bool) (rest : Option Out) (o : Out) → p.page.0 < s.pages → (rest ≡ Some o → o.page < s.pages) → cond here (Some (start_page p)) rest ≡ Some o → o.page < s.pages
first_out s p true rest o low more is = subst (λ (x : Out). x.page < s.pages) (same_Some (start_page p) o is) low
first_out s p false rest o low more is = more is

start_out : (s : Sizes) (start : List StartPage) → AllByRecursion (IsStartPage s) start → (frame : ℕ) (o : Out) → out_at_start start frame ≡ Some o → o.page < s.pages
start_out s [] each frame o is = absurd (none-some o is)
start_out s (p ∷ start) each frame o is = first_out s p (eqb p.frame.0 frame) (out_at_start start frame) o each.0.page (start_out s start each.1 frame o) is

pub out_pages_at_start : (s : Sizes) (start : List StartPage) → AllByRecursion (IsStartPage s) start → NamesPages s (space_at_start s start)
out_pages_at_start s start each frame o is = dite (dec_lt frame (frame_count s))
    (λ low. start_out s start each frame o (sym (out_at_place s start frame low) ∙ is))
    (λ high. absurd (none-some o (sym (get_or_past (map (out_at_start start) (range_with_len 0 (frame_count s))) frame None (let long = length-map-range_with_len (out_at_start start) 0 (frame_count s) in omega arith)) ∙ is)))

-- ---- behind an action

-- a place of a list in which one was written is that one or as it was
out_put : (out : List (Option Out)) (f : ℕ) (x : Option Out) (frame : ℕ) (o : Out) → get_or (set out f x) frame None ≡ Some o → (x ≡ Some o) ⊎ (get_or out frame None ≡ Some o)
out_put [] f x frame o is = inr is
out_put (y ∷ out) zero x zero o is = inl is
out_put (y ∷ out) zero x (suc frame) o is = inr is
out_put (y ∷ out) (suc f) x zero o is = inr is
out_put (y ∷ out) (suc f) x (suc frame) o is = out_put out f x frame o is

module _ (s : Sizes) (online : Kind) (st : SpaceState) (pages : NamesPages s st) where
  abbrev out_as : (page : ℕ) → Kind → Out
  out_as page kind = record { page = page; kind = kind }

  leased_pages : (l : Option Leased) (page : ℕ) (kind : Kind) → page < s.pages → NamesPages s (after_lease st l page kind)
  leased_pages None page kind low = pages
  leased_pages (Some l) page kind low = λ frame o is. ⊎_elim
      (λ new. subst (λ (x : Out). x.page < s.pages) (same_Some (out_as page kind) o new) low)
      (λ old. pages frame o old)
      (out_put st.out l.frame (Some (out_as page kind)) frame o is)

  pub out_pages_behind : (a : SpaceAction) → IsPossible s online st a → NamesPages s (after_action s online st a)
  out_pages_behind (Lease who frame page kind) may = leased_pages (lease_of s online st who kind) page.0 kind may.1
  -- a page gets a target where one of its frames is out
  out_pages_behind (MoveLease frame page) may = leased_pages (lease_of s online st 0 Movable) page.0 Movable (pages may.0.frame (out_as page.0 may.0.kind) may.0.out)
  out_pages_behind (Return who gone) may = λ frame o is. ⊎_elim (λ none. absurd (none-some o none)) (λ old. pages frame o old) (out_put st.out gone.0 None frame o is)
  out_pages_behind (Isolate block) may = pages
  out_pages_behind (Undo block) may = pages
  out_pages_behind (Offline block) may = pages
  out_pages_behind (Online block) may = pages

pub out_pages_behind_all : (s : Sizes) (online : Kind) (st : SpaceState) (journal : List SpaceAction) → NamesPages s st → IsPossibleJournal s online st journal → NamesPages s (space_after s online st journal)
out_pages_behind_all s online st [] pages may = pages
out_pages_behind_all s online st (a ∷ journal) pages may =
    out_pages_behind_all s online (after_action s online st a) journal (out_pages_behind s online st pages a may.0) may.1

-- ---- in a consistent world

-- where they are so at the opening of its frame space
pub out_pages : (c : Setting) (w : World) → IsSetting c → NamesPages c.sizes c.space → IsConsistent c w → (frame : ℕ) (o : Out) → out_for (space_now c w) frame ≡ Some o → o.page < c.sizes.pages
out_pages c w set opened k = out_pages_behind_all c.sizes c.online c.space w.space opened k.possible

-- as they are where a machine may start so
pub out_pages_of_start : (s : Sizes) (online : Kind) (start : List StartPage) (budgets fails : List ℕ) (w : World) → MayStart s online start budgets → IsConsistent (setting_at_start s online start budgets fails) w
    → (frame : ℕ) (o : Out) → out_for (space_now (setting_at_start s online start budgets fails) w) frame ≡ Some o → o.page < s.pages
out_pages_of_start s online start budgets fails w may k = out_pages_behind_all s online (space_at_start s start) w.space (out_pages_at_start s start may.start.each) k.possible

pub isolated_is_movable : (c : Setting) (w : World) → IsSetting c → IsConsistent c w → (frame : ℕ) (o : Out) → is_frame_in c.sizes (space_now c w).isolated frame ≡ true → out_for (space_now c w) frame ≡ Some o → o.kind ≡ Movable
isolated_is_movable c w set k = (space_is c w set k).isolated_movable
