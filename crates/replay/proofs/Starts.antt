-- The start of a run: what the machine is opened with, how the owners fit their seats, that those behind them are idle,
-- and that owners have no frame in hand.
use Rattle.std.proofs.Common.{◌≡◌, ℕ, zero, suc, ◌+◌, List, [], ◌∷◌, ◌++◌, length, get_or, sum, refl, sym, ap, ◌∙◌, subst, arith, Option, Some, None, IsSome}
use Rattle.std.specs.List.{AllByRecursion, slice_get}
use Rattle.std.proofs.lemmas.Bool.{false≢true}
use Rattle.std.proofs.lemmas.List.{length-map, length-replicate}
use Rattle.std.proofs.lemmas.List.Sums.{sum_by-cons}
use Rattle.std.proofs.lemmas.Option.{same_Some, none-some, slice_get-get_or}
use Rattle.evac_model.specs.declared.names.PageNo.{PageNo}
use Rattle.evac_model.specs.declared.call.Call.{Call}
use Rattle.evac_model.specs.declared.scenario.Scenario.{Scenario}
use Rattle.evac_model.specs.declared.scenario.StartPage.{StartPage}
use Rattle.evac_model.specs.Geometry.{Sizes, frame_count}
use Rattle.evac_model.specs.ScenarioGrammar.{online_of, call_count}
use Rattle.evac_model.specs.ScenarioLines.{HasNumbers}
use Rattle.evac_model.specs.Scenarios.{IsOwnerCall, IsRunnable}
use Rattle.evac_model.proofs.Lists.{all_weaker}
use Rattle.core_state.specs.declared.hand.HandFrame.{HandFrame}
use Rattle.core_state.specs.declared.opening.Opening.{Opening}
use Rattle.core_state.specs.declared.view.View.{View}
use Rattle.core_state.specs.CoreOpens.{opening_of, opening_words, owner_view, owner_views, scanner_view, keeper_views, opening_views}
use Rattle.core_state.specs.Opens.{IsNew, Opens}
use Rattle.core_state.specs.Views.{Has, IsSeated, view_of, spent, hand_frame}
use Rattle.core_state.proofs.CoreOpened.{core_opens}
use Rattle.core_state.proofs.Lists.{within}
use Rattle.machine.specs.Consistent.{IsConsistent}
use Rattle.machine.specs.Start.{MayStart, setting_at_start}
use Rattle.machine.specs.World.{Setting}
use Rattle.machine.proofs.Opened.{none_there, opened_consistent}
use Rattle.core_actors.specs.CallSteps.{IsCallOf}
use Rattle.core_actors.specs.Fits.{Fits}
use Rattle.core_actors.specs.Owners.{OwnerState, owner_at_start}
use Rattle.replay.specs.FramesInHand.{AreFramesInHand}
use Rattle.replay.specs.Keeping.{HaveNumbers, IsIdle, AreSeatsKept}
use Rattle.replay.specs.Runs.{budgets_of, owners_from, opening, setting, running_at_start}
use Rattle.replay.proofs.InOrder.{none_in_order}

-- ---- budgets, and how many owners there are

sum_budgets : (scripts : List (List (PageNo × Call))) → sum (budgets_of scripts) ≡ call_count scripts
sum_budgets [] = refl
sum_budgets (c ∷ cs) =
    let a = sum_by-cons (λ (x : ℕ). x) (length c) (budgets_of cs) in
    let b = sum_by-cons (λ (x : List (PageNo × Call)). length x) c cs in
    let e = sum_budgets cs in omega arith

pub length-owners_from : (cells k : ℕ) (scripts : List (List (PageNo × Call))) → length (owners_from cells k scripts) ≡ length scripts
length-owners_from cells k [] = refl
length-owners_from cells k (c ∷ cs) = ap suc (length-owners_from cells (k + 1) cs)

-- ---- what the machine is opened with

-- the setting of the machine is that of the run
pub setting_is : (s : Scenario) → setting_at_start s.geometry (online_of s) s.start (budgets_of s.owners) s.fails ≡ setting s
setting_is s =
    ap (λ (n : ℕ). let c : Setting = record { opening = opening s; sizes = s.geometry; online = online_of s; space = (setting s).space; owners = n; backing = (setting s).backing } in c)
    (length-map s.owners (λ (script : List (PageNo × Call)). length script))

pub may_start : (s : Scenario) → IsRunnable s → MayStart s.geometry (online_of s) s.start (budgets_of s.owners)
may_start s r = record {
  limits = r.limits;
  start = r.start;
  kinds = r.kinds;
  owners = let n = length-map s.owners (λ (script : List (PageNo × Call)). length script) in let few = r.owners in omega arith;
  calls = let a = sum_budgets s.owners in let b = r.count in omega arith;
}

pub world_at_start_kept : (s : Scenario) → IsRunnable s → IsConsistent (setting s) (running_at_start s).world
world_at_start_kept s r =
    subst (λ (c : Setting). IsConsistent c (running_at_start s).world) (setting_is s)
    (opened_consistent s.geometry (online_of s) s.start (budgets_of s.owners) s.fails (may_start s r))

-- ---- an owner and its seat

module _ (s : Sizes) where
  record IsOwnerAt (scripts : List (List (PageNo × Call))) (number i : ℕ) (a : OwnerState) (v : View) : Type 0 where
    pub script : List (PageNo × Call)
    pub here : script ≡ get_or scripts i []
    pub owner : owner_at_start number s.cells script ≡ a
    pub view : owner_view s number (length script) ≡ v

  owner_at : (k : ℕ) (scripts : List (List (PageNo × Call))) (rest : List View) (i number : ℕ) (a : OwnerState) (v : View) → number ≡ k + i
      → slice_get (owners_from s.cells k scripts) i ≡ Some a → slice_get (owner_views s k (budgets_of scripts) ++ rest) i ≡ Some v → IsOwnerAt scripts number i a v
  owner_at k [] rest i number a v is at has = absurd (none-some a at)
  owner_at k (c ∷ cs) rest zero number a v is at has = let same : number ≡ k = omega arith in record {
    script = c;
    here = refl;
    owner = ap (λ (n : ℕ). owner_at_start n s.cells c) same ∙ same_Some (owner_at_start k s.cells c) a at;
    view = ap (λ (n : ℕ). owner_view s n (length c)) same ∙ same_Some (owner_view s k (length c)) v has;
  }
  owner_at k (c ∷ cs) rest (suc i) number a v is at has =
      let p = owner_at (k + 1) cs rest i number a v (omega arith) at has in
      record { script = p.script; here = p.here; owner = p.owner; view = p.view }

  -- it has no frame in hand
  empty_at : (scripts : List (List (PageNo × Call))) (rest : List View) (i : ℕ) (a : OwnerState) (v : View) (frame : ℕ)
      → slice_get (owners_from s.cells 1 scripts) i ≡ Some a → slice_get (owner_views s 1 (budgets_of scripts) ++ rest) i ≡ Some v → hand_frame v frame ≡ None
  empty_at scripts rest i a v frame at has =
      let p = owner_at 1 scripts rest i (suc i) a v (omega arith) at has in
      ap (λ (w : View). hand_frame w frame) (sym p.view) ∙ none_there (frame_count s) frame

  -- ---- it is at the start of its script

  calls_of : (script : List (PageNo × Call)) → AllByRecursion (IsOwnerCall s) script → AllByRecursion (λ c. IsCallOf s c) script
  calls_of script all = all_weaker (IsOwnerCall s) (λ c. IsCallOf s c) (λ c of. record { page = of.page; call = of.call }) script all

  numbers_of : (script : List (PageNo × Call)) → AllByRecursion (IsOwnerCall s) script → HaveNumbers script
  numbers_of script all = all_weaker (IsOwnerCall s) (λ c. HasNumbers c.1) (λ c of. of.numbers) script all

  module _ (start : List StartPage) (budgets : List ℕ) where
    abbrev o : Opening
    o = opening_of s start budgets

    owner_seated : (number left : ℕ) → IsSeated o (owner_view s number left)
    owner_seated number left = record { cells = refl; hand = length-replicate {A = Option HandFrame} (frame_count s) None; image = tt }

    fits_at_start : (number : ℕ) (script : List (PageNo × Call)) → AllByRecursion (IsOwnerCall s) script → Fits s o script (owner_view s number (length script)) (owner_at_start number s.cells script)
    fits_at_start number script all = record {
      belongs = record {
        cells = refl;
        owner_cells = refl;
        pages = refl;
        calls = calls_of script all;
        seated = owner_seated number (length script);
        caller = refl;
        callers = tt;
        entries = refl;
      };
      under_way = tt;
      has = record { left = omega arith; unmarked = refl; held = refl; hand = none_there (frame_count s) };
    }

    abbrev IsAtStart : ℕ → List (PageNo × Call) → OwnerState → View → Type 0
    IsAtStart number script a v = (a.owner ≡ number) × Fits s o script v a × HaveNumbers a.left

    -- the owner with that number, and its seat
    starts_fit : (scripts : List (List (PageNo × Call))) (rest : List View) (i : ℕ) (a : OwnerState) (v : View) → AllByRecursion (λ script. AllByRecursion (IsOwnerCall s) script) scripts
        → slice_get (owners_from s.cells 1 scripts) i ≡ Some a → slice_get (owner_views s 1 (budgets_of scripts) ++ rest) i ≡ Some v → IsAtStart (suc i) (get_or scripts i []) a v
    starts_fit scripts rest i a v all at has =
        let p = owner_at 1 scripts rest i (suc i) a v (omega arith) at has in
        let calls : AllByRecursion (IsOwnerCall s) p.script = subst (λ (l : List (PageNo × Call)). AllByRecursion (IsOwnerCall s) l) (sym p.here) (script_calls scripts i all) in
        subst (λ (l : List (PageNo × Call)). IsAtStart (suc i) l a v) p.here
        (subst (λ (b : OwnerState). IsAtStart (suc i) p.script b v) p.owner
        (subst (λ (w : View). IsAtStart (suc i) p.script (owner_at_start (suc i) s.cells p.script) w) p.view
        (refl, fits_at_start (suc i) p.script calls, numbers_of p.script calls))) where
          script_calls : (scripts : List (List (PageNo × Call))) (i : ℕ) → AllByRecursion (λ script. AllByRecursion (IsOwnerCall s) script) scripts → AllByRecursion (IsOwnerCall s) (get_or scripts i [])
          script_calls [] i all = tt
          script_calls (c ∷ cs) zero all = all.0
          script_calls (c ∷ cs) (suc i) all = script_calls cs i all.1

-- ---- the seats

new_is_idle : (o : Opening) (v : View) → IsNew o v → IsIdle o v
new_is_idle o v new = record {
  rests = record { seated = new.seated; holds_none = new.held; all_marked = new.unmarked };
  entries = new.entries;
}

module _ (s : Scenario) (r : IsRunnable s) where
  abbrev start_views : List View
  start_views = opening_views s.geometry s.start (budgets_of s.owners)

  abbrev last : List View
  last = scanner_view s.geometry ∷ keeper_views s.geometry s.start

  opens : Opens (opening s) (opening_words s.geometry s.start) start_views
  opens = core_opens s.geometry r.limits s.start (budgets_of s.owners) r.start (may_start s r).calls

  pub new_at_start : (i : ℕ) (v : View) → Has start_views i v → IsNew (opening s) v
  new_at_start i v has = opens.new i v has

  pub seats_at_start : AreSeatsKept s (running_at_start s)
  seats_at_start = record {
    owners = length-owners_from s.geometry.cells 1 s.owners;
    fits = λ i a v at has. starts_fit s.geometry s.start (budgets_of s.owners) s.owners last i a v r.calls at has;
    in_order = λ i v has. let n = opens.new i v has in none_in_order v n.entries n.held;
    others = λ i v has past. new_is_idle (opening s) v (opens.new i v has);
  }

  owner_empty : (i : ℕ) (a : OwnerState) (frame : ℕ) → slice_get (running_at_start s).owners i ≡ Some a → hand_frame (view_of start_views (suc i)) frame ≡ None
  owner_empty i a frame at =
      let low = within (running_at_start s).owners i a at in
      let n = length-owners_from s.geometry.cells 1 s.owners in
      let seats = (world_at_start_kept s r).seats in
      empty_at s.geometry s.owners last i a (view_of start_views (suc i)) frame at (slice_get-get_or start_views (suc i) spent (omega arith))

  pub frames_at_start : AreFramesInHand s (running_at_start s)
  frames_at_start i a frame at has = absurd (false≢true (subst (λ (x : Option HandFrame). IsSome x) (owner_empty i a frame at) has))
