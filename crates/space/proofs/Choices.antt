-- What a step of a choice leaves.
use Rattle.std.proofs.Common.{◌≡◌, ℕ, ◌+◌, ◌-◌, ◌*◌, ◌%◌, ◌^◌, ◌<◌, ◌≤◌, Bool, true, false, not, ◌&&◌, List, [], ◌∷◌, map, get_or, set, refl, sym, ap, subst, ◌∙◌, arith, lit<}
use Rattle.std.specs.Prelude.{Option, None, Some, MatchOption}
use Rattle.std.specs.Option.{option_map, option_or}
use Rattle.std.specs.List.{filter, list_any, range_with_len}
use Rattle.std.proofs.lemmas.Bool.{and_parts}
use Rattle.std.proofs.lemmas.Nat.{pow_pos}
use Rattle.std.proofs.Math.Nat.{pow-le-pow_right}
use Rattle.evac_model.specs.declared.names.Kind.{Kind}
use Rattle.evac_model.specs.declared.names.Kind.TheVariants.{Movable, Unmovable}
use Rattle.evac_model.specs.declared.names.FrameNo.{FrameNo}
use Rattle.evac_model.specs.Geometry.{Sizes, IsWithinLimits, frame_count}
use Rattle.evac_model.specs.Numbers.{is_in}
use Rattle.evac_model.specs.FreeRuns.{fits, is_all_free, chosen_run}
use Rattle.evac_model.specs.SpaceJournal.{SpaceState, Leased, free_frames, from_cache, from_run, one_frame, kernel_run, drained, lease_of, after_lease}
use Rattle.buddy.specs.FreeFrames.{FreeFrames, after_take, with_frames}
use Rattle.buddy.specs.Laws.{IsBest}
use Rattle.buddy.proofs.Aligned.{aligned_less}
use Rattle.buddy.proofs.FrameRuns.{IsRunOf, IsFreeRunOf, run_part}
use Rattle.buddy.proofs.MachineRuns.{free_in, free_from_spec, run_below}
use Rattle.buddy.proofs.FreeRunLaws.{best_choice}
use Rattle.space.specs.SpaceInside.{IsSpace, runs_of}
use Rattle.space.specs.ChooseInside.{AreOfSpace, IsBehindLease}
use Rattle.space.proofs.Spaces.{IsFreeFrame, free_frame, drained_runs, drained_space, drained_same, run_taken, frame_taken, cached_taken}

-- a chosen run is one of free frames, in a block that takes the kind
pub record IsChosenRun (s : Sizes) (online kind : Kind) (free : List ℕ) (order first : ℕ) : Type 0 where
  pub below : first < frame_count s
  pub fitting : fits s online kind first ≡ true
  pub all_free : (f : ℕ) → first ≤ f → f < first + 2 ^ order → is_in f free ≡ true

pub chosen : (s : Sizes) (online kind : Kind) (free : List ℕ) (order first : ℕ) → IsWithinLimits s → chosen_run s online free order kind ≡ Some first → IsChosenRun s online kind free order first
chosen s online kind free order first w e =
    let best : IsBest s online kind free order first = best_choice s online kind free order first w e in
    let top : ℕ = w.block.0 in
    let whole : IsFreeRunOf top (free_in s free) best.size first = free_from_spec s free top best.size first w.block.2 best.run.0 in
    let part : IsRunOf top (free_in s free) order first =
    run_part top (free_in s free) order best.size first first first whole.all best.at_least (aligned_less order best.size first best.at_least whole.all.aligned) (omega arith) (omega (arith, pow_pos order)) (omega arith) (omega (arith, pow_pos best.size)) in
    record {
      below = run_below s free top order first part;
      fitting = best.run.1;
      all_free = λ f from to. (and_parts _ _ (part.free f from to)).1;
    }

-- a choice as the number of a frame
pub some_frame : (o : Option ℕ) (frame : FrameNo) (result : Option FrameNo) → result ≡ option_map (λ f. record { 0 = f }) o → result ≡ Some frame → o ≡ Some frame.0
some_frame None frame result e f = cc
some_frame (Some n) frame result e f =
    let number : FrameNo → ℕ = λ x. x.0 in
    ap (option_map number) (sym e ∙ f)

pub no_frame : (o : Option ℕ) (result : Option FrameNo) → result ≡ option_map (λ f. record { 0 = f }) o → result ≡ None → o ≡ None
no_frame None result e f = refl
no_frame (Some n) result e f = cc

pub no_lease : (o : Option Leased) (result : Option FrameNo) → result ≡ option_map (λ l. record { 0 = l.frame }) o → result ≡ None → o ≡ None
no_lease None result e f = refl
no_lease (Some l) result e f = cc

-- a run was taken, or none
pub run_leased : (r₀ r₁ : FreeFrames) (cs₀ cs₁ : List (List ℕ)) (st : SpaceState) (who order frames : ℕ) (frame : FrameNo) → IsWithinLimits r₀.sizes → AreOfSpace st r₀ cs₀ → who ≤ 16 → get_or cs₀ who [] ≡ [] → chosen_run r₀.sizes r₀.online r₀.free order Movable ≡ Some frame.0 → r₁ ≡ after_take order (chosen_run r₀.sizes r₀.online r₀.free order Movable) r₀ → cs₁ ≡ set cs₀ who (range_with_len (frame.0 + 1) (frames - 1)) → frames ≡ 2 ^ order → IsBehindLease r₀.sizes r₀.online st Movable (from_run st.caches who order (chosen_run r₀.sizes r₀.online (free_frames r₀.sizes st) order Movable)) (Some frame) r₁ cs₁
run_leased r₀ r₁ cs₀ cs₁ st who order frames frame w h caller empty e taken put many =
    let s : Sizes = r₀.sizes in
    let online : Kind = r₀.online in
    let free : r₀.free ≡ free_frames s st = ap (λ (r : FreeFrames). r.free) h.free in
    let e' : chosen_run s online (free_frames s st) order Movable ≡ Some frame.0 = sym (ap (λ (xs : List ℕ). chosen_run s online xs order Movable) free) ∙ e in
    let run : IsChosenRun s online Movable (free_frames s st) order frame.0 = chosen s online Movable (free_frames s st) order frame.0 w e' in
    let some : 0 < 2 ^ order = pow_pos order in
    let first_free : IsFreeFrame s st frame.0 = free_frame s st frame.0 (run.all_free frame.0 (omega arith) (omega (arith, some))) in
    let rest : List ℕ = range_with_len (frame.0 + 1) (2 ^ order - 1) in
    subst (λ (o : Option ℕ). IsBehindLease s online st Movable (from_run st.caches who order o) (Some frame) r₁ cs₁) (sym e') (record {
      leased = refl;
      free = taken ∙ (ap (λ (o : Option ℕ). after_take order o r₀) e ∙ (ap (after_take order (Some frame.0)) h.free ∙ sym (run_taken s online st who order frame.0 0 Movable h.space caller (sym (ap (λ (cs : List (List ℕ)). get_or cs who []) h.cached) ∙ empty) first_free some)));
      cached = put ∙ (ap (λ (n : ℕ). set cs₀ who (range_with_len (frame.0 + 1) (n - 1))) many ∙ ap (λ (cs : List (List ℕ)). set cs who rest) h.cached);
    })

pub none_leased : (r₀ r₁ : FreeFrames) (cs₀ cs₁ : List (List ℕ)) (st : SpaceState) (kind : Kind) (lease : Option Leased) (result : Option FrameNo) → AreOfSpace st r₀ cs₀ → lease ≡ None → result ≡ None → r₁ ≡ r₀ → cs₁ ≡ cs₀ → IsBehindLease r₀.sizes r₀.online st kind lease result r₁ cs₁
none_leased r₀ r₁ cs₀ cs₁ st kind lease result h e none same_runs same_caches =
    subst (λ (o : Option Leased). IsBehindLease r₀.sizes r₀.online st kind o result r₁ cs₁) (sym e)
    (record { leased = none; free = same_runs ∙ h.free; cached = same_caches ∙ h.cached })

pub none_taken : (r₀ r₁ : FreeFrames) (cs₀ cs₁ : List (List ℕ)) (st : SpaceState) (who order : ℕ) (result : Option FrameNo) → AreOfSpace st r₀ cs₀ → chosen_run r₀.sizes r₀.online r₀.free order Movable ≡ None → result ≡ None → r₁ ≡ after_take order (chosen_run r₀.sizes r₀.online r₀.free order Movable) r₀ → cs₁ ≡ cs₀ → IsBehindLease r₀.sizes r₀.online st Movable (from_run st.caches who order (chosen_run r₀.sizes r₀.online (free_frames r₀.sizes st) order Movable)) result r₁ cs₁
none_taken r₀ r₁ cs₀ cs₁ st who order result h e none taken same =
    let free : r₀.free ≡ free_frames r₀.sizes st = ap (λ (r : FreeFrames). r.free) h.free in
    let e' : chosen_run r₀.sizes r₀.online (free_frames r₀.sizes st) order Movable ≡ None = sym (ap (λ (xs : List ℕ). chosen_run r₀.sizes r₀.online xs order Movable) free) ∙ e in
    none_leased r₀ r₁ cs₀ cs₁ st Movable _ result h (ap (from_run st.caches who order) e') none (taken ∙ ap (λ (o : Option ℕ). after_take order o r₀) e) same

-- a power of two as a shift computes it
pub shifted : (order : ℕ) → order ≤ 2 → 1 * 2 ^ order % 4294967296 ≡ 2 ^ order
shifted order few = omega (arith, pow-le-pow_right {n = 2} (lit< tt) {i = order} {j = 2} few)

pub few_frames : (order : ℕ) → order ≤ 2 → 2 ^ order ≤ 4
few_frames order few = omega (arith, pow-le-pow_right {n = 2} (lit< tt) {i = order} {j = 2} few)

-- one lease is tried after another
pub first_found : (s : Sizes) (online : Kind) (st : SpaceState) (kind : Kind) (a b : Option Leased) (frame : FrameNo) (result : Option FrameNo) (runs : FreeFrames) (caches : List (List ℕ)) → IsBehindLease s online st kind a result runs caches → result ≡ Some frame → IsBehindLease s online st kind (option_or a b) result runs caches
first_found s online st kind None b frame result runs caches h e = let none : result ≡ None = h.leased in cc
first_found s online st kind (Some l) b frame result runs caches h e = h

pub next_tried : (s : Sizes) (online : Kind) (st : SpaceState) (kind : Kind) (a b : Option Leased) (result : Option FrameNo) (runs : FreeFrames) (caches : List (List ℕ)) → a ≡ None → IsBehindLease s online st kind b result runs caches → IsBehindLease s online st kind (option_or a b) result runs caches
next_tried s online st kind a b result runs caches e h =
    subst (λ (o : Option Leased). IsBehindLease s online st kind (option_or o b) result runs caches) (sym e) h

-- the space stays where the runs and the caches do
pub same_space : (st : SpaceState) (r₀ r₁ : FreeFrames) (cs₀ cs₁ : List (List ℕ)) → r₁ ≡ r₀ → cs₁ ≡ cs₀ → AreOfSpace st r₀ cs₀ → AreOfSpace st r₁ cs₁
same_space st r₀ r₁ cs₀ cs₁ same_runs same_caches h =
    subst (λ (r : FreeFrames). AreOfSpace st r cs₁) (sym same_runs) (subst (λ (cs : List (List ℕ)). AreOfSpace st r₀ cs) (sym same_caches) h)

-- the lease from a run of an order, as a call finds the runs
abbrev pub lease_from_run : FreeFrames → SpaceState → (who order : ℕ) → Option Leased
lease_from_run r st who order =
    from_run st.caches who order (chosen_run r.sizes r.online (free_frames r.sizes st) order Movable)

pub run_tried : (r₀ r₁ r : FreeFrames) (cs₀ cs₁ cs : List (List ℕ)) (who order : ℕ) (result : Option FrameNo) → r₁ ≡ r₀ → cs₁ ≡ cs₀ → ((st : SpaceState) → AreOfSpace st r₁ cs₁ → IsBehindLease r₁.sizes r₁.online st Movable (lease_from_run r₁ st who order) result r cs) → (st : SpaceState) → AreOfSpace st r₀ cs₀ → IsBehindLease r₀.sizes r₀.online st Movable (lease_from_run r₀ st who order) result r cs
run_tried r₀ r₁ r cs₀ cs₁ cs who order result same_runs same_caches leased st h =
    subst (λ (x : FreeFrames). IsBehindLease x.sizes x.online st Movable (lease_from_run x st who order) result r cs) same_runs (leased st (same_space st r₀ r₁ cs₀ cs₁ same_runs same_caches h))

pub run_missed : (r₀ r₁ r : FreeFrames) (cs₀ cs₁ cs : List (List ℕ)) (who order : ℕ) (result : Option FrameNo) → r₁ ≡ r₀ → cs₁ ≡ cs₀ → ((st : SpaceState) → AreOfSpace st r₁ cs₁ → IsBehindLease r₁.sizes r₁.online st Movable (lease_from_run r₁ st who order) result r cs) → result ≡ None → (st : SpaceState) → AreOfSpace st r₀ cs₀ → lease_from_run r₀ st who order ≡ None
run_missed r₀ r₁ r cs₀ cs₁ cs who order result same_runs same_caches leased none st h =
    no_lease _ result (run_tried r₀ r₁ r cs₀ cs₁ cs who order result same_runs same_caches leased st h).leased none

-- the caches are drained
drained_are : (st : SpaceState) (kind : Kind) (r₀ r₁ : FreeFrames) (cs₀ cs₁ : List (List ℕ)) → AreOfSpace st r₀ cs₀ → cs₁ ≡ map (filter (λ f. not (fits r₀.sizes r₀.online kind f))) cs₀ → r₁ ≡ with_frames (λ f. list_any (is_in f) cs₀ && fits r₀.sizes r₀.online kind f) r₀ → AreOfSpace (drained r₀.sizes r₀.online kind st) (with_frames (λ f. list_any (is_in f) cs₀ && fits r₀.sizes r₀.online kind f) r₀) cs₁
drained_are st kind r₀ r₁ cs₀ cs₁ h emptied given =
    let s : Sizes = r₀.sizes in
    let online : Kind = r₀.online in
    record {
      space = drained_space s online kind st h.space;
      free = ap (λ (cs : List (List ℕ)). with_frames (λ f. list_any (is_in f) cs && fits s online kind f) r₀) h.cached
          ∙ (ap (with_frames (λ f. list_any (is_in f) st.caches && fits s online kind f)) h.free ∙ drained_runs s online kind st h.space);
      cached = emptied ∙ ap (map (filter (λ f. not (fits s online kind f)))) h.cached;
    }

-- a lease of the drained space is one of the space, if no frame was drained where there is none
drained_lease : (s : Sizes) (online kind : Kind) (st : SpaceState) (lease : Option Leased) (result : Option FrameNo) (r : FreeFrames) (cs : List (List ℕ)) → IsBehindLease s online (drained s online kind st) kind lease result r cs → (result ≡ None → drained s online kind st ≡ st) → IsBehindLease s online st kind lease result r cs
drained_lease s online kind st None result r cs h same =
    let e : drained s online kind st ≡ st = same h.leased in
    record { leased = h.leased; free = h.free ∙ ap (runs_of s online) e; cached = h.cached ∙ ap (λ (x : SpaceState). x.caches) e }
drained_lease s online kind st (Some l) result r cs h same = record { leased = h.leased; free = h.free; cached = h.cached }

pub drained_tried : (leases : Sizes → Kind → SpaceState → Option Leased) (kind : Kind) (r₀ r₁ r₂ r : FreeFrames) (cs₀ cs₁ cs₂ cs : List (List ℕ)) (result : Option FrameNo) → r₁ ≡ r₀ → cs₁ ≡ cs₀ → cs₂ ≡ map (filter (λ f. not (fits r₁.sizes r₁.online kind f))) cs₁ → r₂ ≡ with_frames (λ f. list_any (is_in f) cs₁ && fits r₁.sizes r₁.online kind f) r₁ → ((st : SpaceState) → AreOfSpace st r₂ cs₂ → IsBehindLease r₂.sizes r₂.online st kind (leases r₂.sizes r₂.online st) result r cs) → (result ≡ None → (first : ℕ) → fits r₂.sizes r₂.online kind first ≡ true → is_all_free r₂.sizes r₂.free 0 first ≡ false) → (st : SpaceState) → AreOfSpace st r₀ cs₀ → IsBehindLease r₀.sizes r₀.online st kind (leases r₀.sizes r₀.online (drained r₀.sizes r₀.online kind st)) result r cs
drained_tried leases kind r₀ r₁ r₂ r cs₀ cs₁ cs₂ cs result same_runs same_caches emptied given leased nothing st h =
    subst (λ (x : FreeFrames). IsBehindLease x.sizes x.online st kind (leases x.sizes x.online (drained x.sizes x.online kind st)) result r cs) same_runs
    (step (same_space st r₀ r₁ cs₀ cs₁ same_runs same_caches h))
  where
    step : AreOfSpace st r₁ cs₁ → IsBehindLease r₁.sizes r₁.online st kind (leases r₁.sizes r₁.online (drained r₁.sizes r₁.online kind st)) result r cs
    step at =
        let s : Sizes = r₁.sizes in
        let online : Kind = r₁.online in
        let w : FreeFrames = with_frames (λ f. list_any (is_in f) cs₁ && fits s online kind f) r₁ in
        let there : AreOfSpace (drained s online kind st) w cs₂ = drained_are st kind r₁ r₂ cs₁ cs₂ at emptied given in
        let leased_w : (x : SpaceState) → AreOfSpace x w cs₂ → IsBehindLease s online x kind (leases s online x) result r cs =
        subst (λ (y : FreeFrames). (x : SpaceState) → AreOfSpace x y cs₂ → IsBehindLease y.sizes y.online x kind (leases y.sizes y.online x) result r cs) given leased in
        let nothing_w : result ≡ None → (first : ℕ) → fits s online kind first ≡ true → is_all_free s w.free 0 first ≡ false =
        subst (λ (y : FreeFrames). result ≡ None → (first : ℕ) → fits y.sizes y.online kind first ≡ true → is_all_free y.sizes y.free 0 first ≡ false) given nothing in
        let free : w.free ≡ free_frames s (drained s online kind st) = ap (λ (y : FreeFrames). y.free) there.free in
        drained_lease s online kind st _ result r cs (leased_w (drained s online kind st) there) (λ none.
        drained_same s online kind st at.space (λ first fit.
        subst (λ (xs : List ℕ). is_all_free s xs 0 first ≡ false) free (nothing_w none first fit)))

-- a run of one frame was taken for an unmovable page, or none
kernel_step : (r₀ r₁ : FreeFrames) (cs₀ cs₁ : List (List ℕ)) (st : SpaceState) (o : Option ℕ) (result : Option FrameNo) → IsWithinLimits r₀.sizes → AreOfSpace st r₀ cs₀ → chosen_run r₀.sizes r₀.online r₀.free 0 Unmovable ≡ o → result ≡ option_map (λ f. record { 0 = f }) o → r₁ ≡ after_take 0 o r₀ → cs₁ ≡ cs₀ → IsBehindLease r₀.sizes r₀.online st Unmovable (one_frame st.caches o) result r₁ cs₁
kernel_step r₀ r₁ cs₀ cs₁ st None result w h e found taken same =
    none_leased r₀ r₁ cs₀ cs₁ st Unmovable None result h refl found taken same
kernel_step r₀ r₁ cs₀ cs₁ st (Some first) result w h e found taken same =
    let free : r₀.free ≡ free_frames r₀.sizes st = ap (λ (r : FreeFrames). r.free) h.free in
    let run : IsChosenRun r₀.sizes r₀.online Unmovable r₀.free 0 first = chosen r₀.sizes r₀.online Unmovable r₀.free 0 first w e in
    let first_free : IsFreeFrame r₀.sizes st first = free_frame r₀.sizes st first (sym (ap (is_in first) free) ∙ run.all_free first (omega arith) (omega arith)) in
    record {
      leased = found;
      free = taken ∙ (ap (after_take 0 (Some first)) h.free ∙ sym (frame_taken r₀.sizes r₀.online st first 0 Unmovable h.space first_free));
      cached = same ∙ h.cached;
    }

pub kernel_leased : (r₀ r₁ : FreeFrames) (cs₀ cs₁ : List (List ℕ)) (st : SpaceState) (result : Option FrameNo) → IsWithinLimits r₀.sizes → AreOfSpace st r₀ cs₀ → result ≡ option_map (λ f. record { 0 = f }) (chosen_run r₀.sizes r₀.online r₀.free 0 Unmovable) → r₁ ≡ after_take 0 (chosen_run r₀.sizes r₀.online r₀.free 0 Unmovable) r₀ → cs₁ ≡ cs₀ → IsBehindLease r₀.sizes r₀.online st Unmovable (kernel_run r₀.sizes r₀.online st) result r₁ cs₁
kernel_leased r₀ r₁ cs₀ cs₁ st result w h found taken same =
    subst (λ (xs : List ℕ). IsBehindLease r₀.sizes r₀.online st Unmovable (one_frame st.caches (chosen_run r₀.sizes r₀.online xs 0 Unmovable)) result r₁ cs₁) (ap (λ (r : FreeFrames). r.free) h.free)
    (kernel_step r₀ r₁ cs₀ cs₁ st (chosen_run r₀.sizes r₀.online r₀.free 0 Unmovable) result w h refl found taken same)

-- a frame was taken from the caller's cache, or none
cache_step : (r : FreeFrames) (cs : List (List ℕ)) (st : SpaceState) (who : ℕ) (held : List ℕ) (result : Option FrameNo) (frame : FrameNo) → IsSpace r.sizes r.online st → r ≡ runs_of r.sizes r.online st → get_or st.caches who [] ≡ held → result ≡ option_map (λ l. record { 0 = l.frame }) (from_cache st.caches who held) → MatchOption (from_cache st.caches who held) (cs ≡ st.caches) (λ l. cs ≡ l.caches) → result ≡ Some frame → IsBehindLease r.sizes r.online st Movable (from_cache st.caches who held) result r cs
cache_step r cs st who [] result frame space free e found left some = cc
cache_step r cs st who (first ∷ rest) result frame space free e found left some =
    record { leased = found; free = free ∙ sym (cached_taken r.sizes r.online st who first 0 rest Movable space e); cached = left }

pub cache_leased : (r : FreeFrames) (cs₀ cs₁ : List (List ℕ)) (st : SpaceState) (who : ℕ) (result : Option FrameNo) (frame : FrameNo) → AreOfSpace st r cs₀ → result ≡ option_map (λ l. record { 0 = l.frame }) (from_cache cs₀ who (get_or cs₀ who [])) → MatchOption (from_cache cs₀ who (get_or cs₀ who [])) (cs₁ ≡ cs₀) (λ l. cs₁ ≡ l.caches) → result ≡ Some frame → IsBehindLease r.sizes r.online st Movable (from_cache st.caches who (get_or st.caches who [])) result r cs₁
cache_leased r cs₀ cs₁ st who result frame h found left some =
    cache_step r cs₁ st who (get_or st.caches who []) result frame h.space h.free refl
    (subst (λ (cs : List (List ℕ)). result ≡ option_map (λ l. record { 0 = l.frame }) (from_cache cs who (get_or cs who []))) h.cached found)
    (subst (λ (cs : List (List ℕ)). MatchOption (from_cache cs who (get_or cs who [])) (cs₁ ≡ cs) (λ l. cs₁ ≡ l.caches)) h.cached left) some

pub cache_empty : (cs₀ cs₁ : List (List ℕ)) (who : ℕ) → get_or cs₀ who [] ≡ [] → MatchOption (from_cache cs₀ who (get_or cs₀ who [])) (cs₁ ≡ cs₀) (λ l. cs₁ ≡ l.caches) → cs₁ ≡ cs₀
cache_empty cs₀ cs₁ who empty left =
    subst (λ (xs : List ℕ). MatchOption (from_cache cs₀ who xs) (cs₁ ≡ cs₀) (λ l. cs₁ ≡ l.caches)) empty left

pub none_cached : (r : FreeFrames) (cs : List (List ℕ)) (st : SpaceState) (who : ℕ) → AreOfSpace st r cs → get_or cs who [] ≡ [] → from_cache st.caches who (get_or st.caches who []) ≡ None
none_cached r cs st who h empty =
    ap (from_cache st.caches who) (sym (ap (λ (x : List (List ℕ)). get_or x who []) h.cached) ∙ empty)

pub missed : (r₀ r₁ : FreeFrames) (order : ℕ) (o : Option ℕ) → r₁ ≡ after_take order o r₀ → o ≡ None → r₁ ≡ r₀
missed r₀ r₁ order o taken none = taken ∙ ap (λ (x : Option ℕ). after_take order x r₀) none

-- a drain keeps the machine's sizes
pub limits_kept : (r₀ r₁ r₂ : FreeFrames) (given : ℕ → Bool) → IsWithinLimits r₀.sizes → r₁ ≡ r₀ → r₂ ≡ with_frames given r₁ → IsWithinLimits r₂.sizes
limits_kept r₀ r₁ r₂ given w same after =
    subst (λ (r : FreeFrames). IsWithinLimits r.sizes) (sym after) (subst (λ (r : FreeFrames). IsWithinLimits r.sizes) (sym same) w)

-- what a whole choice leaves, for a kind that a match has found
pub of_kind : (s : Sizes) (online : Kind) (st : SpaceState) (who : ℕ) (kind found : Kind) (result : Option FrameNo) (r : FreeFrames) (cs : List (List ℕ)) → kind ≡ found → IsBehindLease s online st found (lease_of s online st who found) result r cs → IsBehindLease s online st kind (lease_of s online st who kind) result r cs
of_kind s online st who kind found result r cs is h =
    subst (λ (k : Kind). IsBehindLease s online st k (lease_of s online st who k) result r cs) (sym is) h

pub behind_some : (s : Sizes) (online : Kind) (st : SpaceState) (kind : Kind) (lease : Option Leased) (l : Leased) (result : Option FrameNo) (r : FreeFrames) (cs : List (List ℕ)) → IsBehindLease s online st kind lease result r cs → lease ≡ Some l → (r ≡ runs_of s online (after_lease st (Some l) 0 kind)) × (cs ≡ l.caches)
behind_some s online st kind lease l result r cs h e =
    (h.free ∙ ap (λ (o : Option Leased). runs_of s online (after_lease st o 0 kind)) e, h.cached ∙ ap (λ (o : Option Leased). (after_lease st o 0 kind).caches) e)

pub behind_none : (st : SpaceState) (kind : Kind) (lease : Option Leased) (result : Option FrameNo) (r₀ r : FreeFrames) (cs₀ cs : List (List ℕ)) → AreOfSpace st r₀ cs₀ → IsBehindLease r₀.sizes r₀.online st kind lease result r cs → lease ≡ None → (r ≡ r₀) × (cs ≡ cs₀)
behind_none st kind lease result r₀ r cs₀ cs at h e =
    (h.free ∙ (ap (λ (o : Option Leased). runs_of r₀.sizes r₀.online (after_lease st o 0 kind)) e ∙ sym at.free), h.cached ∙ (ap (λ (o : Option Leased). (after_lease st o 0 kind).caches) e ∙ sym at.cached))
