-- Spaces behind each action other than a lease: they stay spaces, and what the runs have of them.
use Rattle.std.proofs.Common.{◌≡◌, ◌≢◌, ℕ, ◌<◌, ◌≤◌, Bool, true, false, ◌||◌, ◌&&◌, not, List, [], map, length, get_or, refl, sym, ap, ◌∙◌, subst, arith, inl, inr, Option, Some, None}
use Rattle.std.specs.List.{list_any, filter}
use Rattle.std.specs.Option.{is_some}
use Rattle.std.proofs.Math.Dec.{eqb}
use Rattle.std.proofs.Math.ListN.{set}
use Rattle.std.proofs.lemmas.Bool.{cases_Bool, cases_eq, cases_lt, both_ways, false≢true, eqb-true, eq-eqb, ne_eqb, and_parts, and_left, or_cases, or_left, or_from, not-true}
use Rattle.std.proofs.lemmas.List.{length-set, get_or-set_same, get_or-set_other, get_or_past}
use Rattle.evac_model.specs.declared.names.Kind.{Kind}
use Rattle.evac_model.specs.declared.names.Kind.TheVariants.{Movable, Unmovable}
use Rattle.evac_model.specs.Geometry.{Sizes, frame_count}
use Rattle.evac_model.specs.Numbers.{is_in}
use Rattle.evac_model.specs.SpaceJournal.{SpaceState, Out, out_for, is_frame_of, is_frame_in, with_block, without_block, put_back, IsEmptied, HasMovableAlone}
use Rattle.buddy.specs.FreeFrames.{with_frames, with_withdrawn, with_restored}
use Rattle.space.specs.SpaceInside.{IsSpace, runs_of}
use Rattle.space.proofs.Members.{any-filter, distinct-filter_each}
use Rattle.space.proofs.BlockFrames.{frame_in-with_block, frame_in-without_block, frame_in_from, is_in-with_block, is_in-without_block, is_in_bound, rising-with_block, rising-without_block}
use Rattle.space.proofs.CachesBehind.{caches_filtered, caches_put_back, distinct_put_back, put_back_frame, put_back_other, put_back_kept, pushed_in, put_back_gone, put_back_from}
use Rattle.space.proofs.RunsOfSpaces.{is_out, is_isolated, is_cached, is_free, is_aside, runs_are, runs_given, runs_withdrawn, runs_restored}
use Rattle.space.proofs.Spaces.{free_drained, aside_drained}

-- the states behind the actions
abbrev pub isolated_state : Sizes → (block : ℕ) → SpaceState → SpaceState
isolated_state s b st = record st {
  isolated = with_block s b st.isolated;
  caches = map (filter (λ frame. not (is_frame_of s b frame))) st.caches;
}

abbrev pub drained_state : Sizes → (block : ℕ) → SpaceState → SpaceState
drained_state s b st = record st { caches = map (filter (λ frame. not (is_frame_of s b frame))) st.caches }

abbrev pub undone_state : (block : ℕ) → SpaceState → SpaceState
undone_state b st = record st { isolated = without_block b st.isolated }

abbrev pub offline_state : Sizes → (block : ℕ) → SpaceState → SpaceState
offline_state s b st = record st { offline = with_block s b st.offline }

abbrev pub online_state : (block : ℕ) → SpaceState → SpaceState
online_state b st = record st { isolated = without_block b st.isolated; offline = without_block b st.offline }

abbrev pub cleared_state : (frame : ℕ) → SpaceState → SpaceState
cleared_state frame st = record st { out = set st.out frame None }

abbrev pub returned_state : (who frame : ℕ) → SpaceState → SpaceState
returned_state who frame st = record st { out = set st.out frame None; caches = put_back st.caches who frame }

-- isolation

cached_drained : (s : Sizes) (b f : ℕ) (caches : List (List ℕ)) → list_any (is_in f) (map (filter (λ x. not (is_frame_of s b x))) caches) ≡ true → (list_any (is_in f) caches ≡ true) × (is_frame_of s b f ≡ false)
cached_drained s b f caches h =
    let parts : (list_any (is_in f) caches ≡ true) × (not (is_frame_of s b f) ≡ true) = and_parts _ _ (sym (any-filter (λ x. not (is_frame_of s b x)) f caches) ∙ h) in
    (parts.0, not-true (is_frame_of s b f) parts.1)

movable_else : (k : Kind) → (k ≡ Unmovable → ⊥) → k ≡ Movable
movable_else Movable ne = refl
movable_else Unmovable ne = absurd (ne refl)

movable_out : (s : Sizes) (st : SpaceState) (b f : ℕ) (x : Out) → HasMovableAlone s st b → is_frame_of s b f ≡ true → out_for st f ≡ Some x → x.kind ≡ Movable
movable_out s st b f x alone there out =
    movable_else x.kind (λ e. alone f x.page there (out ∙ ap (λ (k : Kind). Some (let y : Out = record { page = x.page; kind = k } in y)) e))

pub space_isolated : (s : Sizes) (online : Kind) (st : SpaceState) (b : ℕ) → IsSpace s online st → b < s.managed → HasMovableAlone s st b → IsSpace s online (isolated_state s b st)
space_isolated s online st b h l alone = record {
  out = h.out;
  isolated = rising-with_block s b st.isolated;
  offline = h.offline;
  offline_isolated = λ k there. is_in-with_block s b st.isolated k h.isolated l ∙ or_left _ _ (h.offline_isolated k there);
  emptied = h.emptied;
  fitting = h.fitting;
  isolated_movable = λ f x there out. elim (or_cases (is_frame_in s st.isolated f) (is_frame_of s b f) (sym (frame_in-with_block s b st.isolated f h.isolated l) ∙ there)) [
    | inl old ↦ h.isolated_movable f x old out
    | inr new ↦ movable_out s st b f x alone new out
  ];
  caches = caches_filtered (λ x. not (is_frame_of s b x)) st.caches h.caches;
  distinct = distinct-filter_each (λ x. not (is_frame_of s b x)) st.caches h.distinct;
  cached_there = λ f c. h.cached_there f (cached_drained s b f st.caches c).0;
  cached_not_out = λ f c. h.cached_not_out f (cached_drained s b f st.caches c).0;
  cached_not_isolated = λ f c.
      let d : (list_any (is_in f) st.caches ≡ true) × (is_frame_of s b f ≡ false) = cached_drained s b f st.caches c in
      frame_in-with_block s b st.isolated f h.isolated l ∙ or_from _ _ (h.cached_not_isolated f d.0) d.1;
}

none_out : (o : Option Out) → o ≡ None → is_some o ≡ false
none_out o e = ap is_some e

pub runs_drained : (s : Sizes) (online : Kind) (st : SpaceState) (b : ℕ) → IsSpace s online st → with_frames (λ frame. list_any (is_in frame) st.caches && is_frame_of s b frame) (runs_of s online st) ≡ runs_of s online (drained_state s b st)
runs_drained s online st b h =
    runs_given s online st (drained_state s b st) (λ f. is_cached st f && is_frame_of s b f) refl
    (λ f l.
    ap (λ (t : Bool). not (is_out st f) && not (is_isolated s st f) && not t) (any-filter (λ x. not (is_frame_of s b x)) f st.caches)
    ∙ sym (free_drained (is_out st f) (is_isolated s st f) (is_cached st f) (is_frame_of s b f) (λ c. none_out _ (h.cached_not_out f c)) (h.cached_not_isolated f)))
    (λ f l. sym (aside_drained (is_out st f) (is_isolated s st f) (is_cached st f) (is_frame_of s b f) (h.cached_not_isolated f)))

free_withdrawn : (o i c m : Bool) → (not o && not (i || m) && not (c && not m)) ≡ ((not o && not i && not (c && not m)) && not m)
free_withdrawn true i c m = refl
free_withdrawn false true c m = refl
free_withdrawn false false true true = refl
free_withdrawn false false true false = refl
free_withdrawn false false false true = refl
free_withdrawn false false false false = refl

aside_withdrawn : (o i c m : Bool) → (not o && (i || m)) ≡ ((not o && i) || ((not o && not i && not (c && not m)) && m))
aside_withdrawn true i c m = refl
aside_withdrawn false true c m = refl
aside_withdrawn false false true true = refl
aside_withdrawn false false true false = refl
aside_withdrawn false false false true = refl
aside_withdrawn false false false false = refl

pub runs_isolated : (s : Sizes) (online : Kind) (st : SpaceState) (b : ℕ) → IsSpace s online st → b < s.managed → with_withdrawn b (runs_of s online (drained_state s b st)) ≡ runs_of s online (isolated_state s b st)
runs_isolated s online st b h l =
    let cached : ℕ → Bool = λ f. list_any (is_in f) (map (filter (λ x. not (is_frame_of s b x))) st.caches) in
    runs_withdrawn s online (drained_state s b st) (isolated_state s b st) b refl
    (λ f lf.
    ap (λ (t : Bool). not (is_out st f) && not t && not (cached f)) (frame_in-with_block s b st.isolated f h.isolated l)
    ∙ ap (λ (t : Bool). not (is_out st f) && not (is_isolated s st f || is_frame_of s b f) && not t) (any-filter (λ x. not (is_frame_of s b x)) f st.caches)
    ∙ free_withdrawn (is_out st f) (is_isolated s st f) (is_cached st f) (is_frame_of s b f)
    ∙ ap (λ (t : Bool). (not (is_out st f) && not (is_isolated s st f) && not t) && not (is_frame_of s b f)) (sym (any-filter (λ x. not (is_frame_of s b x)) f st.caches)))
    (λ f lf.
    ap (λ (t : Bool). not (is_out st f) && t) (frame_in-with_block s b st.isolated f h.isolated l)
    ∙ aside_withdrawn (is_out st f) (is_isolated s st f) (is_cached st f) (is_frame_of s b f)
    ∙ ap (λ (t : Bool). (not (is_out st f) && is_isolated s st f) || ((not (is_out st f) && not (is_isolated s st f) && not t) && is_frame_of s b f)) (sym (any-filter (λ x. not (is_frame_of s b x)) f st.caches)))

-- undo
pub space_undone : (s : Sizes) (online : Kind) (st : SpaceState) (b : ℕ) → IsSpace s online st → is_in b st.offline ≡ false → IsSpace s online (undone_state b st)
space_undone s online st b h off = record {
  out = h.out;
  isolated = rising-without_block s.managed b st.isolated h.isolated;
  offline = h.offline;
  offline_isolated = λ k there.
      let other : eqb k b ≡ false = ne_eqb k b (λ e. both_ways (is_in b st.offline) off (ap (λ (z : ℕ). is_in z st.offline) (sym e) ∙ there)) in
      is_in-without_block s.managed b st.isolated k h.isolated ∙ ap (λ (t : Bool). t && not (eqb k b)) (h.offline_isolated k there) ∙ ap not other;
  emptied = h.emptied;
  fitting = h.fitting;
  isolated_movable = λ f x there. h.isolated_movable f x (and_parts _ _ (sym (frame_in-without_block s s.managed b st.isolated f h.isolated) ∙ there)).0;
  caches = h.caches;
  distinct = h.distinct;
  cached_there = h.cached_there;
  cached_not_out = h.cached_not_out;
  cached_not_isolated = λ f c. frame_in-without_block s s.managed b st.isolated f h.isolated ∙ and_left _ _ (h.cached_not_isolated f c);
}

free_restored : (o i c m : Bool) → (c ≡ true → i ≡ false) → (m ≡ true → i ≡ true) → (not o && not (i && not m) && not c) ≡ ((not o && not i && not c) || ((not o && i) && m))
free_restored true i c m hc hm = refl
free_restored false true true m hc hm = absurd (false≢true (sym (hc refl)))
free_restored false true false true hc hm = refl
free_restored false true false false hc hm = refl
free_restored false false c true hc hm = absurd (false≢true (hm refl))
free_restored false false true false hc hm = refl
free_restored false false false false hc hm = refl

and_assoc : (x y z : Bool) → (x && (y && z)) ≡ ((x && y) && z)
and_assoc true y z = refl
and_assoc false y z = refl

pub runs_undone : (s : Sizes) (online : Kind) (st : SpaceState) (b : ℕ) → IsSpace s online st → is_in b st.isolated ≡ true → with_restored b (runs_of s online st) ≡ runs_of s online (undone_state b st)
runs_undone s online st b h there =
    runs_restored s online st (undone_state b st) b refl
    (λ f l.
    ap (λ (t : Bool). not (is_out st f) && not t && not (is_cached st f)) (frame_in-without_block s s.managed b st.isolated f h.isolated)
    ∙ free_restored (is_out st f) (is_isolated s st f) (is_cached st f) (is_frame_of s b f) (h.cached_not_isolated f) (λ m. frame_in_from s st.isolated b f there m))
    (λ f l.
    ap (λ (t : Bool). not (is_out st f) && t) (frame_in-without_block s s.managed b st.isolated f h.isolated)
    ∙ and_assoc (not (is_out st f)) (is_isolated s st f) (not (is_frame_of s b f)))

-- offline and online
pub space_offline : (s : Sizes) (online : Kind) (st : SpaceState) (b : ℕ) → IsSpace s online st → is_in b st.isolated ≡ true → IsEmptied s st b → IsSpace s online (offline_state s b st)
space_offline s online st b h there empty =
    let l : b < s.managed = is_in_bound s.managed st.isolated b h.isolated there in
    record {
      out = h.out;
      isolated = h.isolated;
      offline = rising-with_block s b st.offline;
      offline_isolated = λ k k_there. elim (or_cases (is_in k st.offline) (eqb k b) (sym (is_in-with_block s b st.offline k h.offline l) ∙ k_there)) [
        | inl old ↦ h.offline_isolated k old
        | inr new ↦ ap (λ (z : ℕ). is_in z st.isolated) (eqb-true k b new) ∙ there
      ];
      emptied = λ f f_there. elim (or_cases (is_frame_in s st.offline f) (is_frame_of s b f) (sym (frame_in-with_block s b st.offline f h.offline l) ∙ f_there)) [
        | inl old ↦ h.emptied f old
        | inr new ↦ empty f new
      ];
      fitting = h.fitting;
      isolated_movable = h.isolated_movable;
      caches = h.caches;
      distinct = h.distinct;
      cached_there = h.cached_there;
      cached_not_out = h.cached_not_out;
      cached_not_isolated = h.cached_not_isolated;
    }

pub space_online : (s : Sizes) (online : Kind) (st : SpaceState) (b : ℕ) → IsSpace s online st → IsSpace s online (online_state b st)
space_online s online st b h = record {
  out = h.out;
  isolated = rising-without_block s.managed b st.isolated h.isolated;
  offline = rising-without_block s.managed b st.offline h.offline;
  offline_isolated = λ k there.
      let parts : (is_in k st.offline ≡ true) × (not (eqb k b) ≡ true) = and_parts _ _ (sym (is_in-without_block s.managed b st.offline k h.offline) ∙ there) in
      is_in-without_block s.managed b st.isolated k h.isolated ∙ ap (λ (t : Bool). t && not (eqb k b)) (h.offline_isolated k parts.0) ∙ parts.1;
  emptied = λ f there. h.emptied f (and_parts _ _ (sym (frame_in-without_block s s.managed b st.offline f h.offline) ∙ there)).0;
  fitting = h.fitting;
  isolated_movable = λ f x there. h.isolated_movable f x (and_parts _ _ (sym (frame_in-without_block s s.managed b st.isolated f h.isolated) ∙ there)).0;
  caches = h.caches;
  distinct = h.distinct;
  cached_there = h.cached_there;
  cached_not_out = h.cached_not_out;
  cached_not_isolated = λ f c. frame_in-without_block s s.managed b st.isolated f h.isolated ∙ and_left _ _ (h.cached_not_isolated f c);
}

pub runs_online : (s : Sizes) (online : Kind) (st : SpaceState) (b : ℕ) → IsSpace s online st → is_in b st.offline ≡ true → with_restored b (runs_of s online st) ≡ runs_of s online (online_state b st)
runs_online s online st b h there =
    runs_restored s online st (online_state b st) b refl
    (λ f l.
    ap (λ (t : Bool). not (is_out st f) && not t && not (is_cached st f)) (frame_in-without_block s s.managed b st.isolated f h.isolated)
    ∙ free_restored (is_out st f) (is_isolated s st f) (is_cached st f) (is_frame_of s b f) (h.cached_not_isolated f) (λ m. frame_in_from s st.isolated b f (h.offline_isolated b there) m))
    (λ f l.
    ap (λ (t : Bool). not (is_out st f) && t) (frame_in-without_block s s.managed b st.isolated f h.isolated)
    ∙ and_assoc (not (is_out st f)) (is_isolated s st f) (not (is_frame_of s b f)))

-- a frame given back
pub is_out-from : (st : SpaceState) (f : ℕ) → out_for st f ≢ None → is_out st f ≡ true
is_out-from st f h = go (out_for st f) h
  where
    go : (o : Option Out) → o ≢ None → is_some o ≡ true
    go None ne = absurd (ne refl)
    go (Some o) ne = refl

-- a frame that is out is one of the machine's, and in no cache
pub out_in_count : (s : Sizes) (online : Kind) (st : SpaceState) (f : ℕ) → IsSpace s online st → out_for st f ≢ None → f < frame_count s
out_in_count s online st f h ne = elim (cases_lt f (frame_count s)) [
  | inl l ↦ l
  | inr g ↦ absurd (ne (get_or_past st.out f None (omega (arith, h.out))))
]

pub out_not_cached : (s : Sizes) (online : Kind) (st : SpaceState) (f : ℕ) → IsSpace s online st → out_for st f ≢ None → is_cached st f ≡ false
out_not_cached s online st f h ne = elim (cases_Bool (is_cached st f)) [
  | inl c ↦ absurd (ne (h.cached_not_out f c))
  | inr isnt ↦ isnt
]

cleared_other : (out : List (Option Out)) (frame f : ℕ) → (f ≡ frame → ⊥) → get_or (set out frame None) f None ≡ get_or out f None
cleared_other out frame f ne = get_or-set_other out frame f None None ne

cleared_here : (out : List (Option Out)) (frame : ℕ) → get_or (set out frame None) frame None ≡ None
cleared_here out frame = elim (cases_lt frame (length out)) [
  | inl l ↦ get_or-set_same out frame None None l
  | inr g ↦ get_or_past (set out frame None) frame None (omega (arith, length-set out frame None))
]

-- a frame that wasn't out still isn't
still_not_out : (out : List (Option Out)) (frame f : ℕ) → get_or out f None ≡ None → get_or (set out frame None) f None ≡ None
still_not_out out frame f h = elim (cases_eq f frame) [
  | inl e ↦ ap (λ (i : ℕ). get_or (set out frame None) i None) e ∙ cleared_here out frame
  | inr ne ↦ cleared_other out frame f ne ∙ h
]

-- a frame that still is out was out for the same
pub still_out : (out : List (Option Out)) (frame f : ℕ) (x : Out) → get_or (set out frame None) f None ≡ Some x → get_or out f None ≡ Some x
still_out out frame f x e = elim (cases_eq f frame) [
  | inl same ↦
      let none : None ≡ Some x = sym (ap (λ (i : ℕ). get_or (set out frame None) i None) same ∙ cleared_here out frame) ∙ e in
      absurd (cc none)
  | inr ne ↦ sym (cleared_other out frame f ne) ∙ e
]

pub space_cleared : (s : Sizes) (online : Kind) (st : SpaceState) (frame : ℕ) → IsSpace s online st → IsSpace s online (cleared_state frame st)
space_cleared s online st frame h = record {
  out = length-set st.out frame None ∙ h.out;
  isolated = h.isolated;
  offline = h.offline;
  offline_isolated = h.offline_isolated;
  emptied = λ f there. still_not_out st.out frame f (h.emptied f there);
  fitting = λ f x e. h.fitting f x (still_out st.out frame f x e);
  isolated_movable = λ f x there e. h.isolated_movable f x there (still_out st.out frame f x e);
  caches = h.caches;
  distinct = h.distinct;
  cached_there = h.cached_there;
  cached_not_out = λ f c. still_not_out st.out frame f (h.cached_not_out f c);
  cached_not_isolated = h.cached_not_isolated;
}

-- one given back in an isolated block is kept aside
free_here : (i c : Bool) → i ≡ true → (true && not i && not c) ≡ ((false && not i && not c) || (true && not i))
free_here true c h = refl
free_here false c h = absurd (false≢true h)

aside_here : (i : Bool) → i ≡ true → (true && i) ≡ ((false && i) || (true && i))
aside_here true h = refl
aside_here false h = absurd (false≢true h)

or_none : (x v : Bool) → x ≡ (x || (false && v))
or_none true v = refl
or_none false v = refl

pub runs_cleared : (s : Sizes) (online : Kind) (st : SpaceState) (frame : ℕ) → IsSpace s online st → out_for st frame ≢ None → is_frame_in s st.isolated frame ≡ true → with_frames (λ f. eqb f frame) (runs_of s online st) ≡ runs_of s online (cleared_state frame st)
runs_cleared s online st frame h ne iso =
    let next : SpaceState = cleared_state frame st in
    let o_here : is_out st frame ≡ true = is_out-from st frame ne in
    let n_here : is_out next frame ≡ false = ap is_some (cleared_here st.out frame) in
    let g_here : eqb frame frame ≡ true = eq-eqb frame frame refl in
    runs_given s online st next (λ f. eqb f frame) refl
    (λ f l. elim (cases_eq f frame) [
      | inl e ↦
          let P : ℕ → Type 0 = λ k. is_free s next k ≡ (is_free s st k || (eqb k frame && not (is_isolated s st k))) in
          subst P (sym e) (rw (n_here, o_here, g_here) (free_here (is_isolated s st frame) (is_cached st frame) iso))
      | inr other ↦
          rw (cleared_other st.out frame f other, ne_eqb f frame other) (or_none (is_free s st f) (not (is_isolated s st f)))
    ])
    (λ f l. elim (cases_eq f frame) [
      | inl e ↦
          let P : ℕ → Type 0 = λ k. is_aside s next k ≡ (is_aside s st k || (eqb k frame && is_isolated s st k)) in
          subst P (sym e) (rw (n_here, o_here, g_here) (aside_here (is_isolated s st frame) iso))
      | inr other ↦
          rw (cleared_other st.out frame f other, ne_eqb f frame other) (or_none (is_aside s st f) (is_isolated s st f))
    ])

-- one given back elsewhere goes into a cache
returned_cached : (s : Sizes) (st : SpaceState) (who frame : ℕ) (P : ℕ → Type 0) → P frame → ((f : ℕ) → is_cached st f ≡ true → P f) → (f : ℕ) → is_cached (returned_state who frame st) f ≡ true → P f
returned_cached s st who frame P here before f c = elim (cases_eq f frame) [
  | inl e ↦ subst P (sym e) here
  | inr ne ↦ before f (put_back_from st.caches who frame f c ne)
]

pub space_returned : (s : Sizes) (online : Kind) (st : SpaceState) (who frame : ℕ) → IsSpace s online st → who ≤ 16 → out_for st frame ≢ None → is_frame_in s st.isolated frame ≡ false → IsSpace s online (returned_state who frame st)
space_returned s online st who frame h w ne iso = record {
  out = length-set st.out frame None ∙ h.out;
  isolated = h.isolated;
  offline = h.offline;
  offline_isolated = h.offline_isolated;
  emptied = λ f there. still_not_out st.out frame f (h.emptied f there);
  fitting = λ f x e. h.fitting f x (still_out st.out frame f x e);
  isolated_movable = λ f x there e. h.isolated_movable f x there (still_out st.out frame f x e);
  caches = caches_put_back st.caches who frame h.caches;
  distinct = distinct_put_back st.caches who frame h.distinct (out_not_cached s online st frame h ne);
  cached_there = returned_cached s st who frame (λ f. f < frame_count s) (out_in_count s online st frame h ne) h.cached_there;
  cached_not_out = returned_cached s st who frame (λ f. get_or (set st.out frame None) f None ≡ None) (cleared_here st.out frame) (λ f c. still_not_out st.out frame f (h.cached_not_out f c));
  cached_not_isolated = returned_cached s st who frame (λ f. is_frame_in s st.isolated f ≡ false) iso h.cached_not_isolated;
}

-- where no frame is pushed out, the runs have what they had
pub runs_put : (s : Sizes) (online : Kind) (st : SpaceState) (who frame : ℕ) → IsSpace s online st → who ≤ 16 → out_for st frame ≢ None → is_frame_in s st.isolated frame ≡ false → length (get_or st.caches who []) ≤ 7 → runs_of s online st ≡ runs_of s online (returned_state who frame st)
runs_put s online st who frame h w ne iso few =
    let next : SpaceState = returned_state who frame st in
    let o_here : is_out st frame ≡ true = is_out-from st frame ne in
    let n_here : is_out next frame ≡ false = ap is_some (cleared_here st.out frame) in
    let c_here : is_cached next frame ≡ true = put_back_frame st.caches who frame (omega (arith, h.caches.callers)) in
    runs_are s online next (is_free s st) (is_aside s st) st.isolated
    (λ f l. elim (cases_eq f frame) [
      | inl e ↦
          let P : ℕ → Type 0 = λ k. is_free s st k ≡ is_free s next k in
          subst P (sym e) (rw (n_here, o_here, c_here, iso) refl)
      | inr other ↦
          rw (cleared_other st.out frame f other, put_back_other st.caches who frame f few other) refl
    ])
    (λ f l. elim (cases_eq f frame) [
      | inl e ↦
          let P : ℕ → Type 0 = λ k. is_aside s st k ≡ is_aside s next k in
          subst P (sym e) (rw (n_here, o_here, iso) refl)
      | inr other ↦ rw (cleared_other st.out frame f other) refl
    ])
    refl

-- else they get the frame pushed out
pub runs_pushed : (s : Sizes) (online : Kind) (st : SpaceState) (who frame : ℕ) → IsSpace s online st → who ≤ 16 → out_for st frame ≢ None → is_frame_in s st.isolated frame ≡ false → length (get_or st.caches who []) ≡ 8 → with_frames (λ f. eqb f (get_or (get_or st.caches who []) 7 0)) (runs_of s online st) ≡ runs_of s online (returned_state who frame st)
runs_pushed s online st who frame h w ne iso all =
    let next : SpaceState = returned_state who frame st in
    let p : ℕ = get_or (get_or st.caches who []) 7 0 in
    let p_cached : is_cached st p ≡ true = pushed_in st.caches who all in
    let p_other : p ≡ frame → ⊥ = λ e. both_ways (is_cached st frame) (out_not_cached s online st frame h ne) (ap (λ (k : ℕ). is_cached st k) (sym e) ∙ p_cached) in
    let frame_other : eqb frame p ≡ false = ne_eqb frame p (λ e. p_other (sym e)) in
    let o_here : is_out st frame ≡ true = is_out-from st frame ne in
    let n_here : is_out next frame ≡ false = ap is_some (cleared_here st.out frame) in
    let c_here : is_cached next frame ≡ true = put_back_frame st.caches who frame (omega (arith, h.caches.callers)) in
    let o_p : is_out st p ≡ false = none_out _ (h.cached_not_out p p_cached) in
    let n_p : is_out next p ≡ false = ap is_some (cleared_other st.out frame p p_other) ∙ o_p in
    let c_p : is_cached next p ≡ false = put_back_gone st.caches who frame all h.distinct p_other in
    let i_p : is_isolated s st p ≡ false = h.cached_not_isolated p p_cached in
    let g_p : eqb p p ≡ true = eq-eqb p p refl in
    runs_given s online st next (λ f. eqb f p) refl
    (λ f l. elim (cases_eq f frame) [
      | inl e ↦
          let P : ℕ → Type 0 = λ k. is_free s next k ≡ (is_free s st k || (eqb k p && not (is_isolated s st k))) in
          subst P (sym e) (rw (n_here, o_here, c_here, frame_other, iso) refl)
      | inr other ↦ elim (cases_eq f p) [
        | inl e ↦
            let P : ℕ → Type 0 = λ k. is_free s next k ≡ (is_free s st k || (eqb k p && not (is_isolated s st k))) in
            subst P (sym e) (rw (n_p, o_p, c_p, p_cached, g_p, i_p) refl)
        | inr not_p ↦
            rw (cleared_other st.out frame f other, put_back_kept st.caches who frame f all other not_p, ne_eqb f p not_p) (or_none (is_free s st f) (not (is_isolated s st f)))
      ]
    ])
    (λ f l. elim (cases_eq f frame) [
      | inl e ↦
          let P : ℕ → Type 0 = λ k. is_aside s next k ≡ (is_aside s st k || (eqb k p && is_isolated s st k)) in
          subst P (sym e) (rw (n_here, o_here, frame_other, iso) refl)
      | inr other ↦ elim (cases_eq f p) [
        | inl e ↦
            let P : ℕ → Type 0 = λ k. is_aside s next k ≡ (is_aside s st k || (eqb k p && is_isolated s st k)) in
            subst P (sym e) (rw (n_p, o_p, g_p, i_p) refl)
        | inr not_p ↦
            rw (cleared_other st.out frame f other, ne_eqb f p not_p) (or_none (is_aside s st f) (is_isolated s st f))
      ]
    ])
