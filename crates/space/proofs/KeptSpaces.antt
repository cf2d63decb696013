-- A space that is kept, and what an action leaves of it.
use Rattle.std.proofs.Common.{◌≡◌, ◌≢◌, ℕ, ◌+◌, ◌<◌, ◌≤◌, Bool, true, false, ◌&&◌, not, List, [], ◌∷◌, map, length, get_or, refl, sym, ap, ◌∙◌, subst, arith, inl, inr, Option, Some, None}
use Rattle.std.specs.List.{list_any, filter, slice_get, Contains}
use Rattle.std.specs.Option.{option_map}
use Rattle.std.proofs.Math.Dec.{eqb}
use Rattle.std.proofs.Math.ListN.{set}
use Rattle.std.proofs.lemmas.Bool.{cases_lt}
use Rattle.std.proofs.lemmas.List.{length-set, get_or_past}
use Rattle.std.proofs.lemmas.Option.{slice_get-get_or, slice_get_past}
use Rattle.evac_model.specs.declared.names.BlockNo.{BlockNo}
use Rattle.evac_model.specs.declared.names.FrameNo.{FrameNo}
use Rattle.evac_model.specs.declared.space.SpaceAction.TheVariants.{Return, Isolate, Undo, Offline, Online}
use Rattle.evac_model.specs.Geometry.{Sizes, frame_count, first_frame}
use Rattle.evac_model.specs.Numbers.{is_in, is_between}
use Rattle.evac_model.proofs.Numbers.{is_in-numbers_where, is_in-numbers_where_past}
use Rattle.evac_model.specs.SpaceJournal.{SpaceState, Out, out_for, is_frame_of, is_frame_in, with_block, without_block, put_back, caches_after_return, IsEmptied, HasMovableAlone}
use Rattle.buddy.specs.FreeFrames.{FreeFrames, with_frames, with_withdrawn, with_restored}
use Rattle.frame_cache.specs.Drains.{IsGivable, IsDrainable}
use Rattle.page_blocks.specs.Marks.{Marks, first_page, frames_out_after, blocks_marked}
use Rattle.page_blocks.proofs.BlockMarks.{marked_with, marked_without}
use Rattle.page_blocks.proofs.Frames.{frames_out-has}
use Rattle.space.specs.SpaceInside.{runs_of}
use Rattle.space.specs.KeptSpace.{KeptSpace, space_of, behind, AreOf}
use Rattle.space.specs.Refusals.{frames_out_of}
use Rattle.space.proofs.BlockFrames.{is_in_bound, frame_from, frame_below}
use Rattle.space.proofs.CachesBehind.{pushed_in}
use Rattle.space.proofs.RunsOfSpaces.{neither_out, neither_cached, drainable}
use Rattle.space.proofs.SpacesBehind.{drained_state, returned_state, space_isolated, space_undone, space_offline, space_online, space_cleared, space_returned, runs_drained, runs_isolated, runs_undone, runs_online, runs_cleared, runs_put, runs_pushed, is_out-from, out_in_count}
use Rattle.evac_model.proofs.Ranges.{between_one}
use Rattle.frame_cache.proofs.Givings.{with_frames_same}

-- the space that they make is the one that they have
pub space_of-is : (k : KeptSpace) (r : FreeFrames) (m : Marks) (held : List (List ℕ)) (bits : List Bool) → AreOf k r m held bits → space_of r m held bits ≡ k
space_of-is k r m held bits h =
    let offline : blocks_marked bits r.sizes.managed ≡ k.state.offline = ap (λ (x : FreeFrames). blocks_marked bits x.sizes.managed) h.runs ∙ h.offline in
    λ i. record {
      sizes = (h.runs i).sizes;
      online = (h.runs i).online;
      state = record {
        out = (h.marks i).out;
        isolated = (h.marks i).isolated;
        offline = offline i;
        caches = h.caches i;
      };
    }

pub are_of_space_of : (k : KeptSpace) (r : FreeFrames) (m : Marks) (held : List (List ℕ)) (bits : List Bool) → AreOf k r m held bits → AreOf (space_of r m held bits) r m held bits
are_of_space_of k r m held bits h =
    let P : KeptSpace → Type 0 = λ x. AreOf x r m held bits in subst P (sym (space_of-is k r m held bits h)) h

pub opened : (k : KeptSpace) (r : FreeFrames) (m : Marks) (held : List (List ℕ)) (bits : List Bool) → space_of r m held bits ≡ k → AreOf (space_of r m held bits) r m held bits → AreOf k r m held bits
opened k r m held bits e h = let P : KeptSpace → Type 0 = λ x. AreOf x r m held bits in subst P e h

-- one frame given

pub given_one : (r : FreeFrames) (b : ℕ) → with_frames (is_between b (b + 1)) r ≡ with_frames (λ f. eqb f b) r
given_one r b = with_frames_same (is_between b (b + 1)) (λ f. eqb f b) r (between_one b)

-- a block that is isolated is a managed one, and there is a bit for it
pub isolated_managed : (k : KeptSpace) (r : FreeFrames) (m : Marks) (held : List (List ℕ)) (bits : List Bool) (b : ℕ) → AreOf k r m held bits → is_in b k.state.isolated ≡ true → b < m.sizes.managed
isolated_managed k r m held bits b h there =
    let P : Marks → Type 0 = λ x. b < x.sizes.managed in
    subst P (sym h.marks) (is_in_bound k.sizes.managed k.state.isolated b h.space.isolated there)

pub isolated_bit : (k : KeptSpace) (r : FreeFrames) (m : Marks) (held : List (List ℕ)) (bits : List Bool) (b : ℕ) → AreOf k r m held bits → is_in b k.state.isolated ≡ true → b < length bits
isolated_bit k r m held bits b h there =
    omega (arith, h.count, is_in_bound k.sizes.managed k.state.isolated b h.space.isolated there)

-- the cached frames can be drained
pub drainable_kept : (k : KeptSpace) (r : FreeFrames) (m : Marks) (held : List (List ℕ)) (bits : List Bool) → AreOf k r m held bits → IsDrainable held r
drainable_kept k r m held bits h =
    let P : FreeFrames → List (List ℕ) → Type 0 = λ x y. IsDrainable y x in
    subst (λ (y : List (List ℕ)). P r y) (sym h.caches) (subst (λ (x : FreeFrames). P x k.state.caches) (sym h.runs) (drainable k.sizes k.online k.state h.space))

-- isolation
pub isolate_kept : (k : KeptSpace) (r : FreeFrames) (m : Marks) (held : List (List ℕ)) (bits : List Bool) (b : BlockNo) (r2 : FreeFrames) (m2 : Marks) (held2 : List (List ℕ)) → AreOf k r m held bits → b.0 < k.sizes.managed → HasMovableAlone k.sizes k.state b.0 → m2 ≡ record m { isolated = with_block m.sizes b.0 m.isolated } → held2 ≡ map (filter (λ f. not (is_frame_of r.sizes b.0 f))) held → r2 ≡ with_withdrawn b.0 (with_frames (λ f. list_any (is_in f) held && is_frame_of r.sizes b.0 f) r) → AreOf (behind (Isolate b) k) r2 m2 held2 bits
isolate_kept k r m held bits b r2 m2 held2 h l alone em eh er =
    let drained : with_frames (λ f. list_any (is_in f) held && is_frame_of r.sizes b.0 f) r ≡ runs_of k.sizes k.online (drained_state k.sizes b.0 k.state) =
    (λ i. with_frames (λ f. list_any (is_in f) (h.caches i) && is_frame_of (h.runs i).sizes b.0 f) (h.runs i)) ∙ runs_drained k.sizes k.online k.state b.0 h.space in
    record {
      within = h.within;
      space = space_isolated k.sizes k.online k.state b.0 h.space l alone;
      runs = er ∙ ap (with_withdrawn b.0) drained ∙ runs_isolated k.sizes k.online k.state b.0 h.space l;
      marks = em ∙ (λ i. record (h.marks i) { isolated = with_block (h.marks i).sizes b.0 (h.marks i).isolated });
      caches = eh ∙ (λ i. map (filter (λ f. not (is_frame_of (h.runs i).sizes b.0 f))) (h.caches i));
      offline = h.offline;
      count = h.count;
    }

-- undo
pub undo_kept : (k : KeptSpace) (r : FreeFrames) (m : Marks) (held : List (List ℕ)) (bits : List Bool) (b : BlockNo) (r2 : FreeFrames) (m2 : Marks) → AreOf k r m held bits → is_in b.0 k.state.isolated ≡ true → is_in b.0 k.state.offline ≡ false → m2 ≡ record m { isolated = without_block b.0 m.isolated } → r2 ≡ with_restored b.0 r → AreOf (behind (Undo b) k) r2 m2 held bits
undo_kept k r m held bits b r2 m2 h there off em er = record {
  within = h.within;
  space = space_undone k.sizes k.online k.state b.0 h.space off;
  runs = er ∙ ap (with_restored b.0) h.runs ∙ runs_undone k.sizes k.online k.state b.0 h.space there;
  marks = em ∙ (λ i. record (h.marks i) { isolated = without_block b.0 (h.marks i).isolated });
  caches = h.caches;
  offline = h.offline;
  count = h.count;
}

-- a block none of whose frames is out
none_has : (frames : List (ℕ × Out)) (f : ℕ × Out) → frames ≡ [] → Contains frames f → ⊥
none_has frames f e c =
    let P : List (ℕ × Out) → Type 0 = λ xs. Contains xs f in go (subst P e c)
  where
    go : {f : ℕ × Out} → Contains [] f → ⊥
    go c = absurd (omega (arith, c.1))

pub emptied_from : (s : Sizes) (st : SpaceState) (b : ℕ) → frames_out_of s st b ≡ [] → IsEmptied s st b
emptied_from s st b none frame h = go (get_or st.out frame None) refl
  where
    go : (o : Option Out) → get_or st.out frame None ≡ o → get_or st.out frame None ≡ None
    go None e = e
    go (Some o) e =
        absurd (none_has (frames_out_of s st b) (frame, o) none (frames_out-has st.out (first_frame s b) s.block frame o (frame_from s b frame h) (frame_below s b frame h) e))

-- offline
pub offline_kept : (k : KeptSpace) (r : FreeFrames) (m : Marks) (held : List (List ℕ)) (bits : List Bool) (b : BlockNo) → AreOf k r m held bits → is_in b.0 k.state.isolated ≡ true → frames_out_of k.sizes k.state b.0 ≡ [] → AreOf (behind (Offline b) k) r m held (set bits b.0 true)
offline_kept k r m held bits b h there none = record {
  within = h.within;
  space = space_offline k.sizes k.online k.state b.0 h.space there (emptied_from k.sizes k.state b.0 none);
  runs = h.runs;
  marks = h.marks;
  caches = h.caches;
  offline = marked_with k.sizes bits b.0 (isolated_bit k r m held bits b.0 h there) ∙ ap (with_block k.sizes b.0) h.offline;
  count = length-set bits b.0 true ∙ h.count;
}

-- online
pub online_kept : (k : KeptSpace) (r : FreeFrames) (m : Marks) (held : List (List ℕ)) (bits : List Bool) (b : BlockNo) (r2 : FreeFrames) (m2 : Marks) → AreOf k r m held bits → is_in b.0 k.state.offline ≡ true → m2 ≡ record m { isolated = without_block b.0 m.isolated } → r2 ≡ with_restored b.0 r → AreOf (behind (Online b) k) r2 m2 held (set bits b.0 false)
online_kept k r m held bits b r2 m2 h there em er = record {
  within = h.within;
  space = space_online k.sizes k.online k.state b.0 h.space;
  runs = er ∙ ap (with_restored b.0) h.runs ∙ runs_online k.sizes k.online k.state b.0 h.space there;
  marks = em ∙ (λ i. record (h.marks i) { isolated = without_block b.0 (h.marks i).isolated });
  caches = h.caches;
  offline = marked_without bits k.sizes.managed b.0 (isolated_bit k r m held bits b.0 h (h.space.offline_isolated b.0 there)) ∙ ap (without_block b.0) h.offline;
  count = length-set bits b.0 false ∙ h.count;
}

-- a frame given back
abbrev pub given_back : Bool → (who frame : ℕ) → KeptSpace → KeptSpace
given_back isolated who frame k = record k {
  state = record k.state {
    out = set k.state.out frame None;
    caches = caches_after_return isolated k.state.caches who frame;
  };
}

pub givable_out : (k : KeptSpace) (r : FreeFrames) (m : Marks) (held : List (List ℕ)) (bits : List Bool) (frame : ℕ) → AreOf k r m held bits → out_for k.state frame ≢ None → IsGivable r frame
givable_out k r m held bits frame h ne =
    let l : frame < frame_count k.sizes = out_in_count k.sizes k.online k.state frame h.space ne in
    let P : FreeFrames → Type 0 = λ x. IsGivable x frame in
    subst P (sym h.runs) (l, neither_out k.sizes k.online k.state frame l (is_out-from k.state frame ne))

pub cleared_isolated : (k : KeptSpace) (r : FreeFrames) (m : Marks) (held : List (List ℕ)) (bits : List Bool) (frame : ℕ) (m2 : Marks) → AreOf k r m held bits → m2 ≡ record m { out = set m.out frame None } → is_frame_in m2.sizes m2.isolated frame ≡ is_frame_in k.sizes k.state.isolated frame
cleared_isolated k r m held bits frame m2 h em =
    ap (λ (x : Marks). is_frame_in x.sizes x.isolated frame) em ∙ ap (λ (x : Marks). is_frame_in x.sizes x.isolated frame) h.marks

pub give_back_isolated : (k : KeptSpace) (r : FreeFrames) (m : Marks) (held : List (List ℕ)) (bits : List Bool) (who : ℕ) (frame : FrameNo) (r2 : FreeFrames) (m2 : Marks) → AreOf k r m held bits → out_for k.state frame.0 ≢ None → is_frame_in k.sizes k.state.isolated frame.0 ≡ true → m2 ≡ record m { out = set m.out frame.0 None } → r2 ≡ with_frames (λ f. eqb f frame.0) r → AreOf (behind (Return who frame) k) r2 m2 held bits
give_back_isolated k r m held bits who frame r2 m2 h ne iso em er =
    let P : Bool → Type 0 = λ t. AreOf (given_back t who frame.0 k) r2 m2 held bits in
    subst P (sym iso) (record {
      within = h.within;
      space = space_cleared k.sizes k.online k.state frame.0 h.space;
      runs = er ∙ ap (with_frames (λ f. eqb f frame.0)) h.runs ∙ runs_cleared k.sizes k.online k.state frame.0 h.space ne iso;
      marks = em ∙ (λ i. record (h.marks i) { out = set (h.marks i).out frame.0 None });
      caches = h.caches;
      offline = h.offline;
      count = h.count;
    })

pub give_back_cached : (k : KeptSpace) (r : FreeFrames) (m : Marks) (held : List (List ℕ)) (bits : List Bool) (who : ℕ) (frame : FrameNo) (m2 : Marks) (held2 : List (List ℕ)) → AreOf k r m held bits → who ≤ 16 → out_for k.state frame.0 ≢ None → is_frame_in k.sizes k.state.isolated frame.0 ≡ false → m2 ≡ record m { out = set m.out frame.0 None } → held2 ≡ put_back held who frame.0 → (r2 : FreeFrames) → r2 ≡ runs_of k.sizes k.online (returned_state who frame.0 k.state) → AreOf (behind (Return who frame) k) r2 m2 held2 bits
give_back_cached k r m held bits who frame m2 held2 h w ne iso em eh r2 er =
    let P : Bool → Type 0 = λ t. AreOf (given_back t who frame.0 k) r2 m2 held2 bits in
    subst P (sym iso) (record {
      within = h.within;
      space = space_returned k.sizes k.online k.state who frame.0 h.space w ne iso;
      runs = er;
      marks = em ∙ (λ i. record (h.marks i) { out = set (h.marks i).out frame.0 None });
      caches = eh ∙ (λ i. put_back (h.caches i) who frame.0);
      offline = h.offline;
      count = h.count;
    })

-- what the put into a cache answered
none_pushed : (old : List ℕ) → None ≡ option_map (λ (f : ℕ). let x : FrameNo = record { 0 = f } in x) (slice_get old 7) → length old ≤ 7
none_pushed old e = elim (cases_lt 7 (length old)) [
  | inl l ↦ (let x : None ≡ Some (let y : FrameNo = record { 0 = get_or old 7 0 } in y) = e ∙ ap (option_map (λ (f : ℕ). let x : FrameNo = record { 0 = f } in x)) (slice_get-get_or old 7 0 l) in absurd (cc x))
  | inr g ↦ g
]

some_pushed : (old : List ℕ) (p : FrameNo) → Some p ≡ option_map (λ (f : ℕ). let x : FrameNo = record { 0 = f } in x) (slice_get old 7) → (7 < length old) × (p.0 ≡ get_or old 7 0)
some_pushed old p e = elim (cases_lt 7 (length old)) [
  | inl l ↦ (l, (let x : Some p ≡ Some (let y : FrameNo = record { 0 = get_or old 7 0 } in y) = e ∙ ap (option_map (λ (f : ℕ). let x : FrameNo = record { 0 = f } in x)) (slice_get-get_or old 7 0 l) in ap (λ (f : FrameNo). f.0) (some_inj x)))
  | inr g ↦ (let x : Some p ≡ None = e ∙ ap (option_map (λ (f : ℕ). let x : FrameNo = record { 0 = f } in x)) (slice_get_past old 7 g) in absurd (cc x))
]
  where
    some_inj : {p q : FrameNo} → Some p ≡ Some q → p ≡ q
    some_inj e = cc e

pub give_back_quiet : (k : KeptSpace) (r : FreeFrames) (m : Marks) (held : List (List ℕ)) (bits : List Bool) (who : ℕ) (frame : FrameNo) (m2 : Marks) (held2 : List (List ℕ)) → AreOf k r m held bits → who ≤ 16 → out_for k.state frame.0 ≢ None → is_frame_in k.sizes k.state.isolated frame.0 ≡ false → m2 ≡ record m { out = set m.out frame.0 None } → held2 ≡ put_back held who frame.0 → None ≡ option_map (λ (f : ℕ). let x : FrameNo = record { 0 = f } in x) (slice_get (get_or held who []) 7) → AreOf (behind (Return who frame) k) r m2 held2 bits
give_back_quiet k r m held bits who frame m2 held2 h w ne iso em eh none =
    let few : length (get_or k.state.caches who []) ≤ 7 = subst (λ (cs : List (List ℕ)). length (get_or cs who []) ≤ 7) h.caches (none_pushed (get_or held who []) none) in
    give_back_cached k r m held bits who frame m2 held2 h w ne iso em eh r (h.runs ∙ runs_put k.sizes k.online k.state who frame.0 h.space w ne iso few)

-- the frame pushed out
pushed_is : (k : KeptSpace) (r : FreeFrames) (m : Marks) (held : List (List ℕ)) (bits : List Bool) (who : ℕ) (p : FrameNo) → AreOf k r m held bits → Some p ≡ option_map (λ (f : ℕ). let x : FrameNo = record { 0 = f } in x) (slice_get (get_or held who []) 7) → (length (get_or k.state.caches who []) ≡ 8) × (p.0 ≡ get_or (get_or k.state.caches who []) 7 0)
pushed_is k r m held bits who p h e =
    let P : List (List ℕ) → Type 0 = λ cs. (7 < length (get_or cs who [])) × (p.0 ≡ get_or (get_or cs who []) 7 0) in
    let found : (7 < length (get_or k.state.caches who [])) × (p.0 ≡ get_or (get_or k.state.caches who []) 7 0) = subst P h.caches (some_pushed (get_or held who []) p e) in
    (omega (arith, found.0, h.space.caches.few who), found.1)

pub pushed_givable : (k : KeptSpace) (r : FreeFrames) (m : Marks) (held : List (List ℕ)) (bits : List Bool) (who : ℕ) (p : FrameNo) → AreOf k r m held bits → Some p ≡ option_map (λ (f : ℕ). let x : FrameNo = record { 0 = f } in x) (slice_get (get_or held who []) 7) → IsGivable r p.0
pushed_givable k r m held bits who p h e =
    let found : (length (get_or k.state.caches who []) ≡ 8) × (p.0 ≡ get_or (get_or k.state.caches who []) 7 0) = pushed_is k r m held bits who p h e in
    let last : ℕ = get_or (get_or k.state.caches who []) 7 0 in
    let cached : list_any (is_in last) k.state.caches ≡ true = pushed_in k.state.caches who found.0 in
    let P : FreeFrames → ℕ → Type 0 = λ x f. IsGivable x f in
    subst (λ (x : FreeFrames). P x p.0) (sym h.runs) (subst (λ (f : ℕ). P (runs_of k.sizes k.online k.state) f) (sym found.1) (h.space.cached_there last cached, neither_cached k.sizes k.online k.state last h.space cached))

pub give_back_pushed : (k : KeptSpace) (r : FreeFrames) (m : Marks) (held : List (List ℕ)) (bits : List Bool) (who : ℕ) (frame p : FrameNo) (r2 : FreeFrames) (m2 : Marks) (held2 : List (List ℕ)) → AreOf k r m held bits → who ≤ 16 → out_for k.state frame.0 ≢ None → is_frame_in k.sizes k.state.isolated frame.0 ≡ false → m2 ≡ record m { out = set m.out frame.0 None } → held2 ≡ put_back held who frame.0 → Some p ≡ option_map (λ (f : ℕ). let x : FrameNo = record { 0 = f } in x) (slice_get (get_or held who []) 7) → r2 ≡ with_frames (λ f. eqb f p.0) r → AreOf (behind (Return who frame) k) r2 m2 held2 bits
give_back_pushed k r m held bits who frame p r2 m2 held2 h w ne iso em eh e er =
    let found : (length (get_or k.state.caches who []) ≡ 8) × (p.0 ≡ get_or (get_or k.state.caches who []) 7 0) = pushed_is k r m held bits who p h e in
    give_back_cached k r m held bits who frame m2 held2 h w ne iso em eh r2
    (er ∙ (λ i. with_frames (λ f. eqb f (found.1 i)) (h.runs i)) ∙ runs_pushed k.sizes k.online k.state who frame.0 h.space w ne iso found.0)

-- whether a block is offline, by its bit
pub is_in-offline : (k : KeptSpace) (r : FreeFrames) (m : Marks) (held : List (List ℕ)) (bits : List Bool) (b : ℕ) → AreOf k r m held bits → get_or bits b false ≡ is_in b k.state.offline
is_in-offline k r m held bits b h = elim (cases_lt b k.sizes.managed) [
  | inl l ↦ sym (ap (is_in b) (sym h.offline) ∙ is_in-numbers_where (λ (i : ℕ). get_or bits i false) k.sizes.managed b l)
  | inr g ↦
      get_or_past bits b false (omega (arith, h.count))
      ∙ sym (ap (is_in b) (sym h.offline) ∙ is_in-numbers_where_past (λ (i : ℕ). get_or bits i false) k.sizes.managed b g)
]

-- a search that found no frame out
pub no_first : (frames : List (ℕ × Out)) → first_page frames ≡ None → frames ≡ []
no_first [] e = refl
no_first (f ∷ rest) e = absurd (cc e)

pub none_out_of : (k : KeptSpace) (r : FreeFrames) (m : Marks) (held : List (List ℕ)) (bits : List Bool) (b : ℕ) → AreOf k r m held bits → None ≡ first_page (frames_out_after m b None) → frames_out_of k.sizes k.state b ≡ []
none_out_of k r m held bits b h e =
    no_first (frames_out_of k.sizes k.state b) (sym (ap (λ (x : Marks). first_page (frames_out_after x b None)) h.marks) ∙ sym e)
