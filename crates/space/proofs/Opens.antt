-- What a space keeps when it is opened.
use Rattle.std.proofs.Common.{◌≡◌, ℕ, zero, suc, ◌+◌, ◌-◌, ◌*◌, ◌<◌, ◌≤◌, Bool, true, false, cond, ◌&&◌, ◌||◌, not, List, [], ◌∷◌, map, drop, replicate, length, get_or, refl, sym, ap, ◌∙◌, subst, arith, inl, inr, Option, Some, None, Result, Ok}
use Rattle.std.specs.List.{filter, range_with_len, AllByRecursion, count_by}
use Rattle.std.specs.Option.{is_some}
use Rattle.std.proofs.Math.Dec.{eqb, ltb, leb}
use Rattle.std.proofs.Math.ListN.{set}
use Rattle.std.proofs.lemmas.Bool.{cases_eq, cases_lt, eq-eqb, ne_eqb, false≢true, lt-ltb, le-ltb, and_left, and_right, cond-true, cond-false}
use Rattle.std.proofs.lemmas.Bool.Decides.{nat_tests}
use Rattle.std.proofs.lemmas.Option.{same_Some}
use Rattle.std.proofs.lemmas.List.{same_lists, length-set, length-replicate, get_or-set_same, get_or-set_other, get_or-replicate, get_or_past, drop_more}
use Rattle.std.proofs.lemmas.List.FromFn.{length-range_with_len, length-map-range_with_len, get_or-map-range_with_len}
use Rattle.evac_model.specs.declared.names.Kind.{Kind}
use Rattle.evac_model.specs.declared.scenario.StartPage.{StartPage}
use Rattle.evac_model.specs.Geometry.{Sizes, IsThereAtStart, frame_count, first_frame, IsWithinLimits}
use Rattle.evac_model.specs.FreeRuns.{fits}
use Rattle.evac_model.specs.Numbers.{numbers_where, is_in, is_between, IsRisingBelow}
use Rattle.evac_model.specs.SpaceJournal.{SpaceState, Out, out_for, is_frame_of, is_frame_in, with_block, out_at_start, space_at_start}
use Rattle.evac_model.proofs.Numbers.{numbers_agree, is_in-numbers_where, numbers_where-none, numbers_rising}
use Rattle.evac_model.proofs.Ranges.{between_inside, between_below, between_above, between_empty}
use Rattle.buddy.specs.FreeFrames.{FreeFrames, no_frames, with_frames, with_withdrawn}
use Rattle.frame_cache.specs.Drains.{IsGivable}
use Rattle.frame_cache.proofs.Givings.{with_both, givable_still, with_frames_same}
use Rattle.page_blocks.specs.Marks.{Marks, frames_out, block_frames_out, isolation, is_unmovable, page_and_kind, blocks_marked}
use Rattle.evac_model.specs.declared.space.Unmovable.{Unmovable}
use Rattle.evac_model.specs.declared.names.PageNo.{PageNo}
use Rattle.std.specs.Result.{OnOk}
use Rattle.space.specs.JournaledSpace.{AreStartFrames}
use Rattle.space.specs.KeptSpace.{KeptSpace, AreOf}
use Rattle.space.specs.Opening.{unplugged, marks_at_open, marks_isolated, marks_at_start, runs_at_open}
use Rattle.space.specs.SpaceInside.{IsSpace, IsOwed, runs_of}
use Rattle.space.proofs.BlockFrames.{frame_in_witness, frame_from}
use Rattle.space.proofs.RunsOfSpaces.{runs_are}
use Rattle.std.proofs.Math.Nat.{mul-le-mul_right}
use Rattle.evac_model.proofs.Lists.{all_at, get_or-replicate_same}
use Rattle.std.proofs.Math.Bool.{or-false}

-- the numbers of a range, by a test
filter_between_in : (a n c k : ℕ) → a ≤ c → a + n ≤ c + k → c ≤ a + n → filter (is_between a (a + n)) (range_with_len c k) ≡ range_with_len c (a + n - c)
filter_between_in a n c zero from room inside = ap (range_with_len c) (let e : 0 ≡ a + n - c = omega arith in e)
filter_between_in a n c (suc k) from room inside = elim (cases_lt c (a + n)) [
  | inl l ↦
      let here : is_between a (a + n) c ≡ true = between_inside a (a + n) c from l in
      let rest : filter (is_between a (a + n)) (range_with_len (c + 1) k) ≡ range_with_len (c + 1) (a + n - (c + 1)) = filter_between_in a n (c + 1) k (omega arith) (omega arith) (omega arith) in
      let more : suc (a + n - (c + 1)) ≡ a + n - c = omega arith in
      ap (λ (t : Bool). cond t (c ∷ filter (is_between a (a + n)) (range_with_len (c + 1) k)) (filter (is_between a (a + n)) (range_with_len (c + 1) k))) here
      ∙ ap (λ (xs : List ℕ). c ∷ xs) rest
      ∙ ap (range_with_len c) more
  | inr g ↦ past a n c k g
]
  where
    none_past : (a n c k : ℕ) → a + n ≤ c → filter (is_between a (a + n)) (range_with_len c k) ≡ []
    none_past a n c zero g = refl
    none_past a n c (suc k) g =
        let here : is_between a (a + n) c ≡ false = between_above a (a + n) c g in
        ap (λ (t : Bool). cond t (c ∷ filter (is_between a (a + n)) (range_with_len (c + 1) k)) (filter (is_between a (a + n)) (range_with_len (c + 1) k))) here
        ∙ none_past a n (c + 1) k (omega arith)

    past : (a n c k : ℕ) → a + n ≤ c → filter (is_between a (a + n)) (range_with_len c (suc k)) ≡ range_with_len c (a + n - c)
    past a n c k g = none_past a n c (suc k) g ∙ ap (range_with_len c) (let e : 0 ≡ a + n - c = omega arith in e)

filter_between : (a n c k : ℕ) → c ≤ a → a + n ≤ c + k → filter (is_between a (a + n)) (range_with_len c k) ≡ range_with_len a n
filter_between a n c zero before room =
    ap (range_with_len a) (let e : 0 ≡ n = omega arith in e)
filter_between a n c (suc k) before room = elim (cases_lt c a) [
  | inl l ↦
      let here : is_between a (a + n) c ≡ false = between_below a (a + n) c l in
      ap (λ (t : Bool). cond t (c ∷ filter (is_between a (a + n)) (range_with_len (c + 1) k)) (filter (is_between a (a + n)) (range_with_len (c + 1) k))) here
      ∙ filter_between a n (c + 1) k (omega arith) (omega arith)
  | inr g ↦
      let e : c ≡ a = omega arith in
      filter_between_in a n c (suc k) g room (omega arith)
      ∙ ap (λ (x : ℕ). range_with_len x (a + n - x)) e
      ∙ ap (range_with_len a) (let f : a + n - a ≡ n = omega arith in f)
]

pub numbers_between : (a m : ℕ) → a ≤ m → numbers_where (is_between a m) m ≡ range_with_len a (m - a)
numbers_between a m l =
    let e : m ≡ a + (m - a) = omega arith in
    ap (λ (x : ℕ). filter (is_between a x) (range_with_len 0 m)) e ∙ filter_between a (m - a) 0 m (omega arith) (omega arith)

-- the marks and the runs once the blocks below b are isolated
abbrev pub marks_to : Sizes → (b : ℕ) → Marks
marks_to s b = record { sizes = s; isolated = numbers_where (is_between s.plugged b) s.managed; out = replicate (frame_count s) None }

abbrev pub runs_to : Sizes → (online : Kind) → (b : ℕ) → FreeFrames
runs_to s online b = record { sizes = s; online = online; free = []; aside = []; withdrawn = numbers_where (is_between s.plugged b) s.managed }

none_to : (s : Sizes) → numbers_where (is_between s.plugged s.plugged) s.managed ≡ []
none_to s = numbers_where-none (is_between s.plugged s.plugged) s.managed (between_empty s.plugged)

pub marks_first : (s : Sizes) → marks_at_open s ≡ marks_to s s.plugged
marks_first s = λ i. record { sizes = s; isolated = sym (none_to s) i; out = replicate (frame_count s) None }

pub runs_first : (s : Sizes) (online : Kind) → no_frames s online ≡ runs_to s online s.plugged
runs_first s online = λ i. record { sizes = s; online = online; free = []; aside = []; withdrawn = sym (none_to s) i }

pub marks_last : (s : Sizes) → s.plugged ≤ s.managed → marks_to s s.managed ≡ marks_isolated s
marks_last s l = λ i. record { sizes = s; isolated = numbers_between s.plugged s.managed l i; out = replicate (frame_count s) None }

pub runs_last : (s : Sizes) (online : Kind) → s.plugged ≤ s.managed → runs_to s online s.managed ≡ runs_at_open s online
runs_last s online l = λ i. record { sizes = s; online = online; free = []; aside = []; withdrawn = numbers_between s.plugged s.managed l i }

-- one block more
between_push : (a b k : ℕ) → a ≤ b → (is_between a b k || eqb k b) ≡ is_between a (b + 1) k
between_push a b k h = grind (arith, nat_tests)

blocks_push : (s : Sizes) (b : ℕ) → s.plugged ≤ b → with_block s b (numbers_where (is_between s.plugged b) s.managed) ≡ numbers_where (is_between s.plugged (b + 1)) s.managed
blocks_push s b h =
    numbers_agree _ _ s.managed (λ k l. ap (λ (t : Bool). t || eqb k b) (is_in-numbers_where (is_between s.plugged b) s.managed k l) ∙ between_push s.plugged b k h)

pub runs_push : (s : Sizes) (online : Kind) (b : ℕ) → s.plugged ≤ b → with_withdrawn b (runs_to s online b) ≡ runs_to s online (b + 1)
runs_push s online b h = λ i. record {
  sizes = s;
  online = online;
  free = numbers_where-none (λ f. is_in f [] && not (is_frame_of s b f)) (frame_count s) (λ k. refl) i;
  aside = numbers_where-none (λ f. is_in f [] || (is_in f [] && is_frame_of s b f)) (frame_count s) (λ k. refl) i;
  withdrawn = blocks_push s b h i;
}

pub marks_push : (s : Sizes) (b : ℕ) → s.plugged ≤ b → (let m : Marks = record (marks_to s b) { isolated = with_block s b (marks_to s b).isolated } in m ≡ marks_to s (b + 1))
marks_push s b h = λ i. record { sizes = s; isolated = blocks_push s b h i; out = replicate (frame_count s) None }

pub not_yet : (s : Sizes) (b : ℕ) → b < s.managed → is_in b (numbers_where (is_between s.plugged b) s.managed) ≡ false
not_yet s b l = is_in-numbers_where (is_between s.plugged b) s.managed b l ∙ between_above s.plugged b b (omega arith)

-- no frame is out, so no isolation is refused
no_out : (n k : ℕ) → get_or (replicate n (let o : Option Out = None in o)) k None ≡ None
no_out n k = elim (cases_lt k n) [
  | inl l ↦ get_or-replicate n k None None l
  | inr g ↦ get_or_past (replicate n None) k None (omega (arith, length-replicate {A = Option Out} n None))
]

none_out : (n first k : ℕ) → frames_out (replicate n None) first k ≡ []
none_out n first zero = refl
none_out n first (suc k) = rw (no_out n first, none_out n (first + 1) k) refl

pub not_refused : (s : Sizes) (b c : ℕ) → isolation (filter is_unmovable (block_frames_out (marks_to s b) c)) ≡ Ok tt
not_refused s b c = ap (λ (xs : List (ℕ × Out)). isolation (filter is_unmovable xs)) (none_out (frame_count s) (first_frame s c) s.block)

-- the marks once the pages from `left` on are marked
abbrev pub marks_from : Sizes → List StartPage → (left : ℕ) → Marks
marks_from s start left =
    record { sizes = s; isolated = unplugged s; out = map (out_at_start (drop left start)) (range_with_len 0 (frame_count s)) }

map_none : (n a : ℕ) → replicate n (let o : Option Out = None in o) ≡ map (out_at_start []) (range_with_len a n)
map_none zero a = refl
map_none (suc n) a = ap (λ (xs : List (Option Out)). None ∷ xs) (map_none n (a + 1))

drop_whole : (start : List StartPage) (n : ℕ) → length start ≤ n → drop n start ≡ []
drop_whole [] zero h = refl
drop_whole [] (suc n) h = refl
drop_whole (p ∷ start) zero h = absurd (omega arith)
drop_whole (p ∷ start) (suc n) h = drop_whole start n (omega arith)

pub marks_none : (s : Sizes) (start : List StartPage) (left : ℕ) → length start ≤ left → marks_isolated s ≡ marks_from s start left
marks_none s start left h =
    let out : replicate (frame_count s) None ≡ map (out_at_start (drop left start)) (range_with_len 0 (frame_count s)) =
    map_none (frame_count s) 0 ∙ ap (λ (ps : List StartPage). map (out_at_start ps) (range_with_len 0 (frame_count s))) (sym (drop_whole start left h)) in
    λ i. record { sizes = s; isolated = unplugged s; out = out i }

set_map : (h : ℕ → Option Out) (v : Option Out) (n i : ℕ) → i < n → set (map h (range_with_len 0 n)) i v ≡ map (λ f. cond (eqb i f) v (h f)) (range_with_len 0 n)
set_map h v n i l =
    let g : ℕ → Option Out = λ f. cond (eqb i f) v (h f) in
    let xs : List (Option Out) = map h (range_with_len 0 n) in
    same_lists (set xs i v) (map g (range_with_len 0 n))
    (length-set xs i v ∙ length-map-range_with_len h 0 n ∙ sym (length-map-range_with_len g 0 n))
    (λ k d lk.
    let within : k < n = omega (arith, lk, length-set xs i v, length-map-range_with_len h 0 n) in
    elim (cases_eq k i) [
      | inl e ↦
          ap (λ (j : ℕ). get_or (set xs i v) j d) e
          ∙ get_or-set_same xs i v d (omega (arith, l, length-map-range_with_len h 0 n))
          ∙ sym (cond-true (eqb i k) v (h k) (eq-eqb i k (sym e)))
          ∙ sym (get_or-map-range_with_len g 0 n k k d within (omega arith))
      | inr ne ↦
          get_or-set_other xs i k v d ne
          ∙ get_or-map-range_with_len h 0 n k k d within (omega arith)
          ∙ sym (cond-false (eqb i k) v (h k) (ne_eqb i k (λ e. ne (sym e))))
          ∙ sym (get_or-map-range_with_len g 0 n k k d within (omega arith))
    ])

-- one page more, in front
pub marks_more : (s : Sizes) (start : List StartPage) (left : ℕ) (p : StartPage) → left < length start → p ≡ get_or start left p → p.frame.0 < frame_count s → (let m : Marks = record (marks_from s start (left + 1)) { out = set (marks_from s start (left + 1)).out p.frame.0 (Some (record { page = p.page.0; kind = p.kind })) } in m ≡ marks_from s start left)
marks_more s start left p l e there =
    let rest : List StartPage = drop (left + 1) start in
    let front : drop left start ≡ p ∷ rest = drop_more start left p l ∙ ap (λ (q : StartPage). q ∷ rest) (sym e) in
    let out : set (map (out_at_start rest) (range_with_len 0 (frame_count s))) p.frame.0 (Some (record { page = p.page.0; kind = p.kind })) ≡ map (out_at_start (drop left start)) (range_with_len 0 (frame_count s)) =
    set_map (out_at_start rest) (Some (record { page = p.page.0; kind = p.kind })) (frame_count s) p.frame.0 there
    ∙ ap (λ (ps : List StartPage). map (out_at_start ps) (range_with_len 0 (frame_count s))) (sym front) in
    λ i. record { sizes = s; isolated = unplugged s; out = out i }

-- a start page's frame is one of the machine's

pub start_frame_there : (s : Sizes) (start : List StartPage) (i : ℕ) (p : StartPage) → s.plugged ≤ s.managed → AllByRecursion (λ q. IsThereAtStart s q.frame.0) start → i < length start → p ≡ get_or start i p → p.frame.0 < frame_count s
start_frame_there s start i p few h l e =
    let there : IsThereAtStart s (get_or start i p).frame.0 = all_at (λ q. IsThereAtStart s q.frame.0) start h i p l in
    let same : p.frame.0 ≡ (get_or start i p).frame.0 = ap (λ (q : StartPage). q.frame.0) e in
    omega (arith, there, same, mul-le-mul_right {m = s.boot + s.plugged} {n = s.boot + s.managed} s.block (omega arith))

-- the frames given below i: those that aren't out
abbrev pub given_to : List StartPage → (i : ℕ) → ℕ → Bool
given_to start i f = ltb f i && not (is_some (out_at_start start f))

with_none : (s : Sizes) (online : Kind) (given : ℕ → Bool) → ((f : ℕ) → given f ≡ false) → runs_at_open s online ≡ with_frames given (runs_at_open s online)
with_none s online given none = λ i. record {
  sizes = s;
  online = online;
  free = sym (numbers_where-none (λ f. is_in f [] || (given f && not (is_frame_in s (unplugged s) f))) (frame_count s) (λ k. and_left _ _ (none k))) i;
  aside = sym (numbers_where-none (λ f. is_in f [] || (given f && is_frame_in s (unplugged s) f)) (frame_count s) (λ k. and_left _ _ (none k))) i;
  withdrawn = unplugged s;
}

pub given_none : (s : Sizes) (online : Kind) (start : List StartPage) → runs_at_open s online ≡ with_frames (given_to start 0) (runs_at_open s online)
given_none s online start = with_none s online (given_to start 0) (λ f. and_left _ _ (le-ltb f 0 (omega arith)))

given_push : (i f : ℕ) (o : Bool) → (ltb f i ≡ true → ⊥) → (f ≡ i → o ≡ true) → ((ltb f i && o) || eqb f i) ≡ (ltb f (i + 1) && o)
given_push i f o before here = elim (cases_lt f i) [
  | inl l ↦ absurd (before (lt-ltb f i l))
  | inr g ↦ elim (cases_eq f i) [
    | inl e ↦ rw (le-ltb f i g, eq-eqb f i e, here e, lt-ltb f (i + 1) (omega (arith, e))) refl
    | inr ne ↦ rw (le-ltb f i g, ne_eqb f i ne, le-ltb f (i + 1) (omega (arith, ne))) refl
  ]
]

given_same_below : (i f : ℕ) (o : Bool) → f < i → ((ltb f i && o) || eqb f i) ≡ (ltb f (i + 1) && o)
given_same_below i f o l =
    ap (λ (t : Bool). ltb f i && o || t) (ne_eqb f i (λ e. omega (arith, e))) ∙ or-false (ltb f i && o)
    ∙ ap (λ (t : Bool). t && o) (lt-ltb f i l ∙ sym (lt-ltb f (i + 1) (omega arith)))

pub given_more : (start : List StartPage) (i f : ℕ) → out_at_start start i ≡ None → (given_to start i f || eqb f i) ≡ given_to start (i + 1) f
given_more start i f none = elim (cases_lt f i) [
  | inl l ↦ given_same_below i f (not (is_some (out_at_start start f))) l
  | inr g ↦
      given_push i f (not (is_some (out_at_start start f))) (λ e. false≢true (sym (le-ltb f i g) ∙ e))
      (λ e. ap (λ (k : ℕ). not (is_some (out_at_start start k))) e ∙ ap (λ (o : Option Out). not (is_some o)) none)
]

pub given_still : (start : List StartPage) (i f : ℕ) (o : Out) → out_at_start start i ≡ Some o → given_to start i f ≡ given_to start (i + 1) f
given_still start i f o out = elim (cases_lt f i) [
  | inl l ↦ ap (λ (t : Bool). t && not (is_some (out_at_start start f))) (lt-ltb f i l ∙ sym (lt-ltb f (i + 1) (omega arith)))
  | inr g ↦ elim (cases_eq f i) [
    | inl e ↦
        and_left _ _ (le-ltb f i g)
        ∙ sym (and_right (ltb f (i + 1)) _ (ap (λ (k : ℕ). not (is_some (out_at_start start k))) e ∙ ap (λ (x : Option Out). not (is_some x)) out))
    | inr ne ↦ and_left _ _ (le-ltb f i g) ∙ sym (and_left _ _ (le-ltb f (i + 1) (omega (arith, ne))))
  ]
]

pub runs_more : (s : Sizes) (online : Kind) (start : List StartPage) (i : ℕ) (r r2 : FreeFrames) → out_at_start start i ≡ None → r ≡ with_frames (given_to start i) (runs_at_open s online) → r2 ≡ with_frames (λ f. eqb f i) r → r2 ≡ with_frames (given_to start (i + 1)) (runs_at_open s online)
runs_more s online start i r r2 none e e2 =
    e2 ∙ ap (with_frames (λ f. eqb f i)) e ∙ with_both (given_to start i) (λ f. eqb f i) (runs_at_open s online)
    ∙ with_frames_same _ _ (runs_at_open s online) (λ f. given_more start i f none)

pub runs_still : (s : Sizes) (online : Kind) (start : List StartPage) (i : ℕ) (r : FreeFrames) (o : Out) → out_at_start start i ≡ Some o → r ≡ with_frames (given_to start i) (runs_at_open s online) → r ≡ with_frames (given_to start (i + 1)) (runs_at_open s online)
runs_still s online start i r o out e = e ∙ with_frames_same _ _ (runs_at_open s online) (λ f. given_still start i f o out)

pub next_givable : (s : Sizes) (online : Kind) (start : List StartPage) (i : ℕ) (r : FreeFrames) → i < frame_count s → r ≡ with_frames (given_to start i) (runs_at_open s online) → IsGivable r i
next_givable s online start i r l e =
    let P : FreeFrames → Type 0 = λ x. IsGivable x i in
    subst P (sym e) (givable_still (given_to start i) (runs_at_open s online) i (l, (refl, refl)) (and_left _ _ (le-ltb i i (omega arith))))

-- the space that a start leaves
pub out_at_place : (s : Sizes) (start : List StartPage) (f : ℕ) → f < frame_count s → get_or (map (out_at_start start) (range_with_len 0 (frame_count s))) f None ≡ out_at_start start f
out_at_place s start f l = get_or-map-range_with_len (out_at_start start) 0 (frame_count s) f f None l (omega arith)

free_all : (o i : Bool) → ((true && not o) && not i) ≡ (not o && not i && not false)
free_all true i = refl
free_all false true = refl
free_all false false = refl

pub runs_all : (s : Sizes) (online : Kind) (start : List StartPage) → with_frames (given_to start (frame_count s)) (runs_at_open s online) ≡ runs_of s online (space_at_start s start)
runs_all s online start =
    let st : SpaceState = space_at_start s start in
    let given : ℕ → Bool = given_to start (frame_count s) in
    runs_are s online st
    (λ f. is_in f [] || (given f && not (is_frame_in s (unplugged s) f)))
    (λ f. is_in f [] || (given f && is_frame_in s (unplugged s) f))
    (unplugged s)
    (λ f l.
    let out : out_for st f ≡ out_at_start start f = out_at_place s start f l in
    ap (λ (t : Bool). (t && not (is_some (out_at_start start f))) && not (is_frame_in s (unplugged s) f)) (lt-ltb f (frame_count s) l)
    ∙ free_all (is_some (out_at_start start f)) (is_frame_in s (unplugged s) f)
    ∙ ap (λ (o : Option Out). not (is_some o) && not (is_frame_in s (unplugged s) f) && not false) (sym out))
    (λ f l.
    let out : out_for st f ≡ out_at_start start f = out_at_place s start f l in
    ap (λ (t : Bool). (t && not (is_some (out_at_start start f))) && is_frame_in s (unplugged s) f) (lt-ltb f (frame_count s) l)
    ∙ ap (λ (o : Option Out). not (is_some o) && is_frame_in s (unplugged s) f) (sym out))
    refl

-- no page lies in a block that isn't plugged
in_unplugged : (a n b : ℕ) → is_in b (range_with_len a n) ≡ true → a ≤ b
in_unplugged a zero b h = absurd (false≢true h)
in_unplugged a (suc n) b h = elim (cases_eq b a) [
  | inl e ↦ omega arith
  | inr ne ↦ omega (arith, in_unplugged (a + 1) n b (sym (ap (λ (t : Bool). t || is_in b (range_with_len (a + 1) n)) (ne_eqb b a ne)) ∙ h))
]

not_there : (s : Sizes) (start : List StartPage) (f : ℕ) → AllByRecursion (λ q. IsThereAtStart s q.frame.0) start → (s.boot + s.plugged) * s.block ≤ f → out_at_start start f ≡ None
not_there s [] f h g = refl
not_there s (p ∷ start) f h g =
    let there : p.frame.0 < (s.boot + s.plugged) * s.block = h.0 in
    cond-false (eqb p.frame.0 f) _ _ (ne_eqb p.frame.0 f (λ e. omega (arith, e, there)))
    ∙ not_there s start f h.1 g

out_past : (s : Sizes) (start : List StartPage) (f : ℕ) → AllByRecursion (λ q. IsThereAtStart s q.frame.0) start → (s.boot + s.plugged) * s.block ≤ f → get_or (map (out_at_start start) (range_with_len 0 (frame_count s))) f None ≡ None
out_past s start f h g = elim (cases_lt f (frame_count s)) [
  | inl l ↦ out_at_place s start f l ∙ not_there s start f h g
  | inr past ↦ get_or_past _ f None (omega (arith, length-map-range_with_len (out_at_start start) 0 (frame_count s)))
]

unplugged_rising : (s : Sizes) → s.plugged ≤ s.managed → IsRisingBelow s.managed (unplugged s)
unplugged_rising s few = subst (IsRisingBelow s.managed) (numbers_between s.plugged s.managed few) (numbers_rising (is_between s.plugged s.managed) s.managed)

emptied_at_start : (s : Sizes) (online : Kind) (start : List StartPage) (f : ℕ) → AreStartFrames s online start → is_frame_in s (unplugged s) f ≡ true → out_for (space_at_start s start) f ≡ None
emptied_at_start s online start f h there =
    let w : (b : ℕ) × (is_in b (unplugged s) ≡ true) × (is_frame_of s b f ≡ true) = frame_in_witness s (unplugged s) f there in
    let from : (s.boot + s.plugged) * s.block ≤ first_frame s w.0 = mul-le-mul_right s.block (omega (arith, in_unplugged s.plugged (s.managed - s.plugged) w.0 w.1)) in
    out_past s start f h.there (omega (arith, from, frame_from s w.0 f w.2))

-- a page's frame takes it
page_fits : (s : Sizes) (online : Kind) (start : List StartPage) (f : ℕ) (x : Out) → AllByRecursion (λ p. fits s online p.kind p.frame.0 ≡ true) start → out_at_start start f ≡ Some x → fits s online x.kind f ≡ true
page_fits s online [] f x h e = absurd (cc e)
page_fits s online (p ∷ start) f x h e = elim (cases_eq p.frame.0 f) [
  | inl here ↦
      let same : Some (let o : Out = record { page = p.page.0; kind = p.kind } in o) ≡ Some x = sym (cond-true (eqb p.frame.0 f) _ _ (eq-eqb p.frame.0 f here)) ∙ e in
      ap (λ (o : Out). fits s online o.kind f) (sym (same_Some _ x same)) ∙ ap (fits s online p.kind) (sym here) ∙ h.0
  | inr other ↦ page_fits s online start f x h.1 (sym (cond-false (eqb p.frame.0 f) _ _ (ne_eqb p.frame.0 f other)) ∙ e)
]

fits_at_start : (s : Sizes) (online : Kind) (start : List StartPage) (f : ℕ) (x : Out) → AreStartFrames s online start → out_for (space_at_start s start) f ≡ Some x → fits s online x.kind f ≡ true
fits_at_start s online start f x h e = elim (cases_lt f (frame_count s)) [
  | inl l ↦ page_fits s online start f x h.fitting (sym (out_at_place s start f l) ∙ e)
  | inr past ↦
      let none : None ≡ Some x = sym (get_or_past _ f None (omega (arith, length-map-range_with_len (out_at_start start) 0 (frame_count s), past))) ∙ e in
      absurd (cc none)
]

pub space_at_start_is_space : (s : Sizes) (online : Kind) (start : List StartPage) → s.plugged ≤ s.managed → AreStartFrames s online start → IsSpace s online (space_at_start s start)
space_at_start_is_space s online start few h = record {
  out = length-map-range_with_len (out_at_start start) 0 (frame_count s);
  isolated = unplugged_rising s few;
  offline = unplugged_rising s few;
  offline_isolated = λ b there. there;
  emptied = λ f there. emptied_at_start s online start f h there;
  fitting = λ f x e. fits_at_start s online start f x h e;
  isolated_movable = λ f x there e. let none : None ≡ Some x = sym (emptied_at_start s online start f h there) ∙ e in absurd (cc none);
  caches = record {
    callers = length-replicate {A = List ℕ} 17 [];
    few = λ who. subst (λ (xs : List ℕ). length xs ≤ 8) (sym (get_or-replicate_same {A = List ℕ} 17 who [])) (omega arith);
  };
  distinct = tt;
  cached_there = λ f c. absurd (false≢true c);
  cached_not_out = λ f c. absurd (false≢true c);
  cached_not_isolated = λ f c. absurd (false≢true c);
}

-- the bits of the blocks that aren't plugged
leb_between : (a m b : ℕ) → b < m → leb a b ≡ is_between a m b
leb_between a m b l = grind (arith, nat_tests)

pub offline_bits : (s : Sizes) → s.plugged ≤ s.managed → blocks_marked (map (λ b. leb s.plugged b) (range_with_len 0 s.managed)) s.managed ≡ unplugged s
offline_bits s few =
    numbers_agree _ _ s.managed (λ b l. get_or-map-range_with_len (λ (k : ℕ). leb s.plugged k) 0 s.managed b b false l (omega arith) ∙ leb_between s.plugged s.managed b l)
    ∙ numbers_between s.plugged s.managed few

-- an isolation that isn't refused
pub isolate_push : (s : Sizes) (b : ℕ) (m m2 : Marks) (r : Result Unit Unmovable) → s.plugged ≤ b → m ≡ marks_to s b → r ≡ isolation (filter is_unmovable (block_frames_out m b)) → OnOk r (m2 ≡ record m { isolated = with_block m.sizes b m.isolated }) → m2 ≡ marks_to s (b + 1)
isolate_push s b m m2 r l e er ok =
    let fine : r ≡ Ok tt = er ∙ ap (λ (x : Marks). isolation (filter is_unmovable (block_frames_out x b))) e ∙ not_refused s b b in
    let P : Result Unit Unmovable → Type 0 = λ x. OnOk x (m2 ≡ record m { isolated = with_block m.sizes b m.isolated }) in
    let pushed : m2 ≡ record m { isolated = with_block m.sizes b m.isolated } = subst P fine ok in
    pushed ∙ ap (λ (x : Marks). let y : Marks = record x { isolated = with_block x.sizes b x.isolated } in y) e ∙ marks_push s b l

-- what a look at a frame tells
no_page : (o : Option Out) → is_some (page_and_kind o) ≡ false → o ≡ None
no_page None h = refl
no_page (Some o) h = absurd (false≢true (sym h))

a_page : (o : Option Out) → is_some (page_and_kind o) ≡ true → (x : Out) × (o ≡ Some x)
a_page None h = absurd (false≢true h)
a_page (Some o) h = (o, refl)

pub look_none : (s : Sizes) (start : List StartPage) (i : ℕ) (m : Marks) (o : Option (PageNo × Kind)) → i < frame_count s → m ≡ marks_at_start s start → o ≡ page_and_kind (get_or m.out i None) → is_some o ≡ false → out_at_start start i ≡ None
look_none s start i m o l e eo h =
    sym (ap (λ (x : Marks). get_or x.out i None) e ∙ out_at_place s start i l) ∙ no_page (get_or m.out i None) (ap is_some (sym eo) ∙ h)

pub look_some : (s : Sizes) (start : List StartPage) (i : ℕ) (m : Marks) (o : Option (PageNo × Kind)) → i < frame_count s → m ≡ marks_at_start s start → o ≡ page_and_kind (get_or m.out i None) → is_some o ≡ true → (x : Out) × (out_at_start start i ≡ Some x)
look_some s start i m o l e eo h =
    let w : (x : Out) × (get_or m.out i None ≡ Some x) = a_page (get_or m.out i None) (ap is_some (sym eo) ∙ h) in
    (w.0, sym (ap (λ (x : Marks). get_or x.out i None) e ∙ out_at_place s start i l) ∙ w.1)

-- whether a frame is out, as a look tells it
pub is_some_page : (o : Option Out) → is_some (page_and_kind o) ≡ is_some o
is_some_page None = refl
is_some_page (Some o) = refl

-- what a space keeps when it is opened
pub kept_at_start : (s : Sizes) (online : Kind) (start : List StartPage) (r : FreeFrames) (m : Marks) (held : List (List ℕ)) (bits : List Bool) → IsWithinLimits s → AreStartFrames s online start → r ≡ runs_of s online (space_at_start s start) → m ≡ marks_at_start s start → held ≡ replicate 17 [] → bits ≡ map (λ b. leb s.plugged b) (range_with_len 0 s.managed) → AreOf (record { sizes = s; online = online; state = space_at_start s start }) r m held bits
kept_at_start s online start r m held bits within h er em eh eb = record {
  within = within;
  space = space_at_start_is_space s online start within.plugged h;
  runs = er;
  marks = em;
  caches = eh;
  offline = ap (λ (bs : List Bool). blocks_marked bs s.managed) eb ∙ offline_bits s within.plugged;
  count = ap length eb ∙ length-map-range_with_len (λ (b : ℕ). leb s.plugged b) 0 s.managed;
}

-- how many actions may follow then
pub owed_at_start : (s : Sizes) (online : Kind) (start : List StartPage) (k : KeptSpace) (count : ℕ) → k ≡ record { sizes = s; online = online; state = space_at_start s start } → count ≡ count_by is_some k.state.out → IsOwed k.state (count + (s.managed - s.plugged))
owed_at_start s online start k count e counted =
    let P : KeptSpace → Type 0 = λ x. count ≡ count_by is_some x.state.out → IsOwed x.state (count + (s.managed - s.plugged)) in
    let opened : KeptSpace = record { sizes = s; online = online; state = space_at_start s start } in
    let here : P opened = λ c. omega (arith, c, length-range_with_len s.plugged (s.managed - s.plugged)) in
    subst P (sym e) here counted
