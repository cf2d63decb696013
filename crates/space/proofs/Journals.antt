-- Journals with one more action.
use Rattle.std.proofs.Common.{◌≡◌, ◌≢◌, ℕ, ◌+◌, ◌-◌, ◌<◌, ◌≤◌, zero, suc, Bool, true, false, not, ◌||◌, ◌&&◌, cond, List, [], ◌∷◌, ◌++◌, length, get_or, refl, sym, ap, ◌∙◌, subst, arith, Option, Some, None, Result, Ok, Err}
use Rattle.std.specs.List.{count_by, filter, range_with_len}
use Rattle.std.specs.Option.{is_some}
use Rattle.std.specs.Result.{is_err, OnOk}
use Rattle.std.proofs.Math.Dec.{eqb}
use Rattle.std.proofs.Math.ListN.{set}
use Rattle.std.proofs.lemmas.Bool.{ne_eqb, eq-eqb, false≢true}
use Rattle.std.proofs.lemmas.List.Sums.{sum_by-set}
use Rattle.evac_model.specs.declared.names.BlockNo.{BlockNo}
use Rattle.evac_model.specs.declared.names.FrameNo.{FrameNo}
use Rattle.evac_model.specs.declared.names.Kind.{Kind}
use Rattle.evac_model.specs.declared.space.SpaceAction.{SpaceAction}
use Rattle.evac_model.specs.declared.space.SpaceAction.TheVariants.{Return, Isolate, Undo, Offline, Online}
use Rattle.evac_model.specs.Geometry.{Sizes}
use Rattle.evac_model.specs.Numbers.{numbers_where, is_in, IsRisingBelow}
use Rattle.evac_model.specs.SpaceJournal.{SpaceState, Out, out_for, with_block, without_block, after_action, space_after, IsPossible, IsPossibleJournal}
use Rattle.evac_model.proofs.Numbers.{length-numbers_where_more}
use Rattle.space.specs.JournaledSpace.{JournaledSpace, space_state}
use Rattle.space.specs.KeptSpace.{KeptSpace, behind}
use Rattle.space.specs.KeptJournal.{IsLeftBy}
use Rattle.space.specs.SpaceInside.{IsSpace, IsOwed}
use Rattle.space.proofs.BlockFrames.{is_in_bound, without-numbers}
use Rattle.space.proofs.SpacesBehind.{undone_state, space_undone, is_out-from, out_in_count}
use Rattle.std.proofs.Math.Bool.{or-false, and-true, and-false}

pub space_after-append : (s : Sizes) (online : Kind) (st : SpaceState) (journal : List SpaceAction) (a : SpaceAction) → space_after s online st (journal ++ a ∷ []) ≡ after_action s online (space_after s online st journal) a
space_after-append s online st [] a = refl
space_after-append s online st (x ∷ journal) a = space_after-append s online (after_action s online st x) journal a

pub possible-append : (s : Sizes) (online : Kind) (st : SpaceState) (journal : List SpaceAction) (a : SpaceAction) → IsPossibleJournal s online st journal → IsPossible s online (space_after s online st journal) a → IsPossibleJournal s online st (journal ++ a ∷ [])
possible-append s online st [] a h here = (here, tt)
possible-append s online st (x ∷ journal) a h here = (h.0, possible-append s online (after_action s online st x) journal a h.1 here)

-- how many frames are out
abbrev out_count : Option Out → ℕ
out_count o = cond (is_some o) 1 0

count_one : (o : Option Out) → is_some o ≡ true → out_count o ≡ suc zero
count_one None h = absurd (false≢true h)
count_one (Some o) h = refl

count_none : (o : Option Out) → o ≡ None → out_count o ≡ zero
count_none o h = ap out_count h

count_cleared : (out : List (Option Out)) (f : ℕ) → f < length out → is_some (get_or out f None) ≡ true → count_by is_some (set out f None) + 1 ≡ count_by is_some out
count_cleared out f l h =
    omega (arith, sum_by-set out_count out f None None l, count_one (get_or out f None) h)

pub count_set : (out : List (Option Out)) (f : ℕ) (x : Out) → f < length out → get_or out f None ≡ None → count_by is_some (set out f (Some x)) ≡ count_by is_some out + 1
count_set out f x l h =
    omega (arith, sum_by-set out_count out f (Some x) None l, count_none (get_or out f None) h)

-- how many blocks a list has
length-with_block : (s : Sizes) (b : ℕ) (xs : List ℕ) → IsRisingBelow s.managed xs → b < s.managed → is_in b xs ≡ false → length (with_block s b xs) ≡ length xs + 1
length-with_block s b xs rising l none =
    length-numbers_where_more (λ (k : ℕ). is_in k xs) (λ (k : ℕ). is_in k xs || eqb k b) s.managed b l none (ap (λ (t : Bool). t || eqb b b) none ∙ eq-eqb b b refl)
    (λ k ne. ap (λ (t : Bool). is_in k xs || t) (ne_eqb k b ne) ∙ or-false (is_in k xs))
    ∙ ap (λ (ys : List ℕ). length ys + 1) (sym rising)

length-without_block : (n b : ℕ) (xs : List ℕ) → IsRisingBelow n xs → is_in b xs ≡ true → length (without_block b xs) + 1 ≡ length xs
length-without_block n b xs rising there =
    let more : length (numbers_where (λ k. is_in k xs) n) ≡ length (numbers_where (λ k. is_in k xs && not (eqb k b)) n) + 1 =
    length-numbers_where_more (λ (k : ℕ). is_in k xs && not (eqb k b)) (λ (k : ℕ). is_in k xs) n b (is_in_bound n xs b rising there)
    (ap (λ (t : Bool). is_in b xs && not t) (eq-eqb b b refl) ∙ and-false (is_in b xs)) there
    (λ k ne. sym (ap (λ (t : Bool). is_in k xs && not t) (ne_eqb k b ne) ∙ and-true (is_in k xs))) in
    ap (λ (ys : List ℕ). length ys + 1) (without-numbers n b xs rising) ∙ sym more ∙ ap length (sym rising)

-- a list that has no other blocks is no longer
length_conds : (t u : Bool) (x : ℕ) (xs ys : List ℕ) → (t ≡ true → u ≡ true) → length xs ≤ length ys → length (cond t (x ∷ xs) xs) ≤ length (cond u (x ∷ ys) ys)
length_conds true true x xs ys h l = omega arith
length_conds true false x xs ys h l = absurd (false≢true (h refl))
length_conds false true x xs ys h l = omega arith
length_conds false false x xs ys h l = l

length_filters : (p q : ℕ → Bool) (xs : List ℕ) → ((k : ℕ) → p k ≡ true → q k ≡ true) → length (filter p xs) ≤ length (filter q xs)
length_filters p q [] h = omega arith
length_filters p q (x ∷ xs) h = length_conds (p x) (q x) x (filter p xs) (filter q xs) (h x) (length_filters p q xs h)

length_rising : (n : ℕ) (xs ys : List ℕ) → IsRisingBelow n xs → IsRisingBelow n ys → ((k : ℕ) → is_in k xs ≡ true → is_in k ys ≡ true) → length xs ≤ length ys
length_rising n xs ys hx hy h =
    omega (arith, ap length hx, ap length hy, length_filters (λ (k : ℕ). is_in k xs) (λ (k : ℕ). is_in k ys) (range_with_len 0 n) h)

offline_few : (s : Sizes) (online : Kind) (st : SpaceState) → IsSpace s online st → length st.offline ≤ length st.isolated
offline_few s online st h = length_rising s.managed st.offline st.isolated h.offline h.isolated h.offline_isolated

-- how many actions may follow
pub owed_return : (k : KeptSpace) (owed who : ℕ) (frame : FrameNo) (next : KeptSpace) → IsSpace k.sizes k.online k.state → IsOwed k.state owed → out_for k.state frame.0 ≢ None → next ≡ behind (Return who frame) k → (1 ≤ owed) × IsOwed next.state (owed - 1)
owed_return k owed who frame next space h ne e =
    let l : frame.0 < length k.state.out = omega (arith, out_in_count k.sizes k.online k.state frame.0 space ne, space.out) in
    let fewer : count_by is_some (set k.state.out frame.0 None) + 1 ≡ count_by is_some k.state.out = count_cleared k.state.out frame.0 l (is_out-from k.state frame.0 ne) in
    let few : length k.state.offline ≤ length k.state.isolated = offline_few k.sizes k.online k.state space in
    let some : 1 ≤ owed = omega (arith, h, fewer, few) in
    let P : KeptSpace → Type 0 = λ x. (1 ≤ owed) × IsOwed x.state (owed - 1) in
    subst P (sym e) (some, omega (arith, h, fewer, some))

pub owed_isolate : (k : KeptSpace) (owed : ℕ) (b : BlockNo) (next : KeptSpace) → IsSpace k.sizes k.online k.state → IsOwed k.state owed → b.0 < k.sizes.managed → is_in b.0 k.state.isolated ≡ false → next ≡ behind (Isolate b) k → IsOwed next.state (owed + 2)
owed_isolate k owed b next space h l none e =
    let more : length (with_block k.sizes b.0 k.state.isolated) ≡ length k.state.isolated + 1 = length-with_block k.sizes b.0 k.state.isolated space.isolated l none in
    let P : KeptSpace → Type 0 = λ x. IsOwed x.state (owed + 2) in
    subst P (sym e) (omega (arith, h, more))

pub owed_undo : (k : KeptSpace) (owed : ℕ) (b : BlockNo) (next : KeptSpace) → IsSpace k.sizes k.online k.state → IsOwed k.state owed → is_in b.0 k.state.isolated ≡ true → is_in b.0 k.state.offline ≡ false → next ≡ behind (Undo b) k → (2 ≤ owed) × IsOwed next.state (owed - 2)
owed_undo k owed b next space h there off e =
    let fewer : length (without_block b.0 k.state.isolated) + 1 ≡ length k.state.isolated = length-without_block k.sizes.managed b.0 k.state.isolated space.isolated there in
    let few : length k.state.offline ≤ length (without_block b.0 k.state.isolated) = offline_few k.sizes k.online (undone_state b.0 k.state) (space_undone k.sizes k.online k.state b.0 space off) in
    let some : 2 ≤ owed = omega (arith, h, fewer, few) in
    let P : KeptSpace → Type 0 = λ x. (2 ≤ owed) × IsOwed x.state (owed - 2) in
    subst P (sym e) (some, omega (arith, h, fewer, some))

pub owed_offline : (k : KeptSpace) (owed : ℕ) (b : BlockNo) (next : KeptSpace) → IsSpace k.sizes k.online k.state → IsOwed k.state owed → is_in b.0 k.state.isolated ≡ true → is_in b.0 k.state.offline ≡ false → next ≡ behind (Offline b) k → (1 ≤ owed) × IsOwed next.state (owed - 1)
owed_offline k owed b next space h there off e =
    let l : b.0 < k.sizes.managed = is_in_bound k.sizes.managed k.state.isolated b.0 space.isolated there in
    let more : length (with_block k.sizes b.0 k.state.offline) ≡ length k.state.offline + 1 = length-with_block k.sizes b.0 k.state.offline space.offline l off in
    let fewer : length (without_block b.0 k.state.isolated) + 1 ≡ length k.state.isolated = length-without_block k.sizes.managed b.0 k.state.isolated space.isolated there in
    let few : length k.state.offline ≤ length k.state.isolated = offline_few k.sizes k.online k.state space in
    let some : 1 ≤ owed = omega (arith, h, fewer, few) in
    let P : KeptSpace → Type 0 = λ x. (1 ≤ owed) × IsOwed x.state (owed - 1) in
    subst P (sym e) (some, omega (arith, h, more, some))

pub owed_online : (k : KeptSpace) (owed : ℕ) (b : BlockNo) (next : KeptSpace) → IsSpace k.sizes k.online k.state → IsOwed k.state owed → is_in b.0 k.state.offline ≡ true → next ≡ behind (Online b) k → (1 ≤ owed) × IsOwed next.state (owed - 1)
owed_online k owed b next space h there e =
    let fewer : length (without_block b.0 k.state.offline) + 1 ≡ length k.state.offline = length-without_block k.sizes.managed b.0 k.state.offline space.offline there in
    let fewer_isolated : length (without_block b.0 k.state.isolated) + 1 ≡ length k.state.isolated = length-without_block k.sizes.managed b.0 k.state.isolated space.isolated (space.offline_isolated b.0 there) in
    let few : length k.state.offline ≤ length k.state.isolated = offline_few k.sizes k.online k.state space in
    let some : 1 ≤ owed = omega (arith, h, fewer, fewer_isolated, few) in
    let P : KeptSpace → Type 0 = λ x. (1 ≤ owed) × IsOwed x.state (owed - 1) in
    subst P (sym e) (some, omega (arith, h, fewer, fewer_isolated, some))

-- the same, as the journal tells it
pub return_owed : (v : JournaledSpace) (k : KeptSpace) (used owed room who : ℕ) (frame : FrameNo) (next : KeptSpace) → IsLeftBy v k used owed room → IsSpace k.sizes k.online k.state → out_for (space_state v) frame.0 ≢ None → next ≡ behind (Return who frame) k → (1 ≤ owed) × IsOwed next.state (owed - 1)
return_owed v k used owed room who frame next h space ne e =
    let P : KeptSpace → Type 0 = λ x. out_for x.state frame.0 ≢ None in
    owed_return k owed who frame next space h.owed_for (subst P (sym h.left) ne) e

pub isolate_owed : (v : JournaledSpace) (k : KeptSpace) (used owed room : ℕ) (b : BlockNo) (next : KeptSpace) → IsLeftBy v k used owed room → IsSpace k.sizes k.online k.state → b.0 < v.sizes.managed → is_in b.0 (space_state v).isolated ≡ false → next ≡ behind (Isolate b) k → IsOwed next.state (owed + 2)
isolate_owed v k used owed room b next h space l none e =
    let P : KeptSpace → Type 0 = λ x. b.0 < x.sizes.managed in
    owed_isolate k owed b next space h.owed_for (subst P (sym h.left) l) (ap (λ (x : KeptSpace). is_in b.0 x.state.isolated) h.left ∙ none) e

pub undo_owed : (v : JournaledSpace) (k : KeptSpace) (used owed room : ℕ) (b : BlockNo) (next : KeptSpace) → IsLeftBy v k used owed room → IsSpace k.sizes k.online k.state → is_in b.0 (space_state v).isolated ≡ true → is_in b.0 (space_state v).offline ≡ false → next ≡ behind (Undo b) k → (2 ≤ owed) × IsOwed next.state (owed - 2)
undo_owed v k used owed room b next h space there off e =
    owed_undo k owed b next space h.owed_for (ap (λ (x : KeptSpace). is_in b.0 x.state.isolated) h.left ∙ there) (ap (λ (x : KeptSpace). is_in b.0 x.state.offline) h.left ∙ off) e

pub offline_owed : (v : JournaledSpace) (k : KeptSpace) (used owed room : ℕ) (b : BlockNo) (next : KeptSpace) → IsLeftBy v k used owed room → IsSpace k.sizes k.online k.state → is_in b.0 (space_state v).isolated ≡ true → is_in b.0 (space_state v).offline ≡ false → next ≡ behind (Offline b) k → (1 ≤ owed) × IsOwed next.state (owed - 1)
offline_owed v k used owed room b next h space there off e =
    owed_offline k owed b next space h.owed_for (ap (λ (x : KeptSpace). is_in b.0 x.state.isolated) h.left ∙ there) (ap (λ (x : KeptSpace). is_in b.0 x.state.offline) h.left ∙ off) e

pub online_owed : (v : JournaledSpace) (k : KeptSpace) (used owed room : ℕ) (b : BlockNo) (next : KeptSpace) → IsLeftBy v k used owed room → IsSpace k.sizes k.online k.state → is_in b.0 (space_state v).offline ≡ true → next ≡ behind (Online b) k → (1 ≤ owed) × IsOwed next.state (owed - 1)
online_owed v k used owed room b next h space there e =
    owed_online k owed b next space h.owed_for (ap (λ (x : KeptSpace). is_in b.0 x.state.offline) h.left ∙ there) e

-- what a call that didn't fail promised
pub promised : {T E : Type 0} (r : Result T E) (P : Type 0) → is_err r ≡ false → OnOk r P → P
promised (Ok x) P h p = p
promised (Err e) P h p = absurd (false≢true (sym h))
