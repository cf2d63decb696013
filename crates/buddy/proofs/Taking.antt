-- The run that the trees choose is a run of the machine, and what is left once it is taken.
use Rattle.std.proofs.Common.{◌≡◌, ℕ, zero, suc, ◌+◌, ◌*◌, ◌%◌, ◌^◌, ◌<◌, ◌≤◌, Bool, true, false, cond, eqb, leb, ltb, ◌&&◌, not, List, [], ◌∷◌, length, take, drop, map, Option, Some, None, refl, sym, ap, ◌∙◌, subst, arith, inl, inr}
use Rattle.std.specs.List.{list_all, range_with_len}
use Rattle.std.specs.Option.{option_or, option_map}
use Rattle.std.proofs.lemmas.Bool.{cases_lt, cases_Bool, and_parts, and_from, lt-ltb, le-ltb, le-leb, eq-eqb, both_ways, and_left}
use Rattle.std.proofs.lemmas.Option.{none-some, same_Some, cond_some}
use Rattle.std.proofs.lemmas.List.{get_or-take, get_or-drop, length-take-le, length-drop, ext_get_or}
use Rattle.std.proofs.lemmas.List.FromFn.{length-map-range_with_len, get_or-map-range_with_len}
use Rattle.evac_model.specs.declared.names.Kind.{Kind}
use Rattle.evac_model.specs.Geometry.{Sizes, frame_count}
use Rattle.evac_model.specs.Numbers.{numbers_where, is_in, is_between, IsRisingBelow}
use Rattle.evac_model.specs.FreeRuns.{is_run}
use Rattle.evac_model.proofs.Numbers.{numbers_agree, is_in-numbers_where}
use Rattle.buddy.specs.FreeFrames.{FreeFrames, after_take}
use Rattle.buddy.specs.Parts.{Part, is_whole, lowest_run}
use Rattle.buddy.specs.Choice.{part_free, choice_of_order, first_choice, tree_choice}
use Rattle.buddy.specs.RunsInside.{flag, is_free, HasRoomFor, frames_of, IsKept}
use Rattle.std.proofs.Math.Nat.{mul-le-mul_right}
use Rattle.buddy.proofs.Powers.{pow_double, pow_le, le_from_pow, multiple_add}
use Rattle.buddy.proofs.Lowest.{in_part, in_halves, lowest_run-place, IsPlace}
use Rattle.buddy.proofs.Places.{blocks_multiple, frames_split}
use Rattle.buddy.proofs.FrameFlags.{free_in_boot, free_in_managed}
use Rattle.buddy.proofs.Setting.{set_frames}
use Rattle.buddy.proofs.Blocks.{without}
use Rattle.buddy.proofs.Aligned.{aligned_less}
use Rattle.evac_model.proofs.Unions.{without_range-below}

-- the first frame of a free run is free
first_flag : (free : List Bool) → 0 < length free → list_all (λ (b : Bool). b) free ≡ true → flag free 0 ≡ true
first_flag [] h all = absurd (omega arith)
first_flag (b ∷ free) h all = (and_parts b (list_all (λ (x : Bool). x) free) all).0

whole_first : (t n place : ℕ) (free : List Bool) → 0 < length free → is_whole t n free ≡ true → 0 ≡ place → flag free place ≡ true
whole_first t n place free h w z =
    sym (ap (flag free) z) ∙ first_flag free h (and_parts (leb n t) (list_all (λ (b : Bool). b) free) w).1

first_of_two : (k : ℕ) (low high : Option ℕ) (place : ℕ) (is : ℕ → Bool) → ((x : ℕ) → low ≡ Some x → is x ≡ true) → ((x : ℕ) → high ≡ Some x → is (2 ^ k + x) ≡ true) → option_or low (option_map (λ x. 2 ^ k + x) high) ≡ Some place → is place ≡ true
first_of_two k (Some x) high place is l h e = sym (ap is (same_Some x place e)) ∙ l x refl
first_of_two k None (Some y) place is l h e = sym (ap is (same_Some (2 ^ k + y) place e)) ∙ h y refl
first_of_two k None None place is l h e = absurd (none-some place e)

pub lowest_run-free : (t n : ℕ) (free : List Bool) (w place : ℕ) → length free ≡ 2 ^ n → lowest_run t n free w ≡ Some place → flag free place ≡ true
lowest_run-free t zero free w place len e =
    let found = cond_some (is_whole t 0 free && eqb w 0) 0 place e in
    whole_first t 0 place free (omega (arith, len)) (and_parts (is_whole t 0 free) (eqb w 0) found.0).0 found.1
lowest_run-free t (suc k) free w place len e =
    let some : 0 < length free = omega (arith, len, pow_le 0 (suc k) (omega arith)) in
    elim (cases_Bool (is_whole t (suc k) free)) [
      | inl y ↦ whole_first t (suc k) place free some y (cond_some (eqb w (suc k)) 0 place (sym (in_part t k free y w) ∙ e)).1
      | inr n0 ↦
          first_of_two k (lowest_run t k (take (2 ^ k) free) w) (lowest_run t k (drop (2 ^ k) free) w) place (flag free)
          (λ x s. sym (get_or-take (2 ^ k) free x false (below (lowest_run-place t k (take (2 ^ k) free) w x s))) ∙ lowest_run-free t k (take (2 ^ k) free) w x (length-take-le (2 ^ k) free (omega (arith, len, pow_double k))) s)
          (λ x s. sym (get_or-drop (2 ^ k) free x false) ∙ lowest_run-free t k (drop (2 ^ k) free) w x (omega (arith, length-drop (2 ^ k) free, len, pow_double k)) s)
          (sym (in_halves t k free n0 w) ∙ e)
    ]
  where
    below : {x : ℕ} → IsPlace t k w x → x < 2 ^ k
    below i = omega (arith, i.within, pow_le 0 w (omega arith))

-- the order at which a run is found
record IsFoundAt (f : ℕ → Option ℕ) (a first : ℕ) : Type 0 where
  wanted : ℕ
  from : a ≤ wanted
  is : f wanted ≡ Some first

found_later : (f : ℕ → Option ℕ) (a first : ℕ) → IsFoundAt f (a + 1) first → IsFoundAt f a first
found_later f a first later = record { wanted = later.wanted; from = omega (arith, later.from); is = later.is }

found_first : (f : ℕ → Option ℕ) (a first : ℕ) (o rest : Option ℕ) → f a ≡ o → (rest ≡ Some first → IsFoundAt f (a + 1) first) → option_or o rest ≡ Some first → IsFoundAt f a first
found_first f a first (Some x) rest is later e = record { wanted = a; from = omega arith; is = is ∙ e }
found_first f a first None rest is later e = found_later f a first (later e)

found_order : (f : ℕ → Option ℕ) (a n first : ℕ) → first_choice f (range_with_len a n) ≡ Some first → IsFoundAt f a first
found_order f a zero first e = absurd (none-some first e)
found_order f a (suc n) first e =
    found_first f a first (f a) (first_choice f (range_with_len (a + 1) n)) refl (λ r. found_order f (a + 1) n first r) e

-- a place in one of the trees
pub record IsFoundIn (s : Sizes) (n : ℕ) (p : Part) (w place : ℕ) : Type 0 where
  pub multiple : place % 2 ^ w ≡ 0
  pub runs : w ≤ p.top
  pub below : place < n

found_in : (s : Sizes) (n : ℕ) (p : Part) (w place : ℕ) → HasRoomFor s n p → lowest_run p.top p.order p.free w ≡ Some place → IsFoundIn s n p w place
found_in s n p w place h e =
    let i = lowest_run-place p.top p.order p.free w place e in
    record {
      multiple = i.multiple;
      runs = i.runs;
      below = elim (cases_lt place n) [
        | inl l ↦ l
        | inr g ↦ absurd (both_ways (flag p.free place) (h.never place g) (lowest_run-free p.top p.order p.free w place h.places e))
      ];
    }

is_run_from : (s : Sizes) (order first : ℕ) → first % 2 ^ order ≡ 0 → 2 ^ order ≤ s.block → first < frame_count s → is_run s order first ≡ true
is_run_from s order first m b l =
    and_from (eqb (first % 2 ^ order) 0 && leb (2 ^ order) s.block) (ltb first (frame_count s))
    (and_from (eqb (first % 2 ^ order) 0) (leb (2 ^ order) s.block) (eq-eqb (first % 2 ^ order) 0 m) (le-leb (2 ^ order) s.block b))
    (lt-ltb first (frame_count s) l)

small_order : (s : Sizes) (p : Part) (n order w : ℕ) → HasRoomFor s n p → order ≤ w → w ≤ p.top → 2 ^ order ≤ s.block
small_order s p n order w h l r = omega (arith, pow_le order p.top (omega (arith, l, r)), h.block)

-- the run chosen is a run
pub choice_run : (s : Sizes) (boot managed : Part) (takes : Bool) (order first : ℕ) → HasRoomFor s (s.boot * s.block) boot → HasRoomFor s (s.managed * s.block) managed → tree_choice (s.boot * s.block) boot managed takes order ≡ Some first → is_run s order first ≡ true
choice_run s boot managed takes order first b m e =
    let found = found_order (choice_of_order (s.boot * s.block) boot managed takes) order 10 first e in
    at_order found.wanted found.from takes found.is
  where
    in_boot : (w : ℕ) → order ≤ w → lowest_run boot.top boot.order boot.free w ≡ Some first → is_run s order first ≡ true
    in_boot w l e =
        let f = found_in s (s.boot * s.block) boot w first b e in
        is_run_from s order first (aligned_less order w first l f.multiple) (small_order s boot (s.boot * s.block) order w b l f.runs) (omega (arith, f.below, frames_split s))

    in_managed : (w place : ℕ) → order ≤ w → lowest_run managed.top managed.order managed.free w ≡ Some place → s.boot * s.block + place ≡ first → is_run s order first ≡ true
    in_managed w place l e is =
        let f = found_in s (s.managed * s.block) managed w place m e in
        subst (λ (n : ℕ). is_run s order n ≡ true) is
        (is_run_from s order (s.boot * s.block + place)
        (multiple_add (2 ^ order) (s.boot * s.block) place (blocks_multiple s order managed.top s.boot m.block (omega (arith, l, f.runs))) (aligned_less order w place l f.multiple))
        (small_order s managed (s.managed * s.block) order w m l f.runs)
        (omega (arith, f.below, frames_split s)))

    choose_from : (w : ℕ) (o q : Option ℕ) → order ≤ w → lowest_run boot.top boot.order boot.free w ≡ o → lowest_run managed.top managed.order managed.free w ≡ q → (t : Bool) → option_or o (cond t (option_map (λ place. s.boot * s.block + place) q) None) ≡ Some first → is_run s order first ≡ true
    choose_from w (Some x) q l eo eq t e = in_boot w l (eo ∙ e)
    choose_from w None (Some y) l eo eq true e = in_managed w y l eq (same_Some (s.boot * s.block + y) first e)
    choose_from w None None l eo eq true e = absurd (none-some first e)
    choose_from w None q l eo eq false e = absurd (none-some first e)

    at_order : (w : ℕ) → order ≤ w → (t : Bool) → choice_of_order (s.boot * s.block) boot managed t w ≡ Some first → is_run s order first ≡ true
    at_order w l t e = choose_from w (lowest_run boot.top boot.order boot.free w) (lowest_run managed.top managed.order managed.free w) l refl refl t e

-- the runs once one is taken
pub taken_value : (order first : ℕ) (old : FreeFrames) → IsRisingBelow (frame_count old.sizes) old.free → set_frames first (2 ^ order) false old ≡ after_take order (Some first) old
taken_value order first old rising =
    ap (λ (xs : List ℕ). record old { free = xs })
    (numbers_agree (λ k. cond (is_between first (first + 2 ^ order) k) false (is_in k old.free)) (λ k. is_in k old.free && not (is_between first (first + 2 ^ order) k)) (frame_count old.sizes)
    (λ k l. without (is_between first (first + 2 ^ order) k) (is_in k old.free))
    ∙ sym (without_range-below first (2 ^ order) (frame_count old.sizes) old.free rising))

-- The flags of both trees, from the list of the free frames: a place has the flag of its frame, and those
-- behind the last frame have none.
part_flags : (s : Sizes) (boot managed : List Bool) (base count : ℕ) (p : Part) → HasRoomFor s count p → base + count ≤ frame_count s → ((k : ℕ) → k < count → is_free s boot managed (base + k) ≡ flag p.free k) → p.free ≡ map (λ k. ltb k count && is_in (base + k) (numbers_where (is_free s boot managed) (frame_count s))) (range_with_len 0 (2 ^ p.order))
part_flags s boot managed base count p h room same =
    let places : ℕ → Bool = λ k. ltb k count && is_in (base + k) (numbers_where (is_free s boot managed) (frame_count s)) in
    ext_get_or false p.free (map (λ k. ltb k count && is_in (base + k) (numbers_where (is_free s boot managed) (frame_count s))) (range_with_len 0 (2 ^ p.order)))
    (h.places ∙ sym (length-map-range_with_len (λ k. ltb k count && is_in (base + k) (numbers_where (is_free s boot managed) (frame_count s))) 0 (2 ^ p.order)))
    (λ k l. at_place k ∙ sym (get_or-map-range_with_len (λ j. ltb j count && is_in (base + j) (numbers_where (is_free s boot managed) (frame_count s))) 0 (2 ^ p.order) k k false (omega (arith, l, h.places)) (omega arith)))
  where
    at_place : (k : ℕ) → flag p.free k ≡ (ltb k count && is_in (base + k) (numbers_where (is_free s boot managed) (frame_count s)))
    at_place k =
        elim (cases_lt k count) [
          | inl l ↦
              sym (same k l) ∙ sym (is_in-numbers_where (is_free s boot managed) (frame_count s) (base + k) (omega (arith, l, room)))
              ∙ sym (ap (λ (t : Bool). t && is_in (base + k) (numbers_where (is_free s boot managed) (frame_count s))) (lt-ltb k count l))
          | inr g ↦ h.never k g ∙ sym (and_left (ltb k count) (is_in (base + k) (numbers_where (is_free s boot managed) (frame_count s))) (le-ltb k count g))
        ]

pub boot_flags : (s : Sizes) (online : Kind) (boot managed : Part) (aside withdrawn : List Bool) (old : FreeFrames) → IsKept s boot managed aside withdrawn → frames_of s online boot managed aside withdrawn ≡ old → boot.free ≡ map (λ k. ltb k (s.boot * s.block) && is_in (0 + k) old.free) (range_with_len 0 (2 ^ boot.order))
boot_flags s online boot managed aside withdrawn old h view =
    part_flags s boot.free managed.free 0 (s.boot * s.block) boot h.boot_part (omega (arith, frames_split s))
    (λ k l. ap (is_free s boot.free managed.free) (omega arith) ∙ free_in_boot s boot.free managed.free k l)
    ∙ ap (λ (v : FreeFrames). map (λ k. ltb k (s.boot * s.block) && is_in (0 + k) v.free) (range_with_len 0 (2 ^ boot.order))) view

pub managed_flags : (s : Sizes) (online : Kind) (boot managed : Part) (aside withdrawn : List Bool) (old : FreeFrames) → IsKept s boot managed aside withdrawn → frames_of s online boot managed aside withdrawn ≡ old → managed.free ≡ map (λ k. ltb k (s.managed * s.block) && is_in (s.boot * s.block + k) old.free) (range_with_len 0 (2 ^ managed.order))
managed_flags s online boot managed aside withdrawn old h view =
    part_flags s boot.free managed.free (s.boot * s.block) (s.managed * s.block) managed h.managed_part (omega (arith, frames_split s))
    (λ k l. free_in_managed s boot.free managed.free (s.boot * s.block + k) (omega arith) ∙ ap (flag managed.free) (omega arith))
    ∙ ap (λ (v : FreeFrames). map (λ k. ltb k (s.managed * s.block) && is_in (s.boot * s.block + k) v.free) (range_with_len 0 (2 ^ managed.order))) view

-- a part of order `order` from the list of the free frames: the flags of `count` frames from `base` on
abbrev pub part_of_list : (top order base count : ℕ) → List ℕ → Part
part_of_list top order base count free = record { top = top; order = order; free = part_free free base count order }

same_top : (s : Sizes) (n m : ℕ) (p q : Part) → HasRoomFor s n p → HasRoomFor s m q → p.top ≡ q.top
same_top s n m p q h i =
    omega (arith, le_from_pow p.top q.top (omega (arith, h.block, i.block)), le_from_pow q.top p.top (omega (arith, h.block, i.block)))

-- the trees choose as trees of the flags that the list gives
pub choice_of_list : (s : Sizes) (online : Kind) (boot managed : Part) (aside withdrawn : List Bool) (old : FreeFrames) (takes : Bool) (order : ℕ) → IsKept s boot managed aside withdrawn → frames_of s online boot managed aside withdrawn ≡ old → tree_choice (s.boot * s.block) boot managed takes order ≡ tree_choice (s.boot * s.block) (part_of_list boot.top boot.order 0 (s.boot * s.block) old.free) (part_of_list boot.top managed.order (s.boot * s.block) (s.managed * s.block) old.free) takes order
choice_of_list s online boot managed aside withdrawn old takes order h view =
    let boot_is : boot ≡ part_of_list boot.top boot.order 0 (s.boot * s.block) old.free = ap (λ (xs : List Bool). record boot { free = xs }) (boot_flags s online boot managed aside withdrawn old h view) in
    let managed_is : managed ≡ part_of_list boot.top managed.order (s.boot * s.block) (s.managed * s.block) old.free =
    ap (λ (xs : List Bool). record managed { free = xs }) (managed_flags s online boot managed aside withdrawn old h view)
    ∙ ap (λ (t : ℕ). part_of_list t managed.order (s.boot * s.block) (s.managed * s.block) old.free) (sym (same_top s (s.boot * s.block) (s.managed * s.block) boot managed h.boot_part h.managed_part)) in
    ap (λ (p : Part). tree_choice (s.boot * s.block) p managed takes order) boot_is
    ∙ ap (λ (p : Part). tree_choice (s.boot * s.block) (part_of_list boot.top boot.order 0 (s.boot * s.block) old.free) p takes order) managed_is

-- a tree with room for at least a block is of a block's order at least
pub order_at_least : (s : Sizes) (n : ℕ) (p : Part) → HasRoomFor s (n * s.block) p → 1 ≤ n → p.top ≤ p.order
order_at_least s n p h some =
    le_from_pow p.top p.order (omega (arith, h.block, h.room, mul-le-mul_right s.block some))
