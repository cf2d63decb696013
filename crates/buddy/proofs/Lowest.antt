-- The lowest free run of an order.
use Rattle.std.proofs.Common.{◌≡◌, ◌≢◌, ℕ, zero, suc, ◌+◌, ◌-◌, ◌%◌, ◌^◌, ◌≤◌, ◌<◌, Bool, true, false, cond, eqb, leb, ◌&&◌, ◌||◌, List, ◌++◌, take, drop, Option, Some, None, bit_or, max, refl, sym, ap, ◌∙◌, subst, arith, inl, inr}
use Rattle.std.specs.Int.{bit_at}
use Rattle.std.specs.Option.{option_or, option_map, is_some}
use Rattle.std.proofs.lemmas.Bool.{and_parts, and_left, and_right, cases_Bool, cases_eq, cond-true, cond-false, leb-true, eq-eqb, ne_eqb, eqb-true}
use Rattle.std.proofs.lemmas.Option.{none-some, same_Some, cond_some}
use Rattle.std.proofs.lemmas.Nat.Bits.{bit_at_or, bit_at-zero, bit_at-pow_same, bit_at-pow_other, bit_at-lt}
use Rattle.std.proofs.lemmas.List.{take_at, drop_at}
use Rattle.buddy.specs.Parts.{Part, is_whole, lowest_run}
use Rattle.buddy.specs.TreeInside.{orders_of, alike}
use Rattle.buddy.specs.TreeNode.{IsHalf}
use Rattle.buddy.proofs.Powers.{pow_double, pow_multiple, multiple_add, order_inside}
use Rattle.buddy.proofs.Orders.{orders_of-whole, orders_of-split}
use Rattle.buddy.proofs.Nodes.{half_length, half_order, some_order}
use Rattle.evac_model.proofs.Options.{none_from_test, some_from_test}

pub in_part : (t n : ℕ) (free : List Bool) → is_whole t (suc n) free ≡ true → (w : ℕ) → lowest_run t (suc n) free w ≡ cond (eqb w (suc n)) (Some 0) None
in_part t n free h w =
    cond-true (is_whole t (suc n) free) (cond (eqb w (suc n)) (Some 0) None) (option_or (lowest_run t n (take (2 ^ n) free) w) (option_map (λ place. 2 ^ n + place) (lowest_run t n (drop (2 ^ n) free) w))) h

pub in_halves : (t n : ℕ) (free : List Bool) → is_whole t (suc n) free ≡ false → (w : ℕ) → lowest_run t (suc n) free w ≡ option_or (lowest_run t n (take (2 ^ n) free) w) (option_map (λ place. 2 ^ n + place) (lowest_run t n (drop (2 ^ n) free) w))
in_halves t n free h w =
    cond-false (is_whole t (suc n) free) (cond (eqb w (suc n)) (Some 0) None) (option_or (lowest_run t n (take (2 ^ n) free) w) (option_map (λ place. 2 ^ n + place) (lowest_run t n (drop (2 ^ n) free) w))) h

-- no run is of a higher order than the part
pub lowest_run-past : (t n : ℕ) (free : List Bool) (w : ℕ) → n < w → lowest_run t n free w ≡ None
lowest_run-past t zero free w h =
    cond-false (is_whole t 0 free && eqb w 0) (Some 0) None (and_right (is_whole t 0 free) (eqb w 0) (ne_eqb w 0 (λ e. omega (arith, e, h))))
lowest_run-past t (suc k) free w h =
    elim (cases_Bool (is_whole t (suc k) free)) [
      | inl y ↦ in_part t k free y w ∙ cond-false (eqb w (suc k)) (Some 0) None (ne_eqb w (suc k) (λ e. omega (arith, e, h)))
      | inr n ↦
          in_halves t k free n w
          ∙ ap (λ (o : Option ℕ). option_or o (option_map (λ place. 2 ^ k + place) (lowest_run t k (drop (2 ^ k) free) w))) (lowest_run-past t k (take (2 ^ k) free) w (omega arith))
          ∙ ap (λ (o : Option ℕ). option_map (λ place. 2 ^ k + place) o) (lowest_run-past t k (drop (2 ^ k) free) w (omega arith))
    ]

-- the place of a run: a multiple of its frames, inside the part
pub record IsPlace (t n w place : ℕ) : Type 0 where
  pub multiple : place % 2 ^ w ≡ 0
  pub within : place + 2 ^ w ≤ 2 ^ n
  pub runs : w ≤ t

place_first : (t n w place : ℕ) → w ≡ n → 0 ≡ place → n ≤ t → IsPlace t n w place
place_first t n w place e z h =
    subst (λ (p : ℕ). IsPlace t n w p) z (subst (λ (k : ℕ). IsPlace t n k 0) (sym e) (record { multiple = omega arith; within = omega arith; runs = h }))

place_low : (t k w place : ℕ) → IsPlace t k w place → IsPlace t (suc k) w place
place_low t k w place i = record { multiple = i.multiple; within = omega (arith, i.within, pow_double k); runs = i.runs }

place_high : (t k w place : ℕ) → IsPlace t k w place → IsPlace t (suc k) w (2 ^ k + place)
place_high t k w place i = record {
  multiple = multiple_add (2 ^ w) (2 ^ k) place (pow_multiple w k (order_inside w k place i.within)) i.multiple;
  within = omega (arith, i.within, pow_double k);
  runs = i.runs;
}

place_of_two : (t k w : ℕ) (low high : Option ℕ) (place : ℕ) → ((x : ℕ) → low ≡ Some x → IsPlace t k w x) → ((x : ℕ) → high ≡ Some x → IsPlace t k w x) → option_or low (option_map (λ x. 2 ^ k + x) high) ≡ Some place → IsPlace t (suc k) w place
place_of_two t k w (Some x) high place l h e = subst (λ (p : ℕ). IsPlace t (suc k) w p) (same_Some x place e) (place_low t k w x (l x refl))
place_of_two t k w None (Some y) place l h e = subst (λ (p : ℕ). IsPlace t (suc k) w p) (same_Some (2 ^ k + y) place e) (place_high t k w y (h y refl))
place_of_two t k w None None place l h e = absurd (none-some place e)

pub lowest_run-place : (t n : ℕ) (free : List Bool) (w place : ℕ) → lowest_run t n free w ≡ Some place → IsPlace t n w place
lowest_run-place t zero free w place e =
    let found = cond_some (is_whole t 0 free && eqb w 0) 0 place e in
    place_first t 0 w place (eqb-true w 0 (and_parts (is_whole t 0 free) (eqb w 0) found.0).1) found.1 (omega arith)
lowest_run-place t (suc k) free w place e =
    elim (cases_Bool (is_whole t (suc k) free)) [
      | inl y ↦
          let found = cond_some (eqb w (suc k)) 0 place (sym (in_part t k free y w) ∙ e) in
          place_first t (suc k) w place (eqb-true w (suc k) found.0) found.1 (whole_order t (suc k) free y)
      | inr n ↦
          place_of_two t k w (lowest_run t k (take (2 ^ k) free) w) (lowest_run t k (drop (2 ^ k) free) w) place
          (λ x. lowest_run-place t k (take (2 ^ k) free) w x) (λ x. lowest_run-place t k (drop (2 ^ k) free) w x) (sym (in_halves t k free n w) ∙ e)
    ]
  where
    whole_order : (t n : ℕ) (free : List Bool) → is_whole t n free ≡ true → n ≤ t
    whole_order t n free y = leb-true n t (and_parts _ _ y).0

-- a run of the part's own order begins at its first place
pub lowest_run-own : (t n : ℕ) (free : List Bool) (place : ℕ) → lowest_run t n free n ≡ Some place → lowest_run t n free n ≡ Some 0
lowest_run-own t n free place e =
    e ∙ ap (λ (p : ℕ). Some p) (omega (arith, (lowest_run-place t n free n place e).within))

-- the bits tell which runs there are
is_some_cond : (b : Bool) → is_some {T = ℕ} (cond b (Some 0) None) ≡ b
is_some_cond true = refl
is_some_cond false = refl

is_some_two : (a b : Option ℕ) (k : ℕ) → is_some (option_or a (option_map (λ place. 2 ^ k + place) b)) ≡ (is_some a || is_some b)
is_some_two (Some x) b k = refl
is_some_two None (Some y) k = refl
is_some_two None None k = refl

pow_bit : (n w : ℕ) → eqb (bit_at (2 ^ n) w) 1 ≡ eqb w n
pow_bit n w =
    elim (cases_eq w n) [
      | inl e ↦ eq-eqb (bit_at (2 ^ n) w) 1 (ap (λ (k : ℕ). bit_at (2 ^ n) k) e ∙ bit_at-pow_same n) ∙ sym (eq-eqb w n e)
      | inr ne ↦ ap (λ (x : ℕ). eqb x 1) (bit_at-pow_other n w ne) ∙ sym (ne_eqb w n ne)
    ]

max_bit : (x y : ℕ) → x < 2 → y < 2 → eqb (max x y) 1 ≡ (eqb x 1 || eqb y 1)
max_bit zero zero a b = refl
max_bit zero (suc zero) a b = refl
max_bit (suc zero) zero a b = refl
max_bit (suc zero) (suc zero) a b = refl
max_bit (suc (suc x)) y a b = absurd (omega arith)
max_bit zero (suc (suc y)) a b = absurd (omega arith)
max_bit (suc zero) (suc (suc y)) a b = absurd (omega arith)

or_bit : (x y w : ℕ) → eqb (bit_at (bit_or x y) w) 1 ≡ (eqb (bit_at x w) 1 || eqb (bit_at y w) 1)
or_bit x y w = ap (λ (n : ℕ). eqb n 1) (bit_at_or x y w) ∙ max_bit (bit_at x w) (bit_at y w) (bit_at-lt x w) (bit_at-lt y w)

pub has_order : (t n : ℕ) (free : List Bool) (w : ℕ) → is_some (lowest_run t n free w) ≡ eqb (bit_at (orders_of t n free) w) 1
has_order t zero free w =
    is_some_cond (is_whole t 0 free && eqb w 0)
    ∙ elim (cases_Bool (is_whole t 0 free)) [
      | inl y ↦ ap (λ (b : Bool). b && eqb w 0) y ∙ sym (pow_bit 0 w) ∙ ap (λ (n : ℕ). eqb (bit_at n w) 1) (sym (cond-true {A = ℕ} (is_whole t 0 free) 1 0 y))
      | inr n ↦ and_left (is_whole t 0 free) (eqb w 0) n ∙ sym (ap (λ (k : ℕ). eqb k 1) (bit_at-zero w)) ∙ ap (λ (n : ℕ). eqb (bit_at n w) 1) (sym (cond-false {A = ℕ} (is_whole t 0 free) 1 0 n))
    ]
has_order t (suc k) free w =
    elim (cases_Bool (is_whole t (suc k) free)) [
      | inl y ↦
          ap is_some (in_part t k free y w) ∙ is_some_cond (eqb w (suc k)) ∙ sym (pow_bit (suc k) w)
          ∙ ap (λ (n : ℕ). eqb (bit_at n w) 1) (sym (orders_of-whole t (suc k) free y))
      | inr n ↦
          ap is_some (in_halves t k free n w)
          ∙ is_some_two (lowest_run t k (take (2 ^ k) free) w) (lowest_run t k (drop (2 ^ k) free) w) k
          ∙ ap (λ (b : Bool). b || is_some (lowest_run t k (drop (2 ^ k) free) w)) (has_order t k (take (2 ^ k) free) w)
          ∙ ap (λ (b : Bool). eqb (bit_at (orders_of t k (take (2 ^ k) free)) w) 1 || b) (has_order t k (drop (2 ^ k) free) w)
          ∙ sym (or_bit (orders_of t k (take (2 ^ k) free)) (orders_of t k (drop (2 ^ k) free)) w)
          ∙ ap (λ (m : ℕ). eqb (bit_at m w) 1) (sym (orders_of-split t k free n))
    ]

-- a bit that is clear, and one that is set
pub none_there : (t n orders : ℕ) (free : List Bool) (w : ℕ) → orders ≡ orders_of t n free → bit_at orders w ≡ 0 → lowest_run t n free w ≡ None
none_there t n orders free w e z =
    none_from_test (lowest_run t n free w) (has_order t n free w ∙ ap (λ (m : ℕ). eqb (bit_at m w) 1) (sym e) ∙ ap (λ (x : ℕ). eqb x 1) z)

some_there : (t n orders : ℕ) (free : List Bool) (w : ℕ) → orders ≡ orders_of t n free → bit_at orders w ≢ 0 → is_some (lowest_run t n free w) ≡ true
some_there t n orders free w e nz =
    has_order t n free w ∙ ap (λ (m : ℕ). eqb (bit_at m w) 1) (sym e) ∙ eq-eqb (bit_at orders w) 1 (omega (arith, bit_at-lt orders w, nz))

pub own_there : (t n orders : ℕ) (free : List Bool) (w : ℕ) → orders ≡ orders_of t n free → bit_at orders w ≢ 0 → w ≡ n → Some 0 ≡ lowest_run t n free w
own_there t n orders free w e nz same =
    let there = some_from_test (lowest_run t n free n) (some_there t n orders free n e (λ z. nz (ap (bit_at orders) same ∙ z))) in
    sym (ap (lowest_run t n free) same ∙ lowest_run-own t n free there.0 there.1)

-- frames that aren't alike, where an order below the part's own is there
pub not_alike : (t n orders : ℕ) (w : ℕ) → bit_at orders w ≢ 0 → w ≢ n → alike t n orders ≡ None
not_alike t n orders w nz ne =
    cond-false (eqb orders 0) (Some false) (cond (leb n t && eqb orders (2 ^ n)) (Some true) None) (ne_eqb orders 0 (λ z. nz (ap (λ (m : ℕ). bit_at m w) z ∙ bit_at-zero w)))
    ∙ cond-false (leb n t && eqb orders (2 ^ n)) (Some true) None (and_right (leb n t) (eqb orders (2 ^ n)) (ne_eqb orders (2 ^ n) (λ z. nz (ap (λ (m : ℕ). bit_at m w) z ∙ bit_at-pow_other n w ne))))

not_whole : (t k orders : ℕ) (free : List Bool) (w : ℕ) → orders ≡ orders_of t (suc k) free → bit_at orders w ≢ 0 → w ≢ suc k → is_whole t (suc k) free ≡ false
not_whole t k orders free w e nz ne =
    elim (cases_Bool (is_whole t (suc k) free)) [
      | inl y ↦ absurd (nz (ap (λ (m : ℕ). bit_at m w) (e ∙ orders_of-whole t (suc k) free y) ∙ bit_at-pow_other (suc k) w ne))
      | inr n ↦ n
    ]

-- the lowest run of a part from those of its halves
pub lowest_of_halves : (t order orders w : ℕ) (was : List Bool) (low high : Part) → IsHalf t order low → IsHalf t order high → low.free ++ high.free ≡ was → orders ≡ orders_of t order was → bit_at orders w ≢ 0 → w ≢ order → lowest_run t order was w ≡ option_or (lowest_run low.top low.order low.free w) (option_map (λ place. 2 ^ (order - 1) + place) (lowest_run high.top high.order high.free w))
lowest_of_halves t order orders w was low high l h same bits nz ne =
    let k = order - 1 in
    let own : suc (order - 1) ≡ order = some_order t order low l in
    ap (λ (n : ℕ). lowest_run t n was w) (sym own)
    ∙ in_halves t (order - 1) was (not_whole t (order - 1) orders was w (bits ∙ ap (λ (n : ℕ). orders_of t n was) (sym own)) nz (λ z. ne (z ∙ own))) w
    ∙ ap (λ (xs : List Bool). option_or (lowest_run t (order - 1) (take (2 ^ (order - 1)) xs) w) (option_map (λ place. 2 ^ (order - 1) + place) (lowest_run t (order - 1) (drop (2 ^ (order - 1)) xs) w))) (sym same)
    ∙ ap (λ (xs : List Bool). option_or (lowest_run t (order - 1) xs w) (option_map (λ place. 2 ^ (order - 1) + place) (lowest_run t (order - 1) (drop (2 ^ (order - 1)) (low.free ++ high.free)) w))) (take_at low.free high.free (2 ^ (order - 1)) (half_length t order low l))
    ∙ ap (λ (xs : List Bool). option_or (lowest_run t (order - 1) low.free w) (option_map (λ place. 2 ^ (order - 1) + place) (lowest_run t (order - 1) xs w))) (drop_at low.free high.free (2 ^ (order - 1)) (half_length t order low l))
    ∙ ap (λ (o : Option ℕ). option_or o (option_map (λ place. 2 ^ (order - 1) + place) (lowest_run t (order - 1) high.free w))) (sym (lowest_of_half t order w low l))
    ∙ ap (λ (o : Option ℕ). option_or (lowest_run low.top low.order low.free w) (option_map (λ place. 2 ^ (order - 1) + place) o)) (sym (lowest_of_half t order w high h))
  where
    lowest_of_half : (t order w : ℕ) (half : Part) → IsHalf t order half → lowest_run half.top half.order half.free w ≡ lowest_run t (order - 1) half.free w
    lowest_of_half t order w half h =
        ap (λ (x : ℕ). lowest_run x half.order half.free w) h.same_top ∙ ap (λ (n : ℕ). lowest_run t n half.free w) (half_order t order half h)
