-- A node of the tree, and its halves.
use Rattle.std.proofs.Common.{◌≡◌, ℕ, suc, ◌+◌, ◌-◌, ◌*◌, ◌%◌, ◌^◌, ◌≤◌, ◌<◌, Bool, true, false, cond, eqb, leb, ◌&&◌, ◌++◌, length, replicate, Option, Some, None, Box, bit_or, refl, sym, ap, ◌∙◌, subst, arith, inl, inr}
use Rattle.std.specs.declared.alloc.Global.{Global}
use Rattle.std.proofs.lemmas.Nat.{one_shl, pow_pos}
use Rattle.std.proofs.lemmas.Bool.{and_parts, and_from, cases_Bool, cond-true, cond-false, le-leb, leb-true, eq-eqb, ne_eqb, false≢true}
use Rattle.std.proofs.lemmas.Option.{none-some, same_Some}
use Rattle.std.proofs.lemmas.List.{length-append, length-replicate, replicate-append-replicate}
use Rattle.buddy.specs.declared.tree.Tree.{Tree}
use Rattle.buddy.specs.declared.tree.Halves.{Halves}
use Rattle.buddy.specs.declared.tree.Halves.TheVariants.{Two}
use Rattle.buddy.specs.Parts.{Part}
use Rattle.buddy.specs.TreeInside.{orders_of, alike, flags, handed}
use Rattle.buddy.specs.TreeNode.{halves_free, part_of, IsHalf, IsNode}
use Rattle.buddy.proofs.Powers.{pow_double}
use Rattle.buddy.proofs.Orders.{orders_of_join, orders_of_join_whole, orders_of_none, orders_of_all, flags_same}

pub shift_one : (k : ℕ) → k ≤ 16 → (1 * 2 ^ k) % 2 ^ 32 ≡ 2 ^ k
shift_one k h = one_shl k 32 (omega arith)

pub shift_one_64 : (k : ℕ) → k ≤ 16 → (1 * 2 ^ k) % 2 ^ 64 ≡ 2 ^ k
shift_one_64 k h = one_shl k 64 (omega arith)

-- the order of a half, and its number of frames
pub half_order : (top order : ℕ) (half : Part) → IsHalf top order half → half.order ≡ order - 1
half_order top order half h = omega (arith, h.order_below)

pub half_length : (top order : ℕ) (half : Part) → IsHalf top order half → length half.free ≡ 2 ^ (order - 1)
half_length top order half h = h.places ∙ ap (λ (k : ℕ). 2 ^ k) (half_order top order half h)

pub half_orders : (top order : ℕ) (half : Part) → IsHalf top order half → orders_of half.top half.order half.free ≡ orders_of top (order - 1) half.free
half_orders top order half h =
    ap (λ (t : ℕ). orders_of t half.order half.free) h.same_top ∙ ap (λ (k : ℕ). orders_of top k half.free) (half_order top order half h)

pub some_order : (top order : ℕ) (half : Part) → IsHalf top order half → suc (order - 1) ≡ order
some_order top order half h = omega (arith, h.order_below)

-- the orders of a part from those of its halves, a and b
pub join_whole : (top order : ℕ) (low high : Part) (a b : ℕ) → IsHalf top order low → IsHalf top order high → order ≤ top → a ≡ orders_of low.top low.order low.free → b ≡ orders_of high.top high.order high.free → a ≡ 2 ^ (order - 1) → b ≡ 2 ^ (order - 1) → 2 ^ order ≡ orders_of top order (low.free ++ high.free)
join_whole top order low high a b l h within ea eb wa wb =
    let order_is = some_order top order low l in
    sym (ap (λ (n : ℕ). 2 ^ n) order_is) ∙ sym (orders_of_join_whole top (order - 1) low.free high.free (omega (arith, order_is)) (sym (half_orders top order low l) ∙ sym ea ∙ wa) (sym (half_orders top order high h) ∙ sym eb ∙ wb))
    ∙ ap (λ (n : ℕ). orders_of top n (low.free ++ high.free)) order_is

pub join_split : (top order : ℕ) (low high : Part) (a b : ℕ) → IsHalf top order low → IsHalf top order high → a ≡ orders_of low.top low.order low.free → b ≡ orders_of high.top high.order high.free → (order ≤ top → a ≡ 2 ^ (order - 1) → b ≡ 2 ^ (order - 1) → ⊥) → bit_or a b ≡ orders_of top order (low.free ++ high.free)
join_split top order low high a b l h ea eb none =
    let order_is = some_order top order low l in
    let low_is = ea ∙ half_orders top order low l in
    let high_is = eb ∙ half_orders top order high h in
    ap (λ (x : ℕ). bit_or x b) low_is ∙ ap (λ (x : ℕ). bit_or (orders_of top (order - 1) low.free) x) high_is
    ∙ sym (orders_of_join top (order - 1) low.free high.free (half_length top order low l) (half_length top order high h) (λ w x y. none (omega (arith, w, order_is)) (low_is ∙ x) (high_is ∙ y)))
    ∙ ap (λ (n : ℕ). orders_of top n (low.free ++ high.free)) order_is

-- the bits of a part with no free frame, and of one with all frames free
pub alike_all : (top order : ℕ) → order ≤ top → alike top order (2 ^ order) ≡ Some true
alike_all top order h =
    cond-false (eqb (2 ^ order) 0) (Some false) (cond (leb order top && eqb (2 ^ order) (2 ^ order)) (Some true) None) (ne_eqb (2 ^ order) 0 (λ z. omega (arith, z, pow_pos order)))
    ∙ cond-true (leb order top && eqb (2 ^ order) (2 ^ order)) (Some true) None (and_from (leb order top) (eqb (2 ^ order) (2 ^ order)) (le-leb order top h) (eq-eqb (2 ^ order) (2 ^ order) refl))

-- frames are all free only in a part that may be a run
pub alike_within : (top order orders : ℕ) → alike top order orders ≡ Some true → order ≤ top
alike_within top order orders e =
    elim (cases_Bool (eqb orders 0)) [
      | inl z ↦ absurd (false≢true (same_Some false true (sym (cond-true (eqb orders 0) (Some false) (cond (leb order top && eqb orders (2 ^ order)) (Some true) None) z) ∙ e)))
      | inr nz ↦ elim (cases_Bool (leb order top && eqb orders (2 ^ order))) [
        | inl w ↦ leb-true order top (and_parts (leb order top) (eqb orders (2 ^ order)) w).0
        | inr w ↦ absurd (none-some true (sym (cond-false (leb order top && eqb orders (2 ^ order)) (Some true) None w) ∙ sym (cond-false (eqb orders 0) (Some false) (cond (leb order top && eqb orders (2 ^ order)) (Some true) None) nz) ∙ e))
      ]
    ]

pub node_none : (top order orders : ℕ) (halves : Halves) → IsNode top order orders halves → IsNode top order 0 halves
node_none top order orders halves n =
    record { small = n.small; in_halves = n.in_halves; bits = sym (orders_of_none top order) }

pub node_all : (top order orders : ℕ) (halves : Halves) → order ≤ top → IsNode top order orders halves → IsNode top order (2 ^ order) halves
node_all top order orders halves h n = record {
  small = n.small;
  in_halves = n.in_halves;
  bits = sym (ap (λ (o : Option Bool). orders_of top order (flags o order (halves_free halves))) (alike_all top order h) ∙ orders_of_all top order h);
}

pub part_of_all : (top order : ℕ) (halves : Halves) → order ≤ top → part_of top order (2 ^ order) halves ≡ record { top = top; order = order; free = replicate (2 ^ order) true }
part_of_all top order halves h =
    ap (λ (o : Option Bool). let p : Part = record { top = top; order = order; free = flags o order (halves_free halves) } in p) (alike_all top order h)

-- a part that is handed what its node says of all frames is a half still
pub half_handed : (top order : ℕ) (all : Option Bool) (half : Part) → IsHalf top order half → IsHalf top order (handed all half)
half_handed top order None half h = h
half_handed top order (Some b) half h =
    record { same_top = h.same_top; order_below = h.order_below; places = length-replicate (2 ^ half.order) b }

-- both halves then say what the node says
pub handed_free : (top order : ℕ) (all : Option Bool) (low high : Part) → IsHalf top order low → IsHalf top order high → (handed all low).free ++ (handed all high).free ≡ flags all order (low.free ++ high.free)
handed_free top order None low high l h = refl
handed_free top order (Some b) low high l h =
    replicate-append-replicate (2 ^ low.order) (2 ^ high.order) b
    ∙ ap (λ (n : ℕ). replicate n b) (ap (λ (k : ℕ). 2 ^ k + 2 ^ high.order) (half_order top order low l) ∙ ap (λ (k : ℕ). 2 ^ (order - 1) + 2 ^ k) (half_order top order high h) ∙ sym (pow_double (order - 1)) ∙ ap (λ (k : ℕ). 2 ^ k) (some_order top order low l))

-- a node whose bits are those of its halves
pub free_length : (top order : ℕ) (low high : Part) → IsHalf top order low → IsHalf top order high → length (low.free ++ high.free) ≡ 2 ^ order
free_length top order low high l h =
    length-append low.free high.free ∙ omega (arith, half_length top order low l, half_length top order high h, pow_double (order - 1), ap (λ (k : ℕ). 2 ^ k) (some_order top order low l))

pub joined_free : (top order orders : ℕ) (low high : Part) → IsHalf top order low → IsHalf top order high → orders ≡ orders_of top order (low.free ++ high.free) → flags (alike top order orders) order (low.free ++ high.free) ≡ low.free ++ high.free
joined_free top order orders low high l h e =
    ap (λ (n : ℕ). flags (alike top order n) order (low.free ++ high.free)) e ∙ flags_same top order (low.free ++ high.free) (free_length top order low high l h)

pub joined_node : (top order orders : ℕ) (low high : Box Tree Global) → order ≤ 16 → IsHalf top order low.value → IsHalf top order high.value → orders ≡ orders_of top order (low.value.free ++ high.value.free) → IsNode top order orders (Two low high)
joined_node top order orders low high small l h e =
    record { small = small; in_halves = (l, h); bits = e ∙ ap (orders_of top order) (sym (joined_free top order orders low.value high.value l h e)) }

-- the bits of a node, by what it is seen as
pub node_bits : (top order orders : ℕ) (halves : Halves) (p : Part) → part_of top order orders halves ≡ p → IsNode top order orders halves → orders ≡ orders_of p.top p.order p.free
node_bits top order orders halves p view node = node.bits ∙ ap (λ (q : Part). orders_of q.top q.order q.free) view

-- a half has a lower order, and a run that fits its frames is inside it
pub half_below : (order : ℕ) (half p : Part) (top : ℕ) → IsHalf top order half → p ≡ half → p.order < order
half_below order half p top h e = omega (arith, h.order_below, ap (λ (q : Part). q.order) e)

pub room_in : (order first n : ℕ) (half p : Part) (top : ℕ) → IsHalf top order half → p ≡ half → first + n ≤ 2 ^ (order - 1) → first + n ≤ 2 ^ p.order
room_in order first n half p top h e room =
    subst (λ (k : ℕ). first + n ≤ 2 ^ k) (sym (ap (λ (q : Part). q.order) e ∙ half_order top order half h)) room
