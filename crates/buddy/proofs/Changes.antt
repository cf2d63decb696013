-- What a change of a run in one half leaves.
use Rattle.std.proofs.Common.{◌≡◌, ◌≢◌, ℕ, ◌+◌, ◌-◌, ◌^◌, ◌≤◌, Bool, false, List, ◌++◌, length, replicate, Option, Box, refl, sym, ap, ◌∙◌, subst, arith}
use Rattle.std.specs.declared.alloc.Global.{Global}
use Rattle.buddy.specs.declared.tree.Tree.{Tree}
use Rattle.buddy.specs.declared.tree.Halves.{Halves}
use Rattle.buddy.specs.declared.tree.Halves.TheVariants.{Frame, Two}
use Rattle.buddy.specs.Parts.{Part, replaced}
use Rattle.buddy.specs.TreeInside.{orders_of, alike, flags, handed}
use Rattle.buddy.specs.TreeNode.{halves_free, part_of, AreHalves, IsHalf, IsNode}
use Rattle.buddy.proofs.Powers.{order_inside, pow_double}
use Rattle.buddy.proofs.Flags.{replaced_low, replaced_high, length-replaced}
use Rattle.std.proofs.lemmas.List.{length-replicate}
use Rattle.buddy.proofs.Orders.{orders_of_none}
use Rattle.buddy.proofs.Nodes.{half_length, half_handed, handed_free, joined_free, joined_node, some_order}

-- the halves of a node that is Two, and its flags
pub record AreSplit (top order orders : ℕ) (was : List Bool) (low high : Part) : Type 0 where
  pub is_low : IsHalf top order low
  pub is_high : IsHalf top order high
  pub same : flags (alike top order orders) order (low.free ++ high.free) ≡ was
  pub bits : orders ≡ orders_of top order was

pub split : {top order orders : ℕ} {halves : Halves} {p : Part} {low high : Box Tree Global} → part_of top order orders halves ≡ p → IsNode top order orders halves → halves ≡ Two low high → AreSplit top order orders p.free low.value high.value
split {top} {order} {orders} {halves} {p} {low} {high} view node is =
    let both = subst (AreHalves top order) is node.in_halves in
    record {
      is_low = both.0;
      is_high = both.1;
      same = sym (ap (λ (h : Halves). flags (alike top order orders) order (halves_free h)) is) ∙ ap (λ (q : Part). q.free) view;
      bits = node.bits ∙ ap (λ (q : Part). orders_of top order q.free) view;
    }

-- halves that say what their node says
pub record AreHandedDown (top order : ℕ) (was : List Bool) (low high : Part) : Type 0 where
  pub is_low : IsHalf top order low
  pub is_high : IsHalf top order high
  pub same : low.free ++ high.free ≡ was

pub handed_down : (top order orders : ℕ) (was : List Bool) (l h : Part) (all : Option Bool) (low high : Part) → AreSplit top order orders was l h → all ≡ alike top order orders → low ≡ handed all l → high ≡ handed all h → AreHandedDown top order was low high
handed_down top order orders was l h all low high s e el eh =
    subst (λ (p : Part). AreHandedDown top order was p high) (sym el)
    (subst (λ (p : Part). AreHandedDown top order was (handed all l) p) (sym eh)
    (record {
      is_low = half_handed top order all l s.is_low;
      is_high = half_handed top order all h s.is_high;
      same = handed_free top order all l h s.is_low s.is_high ∙ ap (λ (o : Option Bool). flags o order (l.free ++ h.free)) e ∙ s.same;
    }))

-- the halves of a node, once each was handed what the node says
pub halves_down : {top order orders : ℕ} {halves : Halves} {p l h low' high' : Part} {low high : Box Tree Global} {all : Option Bool} → part_of top order orders halves ≡ p → IsNode top order orders halves → halves ≡ Two low high → all ≡ alike top order orders → l ≡ low.value → low' ≡ handed all l → h ≡ high.value → high' ≡ handed all h → AreHandedDown top order p.free low' high'
halves_down {top} {order} {orders} {halves} {p} {l} {h} {low'} {high'} {low} {high} {all} view node is same at_low el at_high eh =
    handed_down top order orders p.free low.value high.value all low' high' (split view node is) same (el ∙ ap (handed all) at_low) (eh ∙ ap (handed all) at_high)

-- what ends in a part ends in what it is seen as
pub in_order : {p q : Part} {end : ℕ} → p ≡ q → end ≤ 2 ^ q.order → end ≤ 2 ^ p.order
in_order {p} {q} {end} e h = subst (λ (k : ℕ). end ≤ 2 ^ k) (sym (ap (λ (r : Part). r.order) e)) h

-- the orders of two halves that were read
pub joined_bits : (top order : ℕ) {bits : ℕ} {l h low high : Part} → bits ≡ orders_of top order (l.free ++ h.free) → l ≡ low → h ≡ high → bits ≡ orders_of top order (low.free ++ high.free)
joined_bits top order {bits} {l} {h} {low} {high} e el eh =
    e ∙ ap (λ (p : Part). orders_of top order (p.free ++ h.free)) el ∙ ap (λ (p : Part). orders_of top order (low.free ++ p.free)) eh

-- the halves of a part whose frames from first on are others
pub record AreChanged (top order first n : ℕ) (others was : List Bool) (low high : Part) : Type 0 where
  pub is_low : IsHalf top order low
  pub is_high : IsHalf top order high
  pub now : low.free ++ high.free ≡ replaced first n others was

half_with : (top order : ℕ) (half : Part) (free : List Bool) → IsHalf top order half → length free ≡ length half.free → IsHalf top order (record half { free = free })
half_with top order half free h e =
    record { same_top = h.same_top; order_below = h.order_below; places = e ∙ h.places }

pub changed_low : (top order first n : ℕ) (others was : List Bool) (low high new : Part) → AreHandedDown top order was low high → length others ≡ n → first + n ≤ 2 ^ (order - 1) → new ≡ record low { free = replaced first n others low.free } → AreChanged top order first n others was new high
changed_low top order first n others was low high new d len room e =
    let inside : first + n ≤ length low.free = omega (arith, half_length top order low d.is_low) in
    subst (λ (p : Part). AreChanged top order first n others was p high) (sym e)
    (record {
      is_low = half_with top order low (replaced first n others low.free) d.is_low (length-replaced first n others low.free inside len);
      is_high = d.is_high;
      now = replaced_low first n others low.free high.free inside ∙ ap (replaced first n others) d.same;
    })

pub changed_high : (top order first n : ℕ) (others was : List Bool) (low high new : Part) → AreHandedDown top order was low high → length others ≡ n → 2 ^ (order - 1) ≤ first → first - 2 ^ (order - 1) + n ≤ 2 ^ (order - 1) → new ≡ record high { free = replaced (first - 2 ^ (order - 1)) n others high.free } → AreChanged top order first n others was low new
changed_high top order first n others was low high new d len above room e =
    let half = half_length top order low d.is_low in
    subst (λ (p : Part). AreChanged top order first n others was low p) (sym e)
    (record {
      is_low = d.is_low;
      is_high = half_with top order high (replaced (first - 2 ^ (order - 1)) n others high.free) d.is_high (length-replaced (first - 2 ^ (order - 1)) n others high.free (omega (arith, half_length top order high d.is_high, room)) len);
      now = ap (λ (k : ℕ). low.free ++ replaced (first - k) n others high.free) (sym half) ∙ replaced_high first n others low.free high.free (omega (arith, half)) ∙ ap (replaced first n others) d.same;
    })

-- the node over such halves
pub changed_node : (top order orders first n : ℕ) (others was : List Bool) (low high : Box Tree Global) → order ≤ 16 → AreChanged top order first n others was low.value high.value → orders ≡ orders_of top order (low.value.free ++ high.value.free) → IsNode top order orders (Two low high)
changed_node top order orders first n others was low high small d e =
    joined_node top order orders low high small d.is_low d.is_high e

pub changed_part : (top order old orders first n : ℕ) (halves : Halves) (others : List Bool) (p : Part) (low high : Box Tree Global) → part_of top order old halves ≡ p → AreChanged top order first n others p.free low.value high.value → orders ≡ orders_of top order (low.value.free ++ high.value.free) → part_of top order orders (Two low high) ≡ record p { free = replaced first n others p.free }
changed_part top order old orders first n halves others p low high view d e =
    let free : List Bool = replaced first n others p.free in
    let q : List Bool → Part = λ xs. record { top = top; order = order; free = xs } in
    ap q (joined_free top order orders low.value high.value d.is_low d.is_high e ∙ d.now)
    ∙ subst (λ (r : Part). q free ≡ record r { free = free }) view refl

-- a part of one frame has no run of a lower order
pub no_smaller_run : (top order orders j first : ℕ) (halves : Halves) → IsNode top order orders halves → halves ≡ Frame → first + 2 ^ j ≤ 2 ^ order → j ≢ order → ⊥
no_smaller_run top order orders j first halves node is inside ne =
    let zero_order : order ≡ 0 = subst (AreHalves top order) is node.in_halves in
    let below : j ≤ order = order_inside j order first inside in
    ne (omega (arith, zero_order, below))

pub changed_at : (top order first n : ℕ) (others was : List Bool) (p q low high : Part) → AreChanged top order first n others was p q → low ≡ p → high ≡ q → AreChanged top order first n others was low high
changed_at top order first n others was p q low high d el eh =
    subst (λ (x : Part). AreChanged top order first n others was x high) (sym el) (subst (λ (x : Part). AreChanged top order first n others was p x) (sym eh) d)

-- the halves of a part, and the node over them, once all its frames are filled
pub filled_half : (top order : ℕ) (half new : Part) (free : List Bool) → IsHalf top order half → length free ≡ 2 ^ (order - 1) → new ≡ record half { free = free } → IsHalf top order new
filled_half top order half new free h len e =
    subst (IsHalf top order) (sym e) (half_with top order half free h (len ∙ sym (half_length top order half h)))

pub filled_part : (top order old orders : ℕ) (halves : Halves) (free : List Bool) (p : Part) (low high : Box Tree Global) → part_of top order old halves ≡ p → IsHalf top order low.value → IsHalf top order high.value → low.value.free ++ high.value.free ≡ free → orders ≡ orders_of top order (low.value.free ++ high.value.free) → part_of top order orders (Two low high) ≡ record p { free = free }
filled_part top order old orders halves free p low high view l h now e =
    let q : List Bool → Part = λ xs. record { top = top; order = order; free = xs } in
    ap q (joined_free top order orders low.value high.value l h e ∙ now)
    ∙ subst (λ (r : Part). q free ≡ record r { free = free }) view refl

-- half of a part's frames
pub half_frames : (top order : ℕ) (half : Part) → IsHalf top order half → 2 ^ order ≡ 2 ^ (order - 1) + 2 ^ (order - 1)
half_frames top order half h = sym (ap (λ (n : ℕ). 2 ^ n) (some_order top order half h)) ∙ pow_double (order - 1)

-- a node none of whose frames is free, over two such halves
empty_half : (top order : ℕ) (half : Part) → order ≢ 0 → half ≡ record { top = top; order = order - 1; free = replicate (2 ^ (order - 1)) false } → IsHalf top order half
empty_half top order half some e =
    subst (IsHalf top order) (sym e) (record { same_top = refl; order_below = omega (arith, some); places = length-replicate (2 ^ (order - 1)) false })

pub empty_node : (top order : ℕ) (low high : Box Tree Global) → order ≤ 16 → order ≢ 0 → low.value ≡ record { top = top; order = order - 1; free = replicate (2 ^ (order - 1)) false } → high.value ≡ record { top = top; order = order - 1; free = replicate (2 ^ (order - 1)) false } → IsNode top order 0 (Two low high)
empty_node top order low high small some l h =
    record { small = small; in_halves = (empty_half top order low.value some l, empty_half top order high.value some h); bits = sym (orders_of_none top order) }
