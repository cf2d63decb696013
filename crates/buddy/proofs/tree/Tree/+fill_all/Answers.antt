use Rattle.std.proofs.Common.{◌≡◌, ℕ, ◌+◌, ◌-◌, ◌*◌, ◌%◌, ◌^◌, ◌∙◌, ◌++◌, List, Bool, length, take, drop, sym, ap, arith}
use Rattle.std.proofs.lemmas.List.{length-take-le, length-drop, take_rest, take-append-drop}
use Rattle.std.specs.Box.{with_value}
use Rattle.buddy.specs.Parts.{Part}
use Rattle.buddy.specs.TreeNode.{IsHalf}
use Rattle.buddy.proofs.Nodes.{shift_one_64, joined_node}
use Rattle.buddy.proofs.Changes.{split, AreSplit, joined_bits, filled_half, filled_part, half_frames}
use Rattle.buddy.proofs.tree.Tree.+fill_all.Goals as goal
use Rattle.buddy.proofs.tree.Tree.+fill_all.Goals.{After-joined-self-inside}

at_start : (t : ℕ) (c : After-joined-self-inside t) → AreSplit c.self.inside.top c.self.inside.order c.self.inside.orders c.args.self.now.free c.in-Two.low.value c.in-Two.high.value
at_start t c = split c.self.view_is c.self.invariant c.in-Two.is

-- there is a flag for each frame
enough : (t : ℕ) (c : After-joined-self-inside t) → length c.args.flags.now ≡ 2 ^ (c.self.inside.order - 1) + 2 ^ (c.self.inside.order - 1)
enough t c =
    c.requires ∙ sym (ap (λ (p : Part). 2 ^ p.order) c.self.view_is) ∙ half_frames c.self.inside.top c.self.inside.order c.in-Two.low.value (at_start t c).is_low

front : (t : ℕ) (c : After-joined-self-inside t) → c.fill_all.new.self ≡ record c.in-Two.low.value { free = take (2 ^ (c.self.inside.order - 1)) c.args.flags.now }
front t c =
    c.fill_all.ensures
    ∙ ap (λ (p : Part). record p { free = take (1 * 2 ^ (c.self.inside.order - 1) % 2 ^ 64) c.args.flags.now }) c.deref_mut.ensures.value
    ∙ ap (λ (n : ℕ). record c.in-Two.low.value { free = take n c.args.flags.now }) (shift_one_64 (c.self.inside.order - 1) (omega (arith, c.self.invariant.small)))

back : (t : ℕ) (c : After-joined-self-inside t) → c.fill_all-in-Two.new.self ≡ record c.in-Two.high.value { free = drop (2 ^ (c.self.inside.order - 1)) c.args.flags.now }
back t c =
    c.fill_all-in-Two.ensures
    ∙ ap (λ (p : Part). record p { free = take (length c.args.flags.now - 1 * 2 ^ (c.self.inside.order - 1) % 2 ^ 64) (drop (1 * 2 ^ (c.self.inside.order - 1) % 2 ^ 64) c.args.flags.now) }) c.deref_mut-in-Two.ensures.value
    ∙ ap (λ (n : ℕ). record c.in-Two.high.value { free = take (length c.args.flags.now - n) (drop n c.args.flags.now) }) (shift_one_64 (c.self.inside.order - 1) (omega (arith, c.self.invariant.small)))
    ∙ ap (λ (xs : List Bool). record c.in-Two.high.value { free = xs }) (take_rest c.args.flags.now (2 ^ (c.self.inside.order - 1)))

low_half : (t : ℕ) (c : After-joined-self-inside t) → IsHalf c.self.inside.top c.self.inside.order c.fill_all.new.self
low_half t c =
    filled_half c.self.inside.top c.self.inside.order c.in-Two.low.value c.fill_all.new.self (take (2 ^ (c.self.inside.order - 1)) c.args.flags.now) (at_start t c).is_low
    (length-take-le (2 ^ (c.self.inside.order - 1)) c.args.flags.now (omega (arith, enough t c))) (front t c)

high_half : (t : ℕ) (c : After-joined-self-inside t) → IsHalf c.self.inside.top c.self.inside.order c.fill_all-in-Two.new.self
high_half t c =
    filled_half c.self.inside.top c.self.inside.order c.in-Two.high.value c.fill_all-in-Two.new.self (drop (2 ^ (c.self.inside.order - 1)) c.args.flags.now) (at_start t c).is_high
    (omega (arith, length-drop (2 ^ (c.self.inside.order - 1)) c.args.flags.now, enough t c)) (back t c)

all_flags : (t : ℕ) (c : After-joined-self-inside t) → c.fill_all.new.self.free ++ c.fill_all-in-Two.new.self.free ≡ c.args.flags.now
all_flags t c =
    ap (λ (p : Part). p.free ++ c.fill_all-in-Two.new.self.free) (front t c)
    ∙ ap (λ (p : Part). take (2 ^ (c.self.inside.order - 1)) c.args.flags.now ++ p.free) (back t c)
    ∙ take-append-drop (2 ^ (c.self.inside.order - 1)) c.args.flags.now

pub invariant_of-self-in-Two : goal.invariant_of-self-in-Two
invariant_of-self-in-Two t c =
    let d = (goal.at.invariant_of-self-in-Two t c).After-joined-self-inside in
    joined_node c.self.inside.top c.self.inside.order c.joined-self-inside.result (with_value c.in-Two.low c.fill_all.new.self) (with_value c.in-Two.high c.fill_all-in-Two.new.self) c.self.invariant.small (low_half t d) (high_half t d) (joined_bits c.self.inside.top c.self.inside.order d.joined-self-inside.ensures d.deref.ensures d.deref-in-Two.ensures)

pub returns-in-Two : goal.returns-in-Two
returns-in-Two t c =
    let d = (goal.at.returns-in-Two t c).After-joined-self-inside in
    filled_part c.self.inside.top c.self.inside.order c.self.inside.orders c.joined-self-inside.result c.self.inside.halves c.args.flags.now c.args.self.now (with_value c.in-Two.low c.fill_all.new.self) (with_value c.in-Two.high c.fill_all-in-Two.new.self) c.self.view_is (low_half t d) (high_half t d) (all_flags t d) (joined_bits c.self.inside.top c.self.inside.order d.joined-self-inside.ensures d.deref.ensures d.deref-in-Two.ensures)
