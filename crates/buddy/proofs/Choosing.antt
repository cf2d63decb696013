-- The first order of which there is a run.
use Rattle.std.proofs.Common.{◌≡◌, ℕ, zero, suc, ◌+◌, ◌-◌, ◌<◌, ◌≤◌, Bool, true, false, List, Option, None, Some, refl, sym, ap, ◌∙◌, arith}
use Rattle.std.specs.List.{range_with_len}
use Rattle.std.specs.Option.{option_or, option_map}
use Rattle.buddy.specs.Parts.{Part, lowest_run}
use Rattle.buddy.specs.Choice.{choice_of_order, first_choice}
use Rattle.buddy.proofs.Lowest.{lowest_run-place}

-- the orders from one on that is looked at
one_more : (f : ℕ → Option ℕ) (a n : ℕ) → 0 < n → first_choice f (range_with_len a n) ≡ option_or (f a) (first_choice f (range_with_len (a + 1) (n - 1)))
one_more f a zero h = absurd (omega arith)
one_more f a (suc n) h = ap (λ (m : ℕ). option_or (f a) (first_choice f (range_with_len (a + 1) m))) (omega arith)

pub choice_more : (f : ℕ → Option ℕ) (order a : ℕ) → order ≤ a → a < 10 → None ≡ f a → first_choice f (range_with_len a (10 + order - a)) ≡ first_choice f (range_with_len (a + 1) (10 + order - (a + 1)))
choice_more f order a l h none =
    one_more f a (10 + order - a) (omega (arith, h))
    ∙ ap (λ (o : Option ℕ). option_or o (first_choice f (range_with_len (a + 1) (10 + order - a - 1)))) (sym none)
    ∙ ap (λ (n : ℕ). first_choice f (range_with_len (a + 1) n)) (omega arith)

pub choice_here : (f : ℕ → Option ℕ) (order a first : ℕ) → order ≤ a → a < 10 → Some first ≡ f a → first_choice f (range_with_len a (10 + order - a)) ≡ Some first
choice_here f order a first l h some =
    one_more f a (10 + order - a) (omega (arith, h))
    ∙ ap (λ (o : Option ℕ). option_or o (first_choice f (range_with_len (a + 1) (10 + order - a - 1)))) (sym some)

-- no run is of an order above a block's
none_above : (t n : ℕ) (free : List Bool) (w : ℕ) → t < w → (o : Option ℕ) → lowest_run t n free w ≡ o → o ≡ None
none_above t n free w h None e = refl
none_above t n free w h (Some place) e = absurd (omega (arith, (lowest_run-place t n free w place e).runs, h))

no_choice : (boot_frames : ℕ) (boot managed : Part) (takes : Bool) (a : ℕ) → boot.top < a → managed.top < a → choice_of_order boot_frames boot managed takes a ≡ None
no_choice boot_frames boot managed true a b m =
    ap (λ (o : Option ℕ). option_or o (option_map (λ place. boot_frames + place) (lowest_run managed.top managed.order managed.free a))) (none_above boot.top boot.order boot.free a b _ refl)
    ∙ ap (λ (o : Option ℕ). option_map (λ place. boot_frames + place) o) (none_above managed.top managed.order managed.free a m _ refl)
no_choice boot_frames boot managed false a b m =
    ap (λ (o : Option ℕ). option_or o None) (none_above boot.top boot.order boot.free a b _ refl)

pub choice_past : (boot_frames : ℕ) (boot managed : Part) (takes : Bool) (a n : ℕ) → boot.top < a → managed.top < a → first_choice (choice_of_order boot_frames boot managed takes) (range_with_len a n) ≡ None
choice_past boot_frames boot managed takes a zero b m = refl
choice_past boot_frames boot managed takes a (suc n) b m =
    ap (λ (o : Option ℕ). option_or o (first_choice (choice_of_order boot_frames boot managed takes) (range_with_len (a + 1) n))) (no_choice boot_frames boot managed takes a b m)
    ∙ choice_past boot_frames boot managed takes (a + 1) n (omega (arith, b)) (omega (arith, m))
