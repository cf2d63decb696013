use Rattle.std.proofs.Common.{◌≡◌, ◌↔◌, ℕ, ◌*◌, ◌^◌, ◌≤◌, ◌∙◌, ◌||◌, not, Bool, List, true, false, Option, None, refl, sym, ap, subst, arith}
use Rattle.std.specs.Option.{option_map}
use Rattle.std.proofs.lemmas.Option.{none-some}
use Rattle.std.proofs.lemmas.Bool.{le-ltb}
use Rattle.evac_model.specs.declared.names.Kind.{Kind}
use Rattle.evac_model.specs.declared.names.FrameNo.{FrameNo}
use Rattle.evac_model.specs.Geometry.{Sizes, IsWithinLimits}
use Rattle.evac_model.specs.Page.{is_movable}
use Rattle.evac_model.specs.FreeRuns.{fits, is_run, is_all_free, chosen_run}
use Rattle.buddy.specs.FreeFrames.{FreeFrames, after_take}
use Rattle.buddy.specs.Parts.{Part}
use Rattle.buddy.specs.Choice.{tree_choice}
use Rattle.buddy.specs.RunsInside.{IsKept, frames_of}
use Rattle.buddy.proofs.Powers.{le_from_pow}
use Rattle.buddy.proofs.Setting.{set_frames}
use Rattle.buddy.proofs.Taking.{part_of_list, choice_of_list, order_at_least, choice_run, taken_value}
use Rattle.buddy.proofs.Choice.{lowest_chosen}
use Rattle.buddy.proofs.FreeRunLaws.{no_choice}
use Rattle.buddy.proofs.runs.Runs.take.Goals as goal
use Rattle.buddy.proofs.runs.Runs.take.Goals.{After-choose, After-set_run}
use Rattle.buddy.proofs.FrameValues.{are_apart}

-- the managed blocks take a kind just if their first frame's block does
fits_takes : (s : Sizes) (online kind : Kind) → fits s online kind (s.boot * s.block) ≡ (is_movable kind || not (is_movable online))
fits_takes s online kind =
    ap (λ (t : Bool). is_movable kind || not (is_movable online) || t) (le-ltb (s.boot * s.block) (s.boot * s.block) (omega arith)) ∙ or_none (is_movable kind) (not (is_movable online))
  where
    or_none : (a b : Bool) → (a || b || false) ≡ (a || b)
    or_none true b = refl
    or_none false true = refl
    or_none false false = refl

-- the run chosen is the one that trees of the list's flags choose
choice_law : (s : Sizes) (online kind : Kind) (free : List ℕ) (top boot_order managed_order order : ℕ) → s.block ≡ 2 ^ top → top ≤ boot_order → s.boot * s.block ≤ 2 ^ boot_order → top ≤ managed_order → s.managed * s.block ≤ 2 ^ managed_order → chosen_run s online free order kind ≡ tree_choice (s.boot * s.block) (part_of_list top boot_order 0 (s.boot * s.block) free) (part_of_list top managed_order (s.boot * s.block) (s.managed * s.block) free) (is_movable kind || not (is_movable online)) order
choice_law s online kind free top boot_order managed_order order block boot_top boot_room managed_top managed_room =
    lowest_chosen s online kind free order top boot_order managed_order block boot_top boot_room managed_top managed_room
    ∙ ap (λ (t : Bool). tree_choice (s.boot * s.block) (part_of_list top boot_order 0 (s.boot * s.block) free) (part_of_list top managed_order (s.boot * s.block) (s.managed * s.block) free) t order) (fits_takes s online kind)

-- what the trees choose is the run chosen
trees_choose : (s : Sizes) (online kind : Kind) (boot managed : Part) (aside withdrawn : List Bool) (old : FreeFrames) (order : ℕ) → IsKept s boot managed aside withdrawn → frames_of s online boot managed aside withdrawn ≡ old → tree_choice (s.boot * s.block) boot managed (is_movable kind || not (is_movable online)) order ≡ chosen_run old.sizes old.online old.free order kind
trees_choose s online kind boot managed aside withdrawn old order h view =
    choice_of_list s online boot managed aside withdrawn old (is_movable kind || not (is_movable online)) order h view
    ∙ sym (choice_law s online kind old.free boot.top boot.order managed.order order h.boot_part.block
    (order_at_least s s.boot boot h.boot_part h.within.boot.0) h.boot_part.room
    (subst (λ (t : ℕ). t ≤ managed.order) (same s boot managed h) (order_at_least s s.managed managed h.managed_part h.within.managed.0)) h.managed_part.room)
    ∙ ap (λ (v : FreeFrames). chosen_run v.sizes v.online old.free order kind) view
  where
    same : (s : Sizes) (boot managed : Part) → IsKept s boot managed aside withdrawn → managed.top ≡ boot.top
    same s boot managed h =
        omega (arith, le_from_pow boot.top managed.top (omega (arith, h.boot_part.block, h.managed_part.block)), le_from_pow managed.top boot.top (omega (arith, h.boot_part.block, h.managed_part.block)))

pub choose-requires-clause-boot : goal.choose-requires-clause-boot
choose-requires-clause-boot c =
    omega (arith, le_from_pow c.self.inside.boot.top c.self.invariant.within.block.0 (omega (arith, c.self.invariant.within.block.2, c.self.invariant.boot_part.block)), c.self.invariant.within.block.1)

pub choose-requires-clause-managed : goal.choose-requires-clause-managed
choose-requires-clause-managed c =
    omega (arith, le_from_pow c.self.inside.managed.top c.self.invariant.within.block.0 (omega (arith, c.self.invariant.within.block.2, c.self.invariant.managed_part.block)), c.self.invariant.within.block.1)

base : (c : After-choose) → c.boot_frames.result ≡ c.self.inside.geometry.boot * c.self.inside.geometry.block
base c = c.boot_frames.ensures.frames ∙ sym (ap (λ (v : FreeFrames). v.sizes.boot * v.sizes.block) c.self.view_is)

takes : (c : After-choose) → c.managed_take-takes.result ≡ (is_movable c.args.kind || not (is_movable c.self.inside.online))
takes c = c.managed_take-takes.ensures ∙ sym (ap (λ (v : FreeFrames). is_movable c.args.kind || not (is_movable v.online)) c.self.view_is)

result : (c : After-choose) → c.choose.result ≡ tree_choice c.boot_frames.result c.self.inside.boot c.self.inside.managed c.managed_take-takes.result c.args.order
result c = c.choose.ensures

chosen : (c : After-choose) → c.choose.result ≡ chosen_run c.args.self.now.sizes c.args.self.now.online c.args.self.now.free c.args.order c.args.kind
chosen c =
    result c
    ∙ ap (λ (n : ℕ). tree_choice n c.self.inside.boot c.self.inside.managed c.managed_take-takes.result c.args.order) (base c)
    ∙ ap (λ (t : Bool). tree_choice (c.self.inside.geometry.boot * c.self.inside.geometry.block) c.self.inside.boot c.self.inside.managed t c.args.order) (takes c)
    ∙ trees_choose c.self.inside.geometry c.self.inside.online c.args.kind c.self.inside.boot c.self.inside.managed c.self.inside.aside.items c.self.inside.withdrawn.items c.args.self.now c.args.order c.self.invariant c.self.view_is

none_of : (c : After-choose) → (chosen_run c.args.self.now.sizes c.args.self.now.online c.args.self.now.free c.args.order c.args.kind ≡ None) ↔ ((first : ℕ) → fits c.args.self.now.sizes c.args.self.now.online c.args.kind first ≡ true → is_all_free c.args.self.now.sizes c.args.self.now.free c.args.order first ≡ false)
none_of c =
    no_choice c.args.self.now.sizes c.args.self.now.online c.args.kind c.args.self.now.free c.args.order (subst (λ (v : FreeFrames). IsWithinLimits v.sizes) c.self.view_is c.self.invariant.within)

pub set_run-requires-clause-run : goal.set_run-requires-clause-run
set_run-requires-clause-run c =
    let d = (goal.at.set_run-requires-clause-run c).After-choose in
    subst (λ (v : FreeFrames). is_run v.sizes c.args.order c.in_ok-first.first ≡ true) c.self.view_is
    (choice_run c.self.inside.geometry c.self.inside.boot c.self.inside.managed c.managed_take-takes.result c.args.order c.in_ok-first.first c.self.invariant.boot_part c.self.invariant.managed_part
    (ap (λ (n : ℕ). tree_choice n c.self.inside.boot c.self.inside.managed c.managed_take-takes.result c.args.order) (sym (base d)) ∙ sym (result d) ∙ c.in_ok-first.was))

pub returns-in_err-first-clause-found : goal.returns-in_err-first-clause-found
returns-in_err-first-clause-found c =
    let e = sym c.in_err-first.was ∙ chosen (goal.at.returns-in_err-first-clause-found c).After-choose in
    c.from_residual.ensures ∙ ap (λ (o : Option ℕ). option_map (λ (f : ℕ). let frame : FrameNo = record { 0 = f } in frame) o) e

pub returns-in_err-first-clause-taken : goal.returns-in_err-first-clause-taken
returns-in_err-first-clause-taken c =
    let e = sym c.in_err-first.was ∙ chosen (goal.at.returns-in_err-first-clause-taken c).After-choose in
    ap (λ (o : Option ℕ). after_take c.args.order o c.args.self.now) e

pub returns-in_err-first-clause-none : goal.returns-in_err-first-clause-none
returns-in_err-first-clause-none c =
    let d = (goal.at.returns-in_err-first-clause-none c).After-choose in
    let e = sym (chosen d) ∙ c.in_err-first.was in
    (λ z. (none_of d).0 e, λ z. c.from_residual.ensures)

pub returns-clause-found : goal.returns-clause-found
returns-clause-found c =
    let e = sym c.in_ok-first.was ∙ chosen (goal.at.returns-clause-found c).After-choose in
    ap (λ (o : Option ℕ). option_map (λ (f : ℕ). let frame : FrameNo = record { 0 = f } in frame) o) e

pub returns-clause-taken : goal.returns-clause-taken
returns-clause-taken c =
    let e = sym c.in_ok-first.was ∙ chosen (goal.at.returns-clause-taken c).After-choose in
    set_to (goal.at.returns-clause-taken c).After-set_run
    ∙ taken_value c.args.order c.in_ok-first.first c.args.self.now (are_apart c.self.inside.geometry c.self.inside.online c.self.inside.boot c.self.inside.managed c.self.inside.aside.items c.self.inside.withdrawn.items c.args.self.now c.self.invariant c.self.view_is).free ∙ ap (λ (o : Option ℕ). after_take c.args.order o c.args.self.now) e
  where
    set_to : (c : After-set_run) → c.set_run.new.self ≡ set_frames c.in_ok-first.first (2 ^ c.args.order) false c.args.self.now
    set_to c = c.set_run.ensures

pub returns-clause-none : goal.returns-clause-none
returns-clause-none c =
    let d = (goal.at.returns-clause-none c).After-choose in
    let e = sym c.in_ok-first.was ∙ chosen d in
    (λ z. absurd (none-some _ (sym z)), λ z. absurd (none-some c.in_ok-first.first (sym (e ∙ (none_of d).1 z))))
