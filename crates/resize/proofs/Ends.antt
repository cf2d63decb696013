-- The start and the ends of a resize, and how long it is.
use Rattle.std.proofs.Common.{◌≡◌, ℕ, ◌+◌, ◌*◌, ◌/◌, ◌≤◌, List, [], ◌∷◌, ◌++◌, length, map, reverse, Bool, true, false, if◌then◌else◌, nat_lt, Option, refl, ap, sym, subst, ◌∙◌, append-nil, length-append, arith}
use Rattle.std.proofs.Math.Nat.{div-le_of_le-mul, mul_comm}
use Rattle.std.proofs.lemmas.List.{length-map, length-reverse}
use Rattle.evac_model.specs.Geometry.{Sizes, block_bytes}
use Rattle.evac_model.specs.Numbers.{IsRisingBelow}
use Rattle.evac_model.specs.DeviceAnswer.{unplugged_blocks}
use Rattle.resize.specs.declared.action.ResizeAction.TheVariants as action
use Rattle.resize.specs.declared.seen.ResizeSeen.{ResizeSeen}
use Rattle.resize.specs.declared.stage.Stage.{Stage}
use Rattle.resize.specs.declared.stage.Stage.TheVariants.{Plugging, Joining, Evacuating, Leaving, Zeroing, Unplugging, Returning, Settled, Short}
use Rattle.evac_model.specs.declared.tried.Tried.{Tried}
use Rattle.resize.specs.Tries.{Exchange}
use Rattle.resize.specs.Trying.{Resizing, to_try, stage_for, at_start, action_at, action_of, resize_after}
use Rattle.resize.specs.UnderWay.{block_of, part_log, Stands, GoesBy, HasSettled, HasShort}
use Rattle.resize.proofs.Tries.{first_of, next_behind, told_length}
use Rattle.resize.proofs.Steps.{sizes_stay, goal_stays}
use Rattle.resize.proofs.Next.{others_count, part_none, stands_next}

-- ---- the start

abbrev begun : Sizes → (plugged : List ℕ) (goal : ℕ) → Option ℕ → Resizing
begun s plugged goal next = record { sizes = s; goal = goal; blocks = to_try s goal plugged; plugged = length plugged; tried = []; stage = stage_for goal (length plugged) next }

pub goes_from_start : (s : Sizes) (plugged : List ℕ) (goal : ℕ) → IsRisingBelow s.managed plugged → goal ≤ s.managed → GoesBy (at_start s plugged goal) plugged []
goes_from_start s plugged goal rising few =
    let blocks = to_try s goal plugged in
    subst (λ (o : Option ℕ). GoesBy (begun s plugged goal o) plugged []) (sym (next_behind [] blocks))
    (record {
      rising = rising;
      few = few;
      blocks = refl;
      counted = refl;
      done = [];
      run = record { rest = blocks; order = refl; none_at_goal = tt; told = refl };
      whole = sym (part_none goal (length plugged) (first_of blocks));
      stands = stands_next (begun s plugged goal (first_of blocks)) plugged blocks (record {
        rising = rising;
        few = few;
        blocks = refl;
        order = refl;
        counted = refl;
        added = λ below. tt;
        kept = λ above. tt;
      });
    })

-- ---- ends

module _ (st : Resizing) (plugged : List ℕ) (log : List Exchange) where
  settled_at : (stage : Stage) (bytes : ℕ) (tried : List Tried) → action_at st stage ≡ action.Settled bytes tried → GoesBy (record st { stage = stage }) plugged log → HasSettled st.sizes st.goal plugged log bytes tried
  settled_at Settled bytes tried e g =
      let size : st.plugged * block_bytes st.sizes ≡ bytes = cc in
      let list : st.tried ≡ tried = cc in
      let whole : g.done ≡ log = sym (append-nil g.done) ∙ sym g.whole in
      subst (λ (ts : List Tried). HasSettled st.sizes st.goal plugged log bytes ts) list
      (subst (λ (l : List Exchange). HasSettled st.sizes st.goal plugged l bytes st.tried) whole
      (record {
        run = g.run;
        size = sym size ∙ ap (λ (n : ℕ). n * block_bytes st.sizes) g.counted;
        at_goal = sym g.counted ∙ g.stands;
      }))
  settled_at (Plugging b) bytes tried e g = cc
  settled_at (Joining b state) bytes tried e g = cc
  settled_at (Evacuating b) bytes tried e g = cc
  settled_at (Leaving b) bytes tried e g = cc
  settled_at (Zeroing b) bytes tried e g = cc
  settled_at (Unplugging b) bytes tried e g = cc
  settled_at (Returning b response) bytes tried e g = cc
  settled_at Short bytes tried e g = cc

  short_at : (stage : Stage) (bytes goal : ℕ) (tried : List Tried) → action_at st stage ≡ action.Short bytes goal tried → GoesBy (record st { stage = stage }) plugged log → HasShort st.sizes st.goal plugged log bytes goal tried
  short_at Short bytes goal tried e g =
      let size : st.plugged * block_bytes st.sizes ≡ bytes = cc in
      let goal_size : st.goal * block_bytes st.sizes ≡ goal = cc in
      let list : st.tried ≡ tried = cc in
      let whole : g.done ≡ log = sym (append-nil g.done) ∙ sym g.whole in
      let count = g.counted in
      subst (λ (ts : List Tried). HasShort st.sizes st.goal plugged log bytes goal ts) list
      (subst (λ (l : List Exchange). HasShort st.sizes st.goal plugged l bytes goal st.tried) whole
      (record {
        run = g.run;
        size = sym size ∙ ap (λ (n : ℕ). n * block_bytes st.sizes) g.counted;
        goal_size = sym goal_size;
        not_at_goal = λ same. g.stands.0 (g.counted ∙ same);
        below = λ less. g.stands.1 (omega (arith, less));
        above = λ more. g.stands.2 (omega (arith, more));
      }))
  short_at (Plugging b) bytes goal tried e g = cc
  short_at (Joining b state) bytes goal tried e g = cc
  short_at (Evacuating b) bytes goal tried e g = cc
  short_at (Leaving b) bytes goal tried e g = cc
  short_at (Zeroing b) bytes goal tried e g = cc
  short_at (Unplugging b) bytes goal tried e g = cc
  short_at (Returning b response) bytes goal tried e g = cc
  short_at Settled bytes goal tried e g = cc

pub has_settled : (st : Resizing) (plugged : List ℕ) (log : List Exchange) (bytes : ℕ) (tried : List Tried) → action_of st ≡ action.Settled bytes tried → GoesBy st plugged log → HasSettled st.sizes st.goal plugged log bytes tried
has_settled st plugged log bytes tried e g = settled_at st plugged log st.stage bytes tried e g

pub has_short : (st : Resizing) (plugged : List ℕ) (log : List Exchange) (bytes goal : ℕ) (tried : List Tried) → action_of st ≡ action.Short bytes goal tried → GoesBy st plugged log → HasShort st.sizes st.goal plugged log bytes goal tried
has_short st plugged log bytes goal tried e g = short_at st plugged log st.stage bytes goal tried e g

-- ---- ends behind an answer

pub settled_after : (st : Resizing) (told : ResizeSeen) (plugged : List ℕ) (log : List Exchange) (bytes : ℕ) (tried : List Tried) → action_of (resize_after st told) ≡ action.Settled bytes tried → GoesBy (resize_after st told) plugged log → HasSettled st.sizes st.goal plugged log bytes tried
settled_after st told plugged log bytes tried e g =
    subst (λ (n : ℕ). HasSettled st.sizes n plugged log bytes tried) (goal_stays st told)
    (subst (λ (s : Sizes). HasSettled s (resize_after st told).goal plugged log bytes tried) (sizes_stay st told)
    (has_settled (resize_after st told) plugged log bytes tried e g))

pub short_after : (st : Resizing) (told : ResizeSeen) (plugged : List ℕ) (log : List Exchange) (bytes goal : ℕ) (tried : List Tried) → action_of (resize_after st told) ≡ action.Short bytes goal tried → GoesBy (resize_after st told) plugged log → HasShort st.sizes st.goal plugged log bytes goal tried
short_after st told plugged log bytes goal tried e g =
    subst (λ (n : ℕ). HasShort st.sizes n plugged log bytes goal tried) (goal_stays st told)
    (subst (λ (s : Sizes). HasShort s (resize_after st told).goal plugged log bytes goal tried) (sizes_stay st told)
    (has_short (resize_after st told) plugged log bytes goal tried e g))

-- ---- lengths

tries_by : (s : Sizes) (plugged : List ℕ) → IsRisingBelow s.managed plugged → (t : Bool) → length (if t then reverse plugged else unplugged_blocks s plugged) ≤ s.managed
tries_by s plugged rising true =
    let others = others_count s plugged rising in
    let same = length-reverse plugged in omega arith
tries_by s plugged rising false = let others = others_count s plugged rising in omega arith

-- there are as many blocks to be tried as managed ones at most
tries_few : (s : Sizes) (goal : ℕ) (plugged : List ℕ) → IsRisingBelow s.managed plugged → length (to_try s goal plugged) ≤ s.managed
tries_few s goal plugged rising = tries_by s plugged rising (nat_lt goal (length plugged))

module _ (st : Resizing) (plugged : List ℕ) where
  room : (b : ℕ) (rest : List ℕ) → st.blocks ≡ map block_of st.tried ++ b ∷ rest → length st.tried + 1 ≤ length st.blocks
  room b rest next =
      let all = ap (λ (bs : List ℕ). length bs) next in
      let parts = length-append (map block_of st.tried) (b ∷ rest) in
      let same = length-map st.tried block_of in omega arith

  -- a block is under way, or none is
  part_few : (stage : Stage) → Stands st plugged stage → length st.tried ≤ length st.blocks → 5 * length st.tried + length (part_log stage) ≤ 5 * length st.blocks
  part_few (Plugging b) s tries = let more = room b.0 s.rest s.next in omega arith
  part_few (Joining b state) s tries = let more = room b.0 s.rest s.next in omega arith
  part_few (Evacuating b) s tries = let more = room b.0 s.rest s.next in omega arith
  part_few (Leaving b) s tries = let more = room b.0 s.rest s.next in omega arith
  part_few (Zeroing b) s tries = let more = room b.0 s.rest s.next in omega arith
  part_few (Unplugging b) s tries = let more = room b.0 s.rest s.next in omega arith
  part_few (Returning b response) s tries = let more = room b.0 s.1.rest s.1.next in omega arith
  part_few Settled s tries = omega arith
  part_few Short s tries = omega arith

pub log_few : (st : Resizing) (plugged : List ℕ) (log : List Exchange) → GoesBy st plugged log → length log ≤ 5 * st.sizes.managed
log_few st plugged log g =
    let all = ap (λ (bs : List ℕ). length bs) (g.blocks ∙ g.run.order) in
    let parts = length-append (map block_of st.tried) g.run.rest in
    let same = length-map st.tried block_of in
    let tries : length st.tried ≤ length st.blocks = omega arith in
    let part = part_few st plugged st.stage g.stands tries in
    let done = told_length st.tried g.done g.run.told in
    let whole = ap (λ (l : List Exchange). length l) g.whole in
    let both = length-append g.done (part_log st.stage) in
    let blocks = ap (λ (bs : List ℕ). length bs) g.blocks in
    let few = tries_few st.sizes st.goal plugged g.rising in omega arith

pub few_after : (st : Resizing) (told : ResizeSeen) (plugged : List ℕ) (log : List Exchange) → GoesBy (resize_after st told) plugged log → length log ≤ 5 * st.sizes.managed
few_after st told plugged log g =
    subst (λ (s : Sizes). length log ≤ 5 * s.managed) (sizes_stay st told) (log_few (resize_after st told) plugged log g)

-- a size within the region is of as many blocks as there are at most
pub goal_few : (s : Sizes) (size : ℕ) → size ≤ s.managed * block_bytes s → size / block_bytes s ≤ s.managed
goal_few s size h = div-le_of_le-mul (block_bytes s) (subst (λ (n : ℕ). size ≤ n) (mul_comm s.managed (block_bytes s)) h)
