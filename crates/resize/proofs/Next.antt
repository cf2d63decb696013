-- Where a resize stands between two blocks.
use Rattle.std.proofs.Common.{◌≡◌, ◌≢◌, ℕ, ◌+◌, ◌<◌, ◌≤◌, Bool, true, false, List, [], ◌∷◌, ◌++◌, length, map, reverse, Option, None, Some, refl, ap, sym, ◌∙◌, append-nil, not, if◌then◌else◌, nat_lt, ◌==◌, arith}
use Rattle.std.proofs.lemmas.Bool.Decides.{nat_tests}
use Rattle.std.proofs.lemmas.List.{length-map}
use Rattle.std.proofs.lemmas.List.Filters.{length-filter_both}
use Rattle.std.proofs.lemmas.List.FromFn.{length-range_with_len}
use Rattle.std.specs.List.{AllByRecursion, range_with_len}
use Rattle.evac_model.specs.Geometry.{Sizes}
use Rattle.evac_model.specs.Numbers.{IsRisingBelow, is_in}
use Rattle.evac_model.specs.DeviceAnswer.{unplugged_blocks}
use Rattle.resize.specs.declared.stage.Stage.TheVariants.{Plugging, Evacuating, Settled, Short}
use Rattle.resize.specs.Tries.{plugged_after, IsAdded, IsGoneOrKept}
use Rattle.resize.specs.Trying.{Resizing, to_try, stage_for}
use Rattle.resize.specs.UnderWay.{block_of, part_log, Stands}
use Rattle.resize.proofs.Tries.{first_of, added_all, kept_all}

-- the blocks that aren't plugged are the others
pub others_count : (s : Sizes) (plugged : List ℕ) → IsRisingBelow s.managed plugged → length plugged + length (unplugged_blocks s plugged) ≡ s.managed
others_count s plugged rising =
    let both = length-filter_both (λ b. is_in b plugged) (λ b. not (is_in b plugged)) (λ b. refl) (range_with_len 0 s.managed) in
    let all = length-range_with_len 0 s.managed in
    let same = ap (λ (bs : List ℕ). length bs) rising in omega arith

pub tries_below : (s : Sizes) (goal : ℕ) (plugged : List ℕ) → length plugged ≤ goal → to_try s goal plugged ≡ unplugged_blocks s plugged
tries_below s goal plugged few =
    let test : nat_lt goal (length plugged) ≡ false = grind (arith, nat_tests) in
    ap (λ (t : Bool). if t then reverse plugged else unplugged_blocks s plugged) test

pub tries_above : (s : Sizes) (goal : ℕ) (plugged : List ℕ) → goal < length plugged → to_try s goal plugged ≡ reverse plugged
tries_above s goal plugged many =
    let test : nat_lt goal (length plugged) ≡ true = grind (arith, nat_tests) in
    ap (λ (t : Bool). if t then reverse plugged else unplugged_blocks s plugged) test

-- a resize between two blocks
pub record IsBetween (st : Resizing) (plugged rest : List ℕ) : Type 0 where
  pub rising : IsRisingBelow st.sizes.managed plugged
  pub few : st.goal ≤ st.sizes.managed
  pub blocks : st.blocks ≡ to_try st.sizes st.goal plugged
  pub order : st.blocks ≡ map block_of st.tried ++ rest
  pub counted : st.plugged ≡ plugged_after (length plugged) st.tried
  pub added : st.plugged < st.goal → AllByRecursion (λ t. IsAdded t.result) st.tried
  pub kept : st.goal < st.plugged → AllByRecursion (λ t. IsGoneOrKept st.sizes t.block t.result) st.tried

none_at_end : (t : Bool) → part_log (if t then Settled else Short) ≡ []
none_at_end true = refl
none_at_end false = refl

none_at_next : (b : ℕ) (t u : Bool) → part_log (if t then Settled else if u then Plugging (record { 0 = b }) else Evacuating (record { 0 = b })) ≡ []
none_at_next b true u = refl
none_at_next b false true = refl
none_at_next b false false = refl

pub part_none : (goal plugged : ℕ) (o : Option ℕ) → part_log (stage_for goal plugged o) ≡ []
part_none goal plugged None = none_at_end (plugged == goal)
part_none goal plugged (Some b) = none_at_next b (plugged == goal) (nat_lt plugged goal)

module _ (st : Resizing) (plugged : List ℕ) where
  all_added : IsBetween st plugged [] → st.plugged < st.goal → ⊥
  all_added h below =
      let added = added_all (length plugged) st.tried (h.added below) in
      let count = h.counted in
      let few = h.few in
      let tries = tries_below st.sizes st.goal plugged (omega arith) in
      let others = others_count st.sizes plugged h.rising in
      let blocks = ap (λ (bs : List ℕ). length bs) (sym tries ∙ sym h.blocks ∙ h.order ∙ append-nil (map block_of st.tried)) in
      let same = length-map st.tried block_of in
      omega arith

  all_tried : IsBetween st plugged [] → st.goal < st.plugged → map block_of st.tried ≡ reverse plugged
  all_tried h above =
      let kept = kept_all st.sizes (length plugged) st.tried (h.kept above) in
      let count = h.counted in
      sym (append-nil (map block_of st.tried)) ∙ sym h.order ∙ h.blocks ∙ tries_above st.sizes st.goal plugged (omega arith)

  ended : IsBetween st plugged [] → (t : Bool) → (st.plugged == st.goal) ≡ t → Stands st plugged (if t then Settled else Short)
  ended h true e = grind (arith, nat_tests)
  ended h false e =
      let apart : st.plugged ≢ st.goal = grind (arith, nat_tests) in
      (apart, λ below. absurd (all_added h below), λ above. record { whole = all_tried h above; reasons = h.kept above })

  going : (b : ℕ) (rest : List ℕ) → IsBetween st plugged (b ∷ rest) → (t u : Bool) → (st.plugged == st.goal) ≡ t → nat_lt st.plugged st.goal ≡ u → Stands st plugged (if t then Settled else if u then Plugging (record { 0 = b }) else Evacuating (record { 0 = b }))
  going b rest h true u e f = grind (arith, nat_tests)
  going b rest h false true e f =
      let below : st.plugged < st.goal = grind (arith, nat_tests) in
      record { side = below; rest = rest; next = h.order; added = h.added below }
  going b rest h false false e f =
      let apart : st.plugged ≢ st.goal = grind (arith, nat_tests) in
      let not_below : st.goal ≤ st.plugged = grind (arith, nat_tests) in
      let above : st.goal < st.plugged = omega arith in
      record { side = above; rest = rest; next = h.order; reasons = h.kept above }

  between : (rest : List ℕ) → IsBetween st plugged rest → Stands st plugged (stage_for st.goal st.plugged (first_of rest))
  between [] h = ended h (st.plugged == st.goal) refl
  between (b ∷ rest) h = going b rest h (st.plugged == st.goal) (nat_lt st.plugged st.goal) refl refl

pub stands_next : (st : Resizing) (plugged rest : List ℕ) → IsBetween st plugged rest → Stands st plugged (stage_for st.goal st.plugged (first_of rest))
stands_next st plugged rest h = between st plugged rest h
