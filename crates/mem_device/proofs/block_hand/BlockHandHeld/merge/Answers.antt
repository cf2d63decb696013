use Rattle.std.proofs.Common.{◌≡◌, ℕ, ◌+◌, ◌<◌, List, true, sym, ap, subst, ◌∙◌, arith}
use Rattle.std.specs.List.{range_with_len}
use Rattle.evac_model.specs.Numbers.{is_in, IsRisingBelow}
use Rattle.evac_model.specs.Numbers.{united}
use Rattle.mem_device.specs.declared.hand_kind.HandKind.{HandKind}
use Rattle.mem_device.specs.HandState.{HandState}
use Rattle.mem_device.specs.HandInside.{hand_state}
use Rattle.evac_model.proofs.Unions.{range_rising}
use Rattle.mem_device.proofs.HandParts.{united_nothing}
use Rattle.mem_device.proofs.block_hand.BlockHandHeld.merge.Goals as goal
use Rattle.mem_device.proofs.block_hand.BlockHandHeld.merge.Goals.{in-Set, in-Range+in-Set-1, in-Range+in-Range-1}

-- a range has room for nothing, so what it takes in is nothing
kept : (kind : HandKind) (self : HandState) (other : List ℕ) (first n : ℕ) → hand_state kind ≡ self → hand_state kind ≡ record { blocks = range_with_len first n; room = 0 } → ((b : ℕ) → is_in b other ≡ true → b < self.room) → self.blocks ≡ united self.blocks other
kept kind self other first n v r below =
    let blocks : range_with_len first n ≡ self.blocks = ap (λ (h : HandState). h.blocks) (sym r ∙ v) in
    let room : self.room ≡ 0 = ap (λ (h : HandState). h.room) (sym v ∙ r) in
    united_nothing (first + n) self.blocks other (subst (λ (xs : List ℕ). IsRisingBelow (first + n) xs) blocks (range_rising first n)) (λ b h. omega (arith, below b h, room))

pub returns-clause-takes : goal.returns-clause-takes
returns-clause-takes c =
    let other = ap (λ (h : HandState). h.blocks) c.other.view_is in
    elim c.match-self.branch [
      | in-Set w ↦
          let old : w.in-Set.map.plugged ≡ c.args.self.now.blocks = sym (ap (λ (k : HandKind). (hand_state k).blocks) w.in-Set.is) ∙ ap (λ (h : HandState). h.blocks) c.self.view_is in
          rw w.self-inside-is (w.add_kind.ensures.plugged ∙ ap (λ (xs : List ℕ). united xs (hand_state c.other.inside.kind).blocks) old ∙ ap (united c.args.self.now.blocks) other)
      | in-Range+in-Set-1 w ↦
          rw w.self-inside-is (ap (λ (h : HandState). h.blocks) c.self.view_is ∙ kept c.self.inside.kind c.args.self.now c.args.other.blocks w.in-Range.first.0 w.in-Range.n c.self.view_is (ap (λ (k : HandKind). hand_state k) w.in-Range.is) c.requires.below)
      | in-Range+in-Range-1 w ↦
          rw w.self-inside-is (ap (λ (h : HandState). h.blocks) c.self.view_is ∙ kept c.self.inside.kind c.args.self.now c.args.other.blocks w.in-Range.first.0 w.in-Range.n c.self.view_is (ap (λ (k : HandKind). hand_state k) w.in-Range.is) c.requires.below)
    ]
