use Rattle.std.proofs.Common.{List, ℕ, Option, ◌≡◌, ◌∙◌, ap, sym, subst, false, arith}
use Rattle.std.specs.Prelude.{slice_get, vec_len, vec_capacity}
use Rattle.resize.specs.declared.stage.Stage.{Stage}
use Rattle.resize.specs.ResizeInside.{is_over, IsOnSide, HasRoom}
use Rattle.resize.specs.Trying.{Resizing, stage_for}
use Rattle.resize.proofs.Inside.{side_for, room_for, going_room}
use Rattle.resize.proofs.resize.Resize.end_try.Goals as goal

pub invariant_of-self : goal.invariant_of-self
invariant_of-self c =
    let stage = ap (λ (v : Resizing). v.stage) c.self.view_is in
    let sizes = ap (λ (v : Resizing). v.sizes.managed) c.self.view_is in
    let asked = c.requires.going in
    let going : is_over c.self.inside.stage ≡ false = cc in
    let old = going_room (vec_len c.self.inside.tried) (vec_len c.self.inside.blocks) (vec_capacity c.self.inside.tried) c.self.inside.stage going c.self.invariant.room in
    let stage_is : c.stage_for-self-inside.result ≡ stage_for c.self.inside.goal c.args.plugged (slice_get c.self.inside.blocks.items (vec_len c.push_reserved.new.self)) =
    c.stage_for-self-inside.ensures ∙ ap (λ (o : Option ℕ). stage_for c.self.inside.goal c.args.plugged o) (c.block_at-next.ensures ∙ ap (λ (bs : List ℕ). slice_get bs c.len.result) c.deref.ensures.value ∙ ap (λ (i : ℕ). slice_get c.self.inside.blocks.items i) c.len.ensures) in
    record {
      within = c.self.invariant.within;
      goal = c.self.invariant.goal;
      plugged = omega (arith, c.requires.few, sizes);
      side = subst (λ (s : Stage). IsOnSide c.self.inside.goal c.args.plugged s) (sym stage_is) (side_for c.self.inside.goal c.args.plugged (slice_get c.self.inside.blocks.items (vec_len c.push_reserved.new.self)));
      room = subst (λ (s : Stage). HasRoom (vec_len c.push_reserved.new.self) (vec_len c.self.inside.blocks) (vec_capacity c.push_reserved.new.self) s) (sym stage_is) (room_for c.self.inside.goal c.args.plugged (vec_len c.push_reserved.new.self) (vec_len c.self.inside.blocks) (vec_capacity c.push_reserved.new.self) c.self.inside.blocks.items (omega (arith, c.self.inside.blocks.ok)) (omega (arith, old.1, c.push_reserved.ensures.capacity)));
    }
