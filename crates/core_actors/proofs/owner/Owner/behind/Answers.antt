use Rattle.std.proofs.Common.{◌≡◌, List, true, false, get_or, sym, ap, ◌∙◌, subst}
use Rattle.evac_model.specs.declared.call.Call.{Call}
use Rattle.evac_model.specs.declared.names.PageNo.{PageNo}
use Rattle.core_actors.specs.Places.{frame_owed}
use Rattle.core_actors.specs.Owners.{OwnerState, are_none, is_nothing, owner_after}
use Rattle.core_actors.proofs.Kept.{before_end, comes_here, begun_here, gone_here}
use Rattle.core_actors.proofs.owner.Owner.behind.Goals as goal

pub place_behind-requires-clause-comes : goal.place_behind-requires-clause-comes
place_behind-requires-clause-comes c =
    let some = subst (λ (x : OwnerState). are_none x.left ≡ false) (sym c.self.view_is) c.requires.going in
    let lt = before_end c.self.inside.calls c.self.inside.at some in
    let is : c.index-as_slice-self.result ≡ get_or c.self.inside.calls c.self.inside.at c.index-as_slice-self.result =
    c.index-as_slice-self.is ∙ ap (λ (xs : List (PageNo × Call)). get_or xs c.self.inside.at c.index-as_slice-self.result) c.as_slice.ensures in
    rw c.cells-cells.ensures.size (comes_here c.self.inside.owner c.self.inside.geometry.cells c.self.inside.calls c.self.inside.at c.index-as_slice-self.result lt is c.self.inside.place c.in-InCall.at c.in-InCall.is c.self.invariant.under_way)

pub returns-in-Between : goal.returns-in-Between
returns-in-Between c =
    let some = subst (λ (x : OwnerState). are_none x.left ≡ false) (sym c.self.view_is) c.requires.going in
    let lt = before_end c.self.inside.calls c.self.inside.at some in
    let is : c.index-as_slice-self.result ≡ get_or c.self.inside.calls c.self.inside.at c.index-as_slice-self.result =
    c.index-as_slice-self.is ∙ ap (λ (xs : List (PageNo × Call)). get_or xs c.self.inside.at c.index-as_slice-self.result) c.as_slice.ensures in
    let free = subst (λ (x : OwnerState). is_nothing (frame_owed x.place) ≡ true) (sym c.self.view_is) c.requires.free in
    (rw c.cells-cells.ensures.size at c.behind_first.ensures)
    ∙ (sym (begun_here c.self.inside.owner c.self.inside.geometry.cells c.self.inside.calls c.self.inside.at c.index-as_slice-self.result lt is c.self.inside.place c.args.heard.now c.in-Between.back c.in-Between.is free) ∙ ap (λ (x : OwnerState). (owner_after x c.args.heard.now).place) c.self.view_is)

pub returns-in-InCall : goal.returns-in-InCall
returns-in-InCall c =
    let some = subst (λ (x : OwnerState). are_none x.left ≡ false) (sym c.self.view_is) c.requires.going in
    let lt = before_end c.self.inside.calls c.self.inside.at some in
    let is : c.index-as_slice-self.result ≡ get_or c.self.inside.calls c.self.inside.at c.index-as_slice-self.result =
    c.index-as_slice-self.is ∙ ap (λ (xs : List (PageNo × Call)). get_or xs c.self.inside.at c.index-as_slice-self.result) c.as_slice.ensures in
    (rw c.cells-cells.ensures.size at c.place_behind.ensures)
    ∙ (sym (gone_here c.self.inside.owner c.self.inside.geometry.cells c.self.inside.calls c.self.inside.at c.index-as_slice-self.result lt is c.self.inside.place c.args.heard.now c.in-InCall.at c.in-InCall.is) ∙ ap (λ (x : OwnerState). (owner_after x c.args.heard.now).place) c.self.view_is)
