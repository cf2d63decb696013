use Rattle.std.proofs.Common.{◌≡◌, List, true, false, get_or, sym, ap, ◌∙◌, subst}
use Rattle.evac_model.specs.declared.call.Call.{Call}
use Rattle.evac_model.specs.declared.names.PageNo.{PageNo}
use Rattle.core_actors.specs.CallSteps.{IsCallOf}
use Rattle.core_actors.specs.Places.{frame_owed}
use Rattle.core_actors.specs.Owners.{OwnerState, are_none, is_nothing, next_action}
use Rattle.core_actors.proofs.Kept.{before_end, all_here, cells_low, comes_here, begins_here, goes_here}
use Rattle.core_actors.proofs.owner.Owner.call_action.Goals as goal

pub action_at-requires-clause-cells : goal.action_at-requires-clause-cells
action_at-requires-clause-cells c =
    let some = subst (λ (x : OwnerState). are_none x.left ≡ false) (sym c.self.view_is) c.requires.going in
    let lt = before_end c.self.inside.calls c.self.inside.at some in
    let is : c.index-as_slice-self.result ≡ get_or c.self.inside.calls c.self.inside.at c.index-as_slice-self.result =
    c.index-as_slice-self.is ∙ ap (λ (xs : List (PageNo × Call)). get_or xs c.self.inside.at c.index-as_slice-self.result) c.as_slice.ensures in
    let of : IsCallOf c.self.inside.geometry c.index-as_slice-self.result = all_here (λ (x : PageNo × Call). IsCallOf c.self.inside.geometry x) c.self.inside.calls c.self.inside.at c.index-as_slice-self.result c.self.invariant.calls lt is in
    cells_low c.self.inside.geometry (c.index-as_slice-self.result).1 of.call c.self.invariant.cells

pub action_at-requires-clause-comes : goal.action_at-requires-clause-comes
action_at-requires-clause-comes c =
    let some = subst (λ (x : OwnerState). are_none x.left ≡ false) (sym c.self.view_is) c.requires.going in
    let lt = before_end c.self.inside.calls c.self.inside.at some in
    let is : c.index-as_slice-self.result ≡ get_or c.self.inside.calls c.self.inside.at c.index-as_slice-self.result =
    c.index-as_slice-self.is ∙ ap (λ (xs : List (PageNo × Call)). get_or xs c.self.inside.at c.index-as_slice-self.result) c.as_slice.ensures in
    rw c.cells-cells.ensures.size (comes_here c.self.inside.owner c.self.inside.geometry.cells c.self.inside.calls c.self.inside.at c.index-as_slice-self.result lt is c.self.inside.place c.in-InCall.at c.in-InCall.is c.self.invariant.under_way)

pub returns-in-Between-clause-action : goal.returns-in-Between-clause-action
returns-in-Between-clause-action c =
    let some = subst (λ (x : OwnerState). are_none x.left ≡ false) (sym c.self.view_is) c.requires.going in
    let lt = before_end c.self.inside.calls c.self.inside.at some in
    let is : c.index-as_slice-self.result ≡ get_or c.self.inside.calls c.self.inside.at c.index-as_slice-self.result =
    c.index-as_slice-self.is ∙ ap (λ (xs : List (PageNo × Call)). get_or xs c.self.inside.at c.index-as_slice-self.result) c.as_slice.ensures in
    let free = subst (λ (x : OwnerState). is_nothing (frame_owed x.place) ≡ true) (sym c.self.view_is) c.requires.free in
    c.first_action.ensures.action ∙ (sym (begins_here c.self.inside.owner c.self.inside.geometry.cells c.self.inside.calls c.self.inside.at c.index-as_slice-self.result lt is c.self.inside.place c.in-Between.back c.in-Between.is free) ∙ ap (λ (x : OwnerState). next_action x) c.self.view_is)

pub returns-in-InCall-clause-action : goal.returns-in-InCall-clause-action
returns-in-InCall-clause-action c =
    let some = subst (λ (x : OwnerState). are_none x.left ≡ false) (sym c.self.view_is) c.requires.going in
    let lt = before_end c.self.inside.calls c.self.inside.at some in
    let is : c.index-as_slice-self.result ≡ get_or c.self.inside.calls c.self.inside.at c.index-as_slice-self.result =
    c.index-as_slice-self.is ∙ ap (λ (xs : List (PageNo × Call)). get_or xs c.self.inside.at c.index-as_slice-self.result) c.as_slice.ensures in
    c.action_at.ensures.action ∙ (sym (goes_here c.self.inside.owner c.self.inside.geometry.cells c.self.inside.calls c.self.inside.at c.index-as_slice-self.result lt is c.self.inside.place c.in-InCall.at c.in-InCall.is) ∙ ap (λ (x : OwnerState). next_action x) c.self.view_is)
