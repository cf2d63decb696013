use Rattle.std.proofs.Common.{◌∙◌, List, length, ap, sym}
use Rattle.std.specs.List.{slice_get}
use Rattle.std.proofs.lemmas.Result.{IfOk-weaker}
use Rattle.evac_model.specs.declared.entry.Entry.{Entry}
use Rattle.replay.proofs.Places.{at_all, places_are, history-count, history-each}
use Rattle.replay.proofs.history.history.Goals as goal

pub returns-clause-count : goal.returns-clause-count
returns-clause-count c =
    let are = places_are _ _ _ _ c.args.views.items c.args.count c.in_ok-places.places.ok.0 c.in_ok-places.ensures c.as_mut_slice.ensures.value c.place_all.ensures in
    IfOk-weaker c.entries_at.result _ _ (λ h is. ap (λ (l : List Entry). length l) (is ∙ ap (λ (l : List (List Entry)). at_all l) are) ∙ history-count c.args.views.items c.args.count c.requires) c.entries_at.ensures

pub returns-clause-each : goal.returns-clause-each
returns-clause-each c =
    let are = places_are _ _ _ _ c.args.views.items c.args.count c.in_ok-places.places.ok.0 c.in_ok-places.ensures c.as_mut_slice.ensures.value c.place_all.ensures in
    IfOk-weaker c.entries_at.result _ _
    (λ h is t e at. history-each c.args.views.items c.args.count c.requires t e (ap (λ (l : List Entry). slice_get l t) (sym (is ∙ ap (λ (l : List (List Entry)). at_all l) are)) ∙ at))
    c.entries_at.ensures
