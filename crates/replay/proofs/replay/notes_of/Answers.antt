use Rattle.std.proofs.Common.{◌≡◌, ◌∙◌, ℕ, List, refl, sym, ap, subst}
use Rattle.evac_model.specs.HostCommands.{host_runs}
use Rattle.core_state.specs.declared.opening.Opening.{Opening}
use Rattle.core_state.specs.declared.snapshot.Snapshot.{Snapshot}
use Rattle.core_state.specs.Histories.{IsHistoryOf}
use Rattle.machine.specs.World.{Setting, device_now}
use Rattle.replay.specs.Running.{Run}
use Rattle.replay.specs.Runs.{opening, shown_below, IsReportAfter}
use Rattle.report.specs.ReportOf.{block_list}
use Rattle.replay.specs.RunningInside.{running_of}
use Rattle.replay.specs.Shown.{MapsInside}
use Rattle.replay.proofs.Left.{maps_inside}
use Rattle.replay.proofs.replay.notes_of.Goals as goal

pub final_pages-requires : goal.final_pages-requires
final_pages-requires c =
    let running = c.run.invariant in
    let words = c.as_slice-words.ensures ∙ ap (λ (x : Snapshot). x.words) (c.snapshot.ensures ∙ c.core-core.ensures.snapshot) in
    let opened = c.opening.ensures.opening ∙ (c.core-core.ensures.opening ∙ ap (λ (x : Setting). x.opening) running.set) in
    record {
      inside =
          subst (λ (o : Opening). MapsInside o c.as_slice-words.result.now) (sym opened)
          (subst (λ (l : List ℕ). MapsInside (opening running.scenario) l) (sym words) (maps_inside running.scenario (running_of c.run.inside) running.runnable running.kept));
    }

pub returns : goal.returns
returns c s h host set kept history told =
    let inside = c.run.inside in
    let words = c.as_slice-words.ensures ∙ ap (λ (x : Snapshot). x.words) (c.snapshot.ensures ∙ c.core-core.ensures.snapshot) in
    let settings = ap (λ (r : Run). r.setting) c.run.view_is ∙ set in
    let opened = c.opening.ensures.opening ∙ (c.core-core.ensures.opening ∙ ap (λ (x : Setting). x.opening) settings) in
    subst (λ (r : Run). IsReportAfter s r.running (record { history = h; host = host; space_journal = r.running.world.space; device_journal = r.running.world.device; plugged = c.from_vec.result; pages = c.from_vec-2.result })) c.run.view_is
    (record {
      history = subst (λ (r : Run). IsHistoryOf (opening s) r.running.world.snapshot.words r.running.world.snapshot.views h) (sym c.run.view_is) history;
      host = subst (λ (r : Run). host ≡ host_runs s.host r.running.lines) (sym c.run.view_is) told;
      space = refl;
      device = refl;
      plugged = c.from_vec.ensures ∙ (c.in_ok-plugged.ensures ∙ (ap (λ (l : List ℕ). block_list l) c.plugged.ensures.plugged ∙ ap (λ (x : Setting). block_list (device_now x inside.machine.world).plugged) settings));
      pages = c.from_vec-2.ensures ∙ (c.in_ok-pages.ensures ∙ (ap (λ (o : Opening). shown_below o c.as_slice-words.result.now o.pages) opened ∙ ap (λ (l : List ℕ). shown_below (opening s) l s.geometry.pages) words));
    })
