use Rattle.std.proofs.Common.{ℕ, List, ap, ◌∙◌, ◌&&◌}
use Rattle.std.specs.List.{list_any}
use Rattle.evac_model.specs.Numbers.{is_in}
use Rattle.evac_model.specs.SpaceJournal.{is_frame_of}
use Rattle.buddy.specs.FreeFrames.{with_frames}
use Rattle.frame_cache.proofs.Fewer.{caches-drained}
use Rattle.frame_cache.proofs.caches.Caches.drain_block.Goals as goal

pub invariant_of-self : goal.invariant_of-self
invariant_of-self c =
    caches-drained _ c.self.inside.caches c.drain_each.new.caches c.self.invariant c.drain_each.ensures.caches

pub returns-clause-runs : goal.returns-clause-runs
returns-clause-runs c =
    c.drain_each.ensures.runs
    ∙ ap (λ (caches : List (List ℕ)). with_frames (λ frame. list_any (is_in frame) caches && is_frame_of c.args.runs.now.sizes c.args.b.0 frame) c.args.runs.now) c.self.view_is
