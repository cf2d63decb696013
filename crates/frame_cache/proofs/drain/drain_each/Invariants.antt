use Rattle.std.proofs.Common.{◌≡◌, ℕ, Bool, ◌&&◌, ◌++◌, not, map, take, drop}
use Rattle.std.specs.List.{filter, list_any}
use Rattle.evac_model.specs.Numbers.{is_in}
use Rattle.buddy.specs.FreeFrames.{with_frames}
use Rattle.frame_cache.specs.Drained.{is_drained_of}
use Rattle.frame_cache.proofs.drain.drain_each.Given as goal

abbrev pub invariant-loop-cache : goal.invariant-loop-cache
invariant-loop-cache l =
    let test : ℕ → Bool = is_drained_of l.initial.runs.sizes l.initial.runs.online l.drained in
    record {
      caches : l.caches ≡ map (filter (λ f. not (test f))) (take l.cache-index l.initial.caches) ++ drop l.cache-index l.initial.caches;
      given : l.runs ≡ with_frames (λ f. list_any (is_in f) (take l.cache-index l.initial.caches) && test f) l.initial.runs;
    }
