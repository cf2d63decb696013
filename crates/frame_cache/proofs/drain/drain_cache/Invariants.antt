use Rattle.std.proofs.Common.{◌≡◌, ℕ, Bool, ◌&&◌, not, take, reverse}
use Rattle.std.specs.List.{filter}
use Rattle.evac_model.specs.Numbers.{is_in}
use Rattle.buddy.specs.FreeFrames.{with_frames}
use Rattle.frame_cache.specs.Drained.{is_drained_of}
use Rattle.frame_cache.proofs.drain.drain_cache.Given as goal

abbrev pub invariant-loop-number : goal.invariant-loop-number
invariant-loop-number l =
    let test : ℕ → Bool = is_drained_of l.initial.runs.sizes l.initial.runs.online l.drained in
    record {
      kept : l.kept ≡ filter (λ f. not (test f)) (reverse (take l.number-index l.number-items));
      given : l.runs ≡ with_frames (λ f. is_in f (take l.number-index l.number-items) && test f) l.initial.runs;
    }
