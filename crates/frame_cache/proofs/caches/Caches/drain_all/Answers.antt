use Rattle.frame_cache.proofs.Fewer.{caches-drained}
use Rattle.frame_cache.proofs.caches.Caches.drain_all.Goals as goal

pub invariant_of-self : goal.invariant_of-self
invariant_of-self c =
    caches-drained _ c.self.inside.caches c.drain_each.new.caches c.self.invariant c.drain_each.ensures.caches
