use Rattle.std.proofs.Common.{arith}
use Rattle.space.proofs.Puts.{puts_none, puts_more, puts_all}
use Rattle.space.proofs.choose.cache_rest.Goals as goal

pub returns : goal.returns
returns c =
    puts_all c.args.caches.now _ c.args.who c.args.first.0 c.loop-k.k c.args.frames (omega arith) c.loop-k.invariant.cached

pub loop-k-init : goal.loop-k-init
loop-k-init c = record {
  some = c.requires.some;
  cached = puts_none c.args.caches.now c.args.who c.args.first.0 c.args.frames c.requires.empty;
}

pub loop-k-preserved : goal.loop-k-preserved
loop-k-preserved c = record {
  some = omega arith;
  cached = puts_more c.args.caches.now c.loop-k.caches _ c.args.who c.args.first.0 c.loop-k.k c.args.frames c.loop-k-test.true c.loop-k.auto.k c.requires.few c.loop-k.invariant.cached c.put.ensures.caches;
}
