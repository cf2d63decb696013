use Rattle.std.proofs.Common.{◌≡◌, ◌-◌, vec_len, replicate}
use Rattle.evac_model.specs.ScenarioGrammar.{with_calls, call_count}
use Rattle.scenario.specs.Judging.{scripts}
use Rattle.scenario.proofs.draft.push_calls.Given as goal

-- empty scripts at the end change nothing of what the calls make
abbrev pub invariant-loop-alloc : goal.invariant-loop-alloc
invariant-loop-alloc l = record {
  made : with_calls (scripts l.owners) l.owner (replicate l.times l.call) ≡ with_calls (scripts l.fn.owners) l.owner (replicate l.times l.call);
  count : call_count (scripts l.owners) ≡ call_count (scripts l.fn.owners);
}

abbrev pub decreases-loop-alloc : goal.decreases-loop-alloc
decreases-loop-alloc l = l.owner - vec_len l.owners
