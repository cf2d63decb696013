use Rattle.host_work.specs.FoundWords.{AreWordsOf}
use Rattle.host_work.proofs.Leases.{leased_for_each}
use Rattle.host_work.proofs.laws.evacuations_lease_a_target_for_each_attempt.Goals as goal

pub returns : goal.returns
returns c r s start entries before b cause own h = leased_for_each r (AreWordsOf s start entries) before b own cause h
