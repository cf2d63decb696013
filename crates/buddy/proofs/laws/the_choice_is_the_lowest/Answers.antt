use Rattle.buddy.proofs.Choice.{lowest_chosen}
use Rattle.buddy.proofs.laws.the_choice_is_the_lowest.Goals as goal

pub returns : goal.returns
returns c = λ s online kind free order top boot_order managed_order p.
    lowest_chosen s online kind free order top boot_order managed_order p.block p.boot_top p.boot p.managed_top p.managed
