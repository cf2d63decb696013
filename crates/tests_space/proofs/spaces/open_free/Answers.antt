use Rattle.tests_space.proofs.spaces.open_free.Goals as goal

pub open-requires : goal.open-requires
open-requires c = record { there = tt; fitting = tt }
