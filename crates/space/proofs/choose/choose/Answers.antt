use Rattle.evac_model.specs.declared.names.Kind.TheVariants.{Movable, Unmovable}
use Rattle.space.proofs.Choices.{of_kind, behind_some, behind_none}
use Rattle.space.proofs.choose.choose.Goals as goal

pub returns-in-Movable-clause-chosen : goal.returns-in-Movable-clause-chosen
returns-in-Movable-clause-chosen c = λ st space free cached.
    (of_kind _ _ st c.args.who c.args.kind Movable _ _ _ c.in-Movable.is (c.choose_movable.ensures st (record { space = space; free = free; cached = cached }))).leased

pub returns-in-Movable-clause-taken : goal.returns-in-Movable-clause-taken
returns-in-Movable-clause-taken c = λ st l space free cached e.
    behind_some _ _ st c.args.kind _ l _ _ _ (of_kind _ _ st c.args.who c.args.kind Movable _ _ _ c.in-Movable.is (c.choose_movable.ensures st (record { space = space; free = free; cached = cached }))) e

pub returns-in-Movable-clause-none : goal.returns-in-Movable-clause-none
returns-in-Movable-clause-none c = λ st space free cached e.
    behind_none st c.args.kind _ _ c.args.runs.now _ c.args.caches.now _ (record { space = space; free = free; cached = cached }) (of_kind _ _ st c.args.who c.args.kind Movable _ _ _ c.in-Movable.is (c.choose_movable.ensures st (record { space = space; free = free; cached = cached }))) e

pub returns-in-Unmovable-clause-chosen : goal.returns-in-Unmovable-clause-chosen
returns-in-Unmovable-clause-chosen c = λ st space free cached.
    (of_kind _ _ st c.args.who c.args.kind Unmovable _ _ _ c.in-Unmovable.is (c.choose_unmovable.ensures st c.args.who (record { space = space; free = free; cached = cached }))).leased

pub returns-in-Unmovable-clause-taken : goal.returns-in-Unmovable-clause-taken
returns-in-Unmovable-clause-taken c = λ st l space free cached e.
    behind_some _ _ st c.args.kind _ l _ _ _ (of_kind _ _ st c.args.who c.args.kind Unmovable _ _ _ c.in-Unmovable.is (c.choose_unmovable.ensures st c.args.who (record { space = space; free = free; cached = cached }))) e

pub returns-in-Unmovable-clause-none : goal.returns-in-Unmovable-clause-none
returns-in-Unmovable-clause-none c = λ st space free cached e.
    behind_none st c.args.kind _ _ c.args.runs.now _ c.args.caches.now _ (record { space = space; free = free; cached = cached }) (of_kind _ _ st c.args.who c.args.kind Unmovable _ _ _ c.in-Unmovable.is (c.choose_unmovable.ensures st c.args.who (record { space = space; free = free; cached = cached }))) e
