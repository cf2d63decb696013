use Rattle.migrate_image.specs.Headers.{sizes_of}
use Rattle.migrate_image.proofs.Limits.{judged_good, judged_bad}
use Rattle.migrate_image.proofs.sizes.geometry_of.Goals as goal

pub returns-in-Ok : goal.returns-in-Ok
returns-in-Ok c = judged_good (sizes_of c.args.header) c.in-Ok.geometry c.in-Ok.ensures.0 c.in-Ok.ensures.1

pub returns-in-Err : goal.returns-in-Err
returns-in-Err c = judged_bad (sizes_of c.args.header) c.in-Err.field-0 c.in-Err.ensures
