use Rattle.std.proofs.Common.{ap, subst, ◌∙◌, arith}
use Rattle.migrate_image.specs.Reading.{Gives, image_of}
use Rattle.migrate_image.proofs.Whole.{is_found, image_again}
use Rattle.migrate_image.proofs.reader.read_image.Goals as goal

pub returns-clause-found : goal.returns-clause-found
returns-clause-found c = is_found c.args.bytes.now c.image_from.result (λ i. omega (arith, c.type_inv.bytes i)) c.image_from.ensures

pub returns-clause-only : goal.returns-clause-only
returns-clause-only c = λ i image words e. subst (λ f. Gives (λ j. j) c.image_from.result f) (ap image_of e ∙ image_again i image words) c.image_from.ensures
