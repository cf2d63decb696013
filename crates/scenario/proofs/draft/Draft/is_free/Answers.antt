use Rattle.std.proofs.Common.{sym}
use Rattle.std.proofs.lemmas.Bool.{false≢true}
use Rattle.scenario.specs.Reading.{page_in}
use Rattle.scenario.proofs.Drafts.{page_named, frame_named}
use Rattle.scenario.proofs.draft.Draft.is_free.Goals as goal

pub returns-then-contains : goal.returns-then-contains
returns-then-contains c =
    (λ no. absurd (false≢true no), λ free. absurd (page_named c.self.inside c.args.self.now (page_in c.args.line) c.self.invariant c.self.view_is (sym c.if-contains.ensures) free))

pub returns-then-contains-2 : goal.returns-then-contains-2
returns-then-contains-2 c =
    (λ no. absurd (false≢true no), λ free. absurd (frame_named c.self.inside c.args.self.now (page_in c.args.line) c.self.invariant c.self.view_is (sym c.if-contains-2.ensures) free))
