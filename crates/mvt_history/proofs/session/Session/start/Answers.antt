use Rattle.std.proofs.Common.{rules}
use Rattle.mvt_document.specs.Stands.{document_of}
use Rattle.mvt_history.proofs.Moving.{started_stands, started_held}
use Rattle.mvt_history.proofs.session.Session.start.Goals as goal

pub invariant_of-result : goal.invariant_of-result
invariant_of-result c =
    rw (c.in-Ok.ensures, c.in-Ok-with_capacity.ensures, c.new.ensures.items)
    (started_held (document_of c.args.document) c.args.depth c.requires.valid c.requires.depth.0 c.requires.depth.1)

pub returns-clause-ok : goal.returns-clause-ok
returns-clause-ok c =
    rw (c.in-Ok.ensures, c.in-Ok-with_capacity.ensures, c.new.ensures.items)
    (started_stands (document_of c.args.document) c.args.depth c.requires.depth.0 (search rules))
