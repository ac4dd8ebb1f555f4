use Rattle.qs_ranges.proofs.changes.remove_many.Goals as goal

pub returns-in-Ok-clause-ok : goal.returns-in-Ok-clause-ok
returns-in-Ok-clause-ok c = rw c.settle.ensures.runs c.in-Ok.ensures.ok
