use Rattle.output_flood.proofs.tables.are_same.Goals as goal

pub returns-then-has_all-clause-same : goal.returns-then-has_all-clause-same
returns-then-has_all-clause-same c e i = (c.has_all-then-has_all.ensures.all e i, c.has_all.ensures.all c.if-has_all.true i)
