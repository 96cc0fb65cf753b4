use Rattle.std.proofs.Common.{◌∙◌}
use Rattle.document_script.proofs.DistinctLaws.{again}
use Rattle.document_script.proofs.distinct.make_room.Goals as goal

pub returns-then-len-gt64-clause-same : goal.returns-then-len-gt64-clause-same
returns-then-len-gt64-clause-same c = again c.args.kept.now.items c.make_canonical.new.kept.items c.make_canonical.ensures

pub returns-clause-same : goal.returns-clause-same
returns-clause-same c = again c.args.kept.now.items c.reserve.new.self.items (c.in_ok-reserve.ensures.items ∙ c.make_canonical.ensures)
