use Rattle.audit_claim.proofs.Pieces.{parted_first, parted_nowhere}
use Rattle.audit_claim.proofs.output.parted.Goals as goal

pub returns-in_default-clause-parts : goal.returns-in_default-clause-parts
returns-in_default-clause-parts c = parted_nowhere c.args.end c.args.bytes.now c.in_default.ensures

pub returns-clause-parts : goal.returns-clause-parts
returns-clause-parts c =
    parted_first c.args.end c.args.bytes.now c.in-Some.at c.split_at.result.0.now c.split_at-2.result.1.now c.split_at.ensures.front c.split_at-2.ensures.back c.in-Some.ensures
