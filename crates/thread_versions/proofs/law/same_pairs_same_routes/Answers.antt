use Rattle.thread_versions.proofs.Pairs.{by_members}
use Rattle.thread_versions.proofs.law.same_pairs_same_routes.Goals as goal

pub returns : goal.returns
returns c = by_members
