use Rattle.law_hierarchy.proofs.Given.{flood-owed}
use Rattle.law_hierarchy.proofs.flood_owed_once.Goals as goal

pub returns : goal.returns
returns hold c run = flood-owed hold.M.Matching.theory hold.M.Matching.laws run
