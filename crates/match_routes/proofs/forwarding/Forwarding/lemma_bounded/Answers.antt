use Rattle.std.proofs.Common.{subst}
use Rattle.match_routes.specs.Installed.{IsInstalled}
use Rattle.match_routes.specs.Columns.{rows_from}
use Rattle.match_routes.proofs.Pairs.{installed-is}
use Rattle.match_routes.proofs.ByPlace.{are-rows}
use Rattle.match_routes.proofs.forwarding.Forwarding.lemma_bounded.Goals as goal

pub returns : goal.returns
returns c =
    let ifs = c.self.inside.interfaces.items in
    subst IsInstalled c.self.view_is (installed-is c.self.inside.width ifs (rows_from 0 ifs c.self.inside.columns.rows) (are-rows c.self.inside.width ifs c.self.inside.columns.rows c.self.invariant.0))
