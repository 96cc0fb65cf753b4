use Rattle.match_routes.proofs.Routes.{route-of-notice}
use Rattle.match_routes.proofs.law.route_by_numbers.Goals as goal

pub returns : goal.returns
returns c n filters pairs route numbers r = route-of-notice n filters pairs route numbers r
