use Rattle.std.proofs.Common.{arith}
use Rattle.match_routes.proofs.places.is_rising.Goals as goal
use Rattle.base.proofs.Sets.{increasing-rising}

pub returns : goal.returns
returns c = λ e. increasing-rising c.args.interfaces.now (λ k l. c.loop-i.invariant k (omega (arith, l)))
