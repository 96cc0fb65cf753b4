use Rattle.std.proofs.Common.{◌*◌, arith}
use Rattle.match_filters.specs.Kinds.{all_uses}
use Rattle.match_filters.proofs.Filling.{ids-known, uses-few}
use Rattle.match_filters.proofs.builder.MatcherBuilder.build.Goals as goal

pub of-requires-clause-known : goal.of-requires-clause-known
of-requires-clause-known c =
    let is = (c.self.invariant.1 c.if-not-whole.false).1 in
    ids-known (64 * c.len.result) (all_uses c.self.inside.index) c.self.inside.filters.value is.indexed (omega (arith, c.len.ensures, is.reached.long))

pub of-requires-clause-few : goal.of-requires-clause-few
of-requires-clause-few c =
    let is = (c.self.invariant.1 c.if-not-whole.false).1 in
    omega (arith, uses-few (all_uses c.self.inside.index) c.self.inside.filters.value is.indexed is.few, c.self.invariant.0)
