use Rattle.std.proofs.Common.{length, nat_lt, ap, sym, subst, ◌∙◌, arith}
use Rattle.std.proofs.lemmas.List.FromFn.{length-range_with_len}
use Rattle.base.specs.Sets.{IsRising}
use Rattle.output_flood.proofs.tables.no_tables.Goals as goal
use Rattle.base.proofs.Sets.{range-rises}

pub new-requires-clause-rising : goal.new-requires-clause-rising
new-requires-clause-rising c = subst (IsRising nat_lt) (sym (c.deref.ensures.value ∙ c.in_ok-places.ensures)) (range-rises 0 c.args.clients)

pub new-requires-clause-few : goal.new-requires-clause-few
new-requires-clause-few c = let same = ap length (c.deref.ensures.value ∙ c.in_ok-places.ensures) in omega (arith, same, length-range_with_len 0 c.args.clients, c.ranges.clients.fits)
