use Rattle.std.proofs.Common.{refl, subst, sym, arith}
use Rattle.base.specs.Sets.{Has}
use Rattle.match_routes.proofs.Changing.{same-too}
use Rattle.output_flood.proofs.Showing.{come_first, come_next, come_all}
use Rattle.output_flood.proofs.tables.put_all.Goals as goal

pub loop-i-init : goal.loop-i-init
loop-i-init c = record {
  within = omega arith;
  same = record { width = refl; interfaces = refl };
  pairs = come_first c.args.place c.args.row.now.members c.args.table.now.pairs;
}

pub put-requires : goal.put-requires
put-requires c = record {
  interface = subst (Has c.args.place) (sym c.loop-i.invariant.same.interfaces) c.requires.place;
  number = omega (arith, c.lemma_sorted.ensures.within c.in-Some.i c.in-Some.ensures.some.1, c.requires.width, c.loop-i.invariant.same.width);
}

pub overflow_add-at : goal.overflow_add-at
overflow_add-at c = omega (arith, c.lemma_sorted.ensures.within c.in-Some.i c.in-Some.ensures.some.1, c.lemma_sorted.ensures.fits)

pub loop-i-smaller : goal.loop-i-smaller
loop-i-smaller c = omega (arith, c.lemma_sorted.ensures.within c.in-Some.i c.in-Some.ensures.some.1, c.in-Some.ensures.some.0)

pub loop-i-preserved : goal.loop-i-preserved
loop-i-preserved c = record {
  within = omega (arith, c.lemma_sorted.ensures.within c.in-Some.i c.in-Some.ensures.some.1);
  same = same-too _ _ _ c.put.ensures.same c.loop-i.invariant.same;
  pairs = come_next c.args.place c.loop-i.at c.in-Some.i c.args.row.now.members c.args.table.now.pairs c.loop-i.table.pairs c.put.new.self.pairs c.in-Some.ensures.some.1 c.in-Some.ensures.some.0
      c.in-Some.ensures.least c.loop-i.invariant.pairs c.put.ensures.pairs;
}

pub returns-clause-pairs : goal.returns-clause-pairs
returns-clause-pairs c = come_all c.args.place c.loop-i.at c.args.row.now.members c.args.table.now.pairs c.loop-i.table.pairs c.in_default.ensures.none c.loop-i.invariant.pairs
