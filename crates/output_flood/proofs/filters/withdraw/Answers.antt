use Rattle.std.proofs.Common.{◌∙◌, arith}
use Rattle.filter_types.specs.Cover.{filter_covers}
use Rattle.base_order.specs.Order.{covers_at}
use Rattle.output_flood.proofs.Showing.{left_first, left_next, left_all, left_within}
use Rattle.output_flood.proofs.filters.withdraw.Goals as goal

pub loop-k-init : goal.loop-k-init
loop-k-init c = record {
  within = omega arith;
  width = c.requires.width;
  members = left_first (covers_at filter_covers c.args.filters.now c.args.by) c.args.row.now.members;
}

pub covers-covered-requires-clause-other : goal.covers-covered-requires-clause-other
covers-covered-requires-clause-other c =
    let h = left_within (covers_at filter_covers c.args.filters.now c.args.by) c.args.row.now.members c.loop-k.at c.loop-k.row.members c.loop-k.invariant.members c.in-Some.k c.in-Some.ensures.some.1 in
    omega (arith, c.lemma_sorted.ensures.within c.in-Some.k h, c.requires.width)

pub take_if-requires : goal.take_if-requires
take_if-requires c =
    let h = left_within (covers_at filter_covers c.args.filters.now c.args.by) c.args.row.now.members c.loop-k.at c.loop-k.row.members c.loop-k.invariant.members c.in-Some.k c.in-Some.ensures.some.1 in
    omega (arith, c.lemma_sorted.ensures.within c.in-Some.k h, c.requires.width, c.loop-k.invariant.width)

pub overflow_add-at : goal.overflow_add-at
overflow_add-at c =
    let h = left_within (covers_at filter_covers c.args.filters.now c.args.by) c.args.row.now.members c.loop-k.at c.loop-k.row.members c.loop-k.invariant.members c.in-Some.k c.in-Some.ensures.some.1 in
    omega (arith, c.lemma_sorted.ensures.within c.in-Some.k h, c.lemma_sorted.ensures.fits)

pub loop-k-smaller : goal.loop-k-smaller
loop-k-smaller c =
    let h = left_within (covers_at filter_covers c.args.filters.now c.args.by) c.args.row.now.members c.loop-k.at c.loop-k.row.members c.loop-k.invariant.members c.in-Some.k c.in-Some.ensures.some.1 in
    omega (arith, c.lemma_sorted.ensures.within c.in-Some.k h, c.requires.width, c.in-Some.ensures.some.0)

pub loop-k-preserved : goal.loop-k-preserved
loop-k-preserved c =
    let h = left_within (covers_at filter_covers c.args.filters.now c.args.by) c.args.row.now.members c.loop-k.at c.loop-k.row.members c.loop-k.invariant.members c.in-Some.k c.in-Some.ensures.some.1 in
    record {
      within = omega (arith, c.lemma_sorted.ensures.within c.in-Some.k h, c.requires.width);
      width = c.take_if.ensures.width ∙ c.loop-k.invariant.width;
      members = left_next (covers_at filter_covers c.args.filters.now c.args.by) c.args.row.now.members c.lemma_sorted.ensures.rising c.loop-k.at c.in-Some.k c.loop-k.row.members c.take_if.new.row.members
          c.covers-covered.result c.loop-k.invariant.members c.in-Some.ensures.some.0 c.in-Some.ensures.some.1 c.in-Some.ensures.least c.covers-covered.ensures c.take_if.ensures.members;
    }

pub returns-clause-members : goal.returns-clause-members
returns-clause-members c = left_all (covers_at filter_covers c.args.filters.now c.args.by) c.args.row.now.members c.lemma_sorted.ensures.rising c.loop-k.at c.loop-k.row.members c.loop-k.invariant.members
    c.in_default.ensures.none
