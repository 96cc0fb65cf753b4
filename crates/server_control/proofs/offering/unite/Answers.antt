use Rattle.std.proofs.Common.{ap, sym, ◌∙◌, arith, ◌<◌, length}
use Rattle.base_bits.specs.Rows.{Numbers}
use Rattle.server_control.proofs.Wanted.{unite-from, unite-to, row-read}
use Rattle.server_control.proofs.offering.unite.Goals as goal

pub bounds-rows-a : goal.bounds-rows-a
bounds-rows-a c = omega (arith, c.lemma_sorted.ensures.within c.in-Some.a c.in-Some.ensures.some.1, c.requires.held)

pub insert_all-requires : goal.insert_all-requires
insert_all-requires c =
    let there : c.in-Some.a < length c.args.rows.now = omega (arith, c.lemma_sorted.ensures.within c.in-Some.a c.in-Some.ensures.some.1, c.requires.held) in
    ap (λ (z : Numbers). z.width) (row-read c.args.rows.now c.in-Some.a c.index-rows-a.result there c.index-rows-a.is) ∙ (c.requires.width c.in-Some.a there ∙ sym c.loop-a.invariant.width)

pub overflow_add-at : goal.overflow_add-at
overflow_add-at c = let s = c.lemma_sorted.ensures in omega (arith, s.within c.in-Some.a c.in-Some.ensures.some.1, s.fits)

pub loop-a-smaller : goal.loop-a-smaller
loop-a-smaller c = omega (arith, c.lemma_sorted.ensures.within c.in-Some.a c.in-Some.ensures.some.1, c.requires.held, c.in-Some.ensures.some.0)

pub loop-a-preserved : goal.loop-a-preserved
loop-a-preserved c =
    let there : c.in-Some.a < length c.args.rows.now = omega (arith, c.lemma_sorted.ensures.within c.in-Some.a c.in-Some.ensures.some.1, c.requires.held) in
    let v = c.loop-a.invariant in
    let i = c.in-Some.ensures in
    let row = ap (λ (z : Numbers). z.members) (row-read c.args.rows.now c.in-Some.a c.index-rows-a.result there c.index-rows-a.is) in
    record {
      within = omega (arith, there);
      width = c.insert_all.ensures.width ∙ v.width;
      from = unite-from c.args.held.now.members c.args.rows.now c.in-Some.a c.loop-a.row.members c.insert_all.new.self.members c.index-rows-a.result.members i.some.1 row c.insert_all.ensures.members v.from;
      to = unite-to c.args.held.now.members c.args.rows.now c.loop-a.at c.in-Some.a c.loop-a.row.members c.insert_all.new.self.members c.index-rows-a.result.members i.some.0 row c.insert_all.ensures.members i.least v.to;
    }

pub returns-clause-union : goal.returns-clause-union
returns-clause-union c =
    let v = c.loop-a.invariant in
    record {
      from = v.from;
      to = λ a k h m. v.to a k (c.in_default.ensures.none a h) h m;
    }
