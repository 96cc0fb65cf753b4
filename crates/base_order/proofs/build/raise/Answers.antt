use Rattle.std.proofs.Common.{◌<◌, length, get_or, ap, ◌∙◌, arith}
use Rattle.std.proofs.lemmas.Bool.{false_from_ne_true}
use Rattle.std.proofs.lemmas.Option.{slice_get-get_or}
use Rattle.base_bits.specs.Rows.{Numbers}
use Rattle.base_order.specs.Order.{covers_at, covered_row}
use Rattle.base_order.proofs.Rows.{rows-long, row-at}
use Rattle.base_order.proofs.Numbers.{has-covered}
use Rattle.base_order.proofs.Over.{over-put, over-next, ahead}
use Rattle.base_order.proofs.build.raise.Goals as goal

pub bounds-covered-i : goal.bounds-covered-i
bounds-covered-i g c = let r = c.requires in omega (arith, rows-long (covered_row g.T.Cover.covering c.args.items.now) (length c.args.items.now) c.args.covered.now r.covered)

pub bounds-above-j : goal.bounds-above-j
bounds-above-j g c =
    let r = c.requires in
    let items = c.args.items.now in
    let w = row-at (covered_row g.T.Cover.covering items) (length items) c.args.covered.now c.args.i c.index-covered-i.result r.covered r.there c.index-covered-i.is in
    omega (arith, c.lemma_sorted.ensures.within c.in-Some.j c.in-Some.ensures.some.1, ap (λ (z : Numbers). z.width) w, c.loop-j.invariant.over.long)

pub put_over-requires-clause-other : goal.put_over-requires-clause-other
put_over-requires-clause-other g c =
    let r = c.requires in
    let items = c.args.items.now in
    let w = row-at (covered_row g.T.Cover.covering items) (length items) c.args.covered.now c.args.i c.index-covered-i.result r.covered r.there c.index-covered-i.is in
    omega (arith, c.lemma_sorted.ensures.within c.in-Some.j c.in-Some.ensures.some.1, ap (λ (z : Numbers). z.width) w)

pub put_over-requires-clause-row : goal.put_over-requires-clause-row
put_over-requires-clause-row g c =
    let r = c.requires in
    let items = c.args.items.now in
    let v = c.loop-j.invariant in
    let w = row-at (covered_row g.T.Cover.covering items) (length items) c.args.covered.now c.args.i c.index-covered-i.result r.covered r.there c.index-covered-i.is in
    let l : c.in-Some.j < length c.loop-j.above = omega (arith, c.lemma_sorted.ensures.within c.in-Some.j c.in-Some.ensures.some.1, ap (λ (z : Numbers). z.width) w, v.over.long) in
    v.over.each c.in-Some.j (get_or c.loop-j.above c.in-Some.j c.index-above-j.result) (slice_get-get_or c.loop-j.above c.in-Some.j c.index-above-j.result l)
    ∙ ahead g.T.Cover.covering items c.args.i c.loop-j.at c.in-Some.j c.in-Some.ensures.some.0

pub overflow_add-at : goal.overflow_add-at
overflow_add-at g c = let s = c.lemma_sorted.ensures in omega (arith, s.within c.in-Some.j c.in-Some.ensures.some.1, s.fits)

pub loop-j-smaller : goal.loop-j-smaller
loop-j-smaller g c =
    let r = c.requires in
    let items = c.args.items.now in
    let w = row-at (covered_row g.T.Cover.covering items) (length items) c.args.covered.now c.args.i c.index-covered-i.result r.covered r.there c.index-covered-i.is in
    omega (arith, c.lemma_sorted.ensures.within c.in-Some.j c.in-Some.ensures.some.1, ap (λ (z : Numbers). z.width) w, c.in-Some.ensures.some.0)

pub loop-j-preserved : goal.loop-j-preserved
loop-j-preserved g c =
    let r = c.requires in
    let items = c.args.items.now in
    let v = c.loop-j.invariant in
    let j = c.in-Some.j in
    let w = row-at (covered_row g.T.Cover.covering items) (length items) c.args.covered.now c.args.i c.index-covered-i.result r.covered r.there c.index-covered-i.is in
    let there : j < length items = omega (arith, c.lemma_sorted.ensures.within j c.in-Some.ensures.some.1, ap (λ (z : Numbers). z.width) w) in
    record {
      within = omega (arith, there);
      over = over-put g.T.Cover.covering items c.args.i c.loop-j.at j c.loop-j.above c.put_over.new.row there
          (λ k a l e. c.in-Some.ensures.least k a (has-covered g.T.Cover.covering items c.args.i c.index-covered-i.result w k l e))
          v.over c.put_over.ensures c.in-Some.ensures.some.0;
    }

pub returns : goal.returns
returns g c =
    let r = c.requires in
    let items = c.args.items.now in
    let v = c.loop-j.invariant in
    let w = row-at (covered_row g.T.Cover.covering items) (length items) c.args.covered.now c.args.i c.index-covered-i.result r.covered r.there c.index-covered-i.is in
    over-next g.T.Cover.covering items c.args.i c.loop-j.at c.loop-j.above (λ k a l. false_from_ne_true (covers_at g.T.Cover.covering items c.args.i k)
    (λ e. let b = c.in_default.ensures.none k (has-covered g.T.Cover.covering items c.args.i c.index-covered-i.result w k l e) in absurd (omega (arith, a, b)))) v.over
