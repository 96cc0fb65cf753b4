use Rattle.std.proofs.Common.{◌<◌, length, ap₂, ℕ, List, sym, ◌∙◌, arith}
use Rattle.base_order.proofs.Rows.{cover-at}
use Rattle.base_order.proofs.Narrowing.{candidate-step, candidate-none}
use Rattle.base_order.proofs.build.covered_row.Goals as goal

pub at-other-requires : goal.at-other-requires
at-other-requires g c = omega (arith, c.lemma_sorted.ensures.within c.in-Some.j c.in-Some.ensures.some.1, c.requires.width)

pub put_if-requires : goal.put_if-requires
put_if-requires g c = omega (arith, c.lemma_sorted.ensures.within c.in-Some.j c.in-Some.ensures.some.1, c.requires.width, c.loop-j.invariant.width)

pub overflow_add-at : goal.overflow_add-at
overflow_add-at g c = let s = c.lemma_sorted.ensures in omega (arith, s.within c.in-Some.j c.in-Some.ensures.some.1, s.fits)

pub loop-j-smaller : goal.loop-j-smaller
loop-j-smaller g c = omega (arith, c.lemma_sorted.ensures.within c.in-Some.j c.in-Some.ensures.some.1, c.requires.width, c.in-Some.ensures.some.0)

pub loop-j-preserved : goal.loop-j-preserved
loop-j-preserved g c =
    let r = c.requires in
    let items = c.args.items.now in
    let v = c.loop-j.invariant in
    let j = c.in-Some.j in
    let there : j < length items = omega (arith, c.lemma_sorted.ensures.within j c.in-Some.ensures.some.1, r.width) in
    record {
      within = omega (arith, there);
      width = c.put_if.ensures.width ∙ v.width;
      members = c.put_if.ensures.members ∙ candidate-step g.T.Cover.covering items c.args.i c.args.candidates.now.members r.candidates c.loop-j.at j c.covers-covered.result c.loop-j.row.members
          c.in-Some.ensures.some.0 there c.in-Some.ensures.least v.members
          (c.covers-covered.ensures ∙ sym (cover-at g.T.Cover.covering items c.args.i j c.at-item.result.now c.at-other.result.now c.at-item.ensures c.at-other.ensures));
    }

pub returns : goal.returns
returns g c =
    let v = c.loop-j.invariant in
    ap₂ (λ (w : ℕ) (m : List ℕ). record { width = w; members = m }) v.width
    (candidate-none g.T.Cover.covering c.args.items.now c.args.i c.args.candidates.now.members c.requires.candidates c.loop-j.at c.loop-j.row.members v.within c.in_default.ensures.none v.members)
