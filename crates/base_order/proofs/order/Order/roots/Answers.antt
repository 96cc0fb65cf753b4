use Rattle.std.proofs.Common.{nat_lt, sym, ◌∙◌, arith}
use Rattle.base.specs.Sets.{is_root}
use Rattle.base.proofs.Roots.{filter-iff}
use Rattle.base.proofs.Sets.{rising-filter}
use Rattle.base_bits.proofs.Passing.{nat_laws}
use Rattle.base_bits.proofs.Rows.{below-none, below-all}
use Rattle.base_order.specs.Order.{covers_at, root_numbers}
use Rattle.base_order.proofs.Numbers.{roots-step}
use Rattle.base_order.proofs.order.Order.roots.Goals as goal

pub loop-i-init : goal.loop-i-init
loop-i-init g c =
    let r = c.requires in
    let xs = c.args.of.now.members in
    record {
      within = omega arith;
      width = c.clear.ensures.width ∙ r.into;
      members = c.clear.ensures.members ∙ sym (below-none (root_numbers g.T.Cover.covering c.args.self.now xs) (rising-filter nat_laws (is_root (covers_at g.T.Cover.covering c.args.self.now) nat_lt xs) xs c.lemma_sorted.ensures.rising));
    }

pub is_free-is_root-requires-clause-there : goal.is_free-is_root-requires-clause-there
is_free-is_root-requires-clause-there g c = let r = c.requires in omega (arith, c.lemma_sorted.ensures.within c.in-Some.i c.in-Some.ensures.some.1, r.of)

pub put_if-requires : goal.put_if-requires
put_if-requires g c = let r = c.requires in omega (arith, c.lemma_sorted.ensures.within c.in-Some.i c.in-Some.ensures.some.1, r.of, c.loop-i.invariant.width)

pub overflow_add-at : goal.overflow_add-at
overflow_add-at g c = let s = c.lemma_sorted.ensures in omega (arith, s.within c.in-Some.i c.in-Some.ensures.some.1, s.fits)

pub loop-i-smaller : goal.loop-i-smaller
loop-i-smaller g c = let r = c.requires in let i = c.in-Some.ensures.some in omega (arith, c.lemma_sorted.ensures.within c.in-Some.i i.1, i.0, r.of)

pub loop-i-preserved : goal.loop-i-preserved
loop-i-preserved g c =
    let r = c.requires in
    let i = c.in-Some.ensures in
    let xs = c.args.of.now.members in
    let v = c.loop-i.invariant in
    record {
      within = omega (arith, c.lemma_sorted.ensures.within c.in-Some.i i.some.1, r.of);
      width = c.put_if.ensures.width ∙ v.width;
      members = c.put_if.ensures.members
          ∙ roots-step (is_root (covers_at g.T.Cover.covering c.args.self.now) nat_lt xs) xs c.lemma_sorted.ensures.rising c.loop-i.at c.in-Some.i i.some.1 i.some.0 i.least c.is_free-is_root.result c.loop-i.into.members v.members c.is_free-is_root.ensures;
    }

pub returns-clause-members : goal.returns-clause-members
returns-clause-members g c =
    let xs = c.args.of.now.members in
    let p = is_root (covers_at g.T.Cover.covering c.args.self.now) nat_lt xs in
    c.loop-i.invariant.members
    ∙ below-all (root_numbers g.T.Cover.covering c.args.self.now xs) (rising-filter nat_laws p xs c.lemma_sorted.ensures.rising) c.loop-i.at
    (λ k h. c.in_default.ensures.none k ((filter-iff p k xs).0 h).0)
