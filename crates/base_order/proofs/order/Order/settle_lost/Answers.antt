use Rattle.std.proofs.Common.{◌≡◌, ◌<◌, true, inl, inr, sym, subst, ◌∙◌, arith}
use Rattle.std.proofs.lemmas.Bool.{cases_lt}
use Rattle.base_bits.specs.Rows.{is_in}
use Rattle.base_order.specs.Order.{root_at}
use Rattle.base_order.proofs.Numbers.{has-covered}
use Rattle.base_order.proofs.SettledRoots.{own-kept, moves-on}
use Rattle.base_order.proofs.order.Order.settle_lost.Goals as goal

pub settle_other-requires-clause-there : goal.settle_other-requires-clause-there
settle_other-requires-clause-there g c = let r = c.requires in omega (arith, c.lemma_sorted.ensures.within c.in-Some.i c.in-Some.ensures.some.2, r.need)

pub overflow_add-at : goal.overflow_add-at
overflow_add-at g c = let s = c.lemma_sorted.ensures in omega (arith, s.within c.in-Some.i c.in-Some.ensures.some.2, s.fits)

pub loop-i-smaller : goal.loop-i-smaller
loop-i-smaller g c = let r = c.requires in let i = c.in-Some.ensures.some in omega (arith, c.lemma_sorted.ensures.within c.in-Some.i i.2, i.0, r.need)

pub loop-i-preserved : goal.loop-i-preserved
loop-i-preserved g c =
    let r = c.requires in
    let i = c.in-Some.ensures in
    let v = c.loop-i.invariant in
    let s = c.settle_other.ensures in
    record {
      within = omega (arith, c.lemma_sorted.ensures.within c.in-Some.i i.some.2, r.need);
      width = s.width;
      withdrawn_width = s.withdrawn_width;
      added_width = s.added_width;
      under = λ k l e h t. elim (cases_lt k c.loop-i.at) [
        | inl n ↦ own-kept s.moves k (v.under k n e h t ∙ sym t) ∙ t
        | inr n ↦
            let there : k < c.args.need.now.width = c.lemma_sorted.ensures.within k h in
            let q : k ≡ c.in-Some.i = omega (arith, i.least k n (has-covered g.T.Cover.covering c.args.self.now c.args.c c.covered_by-covered.result.now c.covered_by-covered.ensures k (omega (arith, r.need)) e) h) in
            subst (λ z. is_in z c.settle_other.new.roots.members ≡ true) (sym q) (s.own (subst (λ z. root_at g.T.Cover.covering c.args.self.now c.args.need.now.members z ≡ true) q t))
      ];
      moves = moves-on {final = root_at g.T.Cover.covering c.args.self.now c.args.need.now.members} v.moves s.moves;
    }

pub returns-clause-lost : goal.returns-clause-lost
returns-clause-lost g c o k e h t =
    let r = c.requires in
    let there : k < c.args.need.now.width = c.lemma_sorted.ensures.within k h in
    c.loop-i.invariant.under k (c.in_default.ensures.none k (has-covered g.T.Cover.covering c.args.self.now c.args.c c.covered_by-covered.result.now c.covered_by-covered.ensures k (omega (arith, r.need)) e) h) e h t
