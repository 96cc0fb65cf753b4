use Rattle.std.proofs.Common.{◌≡◌, ◌<◌, inl, inr, ap, sym, subst, ◌∙◌, arith}
use Rattle.std.proofs.lemmas.Bool.{cases_lt, cases_Bool}
use Rattle.base_bits.specs.Rows.{Numbers, is_in}
use Rattle.base_order.specs.Order.{root_at}
use Rattle.base_order.proofs.Numbers.{has-covered}
use Rattle.base_order.proofs.SettledRoots.{own-kept, moves-on, in-has}
use Rattle.base_order.proofs.order.Order.settle_won.Goals as goal

pub settle-requires-clause-there : goal.settle-requires-clause-there
settle-requires-clause-there g c = omega (arith, c.lemma_sorted.ensures.within c.in-Some.i c.in-Some.ensures.some.1, ap (λ (z : Numbers). z.width) c.covered_by-covered.ensures)

pub overflow_add-at : goal.overflow_add-at
overflow_add-at g c = let s = c.lemma_sorted.ensures in omega (arith, s.within c.in-Some.i c.in-Some.ensures.some.1, s.fits)

pub loop-i-smaller : goal.loop-i-smaller
loop-i-smaller g c = let i = c.in-Some.ensures.some in omega (arith, c.lemma_sorted.ensures.within c.in-Some.i i.1, i.0, ap (λ (z : Numbers). z.width) c.covered_by-covered.ensures)

pub loop-i-preserved : goal.loop-i-preserved
loop-i-preserved g c =
    let i = c.in-Some.ensures in
    let v = c.loop-i.invariant in
    let s = c.settle.ensures in
    let there = c.lemma_sorted.ensures.within c.in-Some.i i.some.1 in
    let wide = ap (λ (z : Numbers). z.width) c.covered_by-covered.ensures in
    record {
      within = omega (arith, there, wide);
      width = s.width;
      withdrawn_width = s.withdrawn_width;
      added_width = s.added_width;
      under = λ k l e t. elim (cases_lt k c.loop-i.at) [
        | inl n ↦ own-kept s.moves k (v.under k n e t ∙ sym t) ∙ t
        | inr n ↦ elim (cases_Bool (is_in k c.loop-i.roots.members)) [
          | inr z ↦ own-kept s.moves k (z ∙ sym t) ∙ t
          | inl y ↦
              let q : k ≡ c.in-Some.i = omega (arith, l, i.least k n (has-covered g.T.Cover.covering c.args.self.now c.args.c c.covered_by-covered.result.now c.covered_by-covered.ensures k (omega (arith, l, there, wide)) e) (in-has k c.loop-i.roots.members y)) in
              subst (λ z. is_in z c.settle.new.roots.members ≡ root_at g.T.Cover.covering c.args.self.now c.args.need.now.members z) (sym q) s.own ∙ t
        ]
      ];
      moves = moves-on {final = root_at g.T.Cover.covering c.args.self.now c.args.need.now.members} v.moves s.moves;
    }

pub returns-clause-won : goal.returns-clause-won
returns-clause-won g c o k e t = elim (cases_Bool (is_in k c.loop-i.roots.members)) [
  | inr n ↦ n
  | inl y ↦
      let h = in-has k c.loop-i.roots.members y in
      let l : k < c.loop-i.roots.width = c.lemma_sorted-2.ensures.within k h in
      c.loop-i.invariant.under k (c.in_default.ensures.none k (has-covered g.T.Cover.covering c.args.self.now c.args.c c.covered_by-covered.result.now c.covered_by-covered.ensures k (omega (arith, c.loop-i.invariant.width)) e) h) e t
]
