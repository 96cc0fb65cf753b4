use Rattle.std.proofs.Common.{sym, subst, ◌∙◌, nat_lt, arith}
use Rattle.base.specs.Sets.{Has, IsRising}
use Rattle.server_core.proofs.due.change_at.Goals as goal

pub returns-then-are_empty : goal.returns-then-are_empty
returns-then-are_empty g c t e =
    let none = c.are_empty.ensures.none c.if-are_empty.true in
    (sym (c.withdrawn-withdrawn.ensures.members t e) ∙ none.0, sym (c.added-added.ensures.members t e) ∙ none.1)

pub returns : goal.returns
returns g c t e =
    let w = c.withdrawn-withdrawn.ensures in
    let a = c.added-added.ensures in
    let x = c.in_ok-change.ensures in
    let left = c.lemma_sorted.ensures in
    let come = c.lemma_sorted-2.ensures in
    record {
      withdrawn = x.withdrawn ∙ w.members t e;
      added = x.added ∙ a.members t e;
      some = λ none. c.are_empty.ensures.some c.if-are_empty.false (w.members t e ∙ none.0, a.members t e ∙ none.1);
      withdrawn_rising = subst (IsRising nat_lt) (w.members t e) left.rising;
      added_rising = subst (IsRising nat_lt) (a.members t e) come.rising;
      withdrawn_known = λ i h. let l = left.within i (subst (Has i) (sym (w.members t e)) h) in let k = w.width in omega (arith, l, k);
      added_known = λ i h. let l = come.within i (subst (Has i) (sym (a.members t e)) h) in let k = a.width in omega (arith, l, k);
    }
