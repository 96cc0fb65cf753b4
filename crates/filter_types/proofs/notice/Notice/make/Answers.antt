use Rattle.std.proofs.Common.{◌≡◌, sym, ◌∙◌, arith, length}
use Rattle.std.proofs.lemmas.Grind.{common_steps}
use Rattle.std.proofs.lemmas.List.Sorted.{length_permutation}
use Rattle.filter_types.specs.Notice.{AreRising, IsNotice}
use Rattle.filter_types.proofs.NoticeLaws.{sorted_rising}
use Rattle.filter_types.proofs.notice.Notice.make.Goals as goal

pub invariant_of-result : goal.invariant_of-result
invariant_of-result c =
    let same : length c.sorted-attributes.result.items ≡ length c.args.attributes.items = length_permutation _ _ c.sorted-attributes.ensures.same in
    let notice : IsNotice c.sorted-attributes.result.items =
    record {
      some = grind (arith, common_steps);
      few = grind (arith, common_steps);
      rising = sorted_rising c.args.attributes.items c.sorted-attributes.result.items (rw c.deref.ensures.value at (sym c.first_twice.ensures ∙ c.in_default.is)) c.sorted-attributes.ensures.same c.sorted-attributes.ensures.sorted;
      names = rw c.deref-2.ensures.value at c.lemma_attributes.ensures.names;
      values = rw c.deref-2.ensures.value at c.lemma_attributes.ensures.values;
    } in
    rw c.in_ok-attributes.ensures notice

pub returns-clause-rising : goal.returns-clause-rising
returns-clause-rising c =
    let rising : AreRising c.sorted-attributes.result.items = sorted_rising c.args.attributes.items c.sorted-attributes.result.items (rw c.deref.ensures.value at (sym c.first_twice.ensures ∙ c.in_default.is)) c.sorted-attributes.ensures.same c.sorted-attributes.ensures.sorted in
    rw c.in_ok-attributes.ensures rising
