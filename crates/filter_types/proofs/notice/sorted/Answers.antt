use Rattle.std.proofs.Common.{rules, ap}
use Rattle.std.specs.Cmp.{IsStrictWeakOrder}
use Rattle.std.specs.Ordering.{is_lt}
use Rattle.std.proofs.lemmas.List.Sorted.{answers_always}
use Rattle.filter_constraints.specs.Bytes.{less}
use Rattle.filter_constraints.proofs.BytesLemmas.{less-asym, le-le}
use Rattle.filter_types.specs.Notice.{is_name_less}
use Rattle.filter_types.proofs.notice.sorted.Goals as goal

weak : IsStrictWeakOrder is_name_less
unfolding less
weak = record {
  one_way = λ x y h. less-asym x.0 y.0 h;
  chain = λ x y z p q. le-le z.0 y.0 x.0 q p;
}

pub returns-clause-sorted : goal.returns-clause-sorted
returns-clause-sorted c = c.sort_unstable_by.ensures.sorted is_name_less weak (answers_always _ _ _ (λ f a r g h. ap is_lt (search rules)))
