use Rattle.filter_values.specs.OrderTotal.{kind_total, value_total}
use Rattle.filter_values.proofs.OrderLaws.{kind-tied, value-tied}
use Rattle.filter_values.proofs.law.value_order.Goals as goal

pub returns-clause-kinds : goal.returns-clause-kinds
returns-clause-kinds c = kind_total

pub returns-clause-same_kinds : goal.returns-clause-same_kinds
returns-clause-same_kinds c k m h = kind-tied k m h

pub returns-clause-values : goal.returns-clause-values
returns-clause-values c = value_total

pub returns-clause-same_values : goal.returns-clause-same_values
returns-clause-same_values c x y h = value-tied x y h
