use Rattle.filter_constraints.specs.OrderTotal.{constraint_total, list_total}
use Rattle.filter_constraints.proofs.OrderLaws.{parts-tied, list_tied}
use Rattle.filter_constraints.proofs.law.canonical_order.Goals as goal

pub returns-clause-constraints : goal.returns-clause-constraints
returns-clause-constraints q = constraint_total

pub returns-clause-same_constraints : goal.returns-clause-same_constraints
returns-clause-same_constraints q c d h = parts-tied c d h

pub returns-clause-lists : goal.returns-clause-lists
returns-clause-lists q = list_total

pub returns-clause-same_lists : goal.returns-clause-same_lists
returns-clause-same_lists q f g h = list_tied f g h
