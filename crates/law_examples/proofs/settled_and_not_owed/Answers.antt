use Rattle.std.proofs.Common.{refl}
use Rattle.law_examples.specs.SmallNets.{withdrawn_pair}
use Rattle.law_examples.specs.Ranges.{ranges}
use Rattle.law_examples.proofs.LawfulNets.{withdrawn_pair-lawful}
use Rattle.law_examples.proofs.Phased.{single-laws}
use Rattle.law_examples.proofs.SettledNotOwed.{run, pair-drains, settled-pair, on-way-pair, received-pair, pair-not-owed}
use Rattle.law_examples.proofs.settled_and_not_owed.Goals as goal

pub returns-clause-lawful : goal.returns-clause-lawful
returns-clause-lawful c = single-laws ranges withdrawn_pair withdrawn_pair-lawful

pub returns-clause-drains : goal.returns-clause-drains
returns-clause-drains c = pair-drains

pub returns-clause-trace : goal.returns-clause-trace
returns-clause-trace c = refl

pub returns-clause-settled : goal.returns-clause-settled
returns-clause-settled c = record { run = run; of_net = refl; of_journal = refl; settled = settled-pair }

pub returns-clause-early : goal.returns-clause-early
returns-clause-early c = record { run = run; of_net = refl; of_journal = refl; on_way = on-way-pair; received = received-pair }

pub returns-clause-not_owed : goal.returns-clause-not_owed
returns-clause-not_owed c = pair-not-owed

pub returns-clause-given : goal.returns-clause-given
returns-clause-given c = refl
