use Rattle.std.proofs.Common.{refl}
use Rattle.law_examples.proofs.Phased.{star-run, star-drains}
use Rattle.law_examples.proofs.orders.carries_no_more.Goals as goal

pub returns-clause-wanted : goal.returns-clause-wanted
returns-clause-wanted c = record { run = star-run; of_net = refl; of_journal = refl; drained = star-drains.drained; carries = refl; floods = refl }

pub returns-clause-unwanted : goal.returns-clause-unwanted
returns-clause-unwanted c = record { run = star-run; of_net = refl; of_journal = refl; drained = star-drains.drained; carries = refl; floods = refl }

pub returns-clause-receptions : goal.returns-clause-receptions
returns-clause-receptions c = refl

pub returns-clause-commands : goal.returns-clause-commands
returns-clause-commands c = refl
