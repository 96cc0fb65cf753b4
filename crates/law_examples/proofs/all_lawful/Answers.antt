use Rattle.law_examples.proofs.Lawful.{ranges-laws}
use Rattle.law_examples.proofs.LawfulNets.{wide_and_narrow-lawful, withdrawn_wide-lawful, equal_ranges-lawful, advertised_small-lawful, subscribed_again-lawful}
use Rattle.law_examples.proofs.all_lawful.Goals as goal

pub returns-clause-ranges : goal.returns-clause-ranges
returns-clause-ranges c = ranges-laws

pub returns-clause-wide_and_narrow : goal.returns-clause-wide_and_narrow
returns-clause-wide_and_narrow c = wide_and_narrow-lawful

pub returns-clause-withdrawn_wide : goal.returns-clause-withdrawn_wide
returns-clause-withdrawn_wide c = withdrawn_wide-lawful

pub returns-clause-equal_ranges : goal.returns-clause-equal_ranges
returns-clause-equal_ranges c = equal_ranges-lawful

pub returns-clause-advertised_small : goal.returns-clause-advertised_small
returns-clause-advertised_small c = advertised_small-lawful

pub returns-clause-subscribed_again : goal.returns-clause-subscribed_again
returns-clause-subscribed_again c = subscribed_again-lawful
