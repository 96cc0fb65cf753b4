use Rattle.filter_text.proofs.Unique.{list_value, message_value}
use Rattle.filter_text.proofs.law.one_value.Goals as goal

pub returns-clause-filter : goal.returns-clause-filter
returns-clause-filter c = list_value 16

pub returns-clause-advert : goal.returns-clause-advert
returns-clause-advert c = list_value 64

pub returns-clause-message : goal.returns-clause-message
returns-clause-message c = message_value
