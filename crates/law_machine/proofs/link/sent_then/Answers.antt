use Rattle.law_machine.proofs.Links.{back-sent, back-since}
use Rattle.law_machine.proofs.link.sent_then.Goals as goal

pub returns : goal.returns
returns g c = record { held = λ apply l good. back-sent apply l good; since = λ apply l good. back-since apply l good }
