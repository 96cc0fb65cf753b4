use Rattle.law_machine.proofs.Links.{sound}
use Rattle.law_machine.proofs.link.on_its_way.Goals as goal

pub returns : goal.returns
returns g c apply l good = sound apply l good
