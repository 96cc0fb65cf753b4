use Rattle.std.proofs.Common.{refl}
use Rattle.net_model.proofs.SoundNets.{phases-low}
use Rattle.net_model.specs.Nets.{phases_of}
use Rattle.hierarchy_turns.specs.Network.{run_of}
use Rattle.hierarchy_turns.proofs.Lawful.{laws-of}
use Rattle.hierarchy_turns.proofs.law.walks.Goals as goal

pub returns-clause-empty : goal.returns-clause-empty
returns-clause-empty c = λ net. (refl, refl)

pub returns-clause-walks : goal.returns-clause-walks
returns-clause-walks c = λ net journal sound legal low. c.walk_drains.ensures.run (run_of net (laws-of net sound) journal legal) (phases_of net) (phases-low net sound) low
