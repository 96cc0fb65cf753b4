use Rattle.net_model.proofs.SoundNets.{phases-low}
use Rattle.hierarchy_turns.proofs.Lawful.{laws-of}
use Rattle.hierarchy_turns.proofs.law.lawful.Goals as goal

pub returns : goal.returns
returns c = record { laws = laws-of; phases = phases-low }
