use Rattle.hierarchy_turns.specs.Network.{run_of}
use Rattle.hierarchy_turns.proofs.Lawful.{laws-of, low-of}
use Rattle.hierarchy_turns.proofs.law.low.Goals as goal

pub returns : goal.returns
returns c = λ net journal sound legal. low-of net journal sound legal (c.bounded.ensures (run_of net (laws-of net sound) journal legal))
