-- Defines the walk of a net: what is left of each phase, in a fixed order of turns of which those that are not possible are skipped.
use Rattle.std.specs.Prelude.{ℕ, suc, ◌+◌, ◌*◌, ◌-◌, List, [], ◌∷◌, ◌++◌, length, map}
use Rattle.law_machine.specs.Machine.{Act, Did, Received}
use Rattle.law_machine.specs.History.{Moment}
use Rattle.law_machine.specs.Walk.{repeated, walk_phases}
use Rattle.law_routing.specs.Theory.{Theory}
use Rattle.law_routing.specs.Net.{Net}
use Rattle.law_routing.specs.Step.{Task, NextCommand, TableUpdate}
use Rattle.law_routing.specs.Routing.{routing_machine, NetEntry, all_commands}

module _ (theory : Theory) (net : Net theory) where
  -- of these servers, each receives one message from each neighbour and then makes a table update
  abbrev pub round_at : List ℕ → List (ℕ × Act Task)
  round_at [] = []
  round_at (server ∷ servers) = map (λ neighbour. (server, Received neighbour)) (net.links server) ++ ((server, Did TableUpdate) ∷ round_at servers)

  -- a round of receptions and table updates
  abbrev pub walk_round : List (ℕ × Act Task)
  walk_round = round_at net.servers

  -- of these clients of a server, each has its commands executed one after the other
  abbrev pub client_turns : ℕ → List ℕ → List (ℕ × Act Task)
  client_turns server [] = []
  client_turns server (client ∷ clients) =
      repeated (routing_machine theory net) (length (net.script client)) ((server, Did (NextCommand client)) ∷ [])
      ++ client_turns server clients

  -- all commands, server by server
  abbrev pub command_turns : List ℕ → List (ℕ × Act Task)
  command_turns [] = []
  command_turns (server ∷ servers) = client_turns server (net.clients server) ++ command_turns servers

  -- more rounds than there can be entries; a round in which nothing is possible makes none
  abbrev pub enough_rounds : ℕ
  enough_rounds = suc (3 * (all_commands theory net * (length net.servers * length net.servers + 1)))

  -- the turns of a phase: all commands, then rounds
  abbrev pub walk_turns : List (ℕ × Act Task)
  walk_turns = command_turns net.servers ++ repeated (routing_machine theory net) enough_rounds walk_round

  -- the entries of the walk from a moment on, phase by phase, in a net of so many phases
  abbrev pub walk_of : ℕ → Moment (routing_machine theory net) → List (NetEntry theory net)
  walk_of phases moment = walk_phases (routing_machine theory net) walk_turns (phases - moment.phase) moment.phase moment
