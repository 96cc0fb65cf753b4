-- Defines the turns that the walk tries within a phase: those of its commands, and of its rounds of receptions and table updates.
use Rattle.std.specs.Prelude.{ℕ, List, [], ◌∷◌, length, map}
use Rattle.law_machine.specs.Machine.{Did, Received}
use Rattle.law_machine.specs.Walk.{repeated}
use Rattle.law_routing.specs.Step.{NextCommand}
use Rattle.law_routing.specs.Walk.{walk_round, client_turns, command_turns, enough_rounds, walk_turns}
use Rattle.law_phases.specs.Trees.{net_at, machine_at}
use Rattle.law_phases.specs.Runs.{Turn}
use Rattle.net_model.specs.Real.{real}
use Rattle.net_model.specs.Parts.{NetParts}
use Rattle.net_model.specs.Nets.{phased_net, servers_in, home_of, clients_of, script_of}
pub use Rattle.net_turns.specs.Network.{phase_in, next_phase_by}

-- the turn of a client's next command
abbrev pub command_turn : NetParts → ℕ → Turn
command_turn net client = (home_of net client, Did (NextCommand client))

-- the turns of a client's commands
abbrev pub script_turns : NetParts → ℕ → ℕ → List Turn
script_turns net phase client =
    repeated (machine_at real (phased_net net) phase) (length (script_of net client)) (command_turn net client ∷ [])

-- the turns of a server's commands
abbrev pub server_turns : NetParts → ℕ → ℕ → List Turn
server_turns net phase server = client_turns real (net_at real (phased_net net) phase) server (clients_of net server)

-- the turns of all commands
abbrev pub commands_turns : NetParts → ℕ → List Turn
commands_turns net phase = command_turns real (net_at real (phased_net net) phase) (servers_in net)

-- the turns by which a server receives a message from each of these neighbours
abbrev pub receptions : ℕ → List ℕ → List Turn
receptions server neighbours = map (λ from. (server, Received from)) neighbours

-- the turns of a round, and of more rounds than there can be entries
abbrev pub round_turns : NetParts → ℕ → List Turn
round_turns net phase = walk_round real (net_at real (phased_net net) phase)

abbrev pub rounds_turns : NetParts → ℕ → List Turn
rounds_turns net phase =
    repeated (machine_at real (phased_net net) phase) (enough_rounds real (net_at real (phased_net net) phase)) (round_turns net phase)

-- the turns of a phase
abbrev pub phase_turns : NetParts → ℕ → List Turn
phase_turns net phase = walk_turns real (net_at real (phased_net net) phase)
