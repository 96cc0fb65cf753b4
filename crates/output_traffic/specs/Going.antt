-- How the code goes through scripts; no promise to a caller speaks of it.
use Rattle.std.specs.Prelude.{ℕ, ◌==◌, Bool, false, List, [], ◌∷◌, map}
use Rattle.base.specs.Numbers.{sum_over, count}
use Rattle.law_phases.specs.Trees.{net_at}
use Rattle.net_model.specs.Real.{real}
use Rattle.net_model.specs.Parts.{ClientParts, NetParts}
use Rattle.net_model.specs.Meaning.{phased_command}
use Rattle.net_model.specs.Nets.{phased_net, topology_at}
use Rattle.output_traffic.specs.Flood.{accepted_phases, is_flooded}

-- whether a list begins with a number
abbrev pub is_first : List ℕ → ℕ → Bool
is_first [] number = false
is_first (first ∷ later) number = first == number

-- how many of the publications of these phases, of a server, flooding sends over a link
abbrev pub phases_flood : NetParts → ℕ → List ℕ → ℕ → ℕ → ℕ
phases_flood net home phases from to = sum_over (λ phase. count (is_flooded (topology_at net phase) home from to)) phases

-- and of a client's
abbrev pub client_flood : NetParts → ClientParts → ℕ → ℕ → ℕ
client_flood net client from to =
    phases_flood net client.home (accepted_phases real (net_at real (phased_net net) 0) [] (map phased_command client.script)) from to
