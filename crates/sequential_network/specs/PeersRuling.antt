-- Defines what a network of peers keeps through its turns.
use Rattle.std.specs.Prelude.{ℕ}
use Rattle.law_phases.specs.Trees.{State, IsAtRestOn}
use Rattle.law_phases.specs.Moments.{begun}
use Rattle.net_model.specs.Real.{real}
use Rattle.net_model.specs.Parts.{NetParts}
use Rattle.net_model.specs.Nets.{phased_net}
use Rattle.server_core.specs.Core.{CoreParts}
use Rattle.net_turns.specs.Network.{executed_by, received_by}
use Rattle.sequential_network.specs.Acted.{Servers}
use Rattle.sequential_network.specs.Kept.{AreServers, IsFirst, IsNetwork}
use Rattle.sequential_network.specs.Ruling.{Ruling}

-- a later phase was begun: the cores of a state at rest are those of its beginning
abbrev pub IsBegun : NetParts → ℕ → ℕ → Servers CoreParts → Servers CoreParts → Type 0
IsBegun net last own old new = (state : State real) → AreServers net last state old.cores → IsAtRestOn real (phased_net net) last state
    → AreServers net own (begun real (phased_net net) last own state) new.cores

abbrev pub peers_ruling : Ruling CoreParts
peers_ruling = record {
  IsFirst = IsFirst;
  IsKept = IsNetwork;
  IsBegun = IsBegun;
  semantics = λ core. core.control.semantics;
  executed_by = executed_by;
  received_by = received_by;
}
