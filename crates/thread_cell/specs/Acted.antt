-- Defines the inputs of a server whose messages have their stamps, as in a network on one thread.
use Rattle.std.specs.Prelude.{ℕ}
use Rattle.law_machine.specs.Machine.{Input, Does, Receives, Act, Did, Received, Stamped}
use Rattle.law_routing.specs.Server.{Message}
use Rattle.law_routing.specs.Step.{Task}
use Rattle.net_model.specs.Real.{real}

-- a message of the runs under its stamp
abbrev pub Represented : Type 0
Represented = Stamped (Message real)

-- an input whose message has its stamp
abbrev pub StampedInput : Type 0
StampedInput = Input Task Represented

-- the input without the stamp, the stamp that it takes, and how a journal records it
abbrev pub input_of : StampedInput → Input Task (Message real)
input_of (Does task) = Does task
input_of (Receives from m) = Receives from m.message

abbrev pub stamp_of : StampedInput → ℕ
stamp_of (Does task) = 0
stamp_of (Receives from m) = m.stamp

abbrev pub recorded_as : StampedInput → Act Task
recorded_as (Does task) = Did task
recorded_as (Receives from m) = Received from
