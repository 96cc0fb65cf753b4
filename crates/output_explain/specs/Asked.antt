-- What is asked: which client, and which publication; and why there may be no answer.
use Rattle.std.specs.Prelude.{◌≡◌, ◌==◌, ℕ, suc, cond, List, [], ◌∷◌, Option, Some, None, codes, take, slice_get}
use Rattle.std.specs.Str.{bytes_eq}
use Rattle.filter_types.specs.Notice.{Attribute}
use Rattle.filter_text.specs.declared.command.Command.{Command}
use Rattle.filter_text.specs.declared.command.Command.TheVariants as commands
use Rattle.filter_text.specs.declared.id.Id.{Id}
use Rattle.law_routing.specs.Net.{Publish}
use Rattle.law_routing.specs.Clients.{ordinal}
use Rattle.net_model.specs.Real.{real}
use Rattle.net_model.specs.Parts.{ClientParts, NetParts}
use Rattle.net_model.specs.Nets.{client_at, script_of}
use Rattle.output_flood.specs.Held.{Script}
use Rattle.output_explain.specs.declared.fault.ExplainFault.{ExplainFault}
use Rattle.output_explain.specs.declared.fault.ExplainFault.TheVariants as faults
use Rattle.output_explain.specs.declared.find.Found.{Found}

-- the client of this number has this name
pub record IsNamed (net : NetParts) (name : List ℕ) (number : ℕ) : Type 0 where
  pub client : ClientParts
  pub at : client_at net.clients number ≡ Some client
  pub named : client.name ≡ name

-- a publish of the notice in the phase by the publisher has the ordinal; it has so many commands before it
pub record IsPublish (net : NetParts) (id : Id) (index phase : ℕ) (notice : List Attribute) : Type 0 where
  pub at : slice_get (script_of net id.publisher) index ≡ Some (record { phase = phase; command = Publish notice })
  pub ordinal : ordinal real (take (suc index) (script_of net id.publisher)) ≡ id.ordinal

-- what is asked about: a client by its name, and a publication by its publisher's name and its ordinal
pub record Question : Type 0 where
  pub client : List ℕ
  pub publisher : List ℕ
  pub ordinal : ℕ

-- nobody has the name
abbrev pub IsNobody : NetParts → List ℕ → Type 0
IsNobody net name = (number : ℕ) → IsNamed net name number → ⊥

-- somebody has it
abbrev pub IsSomebody : NetParts → List ℕ → Type 0
IsSomebody net name = (number : ℕ) × IsNamed net name number

-- the client of that name has no such publish
abbrev pub HasNoPublish : NetParts → List ℕ → ℕ → Type 0
HasNoPublish net name number = (publisher index phase : ℕ) (notice : List Attribute) → IsNamed net name publisher
    → IsPublish net (record { publisher = publisher; ordinal = number }) index phase notice → ⊥

-- what a fault means
abbrev pub fault_means : ExplainFault → List ℕ
fault_means faults.NoClient = codes "no client of the document has the first name"
fault_means faults.NoPublisher = codes "no client of the document has the second name"
fault_means faults.NoPublication = codes "the publisher has no publish command of this number"
fault_means faults.NoMemory = codes "memory ran out"

-- the number of the client with a name, where so many clients stand before these
abbrev pub number_from : ℕ → List ℕ → List ClientParts → Option ℕ
number_from place name [] = None
number_from place name (client ∷ clients) = cond (bytes_eq client.name name) (Some (suc place)) (number_from (suc place) name clients)

-- the number of the client with a name, from 1
abbrev pub number_of : List ℕ → List ClientParts → Option ℕ
number_of name clients = number_from 0 name clients

-- how many publishes there are after a command
abbrev pub publishes_after : ℕ → Command → ℕ
publishes_after count (commands.Subscribe f) = count
publishes_after count (commands.Unsubscribe f) = count
publishes_after count (commands.Advertise a) = count
publishes_after count (commands.Unadvertise a) = count
publishes_after count (commands.Publish n) = suc count

-- a publish of this number, where the command is one
abbrev pub found_by : ℕ → ℕ → ℕ → ℕ → Command → Option Found → Option Found
found_by number index count phase (commands.Subscribe f) later = later
found_by number index count phase (commands.Unsubscribe f) later = later
found_by number index count phase (commands.Advertise a) later = later
found_by number index count phase (commands.Unadvertise a) later = later
found_by number index count phase (commands.Publish n) later =
    cond (suc count == number) (Some (record { index = index; phase = phase; notice = n })) later

-- the publish of a number among commands behind so many commands and so many publishes
abbrev pub found_from : ℕ → ℕ → ℕ → Script → Option Found
found_from number index count [] = None
found_from number index count (step ∷ steps) =
    found_by number index count step.0 step.1 (found_from number (suc index) (publishes_after count step.1) steps)

-- the commands of a client by its number
abbrev pub commands_in : Option ClientParts → Script
commands_in None = []
commands_in (Some client) = client.script

abbrev pub commands_of : NetParts → ℕ → Script
commands_of net client = commands_in (client_at net.clients client)

-- the fault of a question, by the client, the publisher and the publish that are found
abbrev pub fault_found : Option Found → Option ExplainFault
fault_found None = Some faults.NoPublication
fault_found (Some found) = None

abbrev pub fault_by : Option ℕ → Option ℕ → (ℕ → Option Found) → Option ExplainFault
fault_by None publisher publish = Some faults.NoClient
fault_by (Some client) None publish = Some faults.NoPublisher
fault_by (Some client) (Some publisher) publish = fault_found (publish publisher)

abbrev pub fault_of : NetParts → List ℕ → List ℕ → ℕ → Option ExplainFault
fault_of net client publisher ordinal =
    fault_by (number_of client net.clients) (number_of publisher net.clients) (λ number. found_from ordinal 0 0 (commands_of net number))

-- the fault is this one; memory runs out only where there is none
abbrev pub IsFaultOf : ExplainFault → Option ExplainFault → Type 0
IsFaultOf faults.NoClient fault = fault ≡ Some faults.NoClient
IsFaultOf faults.NoPublisher fault = fault ≡ Some faults.NoPublisher
IsFaultOf faults.NoPublication fault = fault ≡ Some faults.NoPublication
IsFaultOf faults.NoMemory fault = fault ≡ None
