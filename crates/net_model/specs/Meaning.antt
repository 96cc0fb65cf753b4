-- Defines what commands, entries, turns and inboxes represent in the runs of the network.
use Rattle.std.specs.Prelude.{ℕ, List, map}
use Rattle.law_machine.specs.Machine.{Act, Did, Received}
use Rattle.law_routing.specs.Net.{Command, Subscribe, Unsubscribe, Advertise, Unadvertise, Publish, PhasedCommand}
use Rattle.law_routing.specs.Server.{Publication}
use Rattle.law_routing.specs.Step.{Task, NextCommand, TableUpdate}
use Rattle.law_phases.specs.Trees.{JournalEntry}
use Rattle.net_model.specs.Real.{real}
use Rattle.filter_text.specs.NoticeText.{notice_text}
use Rattle.filter_text.specs.declared.command.Command.{Command as WireCommand}
use Rattle.filter_text.specs.declared.command.Command.TheVariants as commands
use Rattle.filter_text.specs.Deliveries.{Delivery}
use Rattle.net_model.specs.declared.turn.Act.{Act as EntryAct}
use Rattle.net_model.specs.declared.turn.Act.TheVariants as acts
use Rattle.net_model.specs.Parts.{EntryParts}

-- a command
abbrev pub command_of : WireCommand → Command real
command_of (commands.Subscribe f) = Subscribe f
command_of (commands.Unsubscribe f) = Unsubscribe f
command_of (commands.Advertise a) = Advertise a
command_of (commands.Unadvertise a) = Unadvertise a
command_of (commands.Publish n) = Publish n

-- a command in its phase
abbrev pub phased_command : ℕ × WireCommand → PhasedCommand real
phased_command step = record { phase = step.0; command = command_of step.1 }

-- what a server does: a client's next command, a reception from a neighbour, or a table update
abbrev pub act_of : EntryAct → Act Task
act_of (acts.Command client) = Did (NextCommand client)
act_of (acts.Receive from) = Received from
act_of acts.TableUpdate = Did TableUpdate

-- an entry
abbrev pub entry_of : EntryParts → JournalEntry
entry_of entry = record { stamp = entry.stamp; server = entry.server; act = act_of entry.act; outs = entry.outs }

-- a journal
abbrev pub journal_of : List EntryParts → List JournalEntry
journal_of entries = map entry_of entries

-- what a client receives of a publication: its id with the text of its notice
abbrev pub delivery_of : Publication real → Delivery
delivery_of publication = record { id = record { publisher = publication.publisher; ordinal = publication.ordinal }; bytes = notice_text publication.notice }

-- an inbox
abbrev pub deliveries_of : List (Publication real) → List Delivery
deliveries_of inbox = map delivery_of inbox
