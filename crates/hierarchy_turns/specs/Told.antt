-- Defines the messages of the entries of a hierarchy's journal, as texts.
use Rattle.std.specs.Prelude.{ℕ, zero, suc, List, [], ◌∷◌}
use Rattle.law_machine.specs.Machine.{act_phase}
use Rattle.law_machine.specs.Network.{messages_of}
use Rattle.law_machine.specs.History.{Moment, moment_after, as_found}
use Rattle.law_hierarchy.specs.Step.{HierarchyEntry}
use Rattle.net_model.specs.Real.{real}
use Rattle.filter_text.specs.declared.sent.Sent.{Sent}
use Rattle.server_spec.specs.Control.{texts}
use Rattle.net_model.specs.Parts.{NetParts, EntryParts}
use Rattle.hierarchy_turns.specs.Network.{net_of, servers_of, entry_in, journal_in, opening_of}

-- a moment as an entry finds it: before the first command of a later phase the clocks are raised
abbrev pub found_by : (net : NetParts) → Moment (servers_of net) → HierarchyEntry real (net_of net) → Moment (servers_of net)
found_by net moment entry = as_found (servers_of net) moment (act_phase (servers_of net) entry.server (moment.network.state entry.server) entry.act)

-- the moment after n entries of a journal, as this entry finds it
abbrev pub found_of : (net : NetParts) → List EntryParts → ℕ → EntryParts → Moment (servers_of net)
found_of net journal n entry = found_by net (moment_after (servers_of net) (opening_of net) (journal_in net journal) n) (entry_in net entry)

-- the texts of the messages that an entry puts, by the moment that it finds and by rising neighbour
abbrev pub told_of : (net : NetParts) → Moment (servers_of net) → EntryParts → List Sent
told_of net found entry = texts (messages_of (servers_of net) found.network (entry_in net entry)) ((net_of net).links entry.server)

-- those of the entries of a journal from the n-th on
abbrev pub told_from : NetParts → List EntryParts → ℕ → List EntryParts → List (List Sent)
told_from net journal n [] = []
told_from net journal n (entry ∷ entries) = told_of net (found_of net journal n entry) entry ∷ told_from net journal (suc n) entries

-- THE MESSAGES OF A JOURNAL, entry by entry
abbrev pub told_by : NetParts → List EntryParts → List (List Sent)
told_by net journal = told_from net journal zero journal
