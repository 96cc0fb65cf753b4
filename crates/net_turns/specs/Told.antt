-- Defines the messages of a journal's entries, as texts.
use Rattle.std.specs.Prelude.{ℕ, zero, suc, List, [], ◌∷◌}
use Rattle.law_machine.specs.Network.{messages_of}
use Rattle.law_phases.specs.Trees.{entry_on, net_at, machine_at, at_phase}
use Rattle.law_phases.specs.Moments.{Moment, found_of}
use Rattle.net_model.specs.Real.{real}
use Rattle.filter_text.specs.declared.sent.Sent.{Sent}
use Rattle.server_spec.specs.Control.{texts}
use Rattle.net_model.specs.Parts.{NetParts, EntryParts}
use Rattle.net_model.specs.Meaning.{entry_of, journal_of}
use Rattle.net_model.specs.Nets.{phased_net}

-- the texts of the messages that an entry puts, by the moment that it finds and by rising neighbour
abbrev pub told_of : (net : NetParts) → Moment real (phased_net net) → EntryParts → List Sent
told_of net found entry =
    texts
    (messages_of (machine_at real (phased_net net) found.phase) (at_phase real (phased_net net) found.phase found.state)
    (entry_on real (net_at real (phased_net net) found.phase) (entry_of entry)))
    ((net_at real (phased_net net) found.phase).links entry.server)

-- those of the entries of a journal from the n-th on
abbrev pub told_from : NetParts → List EntryParts → ℕ → List EntryParts → List (List Sent)
told_from net journal n [] = []
told_from net journal n (entry ∷ entries) =
    told_of net (found_of real (phased_net net) (journal_of journal) n) entry ∷ told_from net journal (suc n) entries

-- THE MESSAGES OF A JOURNAL, entry by entry
abbrev pub told_by : NetParts → List EntryParts → List (List Sent)
told_by net journal = told_from net journal zero journal
