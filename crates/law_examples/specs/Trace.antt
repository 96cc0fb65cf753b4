-- What a run shows line by line, what it delivers, and what it leaves held.
use Rattle.std.specs.Prelude.{ℕ, suc, List, [], ◌∷◌, ◌++◌, length, map}
use Rattle.law_machine.specs.Machine.{Machine, Act, Entry}
use Rattle.law_machine.specs.Network.{NetworkState, messages_of}
use Rattle.law_machine.specs.History.{Moment, network_step, moment_after}
use Rattle.law_machine.specs.Walk.{entries_by, moment_by}
use Rattle.law_routing.specs.Theory.{Theory}
use Rattle.law_routing.specs.Net.{Net}
use Rattle.law_routing.specs.Server.{Message, Publication}
use Rattle.law_routing.specs.Step.{Task}
use Rattle.law_routing.specs.Routing.{routing_machine, Network, NetEntry, opening}
use Rattle.law_routing.specs.Walk.{walk_of, walk_turns}

-- an entry as it is traced: its stamp, server and act, and the messages that it puts, by neighbour
pub record TracedEntry (Task Message : Type 0) : Type 0 where
  pub stamp : ℕ
  pub server : ℕ
  pub act : Act Task
  pub outs : List (ℕ × Message)

module _ (machine : Machine) where
  -- the messages of an entry for these neighbours
  abbrev pub messages_for : NetworkState machine → Entry machine → List ℕ → List (ℕ × machine.Message)
  messages_for network entry [] = []
  messages_for network entry (link ∷ links) = map (λ message. (link, message)) (messages_of machine network entry link) ++ messages_for network entry links

  -- an entry that finds the network so, as it is traced
  abbrev pub traced : NetworkState machine → Entry machine → TracedEntry machine.Task machine.Message
  traced network entry = record {
    stamp = entry.stamp;
    server = entry.server;
    act = entry.act;
    outs = messages_for network entry (machine.links entry.server);
  }

  -- entries from a moment on, as they are traced
  abbrev pub traced_from : Moment machine → List (Entry machine) → List (TracedEntry machine.Task machine.Message)
  traced_from moment [] = []
  traced_from moment (entry ∷ entries) = traced moment.network entry ∷ traced_from (network_step machine moment entry) entries

module _ (theory : Theory) where
  -- a line of a trace: an entry as it is traced
  abbrev pub Line : Type 0
  Line = TracedEntry Task (Message theory)

  -- a line written in one row
  abbrev pub line : ℕ → ℕ → Act Task → List (ℕ × Message theory) → Line
  line stamp server act outs = record { stamp = stamp; server = server; act = act; outs = outs }

  module _ (net : Net theory) where
    -- the opening, before the first command
    abbrev pub beginning : Moment (routing_machine theory net)
    beginning = record { network = opening theory net; phase = 0 }

    -- the messages of an entry for these neighbours
    abbrev pub outs_to : Network theory net → NetEntry theory net → List ℕ → List (ℕ × Message theory)
    outs_to = messages_for (routing_machine theory net)

    -- the lines of entries from a moment on
    abbrev pub lines_from : Moment (routing_machine theory net) → List (NetEntry theory net) → List Line
    lines_from = traced_from (routing_machine theory net)

    -- the trace of a journal
    abbrev pub trace : List (NetEntry theory net) → List Line
    trace entries = lines_from beginning entries

    -- the walk of the whole net, of so many phases
    abbrev pub walk : ℕ → List (NetEntry theory net)
    walk phases = walk_of theory net phases beginning

    -- schedules of turns, phase by phase: in each phase the turns are made, and the walk ends it
    abbrev pub replay_from : ℕ → Moment (routing_machine theory net) → List (List (ℕ × Act Task)) → List (NetEntry theory net)
    replay_from phase moment [] = []
    replay_from phase moment (turns ∷ schedules) =
        entries_by (routing_machine theory net) phase moment (turns ++ walk_turns theory net)
        ++ replay_from (suc phase) (moment_by (routing_machine theory net) phase moment (turns ++ walk_turns theory net)) schedules

    -- the journal of schedules from the opening on
    abbrev pub replay : List (List (ℕ × Act Task)) → List (NetEntry theory net)
    replay schedules = replay_from 0 beginning schedules

    -- the network at the end of a journal
    abbrev pub end_of : List (NetEntry theory net) → Network theory net
    end_of entries = (moment_after (routing_machine theory net) beginning entries (length entries)).network

    -- what a client was given by the end of a journal
    abbrev pub given : List (NetEntry theory net) → ℕ → List (Publication theory)
    given entries client = ((end_of entries).state (net.home client)).inbox client

    -- what a server holds from an interface at the end of a journal
    abbrev pub held : List (NetEntry theory net) → ℕ → ℕ → List theory.Filter
    held entries server interface = ((end_of entries).state server).subs interface
