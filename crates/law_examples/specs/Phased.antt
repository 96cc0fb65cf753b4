-- What a run over trees by phase shows line by line, and nets on one tree as nets with trees by phase.
use Rattle.std.specs.Prelude.{◌≡◌, ℕ, ◌==◌, false, cond, List, [], ◌∷◌, ◌++◌, length, map}
use Rattle.law_machine.specs.Network.{messages_of}
use Rattle.law_routing.specs.Theory.{Theory}
use Rattle.law_routing.specs.Net.{Net, Subscribe, Publish}
use Rattle.law_routing.specs.Server.{Message, Publication}
use Rattle.law_routing.specs.Example.{line_clients, line_home}
use Rattle.law_phases.specs.Trees.{JournalEntry, entry_on, entry_off, PhasedNet, net_at, machine_at, at_phase}
use Rattle.law_phases.specs.Moments.{Moment, opening_moment, found_by, acted, moment_of}
use Rattle.law_phases.specs.Runs.{PhasedRun}
use Rattle.law_phases.specs.AtMoments.{EndsDrained}
use Rattle.law_phases.specs.Economy.{noticed, flooded}
use Rattle.law_phases.specs.Settled.{IsSettledTo, IsSettledOn, IsAllReceivedBy}
use Rattle.law_phases.specs.Sequence.{IsMadeKnowing}
use Rattle.law_phases.specs.Walk.{walk_of}
use Rattle.law_phases.specs.Example.{line_tree, star_tree}
use Rattle.law_examples.specs.Ranges.{Any, ranges}
use Rattle.law_examples.specs.Trace.{Line, line, replay}
use Rattle.law_examples.specs.SmallNets.{in_phase, withdrawn_pair, both_publish, answers}

module _ (theory : Theory) where
  -- a net on one tree, which all its phases have
  abbrev pub on_one_tree : Net theory → PhasedNet theory
  on_one_tree net = record {
    adverts = net.adverts;
    servers = net.servers;
    tree = record { links = net.links; hop = net.hop };
    later = [];
    home = net.home;
    clients = net.clients;
    script = net.script;
  }

  module _ (net : PhasedNet theory) where
    -- the messages of an entry for a neighbour, on the tree of its phase
    abbrev pub messages_found : Moment theory net → JournalEntry → ℕ → List (Message theory)
    messages_found found entry link =
        messages_of (machine_at theory net found.phase) (at_phase theory net found.phase found.state)
        (entry_on theory (net_at theory net found.phase) entry) link

    -- its messages for these neighbours
    abbrev pub outs_found : Moment theory net → JournalEntry → List ℕ → List (ℕ × Message theory)
    outs_found found entry [] = []
    outs_found found entry (link ∷ links) = map (λ message. (link, message)) (messages_found found entry link) ++ outs_found found entry links

    -- the line of an entry, as the entry finds the network
    abbrev pub line_of : Moment theory net → JournalEntry → Line theory
    line_of found entry = line theory entry.stamp entry.server entry.act (outs_found found entry ((net_at theory net found.phase).links entry.server))

    -- the lines of entries from a moment on
    abbrev pub lines_after : Moment theory net → List JournalEntry → List (Line theory)
    lines_after moment [] = []
    lines_after moment (entry ∷ entries) =
        line_of (found_by theory net moment entry) entry ∷ lines_after (acted theory net (found_by theory net moment entry) entry) entries

    -- the trace of a journal
    abbrev pub phased_trace : List JournalEntry → List (Line theory)
    phased_trace entries = lines_after (opening_moment theory net) entries

    -- the walk of the whole net, of so many phases
    abbrev pub phased_walk : ℕ → List JournalEntry
    phased_walk phases = walk_of theory net phases (opening_moment theory net)

    -- what a client was given by the end of a journal
    abbrev pub phased_given : List JournalEntry → ℕ → List (Publication theory)
    phased_given entries client = ((moment_of theory net entries (length entries)).state.state (net.home client)).inbox client

    -- what a server holds from an interface at the end of a journal
    abbrev pub phased_held : List JournalEntry → ℕ → ℕ → List theory.Filter
    phased_held entries server interface = ((moment_of theory net entries (length entries)).state.state server).subs interface

-- three servers in a line, and from phase 1 on in a star around server 1: client 1 at server 1 subscribes, and client 2 at server 3 publishes in phase 1
abbrev pub line_becomes_star : PhasedNet ranges
line_becomes_star = record {
  adverts = false;
  servers = 1 ∷ 2 ∷ 3 ∷ [];
  tree = line_tree;
  later = (1, star_tree) ∷ [];
  home = line_home;
  clients = line_clients;
  script = λ client. cond (client == 1) (in_phase 0 (Subscribe Any) ∷ []) (cond (client == 2) (in_phase 1 (Publish 1) ∷ []) []);
}

-- the same servers, where client 1 subscribes and publishes in phase 1: its server has the least clock when that phase begins
abbrev pub subscriber_publishes : PhasedNet ranges
subscriber_publishes = record {
  adverts = false;
  servers = 1 ∷ 2 ∷ 3 ∷ [];
  tree = line_tree;
  later = (1, star_tree) ∷ [];
  home = line_home;
  clients = line_clients;
  script = λ client. cond (client == 1) (in_phase 0 (Subscribe Any) ∷ in_phase 1 (Publish 1) ∷ []) [];
}

-- the pair of servers as a net with trees by phase, and its walk
abbrev pub withdrawn_on_tree : PhasedNet ranges
withdrawn_on_tree = on_one_tree ranges withdrawn_pair

abbrev pub withdrawn_walk : List JournalEntry
withdrawn_walk = phased_walk ranges withdrawn_on_tree 2

-- in a run of this net with this journal a publication is settled wherever it passes on its way to a client
pub record IsSettledIn (net : PhasedNet ranges) (journal : List JournalEntry) (publication : Publication ranges) (client : ℕ) : Type 0 where
  pub run : PhasedRun ranges
  pub of_net : run.net ≡ net
  pub of_journal : run.journal ≡ journal
  pub settled : IsSettledTo ranges run publication client

-- and in a run with this journal its messages on that way are all received after so many entries
pub record IsSettledBy (net : PhasedNet ranges) (journal : List JournalEntry) (publication : Publication ranges) (client n : ℕ) : Type 0 where
  pub run : PhasedRun ranges
  pub of_net : run.net ≡ net
  pub of_journal : run.journal ≡ journal
  pub on_way : IsSettledOn ranges run publication client
  pub received : IsAllReceivedBy ranges run n publication client on_way

-- in a drained run of this net with this journal so many notifications go over a link, and plain flooding of the publications of clients 1 and 2 puts so
-- many on it
pub record Carries (net : PhasedNet ranges) (journal : List JournalEntry) (from to carried flooding : ℕ) : Type 0 where
  pub run : PhasedRun ranges
  pub of_net : run.net ≡ net
  pub of_journal : run.journal ≡ journal
  pub drained : EndsDrained ranges run
  pub carries : noticed ranges run (length run.journal) from to ≡ carried
  pub floods : flooded ranges run.net (1 ∷ 2 ∷ []) from to ≡ flooding

-- the run in which client 1 answers client 3
abbrev pub answered : PhasedNet ranges
answered = on_one_tree ranges both_publish

abbrev pub answered_journal : List JournalEntry
answered_journal = map (entry_off ranges both_publish) (replay ranges both_publish ([] ∷ answers ∷ []))

-- in a run of this net with this journal one publication's publisher had been given another when it published
pub record IsAnswered (net : PhasedNet ranges) (journal : List JournalEntry) (one other : Publication ranges) : Type 0 where
  pub run : PhasedRun ranges
  pub of_net : run.net ≡ net
  pub of_journal : run.journal ≡ journal
  pub knowing : IsMadeKnowing ranges run one other
