-- A legal run of a net from a start, and what may be said of its entries: the one premise of the laws.
use Rattle.std.specs.Prelude.{◌≡◌, ℕ, ◌+◌, ◌*◌, ◌≤◌, ◌<◌, true, List, [], length, take}
use Rattle.base.specs.Sets.{Has}
use Rattle.base_tree.specs.Hops.{side_size}
use Rattle.law_machine.specs.Runs.{greatest, IsRun, IsQuiet, IsThrough}
use Rattle.law_machine.specs.Load.{Measure, receptions as receptions_in, updates as updates_in, commands as commands_in}
use Rattle.law_machine.specs.History.{state_at, phase_at}
use Rattle.law_routing.specs.Theory.{Theory}
use Rattle.law_routing.specs.Net.{Net, NetLaws, PhasedCommand}
use Rattle.law_routing.specs.Clients.{ordinal}
use Rattle.law_routing.specs.Server.{Publication, sent, sent_adverts, client_interface}
use Rattle.law_routing.specs.Routing.{routing_machine, Network, NetEntry, measure, all_commands}
use Rattle.law_routing.specs.Rest.{filters_of, IsOnwardWay, end_of, IsAtRest, IsDrained}
use Rattle.law_routing.specs.AsOf.{calm, back, as_of, IsRoutedAt, IsSettledAlong, IsReceivedAlong, IsDeliveredAt, IsWantedBeyond, times_delivered}
use Rattle.law_routing.specs.Owed.{IsPublication, IsOwed, IsDue, IsAllowed}
use Rattle.law_routing.specs.Start.{IsStart}
use Rattle.law_routing.specs.Order.{IsOrderly, ordinals_routed}
use Rattle.law_routing.specs.Walk.{walk_of}

-- a net with its laws, and a legal run of it from a start
pub record LegalRun (theory : Theory) : Type 0 where
  pub net : Net theory
  pub laws : NetLaws theory net
  -- the state at the start, and the phase that begins there
  pub start : Network theory net
  pub first : ℕ
  pub begins : IsStart theory net start first
  pub journal : List (NetEntry theory net)
  -- the state at the end, and the phase of the last command
  pub end : Network theory net
  pub last : ℕ
  pub legal : IsRun (routing_machine theory net) start first journal end last

module _ (theory : Theory) (run : LegalRun theory) where
  -- the state after n entries
  abbrev pub states : ℕ → Network theory run.net
  states = state_at (routing_machine theory run.net) run.start run.first run.journal

  -- the phase of the last command after n entries
  abbrev pub phases : ℕ → ℕ
  phases = phase_at (routing_machine theory run.net) run.start run.first run.journal

  -- the ordinal of a publisher's last publish before the start
  abbrev pub ordinal_before : ℕ → ℕ
  ordinal_before publisher = ordinal theory (take ((run.start.state (run.net.home publisher)).done publisher) (run.net.script publisher))

  -- an entry of the run that routes a publication: after so many entries, at this server, where it came in by this interface
  pub record Routed : Type 0 where
    pub moment : ℕ
    pub server : ℕ
    pub interface : ℕ
    pub publication : Publication theory
    pub at : IsRoutedAt theory run.net states run.journal moment server interface
        publication.publisher publication.ordinal publication.notice

  -- the entry sends it to a neighbour
  abbrev pub IsSentTo : Routed → ℕ → Type 0
  IsSentTo routed neighbour = Has neighbour routed.at.entry.outs

  -- a link of the entry's server but the one that the publication came by
  pub record IsOnward (routed : Routed) (neighbour : ℕ) : Type 0 where
    pub near : Has neighbour (run.net.links routed.server)
    pub other : neighbour ≡ routed.interface → ⊥

  -- a client beyond a neighbour had a filter that matches, at the moment that the server knows of by its last table update
  abbrev pub IsWanted : Routed → ℕ → Type 0
  IsWanted routed neighbour = IsWantedBeyond theory run.net states routed.publication.notice routed.server neighbour routed.moment

  -- the entry delivers it to a client of its server
  abbrev pub IsDelivered : Routed → ℕ → Type 0
  IsDelivered routed client = IsDeliveredAt theory run.net states routed.moment routed.server client routed.publication

  -- a filter that matches was in the client's list at the server's last calm moment
  abbrev pub IsInForce : Routed → ℕ → Type 0
  IsInForce routed client = (f : theory.Filter)
      × Has f (filters_of theory run.net (states (calm theory run.net states routed.server routed.moment)) client)
      × (theory.matches routed.publication.notice f ≡ true)

  -- the inbox of a client at the end
  abbrev pub inbox_of : ℕ → List (Publication theory)
  inbox_of client = (run.end.state (run.net.home client)).inbox client

  -- at the end a client's inbox has the publication, once
  abbrev pub IsDeliveredOnce : Publication theory → ℕ → Type 0
  IsDeliveredOnce publication client = Has publication (inbox_of client)
      × (times_delivered theory run.net publication.publisher publication.ordinal (inbox_of client) ≡ 1)

  -- a way from a publication's home that never turns back
  abbrev pub IsWayFromHome : Publication theory → List ℕ → Type 0
  IsWayFromHome publication path = IsOnwardWay theory run.net (run.net.home publication.publisher) (run.net.home publication.publisher) path

  -- along a way from its home a publication is settled, for a client, wherever an entry routes it
  abbrev pub IsSettledFromHome : Publication theory → ℕ → List ℕ → Type 0
  IsSettledFromHome publication client path =
      IsSettledAlong theory run.net states run.journal publication.publisher publication.ordinal publication.notice client []
      (run.net.home publication.publisher) path

  -- along it each of its messages is received by the end
  abbrev pub IsReceivedFromHome : Publication theory → List ℕ → Type 0
  IsReceivedFromHome publication path =
      IsReceivedAlong theory run.net states (length run.journal) publication.publisher publication.ordinal publication.notice
      (run.net.home publication.publisher) path

  -- an entry at the publisher's home publishes it, it is settled wherever it passes on the way to the client, and each of its messages on that way
  -- is received
  pub record IsSettledTo (publication : Publication theory) (client : ℕ) : Type 0 where
    pub here : Has publication.publisher (run.net.clients (run.net.home publication.publisher))
    pub moment : ℕ
    pub published : IsRoutedAt theory run.net states run.journal moment (run.net.home publication.publisher) (client_interface publication.publisher)
        publication.publisher publication.ordinal publication.notice
    pub path : List ℕ
    pub way : IsWayFromHome publication path
    pub lives : Has client (run.net.clients (end_of theory run.net (run.net.home publication.publisher) path))
    pub settled : IsSettledFromHome publication client path
    pub taken : IsReceivedFromHome publication path

  -- a publication of a phase of the run that is owed to a client
  pub record IsOwedTo (publication : Publication theory) (client : ℕ) : Type 0 where
    pub phase : ℕ
    pub since : run.first ≤ phase
    pub published : IsPublication theory run.net publication.publisher publication.ordinal phase publication.notice
    pub owed : IsOwed theory run.net publication.publisher phase publication.notice client
    pub here : Has publication.publisher (run.net.clients (run.net.home publication.publisher))
    pub lives : Has client (run.net.clients (run.net.home client))

  -- a publication of a phase of the run that is due to a client
  pub record IsDueTo (publication : Publication theory) (client : ℕ) : Type 0 where
    pub phase : ℕ
    pub since : run.first ≤ phase
    pub published : IsPublication theory run.net publication.publisher publication.ordinal phase publication.notice
    pub due : IsDue theory run.net publication.publisher phase published.index publication.notice client
    pub here : Has publication.publisher (run.net.clients (run.net.home publication.publisher))
    pub lives : Has client (run.net.clients (run.net.home client))

  -- a publication that is allowed to a client
  abbrev pub IsAllowedTo : Publication theory → ℕ → Type 0
  IsAllowedTo publication client = (phase : ℕ)
      × IsPublication theory run.net publication.publisher publication.ordinal phase publication.notice
      × IsAllowed theory run.net phase publication.notice client

  -- what the load of the run is measured by
  abbrev pub run_measure : Measure (routing_machine theory run.net)
  run_measure = measure theory run.net (side_size run.net.hop run.net.servers)

  -- how many entries of the run are receptions
  abbrev pub receptions_made : ℕ
  receptions_made = receptions_in (routing_machine theory run.net) run_measure run.journal

  -- how many are table updates
  abbrev pub updates_made : ℕ
  updates_made = updates_in (routing_machine theory run.net) run_measure run.journal

  -- how many are commands
  abbrev pub commands_made : ℕ
  commands_made = commands_in (routing_machine theory run.net) run_measure run.journal

  -- how many servers there are
  abbrev pub server_count : ℕ
  server_count = length run.net.servers

  -- receptions, table updates and entries are bounded by the commands executed and the number of servers, the commands executed by those of the scripts,
  -- and the stamps by the entries
  pub record IsBounded : Type 0 where
    pub receptions : receptions_made ≤ commands_made * (server_count * server_count)
    pub updates : updates_made ≤ receptions_made + commands_made
    pub entries : length run.journal ≤ 2 * (commands_made * (server_count * server_count + 1))
    pub commands : commands_made ≤ all_commands theory run.net
    pub within : length run.journal ≤ 2 * (all_commands theory run.net * (server_count * server_count + 1))
    pub stamps : (entry : NetEntry theory run.net) → Has entry run.journal
        → entry.stamp ≤ greatest (routing_machine theory run.net) run.start.clock run.net.servers + length run.journal

  -- after n entries all links are empty and nothing is pending
  abbrev pub IsQuietAt : ℕ → Type 0
  IsQuietAt n = IsQuiet (routing_machine theory run.net) (states n)

  -- after n entries the network is at rest
  abbrev pub IsAtRestAt : ℕ → Type 0
  IsAtRestAt n = IsAtRest theory run.net (states n)

  -- the run ends quiet
  abbrev pub EndsQuiet : Type 0
  EndsQuiet = IsQuiet (routing_machine theory run.net) run.end

  -- it ends with all commands of the phases below this one executed
  abbrev pub EndsThrough : ℕ → Type 0
  EndsThrough phase = IsThrough (routing_machine theory run.net) run.end phase

  -- it ends drained
  abbrev pub EndsDrained : Type 0
  EndsDrained = IsDrained theory run.net run.end

  -- all commands of the scripts are of phases below this one
  abbrev pub AllBelow : ℕ → Type 0
  AllBelow phase = (client : ℕ) (command : PhasedCommand theory) → Has command (run.net.script client) → command.phase < phase

  -- the walk of so many phases goes on from the run as a legal run, and ends drained
  abbrev pub WalkDrains : ℕ → Type 0
  WalkDrains phases = (end : Network theory run.net) × (last : ℕ)
      × IsRun (routing_machine theory run.net) run.end run.last (walk_of theory run.net phases (record { network = run.end; phase = run.last })) end last
      × IsDrained theory run.net end

  -- the moment that a server looks back to on a link from a neighbour
  abbrev pub back_at : ℕ → ℕ → ℕ → ℕ
  back_at server neighbour m = back theory run.net states server neighbour m

  -- the last moment up to m at which nothing was pending at a server
  abbrev pub calm_at : ℕ → ℕ → ℕ
  calm_at server m = calm theory run.net states server m

  -- the moment at the end of a way that a server knows of at m
  abbrev pub as_of_at : ℕ → List ℕ → ℕ → ℕ
  as_of_at server path m = as_of theory run.net states server path m

  -- the filters that a server sends to a neighbour after n entries
  abbrev pub filters_sent : ℕ → ℕ → ℕ → List theory.Filter
  filters_sent n from to = sent theory run.net ((states n).state from) from to

  -- and the advertisements
  abbrev pub adverts_sent : ℕ → ℕ → ℕ → List theory.Advert
  adverts_sent n from to = sent_adverts theory run.net ((states n).state from) from to

  -- a moment, a moment at rest that is no later, and a way from a server
  pub record LooksBack : Type 0 where
    pub rest : ℕ
    pub rests : IsAtRestAt rest
    pub moment : ℕ
    pub earlier : rest ≤ moment
    pub before : ℕ
    pub server : ℕ
    pub path : List ℕ
    pub way : IsOnwardWay theory run.net before server path

  -- the inbox of a client after n entries
  abbrev pub inbox_at : ℕ → ℕ → ℕ → List (Publication theory)
  inbox_at n server client = ((states n).state server).inbox client

  -- how often that has an id
  abbrev pub times_given : ℕ → ℕ → ℕ → ℕ → ℕ → ℕ
  times_given n server client publisher ordinal = times_delivered theory run.net publisher ordinal (inbox_at n server client)

  -- after n entries one publisher's notices are in the order of their ordinals, at each server, on each link and in each inbox
  abbrev pub IsOrderlyAt : ℕ → ℕ → Type 0
  IsOrderlyAt publisher n =
      IsOrderly theory run.net publisher (ordinal_before publisher) (states n) (ordinals_routed theory run.net states run.journal publisher n)

  -- all that is allowed to a client is owed to it, and it has a home
  pub record IsStable (client : ℕ) : Type 0 where
    pub lives : Has client (run.net.clients (run.net.home client))
    pub owed : (publication : Publication theory) → IsAllowedTo publication client → IsOwedTo publication client
