-- What the links carry in a run over trees by phase, beside what plain flooding puts on them.
use Rattle.std.specs.Prelude.{◌≡◌, ℕ, zero, suc, ◌+◌, ◌≤◌, ◌==◌, ◌&&◌, Bool, true, false, cond, List, [], ◌∷◌, length, slice_get, Option, Some, None}
use Rattle.base.specs.Sets.{Has}
use Rattle.base.specs.Numbers.{IsDistinct, sum_over, count}
use Rattle.base_tree.specs.Hops.{side}
use Rattle.law_routing.specs.Theory.{Theory}
use Rattle.law_routing.specs.Net.{Net, Command, Subscribe, Unsubscribe, Advertise, Unadvertise, Publish, PhasedCommand}
use Rattle.law_routing.specs.Clients.{adverts_step, accepts}
use Rattle.law_routing.specs.Server.{Message, Subs, Advs, Noticed, Publication, is_among}
use Rattle.law_phases.specs.Trees.{JournalEntry, PhasedNet, tree_at, net_at}
use Rattle.law_phases.specs.Runs.{PhasedRun}
use Rattle.law_phases.specs.AtMoments.{messages_at}
use Rattle.law_phases.specs.Owing.{IsPublishedIn, IsOwedByScripts, IsDueByScripts}

module _ (theory : Theory) where
  -- whether a command is a publish that the client's advertisements let it make
  abbrev pub is_accepted : Net theory → List theory.Advert → Command theory → Bool
  is_accepted net adverts (Subscribe f) = false
  is_accepted net adverts (Unsubscribe f) = false
  is_accepted net adverts (Advertise a) = false
  is_accepted net adverts (Unadvertise a) = false
  is_accepted net adverts (Publish n) = accepts theory net adverts n

  -- the phases of the accepted publications of a list of commands, before which the client has these advertisements
  abbrev pub accepted_phases : Net theory → List theory.Advert → List (PhasedCommand theory) → List ℕ
  accepted_phases net adverts [] = []
  accepted_phases net adverts (command ∷ commands) =
      let later = accepted_phases net (adverts_step theory adverts command.command) commands in
      cond (is_accepted net adverts command.command) (command.phase ∷ later) later

  module _ (net : PhasedNet theory) where
    -- whether flooding sends what is published at a server in a phase over the link from one server to another: that is a link of the tree then in
    -- force, and what comes from there comes to its end by its beginning
    abbrev pub floods_over : ℕ → ℕ → ℕ → ℕ → Bool
    floods_over home from to phase = is_among to ((tree_at theory net phase).links from) && side (tree_at theory net phase).hop to from home

    -- how many of a client's accepted publications it sends over that link
    abbrev pub flooded_by : ℕ → ℕ → ℕ → ℕ
    flooded_by from to client =
        sum_over (λ phase. count (floods_over (net.home client) from to phase)) (accepted_phases (net_at theory net 0) [] (net.script client))

    -- and how many of some clients'
    abbrev pub flooded : List ℕ → ℕ → ℕ → ℕ
    flooded clients from to = sum_over (flooded_by from to) clients

-- whether a message is a notification
abbrev pub is_noticed : (theory : Theory) → Message theory → Bool
is_noticed theory (Subs out add) = false
is_noticed theory (Advs out add) = false
is_noticed theory (Noticed publisher ordinal notice) = true

module _ (theory : Theory) (run : PhasedRun theory) where
  -- how many notifications the entry after n others puts on the link from one server to another
  abbrev pub noticed_at : ℕ → JournalEntry → ℕ → ℕ → ℕ
  noticed_at n entry from to = cond (entry.server == from) (sum_over (λ message. count (is_noticed theory message)) (messages_at theory run n entry to)) 0

  -- where there is one
  abbrev pub noticed_maybe : ℕ → Option JournalEntry → ℕ → ℕ → ℕ
  noticed_maybe n None from to = 0
  noticed_maybe n (Some entry) from to = noticed_at n entry from to

  -- HOW MANY NOTIFICATIONS the first n entries put on the link
  abbrev pub noticed : ℕ → ℕ → ℕ → ℕ
  noticed zero from to = 0
  noticed (suc n) from to = noticed n from to + noticed_maybe n (slice_get run.journal n) from to

module _ (theory : Theory) (net : PhasedNet theory) where
  -- these are the clients that have commands, each once
  pub record AreClients (clients : List ℕ) : Type 0 where
    pub each : (client : ℕ) (command : PhasedCommand theory) → Has command (net.script client) → Has client clients
    pub single : IsDistinct clients

  -- a publication is owed to some one client whose home lies beyond the link, on the tree of a phase
  pub record IsOwedBeyond (publication : Publication theory) (phase from to : ℕ) : Type 0 where
    pub client : ℕ
    pub owed : IsOwedByScripts theory net publication client
    pub beyond : side (tree_at theory net phase).hop from to (net.home client) ≡ true

  -- so is each accepted publication that flooding sends over the link
  abbrev pub IsAllOwed : ℕ → ℕ → Type 0
  IsAllOwed from to = (publication : Publication theory) (phase : ℕ) → IsPublishedIn theory net phase publication
      → floods_over theory net (net.home publication.publisher) from to phase ≡ true
      → IsOwedBeyond publication phase from to

  -- the same of what is due, which asks less
  pub record IsDueBeyond (publication : Publication theory) (phase from to : ℕ) : Type 0 where
    pub client : ℕ
    pub due : IsDueByScripts theory net publication client
    pub beyond : side (tree_at theory net phase).hop from to (net.home client) ≡ true

  abbrev pub IsAllDue : ℕ → ℕ → Type 0
  IsAllDue from to = (publication : Publication theory) (phase : ℕ) → IsPublishedIn theory net phase publication
      → floods_over theory net (net.home publication.publisher) from to phase ≡ true
      → IsDueBeyond publication phase from to

module _ (theory : Theory) (run : PhasedRun theory) where
  -- NO LINK CARRIES MORE NOTIFICATIONS than plain flooding of these clients' publications puts on it, at any moment
  abbrev pub CarriesNoMore : List ℕ → Type 0
  CarriesNoMore clients = (n from to : ℕ) → noticed theory run n from to ≤ flooded theory run.net clients from to

  -- A LINK CARRIES AS MANY by the end, in a direction where each accepted publication that flooding sends over it is due to some client beyond
  abbrev pub CarriesAsManyWhereDue : List ℕ → Type 0
  CarriesAsManyWhereDue clients =
      (from to : ℕ) → IsAllDue theory run.net from to → noticed theory run (length run.journal) from to ≡ flooded theory run.net clients from to
