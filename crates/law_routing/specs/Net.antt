-- A net: its tree of servers, its clients, and their scripts of commands.
use Rattle.std.specs.Prelude.{◌≡◌, ℕ, ◌≤◌, Bool, List, [], ◌∷◌}
use Rattle.base.specs.Sets.{Has}
use Rattle.base.specs.Numbers.{IsDistinct}
use Rattle.base_tree.specs.Hops.{AreHops}
use Rattle.law_routing.specs.Theory.{Theory}

-- a command of a client
pub data Command (theory : Theory) : Type 0 where
  Subscribe : (f : theory.Filter) → Command theory
  Unsubscribe : (f : theory.Filter) → Command theory
  Advertise : (a : theory.Advert) → Command theory
  Unadvertise : (a : theory.Advert) → Command theory
  Publish : (n : theory.Notice) → Command theory

-- a command of a script, in the phase that its barriers put it in
pub record PhasedCommand (theory : Theory) : Type 0 where
  pub phase : ℕ
  pub command : Command theory

-- phases never fall within a script
abbrev pub NeverFalls : (theory : Theory) → List (PhasedCommand theory) → Type 0
NeverFalls theory [] = Unit {0}
NeverFalls theory (command ∷ commands) = ((later : PhasedCommand theory) → Has later commands → command.phase ≤ later.phase) × NeverFalls theory commands

-- a net: semantics, tree, clients and scripts
pub record Net (theory : Theory) : Type 0 where
  -- advertisement semantics; else subscription semantics
  pub adverts : Bool
  pub servers : List ℕ
  -- the neighbours of a server, rising
  pub links : ℕ → List ℕ
  -- the first server after one on the way to another
  pub hop : ℕ → ℕ → ℕ
  -- the server of a client, and the clients of a server
  pub home : ℕ → ℕ
  pub clients : ℕ → List ℕ
  -- the commands of a client, in order
  pub script : ℕ → List (PhasedCommand theory)

-- what is asked of a net: a tree of servers numbered from 1 to 64, clients numbered from 1 with one home each, and scripts whose phases never fall
pub record NetLaws (theory : Theory) (net : Net theory) : Type 0 where
  pub tree : AreHops net.servers net.links net.hop
  pub small : (server link : ℕ) → Has link (net.links server) → link ≤ 64
  pub counted : (server client : ℕ) → Has client (net.clients server) → 1 ≤ client
  pub housed : (client : ℕ) → Has (net.home client) net.servers
  pub lives : (server client : ℕ) → Has client (net.clients server) → net.home client ≡ server
  pub single : (server : ℕ) → IsDistinct (net.clients server)
  pub phased : (client : ℕ) → NeverFalls theory (net.script client)
