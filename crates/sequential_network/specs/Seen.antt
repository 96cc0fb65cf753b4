-- What the code of a network's servers shows, whatever their kind, and what is asked of one that is to make a step.
use Rattle.std.specs.Prelude.{◌≡◌, ℕ, suc, ◌-◌, ◌≤◌, ◌<◌, Bool, true, not, List, length, slice_get, Option, Some, None}
use Rattle.base.specs.Sets.{Has}
use Rattle.net_model.specs.Parts.{NetParts}
use Rattle.net_model.specs.Nets.{first_tree, clients_of}
use Rattle.server_core.specs.Pending.{is_some_there}
use Rattle.server_core.specs.Step.{last_stamp}
use Rattle.sequential_network.specs.declared.servers.Servers as code
use Rattle.net_turns.specs.Network.{NetworkParts, network_parts}
use Rattle.sequential_network.specs.Acted.{Servers}
use Rattle.sequential_network.specs.Links.{messages_at, AreSame}
use Rattle.sequential_network.specs.Stepping.{Stepping, IsSome}

-- the net whose run it is, the servers, what is on each link, and the journal
abbrev pub seen : {P : Type 0} → code.Servers P → Servers P
seen servers = record { run = servers.tables.now; cores = servers.places.items; messages = messages_at servers.links; journal = servers.journal.entries }

-- as a network of a net
abbrev pub shown : {P : Type 0} → NetParts → code.Servers P → NetworkParts
shown net servers = network_parts net servers.journal.entries

-- a server, if there is one, has nothing pending
abbrev pub calm_in : {P : Type 0} → Stepping P → Option P → Bool
calm_in kind None = true
calm_in kind (Some core) = not (is_some_there (kind.core core).pending)

-- the same of the one at a place, and of all
abbrev pub calm_at : {P : Type 0} → Stepping P → List P → ℕ → Bool
calm_at kind cores place = calm_in kind (slice_get cores place)

abbrev pub AreCalmCores : {P : Type 0} → Stepping P → List P → Type 0
AreCalmCores kind cores = (place : ℕ) → place < length cores → calm_at kind cores place ≡ true

-- for each server its clients, rising
pub record AreClients (net : NetParts) (clients : List (List ℕ)) : Type 0 where
  pub all : length clients ≡ (first_tree net.trees).count
  pub each : (place : ℕ) (list : List ℕ) → slice_get clients place ≡ Some list → list ≡ clients_of net (suc place)

-- nothing of these is other than it was
pub record IsUnchanged {P : Type 0} (old new : code.Servers P) : Type 0 where
  pub run : new.tables.now ≡ old.tables.now
  pub cores : new.places.items ≡ old.places.items
  pub messages : AreSame old.links new.links
  pub journal : new.journal.entries ≡ old.journal.entries
  pub kept : new.journal.kept ≡ old.journal.kept

-- a server is at its place, for some state of it in some net where it has these neighbours, and its clock is not at its end
pub record CanAct {P : Type 0} (kind : Stepping P) (server : ℕ) (neighbours : List ℕ) (cores : List P) : Type 0 where
  pub counted : 1 ≤ server
  pub small : server ≤ 64
  pub near : (link : ℕ) → Has link neighbours → link ≤ 64
  pub core : P
  pub here : slice_get cores (server - 1) ≡ Some core
  pub number : (kind.core core).server ≡ server
  pub low : (kind.core core).clock < last_stamp
  pub some : IsSome kind core
  pub links : neighbours ≡ (kind.core core).control.links
