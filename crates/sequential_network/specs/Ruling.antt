-- What a kind of network keeps while it makes turns, and the laws of its turns.
use Rattle.std.specs.Prelude.{◌≡◌, ℕ, suc, ◌-◌, ◌<◌, ◌≤◌, Bool, true, false, List, [], ◌∷◌, ◌++◌, length, map, slice_get, Some, Result, IfOk, OnErr}
use Rattle.base.specs.Sets.{Has}
use Rattle.base_tree.specs.Tree.{links_of}
use Rattle.law_machine.specs.Machine.{Does, Receives, Stamped}
use Rattle.law_routing.specs.Server.{Message}
use Rattle.law_routing.specs.Step.{NextCommand, TableUpdate}
use Rattle.net_model.specs.Real.{real}
use Rattle.base.specs.declared.memory.NoMemory.{NoMemory}
use Rattle.filter_text.specs.Deliveries.{Delivery}
use Rattle.filter_text.specs.declared.semantics.Semantics.{Semantics}
use Rattle.server_message.specs.Parts.{SendingParts}
use Rattle.net_model.specs.declared.turn.Act.TheVariants as acts
use Rattle.net_model.specs.declared.turn.Turn.TheVariants as turns
use Rattle.net_model.specs.Lists.{refused_ordinals}
use Rattle.net_model.specs.Meaning.{phased_command}
use Rattle.net_model.specs.Nets.{first_tree, topology_at, servers_in, home_of, script_of}
use Rattle.net_model.specs.Parts.{NetParts, EntryParts}
use Rattle.net_model.specs.Sound.{IsSound}
use Rattle.server_spec.specs.Session.{SessionParts}
use Rattle.server_core.specs.Clients.{bare, client_numbers}
use Rattle.server_core.specs.Step.{last_stamp}
use Rattle.net_turns.specs.Network.{network_parts, phase_in}
use Rattle.net_turns.specs.Sessions.{is_phase_below}
use Rattle.net_turns.specs.Kinds.{Trying, Telling}
use Rattle.sequential_network.specs.Acted.{Servers, IsActed}
use Rattle.sequential_network.specs.Inboxes.{HaveInboxes}
use Rattle.sequential_network.specs.Last.{LieLast, text_of_sending}
use Rattle.sequential_network.specs.Links.{StampedMessageParts, waiting_in}
use Rattle.sequential_network.specs.Seen.{AreCalmCores, CanAct}
use Rattle.sequential_network.specs.Stepping.{Stepping}

-- the session of a client: it has the client's script, of which so many commands are executed, and the texts of what was delivered
pub record IsSessionAt (net : NetParts) (client taken : ℕ) (inbox : List Delivery) (session : SessionParts) : Type 0 where
  pub semantics : session.semantics ≡ net.semantics
  pub script : map phased_command session.script ≡ script_of net client
  pub taken_is : session.taken ≡ taken
  pub inbox_is : session.inbox ≡ inbox

-- all but the servers stayed
pub record StaysElse {P : Type 0} (old new : Servers P) : Type 0 where
  pub run : new.run ≡ old.run
  pub messages : (a b : ℕ) → new.messages a b ≡ old.messages a b
  pub journal : new.journal ≡ old.journal

-- the servers stayed, too
pub record IsSame {P : Type 0} (old new : Servers P) : Type 0 where
  pub run : new.run ≡ old.run
  pub cores : new.cores ≡ old.cores
  pub messages : (a b : ℕ) → new.messages a b ≡ old.messages a b
  pub journal : new.journal ≡ old.journal

-- a later phase may begin: nothing lies on a link or is pending, and no client has a command below it left
pub record MayBegin {P : Type 0} (kind : Stepping P) (trying : Trying) (net : NetParts) (last own : ℕ) (now : Servers P) : Type 0 where
  pub later : last < own
  pub empty : (a b : ℕ) → now.messages a b ≡ []
  pub calm : AreCalmCores kind now.cores
  pub through : (client : ℕ) → 1 ≤ client → client ≤ length net.clients → is_phase_below (trying.next_phase_by net now.journal client) own ≡ false

-- a client's next command can be executed at its home, which has these neighbours
pub record CanCommand {P : Type 0} (kind : Stepping P) (net : NetParts) (client : ℕ) (links : List ℕ) (cores : List P) : Type 0 where
  pub able : CanAct kind (home_of net client) links cores
  pub lives : (core : P) → slice_get cores (home_of net client - 1) ≡ Some core → Has client (client_numbers (kind.core core).clients)
  pub left : (core : P) (s : SessionParts) → slice_get cores (home_of net client - 1) ≡ Some core → Has s (kind.core core).clients → s.client ≡ client
      → s.taken < length s.script

-- what holds of the servers, the links and the journal at each moment: its net is sound, the journal legal, and each server can act on the tree of the phase
pub record Stands {P : Type 0} (kind : Stepping P) (trying : Trying) (net : NetParts) (phase : ℕ) (now : Servers P) : Type 0 where
  pub sound : IsSound net
  pub run : now.run ≡ net
  pub legal : trying.IsLegal net now.journal
  pub in_hand : trying.phase_by net now.journal ≡ phase
  pub all : length now.cores ≡ (first_tree net.trees).count
  pub nets : (place : ℕ) (core : P) → slice_get now.cores place ≡ Some core → (kind.core core).net ≡ net
  pub able : (server : ℕ) → 1 ≤ server → server ≤ (first_tree net.trees).count
      → CanAct kind server (links_of (topology_at net (trying.tree_phase phase)) server) now.cores
  pub low : (from to : ℕ) (w : StampedMessageParts) → Has w (now.messages from to) → w.stamp < last_stamp
  pub waiting : (from to : ℕ) (w : StampedMessageParts) → Has w (now.messages from to) → w.sent.net ≡ net

-- WHAT A KIND OF NETWORK KEEPS
pub record Ruling (P : Type 0) : Type 1 where
  -- a server before its first step; what is kept at a phase; a later phase was begun
  pub IsFirst : NetParts → ℕ → P → Type 0
  pub IsKept : NetParts → ℕ → Servers P → Type 0
  pub IsBegun : NetParts → ℕ → ℕ → Servers P → Servers P → Type 0
  -- the semantics that a server goes by; how many of a client's commands are executed, and what was delivered to it
  pub semantics : P → Semantics
  pub executed_by : NetParts → List EntryParts → ℕ → ℕ
  pub received_by : NetParts → List EntryParts → ℕ → List Delivery

-- the ordinals of a client's publishes that were refused
abbrev pub refused_by : {P : Type 0} → Ruling P → NetParts → List EntryParts → ℕ → List ℕ
refused_by ruling net journal client = refused_ordinals net client (ruling.executed_by net journal client)

-- THE LAWS OF ITS TURNS
pub record RulingLaws {P : Type 0} (kind : Stepping P) (trying : Trying) (telling : Telling trying) (ruling : Ruling P) : Type 0 where
  pub next_is : (net : NetParts) (journal : List EntryParts) (client : ℕ)
      → trying.next_phase_by net journal client ≡ phase_in (slice_get (script_of net client) (ruling.executed_by net journal client))
  -- it starts so, stands so, and stays where nothing changes
  pub starts : (net : NetParts) → IsSound net → (now : Servers P) → now.run ≡ net → now.journal ≡ [] → ((a b : ℕ) → now.messages a b ≡ [])
      → length now.cores ≡ (first_tree net.trees).count
      → ((place : ℕ) (core : P) → slice_get now.cores place ≡ Some core → ruling.IsFirst net (suc place) core) → ruling.IsKept net 0 now
  pub stands : (net : NetParts) (phase : ℕ) (now : Servers P) → ruling.IsKept net phase now → Stands kind trying net phase now
  pub stays : (net : NetParts) (phase : ℕ) (old new : Servers P) → ruling.IsKept net phase old → IsSame old new → ruling.IsKept net phase new
  -- a client's session is at its home, and all inboxes together are what was delivered
  pub session : (net : NetParts) (phase : ℕ) (now : Servers P) → ruling.IsKept net phase now → (client : ℕ) (core : P)
      → slice_get now.cores (home_of net client - 1) ≡ Some core → (s : SessionParts) → Has (bare s) (kind.core core).clients → s.client ≡ client
      → s.semantics ≡ ruling.semantics core → IsSessionAt net client (ruling.executed_by net now.journal client) (ruling.received_by net now.journal client) s
  pub inboxes : (net : NetParts) (phase : ℕ) (now : Servers P) → ruling.IsKept net phase now
      → HaveInboxes kind net (ruling.received_by net now.journal) 0 now.cores
  -- a reception: not without a server and a link, and else it is made where something lies on the link
  pub take_none : (net : NetParts) (phase : ℕ) (now : Servers P) → ruling.IsKept net phase now → (server from : ℕ)
      → (Has server (servers_in net) → Has from (links_of (topology_at net (trying.tree_phase phase)) server) → ⊥)
      → trying.IsTurn false (turns.Receive server from) (network_parts net now.journal) (network_parts net now.journal)
  pub receive_turn : (net : NetParts) (phase : ℕ) (old new : Servers P) → ruling.IsKept net phase old
      → (server from : ℕ) → 1 ≤ server → (answer : Result Bool NoMemory)
      → ((of : NetParts) (m : Stamped (Message real)) → slice_get (old.messages from server) 0 ≡ Some (waiting_in of m)
      → IfOk answer (λ made. (made ≡ true) × IsActed kind (server - 1) (Receives from m) (acts.Receive from) old new))
      → (old.messages from server ≡ [] → IfOk answer (λ made. (made ≡ false) × IsSame old new))
      → OnErr answer (IsSame old new)
      → IfOk answer (λ made. trying.IsTurn made (turns.Receive server from) (network_parts net old.journal) (network_parts net new.journal))
      × ruling.IsKept net phase new
  -- a table update: not without a server that has something pending
  pub update_none : (net : NetParts) (phase : ℕ) (now : Servers P) → ruling.IsKept net phase now → (server : ℕ) → (Has server (servers_in net) → ⊥)
      → trying.IsTurn false (turns.TableUpdate server) (network_parts net now.journal) (network_parts net now.journal)
  pub update_calm : (net : NetParts) (phase : ℕ) (now : Servers P) → ruling.IsKept net phase now → (server : ℕ) (core : P) → 1 ≤ server
      → slice_get now.cores (server - 1) ≡ Some core → (kind.core core).pending ≡ []
      → trying.IsTurn false (turns.TableUpdate server) (network_parts net now.journal) (network_parts net now.journal)
  pub update_turn : (net : NetParts) (phase : ℕ) (old new : Servers P) → ruling.IsKept net phase old → (server : ℕ) → 1 ≤ server
      → IsActed kind (server - 1) (Does TableUpdate) acts.TableUpdate old new
      → trying.IsTurn true (turns.TableUpdate server) (network_parts net old.journal) (network_parts net new.journal) × ruling.IsKept net phase new
  -- a command: not without a client that has one left, of the phase in hand or of a later one that may begin
  pub command_none : (net : NetParts) (phase : ℕ) (now : Servers P) → ruling.IsKept net phase now → (client : ℕ)
      → ((1 ≤ client) × (client ≤ length net.clients) → (own : ℕ) → trying.next_phase_by net now.journal client ≡ Some own → ⊥)
      → trying.IsTurn false (turns.Command client) (network_parts net now.journal) (network_parts net now.journal)
  pub command_early : (net : NetParts) (phase : ℕ) (now : Servers P) → ruling.IsKept net phase now → (client own : ℕ)
      → trying.next_phase_by net now.journal client ≡ Some own → (phase ≡ own → ⊥) → (MayBegin kind trying net phase own now → ⊥)
      → trying.IsTurn false (turns.Command client) (network_parts net now.journal) (network_parts net now.journal)
  pub command_left : (net : NetParts) (phase : ℕ) (now : Servers P) → ruling.IsKept net phase now → (client own : ℕ)
      → trying.next_phase_by net now.journal client ≡ Some own → (core : P) (s : SessionParts) → slice_get now.cores (home_of net client - 1) ≡ Some core
      → Has s (kind.core core).clients → s.client ≡ client → s.taken < length s.script
  pub command_turn : (net : NetParts) (phase : ℕ) (old new : Servers P) → ruling.IsKept net phase old → (client : ℕ)
      → trying.next_phase_by net old.journal client ≡ Some phase
      → IsActed kind (home_of net client - 1) (Does (NextCommand client)) (acts.Command client) old new
      → trying.IsTurn true (turns.Command client) (network_parts net old.journal) (network_parts net new.journal) × ruling.IsKept net phase new
  -- the first command of a later phase, which was begun, and the beginning that is taken back
  pub begun_able : (net : NetParts) (last own : ℕ) (old now : Servers P) → ruling.IsKept net last old → MayBegin kind trying net last own old
      → ruling.IsBegun net last own old now → (client : ℕ) → (1 ≤ client) × (client ≤ length net.clients)
      → trying.next_phase_by net old.journal client ≡ Some own
      → CanCommand kind net client (links_of (topology_at net (trying.tree_phase own)) (home_of net client)) now.cores
  pub begun_turn : (net : NetParts) (last own : ℕ) (old now new : Servers P) → ruling.IsKept net last old → MayBegin kind trying net last own old
      → ruling.IsBegun net last own old now → StaysElse old now → (client : ℕ) → trying.next_phase_by net old.journal client ≡ Some own
      → IsActed kind (home_of net client - 1) (Does (NextCommand client)) (acts.Command client) now new
      → trying.IsTurn true (turns.Command client) (network_parts net old.journal) (network_parts net new.journal) × ruling.IsKept net own new
  -- what the last step sent lies last on the links of its server
  pub last_small : (net : NetParts) (phase : ℕ) (now : Servers P) → ruling.IsKept net phase now → (before : List EntryParts) (entry : EntryParts)
      → now.journal ≡ before ++ entry ∷ [] → (to : ℕ) → Has to entry.outs → (entry.server ≤ 64) × (to ≤ 64)
  pub last_sent : (net : NetParts) (phase : ℕ) (now : Servers P) → ruling.IsKept net phase now → (before : List EntryParts) (entry : EntryParts)
      → now.journal ≡ before ++ entry ∷ [] → (sent : List SendingParts) × LieLast now.messages entry.server entry.outs sent
      × (map text_of_sending sent ≡ telling.told_at net now.journal (length before) entry)
