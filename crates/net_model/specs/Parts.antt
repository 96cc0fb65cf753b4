-- What contracts see of a net, of its clients and of an entry: records of numbers and lists.
use Rattle.std.specs.Prelude.{ℕ, List}
use Rattle.base_tree.specs.Tree.{Topology}
use Rattle.filter_text.specs.declared.command.Command.{Command}
use Rattle.filter_text.specs.declared.semantics.Semantics.{Semantics}
use Rattle.net_model.specs.declared.turn.Act.{Act}
use Rattle.net_model.specs.declared.turn.Turn.{Turn}

-- a client: its name, its server, how many barriers its script has, and its commands, each with its phase
pub record ClientParts : Type 0 where
  pub name : List ℕ
  pub home : ℕ
  pub barriers : ℕ
  pub script : List (ℕ × Command)

abbrev pub client_parts : List ℕ → ℕ → ℕ → List (ℕ × Command) → ClientParts
client_parts name home barriers script = record { name = name; home = home; barriers = barriers; script = script }

-- a net: its trees with their first phases, its clients, which are numbered from 1, and turns with their lines
pub record NetParts : Type 0 where
  pub version : ℕ
  pub semantics : Semantics
  pub trees : List (ℕ × Topology)
  pub clients : List ClientParts
  pub schedule : List (ℕ × Turn)

abbrev pub net_parts : ℕ → Semantics → List (ℕ × Topology) → List ClientParts → List (ℕ × Turn) → NetParts
net_parts version semantics trees clients schedule = record { version = version; semantics = semantics; trees = trees; clients = clients; schedule = schedule }

-- an entry of a journal
pub record EntryParts : Type 0 where
  pub stamp : ℕ
  pub server : ℕ
  pub act : Act
  pub outs : List ℕ

abbrev pub entry_parts : ℕ → ℕ → Act → List ℕ → EntryParts
entry_parts stamp server act outs = record { stamp = stamp; server = server; act = act; outs = outs }
