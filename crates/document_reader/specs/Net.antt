-- Defines the net of a document, and when a document is refused.
use Rattle.std.specs.Prelude.{◌≡◌, ℕ, List, [], ◌∷◌, map, Result, Ok, Err}
use Rattle.base_tree.specs.Graph.{neighbours_by}
use Rattle.base_tree.specs.Tree.{Topology, TreeLaws, links_of}
use Rattle.net_model.specs.Parts.{ClientParts, NetParts}
use Rattle.document_reader.specs.Drawn.{Block, blocks}
use Rattle.document_reader.specs.Rules.{version_number}
use Rattle.document_reader.specs.Places.{document_of}
use Rattle.document_reader.specs.declared.draft.Draft.{Draft}
use Rattle.document_reader.specs.declared.fault.Fault.{Fault}
use Rattle.document_reader.specs.declared.fault.InputFault.{InputFault}
use Rattle.document_reader.specs.declared.fault.InputFault.TheVariants as inputs
use Rattle.document_reader.specs.declared.state.State.{State}

-- a tree of so many servers whose neighbours are those that the edges join, from the same first phase on
pub record IsTreeOf (servers : ℕ) (block : Block) (tree : ℕ × Topology) : Type 0 where
  pub phase : tree.0 ≡ block.0
  pub count : tree.1.count ≡ servers
  pub neighbours : (a : ℕ) → links_of tree.1 a ≡ neighbours_by servers block.1 a
  pub laws : TreeLaws tree.1

-- each is the tree of its edges, in order
abbrev pub AreTreesOf : ℕ → List Block → List (ℕ × Topology) → Type 0
AreTreesOf servers [] [] = Unit {0}
AreTreesOf servers [] (tree ∷ trees) = ⊥
AreTreesOf servers (block ∷ blocks) [] = ⊥
AreTreesOf servers (block ∷ blocks) (tree ∷ trees) = IsTreeOf servers block tree × AreTreesOf servers blocks trees

abbrev pub client_of : Draft → ClientParts
client_of d = d.client

-- the net has what stands
pub record IsNetIn (s : State) (net : NetParts) : Type 0 where
  pub version : net.version ≡ version_number s.version
  pub semantics : net.semantics ≡ s.semantics
  pub trees : AreTreesOf s.trees.servers (blocks s.trees) net.trees
  pub clients : net.clients ≡ map client_of s.clients
  pub schedule : net.schedule ≡ s.schedule

-- THE NET OF A DOCUMENT
pub record IsNetOf (bytes : List ℕ) (net : NetParts) : Type 0 where
  pub state : State
  pub read : document_of bytes ≡ Ok state
  pub holds : IsNetIn state net

-- the first line at fault, with its first fault
abbrev pub IsBadAt : List ℕ → ℕ → Fault → Type 0
IsBadAt bytes line fault = document_of bytes ≡ Err (line, fault)

abbrev pub Refuses : InputFault → Result State (ℕ × Fault) → Type 0
Refuses inputs.NoMemory read = Unit {0}
Refuses (inputs.Bad line kind) read = read ≡ Err (line, kind)

-- the reader gives a net of what stands, or the first line at fault and its fault, unless memory ran out
abbrev pub ReadsNet : Result NetParts InputFault → Result State (ℕ × Fault) → Type 0
ReadsNet (Ok net) read = (s : State) × (read ≡ Ok s) × IsNetIn s net
ReadsNet (Err e) read = Refuses e read
