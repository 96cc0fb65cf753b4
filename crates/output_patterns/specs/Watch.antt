-- Defines what an input with patterns gives.
use Rattle.std.specs.Prelude.{◌≡◌, ◌≤◌, ℕ, List, length, Result, Ok, Err}
use Rattle.net_model.specs.Parts.{NetParts}
use Rattle.document_reader.specs.Net.{IsBadAt, IsNetOf}
use Rattle.document_reader.specs.declared.fault.Fault.{Fault}
use Rattle.output_patterns.specs.Parts.{PatternParts}
use Rattle.document_reader.specs.Cut.{first_number}
use Rattle.output_patterns.specs.Cut.{IsParted}
use Rattle.output_patterns.specs.Rules.{nothing, read_from}
use Rattle.output_patterns.specs.declared.fault.PatternKind.{PatternKind}

-- what the lines behind the line `patterns` say, over the clients of the net: the patterns in order, or the first line at fault
-- with its first fault
abbrev pub patterns_in : NetParts → List ℕ → List (List ℕ) → Result (List PatternParts) (ℕ × PatternKind)
patterns_in net document later = read_from net.version net.clients (first_number document) nothing later

-- THE NET AND THE PATTERNS OF AN INPUT
pub record IsWatchOf (bytes : List ℕ) (net : NetParts) (patterns : List PatternParts) : Type 0 where
  pub document : List ℕ
  pub later : List (List ℕ)
  pub parted : IsParted bytes document later
  pub well_formed : IsNetOf document net
  pub read : patterns_in net document later ≡ Ok patterns

-- the document part is refused at this line, with this fault
pub record IsBadDocument (bytes : List ℕ) (line : ℕ) (kind : Fault) : Type 0 where
  pub document : List ℕ
  pub later : List (List ℕ)
  pub parted : IsParted bytes document later
  pub bad : IsBadAt document line kind

-- the document part has a net, and of the lines behind it, or the end, this is the first at fault, with its first fault
pub record IsBadPattern (bytes : List ℕ) (line : ℕ) (kind : PatternKind) : Type 0 where
  pub document : List ℕ
  pub later : List (List ℕ)
  pub parted : IsParted bytes document later
  pub net : NetParts
  pub well_formed : IsNetOf document net
  pub bad : patterns_in net document later ≡ Err (line, kind)

-- a pattern of a client of the net, with 2 to 8 steps
pub record IsSoundPattern (clients : ℕ) (p : PatternParts) : Type 0 where
  pub numbered : 1 ≤ p.client
  pub client : p.client ≤ clients
  pub some : 2 ≤ length p.steps
  pub few : length p.steps ≤ 8
