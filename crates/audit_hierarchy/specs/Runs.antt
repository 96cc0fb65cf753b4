-- Defines what the runs of hierarchies are, as a kind of network.
use Rattle.hierarchy_turns.specs.Network.{IsDrainedBy, IsLegal, received_by, refused_by}
use Rattle.hierarchy_turns.specs.Told.{told_by}
use Rattle.hierarchy_turns.specs.Turns.{IsBarred, IsEntryOf}
use Rattle.audit_verdict.specs.Kinds.{RunKind}

-- those of the networks of hierarchies
abbrev pub hierarchies : RunKind
hierarchies = record {
  IsLegal = IsLegal;
  IsDrainedBy = IsDrainedBy;
  IsEntryOf = IsEntryOf;
  IsBarred = IsBarred;
  received_by = received_by;
  refused_by = refused_by;
  told_by = told_by;
}
