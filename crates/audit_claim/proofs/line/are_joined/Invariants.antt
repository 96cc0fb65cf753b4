use Rattle.std.proofs.Common.{◌≡◌, drop}
use Rattle.std.specs.List.{list_any}
use Rattle.audit_claim.specs.Trace.{joins}
use Rattle.audit_claim.proofs.line.are_joined.Given as goal

abbrev pub invariant-loop-tree : goal.invariant-loop-tree
invariant-loop-tree l = list_any (joins l.a l.b) (drop l.tree-index l.net.trees) ≡ list_any (joins l.a l.b) l.net.trees
