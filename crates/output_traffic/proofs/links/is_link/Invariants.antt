use Rattle.std.proofs.Common.{◌≡◌, drop}
use Rattle.output_traffic.specs.Links.{is_link}
use Rattle.output_traffic.proofs.links.is_link.Given as goal

-- one of all trees has it where one of those that are left does
abbrev pub invariant-loop-tree : goal.invariant-loop-tree
invariant-loop-tree l = is_link (drop l.tree-index l.trees) l.a l.b ≡ is_link l.trees l.a l.b
