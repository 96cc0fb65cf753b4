use Rattle.std.proofs.Common.{◌≡◌, take}
use Rattle.base_tree.specs.Labels.{AreLabelsOf}
use Rattle.base_tree.proofs.labels.labels_of.Given as goal

abbrev pub invariant-loop-i : goal.invariant-loop-i
invariant-loop-i l = (l.labels.count ≡ l.fn.n) × AreLabelsOf (take l.i l.edges) l.labels
