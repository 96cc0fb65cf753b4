use Rattle.std.proofs.Common.{take}
use Rattle.document_reader.specs.Net.{AreTreesOf}
use Rattle.document_reader.proofs.trees.trees_of.Given as goal

abbrev pub invariant-loop-block : goal.invariant-loop-block
invariant-loop-block l = AreTreesOf l.servers (take l.block-index l.blocks) l.trees.items
