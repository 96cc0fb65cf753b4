use Rattle.document_reader.proofs.Drawing.{nothing_drawn}
use Rattle.document_reader.proofs.trees.Trees.new.Goals as goal

pub invariant_of-result : goal.invariant_of-result
invariant_of-result c = rw (c.new.ensures.items, c.new-2.ensures.items) (nothing_drawn c.args.servers c.new-3.result c.new-4.result c.requires c.new-3.ensures.count c.new-3.ensures.none c.new-4.ensures)
