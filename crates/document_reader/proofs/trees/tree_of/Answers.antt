use Rattle.document_reader.proofs.Faultless.{only_memory}
use Rattle.document_reader.proofs.trees.tree_of.Goals as goal

pub only_memory-requires : goal.only_memory-requires
only_memory-requires c =
    only_memory c.args.servers c.args.edges.now c.build.result c.in-Err.fault c.requires.count c.requires.tree (record {
      few = c.build.ensures.too_few.0;
      many = c.build.ensures.too_many.0;
      twice = λ i. (c.build.ensures.twice i).0;
      loops = λ i. (c.build.ensures.loops i).0;
      apart = λ s. (c.build.ensures.apart s).0;
    }) c.in-Err.is
