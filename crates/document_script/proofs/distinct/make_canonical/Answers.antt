use Rattle.filter_types.proofs.CanonicalLaws.{settled}
use Rattle.document_script.proofs.distinct.make_canonical.Goals as goal

pub returns : goal.returns
returns c = settled _ _ _ c.sort_unstable.ensures.permutation c.sort_unstable.ensures.sorted c.drop_repeats.ensures
