use Rattle.std.proofs.Common.{subst}
use Rattle.base_bits.specs.Rows.{IsSet}
use Rattle.base_bits.proofs.SetViews.{set-by}
use Rattle.base_bits.proofs.set.Set.lemma_sorted.Goals as goal

pub returns : goal.returns
returns c = subst IsSet c.self.view_is (set-by c.self.inside.list.now c.self.inside.words.now c.self.inside.width c.self.invariant)
