use Rattle.base_bits.proofs.Rows.{is-set}
use Rattle.base_bits.proofs.row.Row.lemma_sorted.Goals as goal

pub returns : goal.returns
returns c = is-set (record { kept = c.self.invariant; view = c.self.view_is })
