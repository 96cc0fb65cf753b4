use Rattle.std.proofs.Common.{◌∙◌}
use Rattle.base_bits.proofs.Rows.{has-is_in}
use Rattle.base_bits.proofs.row.Row.has.Goals as goal

pub returns : goal.returns
returns c = rw c.deref.ensures.value at c.has.ensures ∙ has-is_in (record { kept = c.self.invariant; view = c.self.view_is }) c.args.i
