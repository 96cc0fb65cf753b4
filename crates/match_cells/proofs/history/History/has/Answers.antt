use Rattle.std.proofs.Common.{ap, length, arith}
use Rattle.match_cells.specs.Changes.{Past}
use Rattle.match_cells.proofs.Kept.{length-now}
use Rattle.match_cells.proofs.history.History.has.Goals as goal

pub has-requires : goal.has-requires
has-requires c = omega (arith, c.requires, length-now c.self.invariant, c.self.invariant.wide, ap (λ (z : Past). length z.first) c.self.view_is, ap length c.deref.ensures.value)
