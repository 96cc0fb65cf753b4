use Rattle.std.proofs.Common.{arith, w64}
use Rattle.std.proofs.lemmas.Nat.Bits.{bit_at-lt, bit_at_not}
use Rattle.match_cells.proofs.counts.Counts.same.Goals as goal

pub returns : goal.returns
returns c q l =
    let n = bit_at_not w64 c.differ.result q (omega (arith, c.differ.type_inv)) l in
    (λ z. (c.differ.ensures q).0 (omega (arith, n, z, bit_at-lt c.differ.result q)), λ z. omega (arith, n, (c.differ.ensures q).1 z))
