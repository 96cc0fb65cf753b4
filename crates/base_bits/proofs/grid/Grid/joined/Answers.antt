use Rattle.std.proofs.Common.{ap, arith}
use Rattle.base_bits.specs.Grid.{Table}
use Rattle.base_bits.proofs.Grids.{count-eq, joined-within, joined-members}
use Rattle.base_bits.proofs.grid.Grid.joined.Goals as goal

pub joined_bits-requires-clause-numbers : goal.joined_bits-requires-clause-numbers
joined_bits-requires-clause-numbers c = omega (arith, c.requires.numbers, count-eq (record { kept = c.self.invariant; view = c.self.view_is }))

pub returns-clause-within : goal.returns-clause-within
returns-clause-within c i h =
    let l = joined-within (record { kept = c.self.invariant; view = c.self.view_is }) c.args.others.now.members c.lemma_sorted.ensures c.requires.numbers _ (rw c.deref.ensures.value at c.in_ok-list.ensures.exact) i h in
    omega (arith, l, ap (λ (t : Table). t.width) c.self.view_is)

pub returns-clause-members : goal.returns-clause-members
returns-clause-members c =
    joined-members (record { kept = c.self.invariant; view = c.self.view_is }) c.args.others.now.members c.lemma_sorted.ensures c.requires.numbers _ (rw c.deref.ensures.value at c.in_ok-list.ensures.exact)
