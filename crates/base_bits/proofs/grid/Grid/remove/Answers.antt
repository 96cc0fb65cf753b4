use Rattle.std.proofs.Common.{length, ap, sym, subst, ◌∙◌, arith}
use Rattle.std.proofs.lemmas.List.{with_items_is}
use Rattle.base_bits.specs.Words.{bit}
use Rattle.base_bits.specs.Grid.{each_below, row_at, IsGrid}
use Rattle.base_bits.proofs.Grids.{count-eq, spot-inside, spot-is_in, rows-take, grid-still}
use Rattle.base_bits.proofs.grid.Grid.remove.Goals as goal

pub place-at-requires : goal.place-at-requires
place-at-requires c = omega (arith, c.requires.row, count-eq (record { kept = c.self.invariant; view = c.self.view_is }))

pub has-had-requires : goal.has-had-requires
has-had-requires c =
    let l = spot-inside (record { kept = c.self.invariant; view = c.self.view_is }) c.args.row c.args.i c.requires.row c.requires.number in
    omega (arith, l, c.place-at.ensures, ap length c.deref.ensures.value)

pub take-requires : goal.take-requires
take-requires c =
    let l = spot-inside (record { kept = c.self.invariant; view = c.self.view_is }) c.args.row c.args.i c.requires.row c.requires.number in
    omega (arith, l, c.place-at.ensures, ap length c.deref_mut.ensures.value)

pub invariant_of-self : goal.invariant_of-self
invariant_of-self c =
    subst (λ z. IsGrid z c.self.inside.span c.self.inside.count c.self.inside.width) (sym (with_items_is c.self.inside.words c.take.new.words (omega arith)))
    (grid-still (record { kept = c.self.invariant; view = c.self.view_is }) c.args.row c.args.i c.requires.row c.requires.number c.take.new.words
    (λ k n. rw c.deref_mut.ensures.value at c.take.ensures.others k (λ q. n (q ∙ c.place-at.ensures))) (omega (arith, ap length c.deref_mut.ensures.value)))

pub returns-clause-had : goal.returns-clause-had
returns-clause-had c =
    rw (c.deref.ensures.value, c.place-at.ensures) at c.has-had.ensures ∙ spot-is_in (record { kept = c.self.invariant; view = c.self.view_is }) c.args.row c.args.i c.requires.row c.requires.number

pub returns-clause-rows : goal.returns-clause-rows
returns-clause-rows c =
    ap (λ z. each_below (row_at z c.self.inside.count c.self.inside.width) c.self.inside.count) (with_items_is c.self.inside.words c.take.new.words (omega arith))
    ∙ rows-take (record { kept = c.self.invariant; view = c.self.view_is }) c.args.row c.args.i c.requires.row c.requires.number c.take.new.words
    (λ k n. rw c.deref_mut.ensures.value at c.take.ensures.others k (λ q. n (q ∙ c.place-at.ensures))) (ap (bit c.take.new.words) (sym c.place-at.ensures) ∙ c.take.ensures.gone)
