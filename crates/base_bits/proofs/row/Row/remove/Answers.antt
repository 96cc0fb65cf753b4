use Rattle.std.proofs.Common.{ap, ◌∙◌, arith}
use Rattle.std.proofs.lemmas.List.{with_items_is}
use Rattle.base_bits.specs.Words.{members_of}
use Rattle.base_bits.proofs.Rows.{take-members, has-is_in}
use Rattle.base_bits.proofs.row.Row.remove.Goals as goal

pub returns-clause-had : goal.returns-clause-had
returns-clause-had c = rw c.deref.ensures.value at c.has-had.ensures ∙ has-is_in (record { kept = c.self.invariant; view = c.self.view_is }) c.args.i

pub returns-clause-members : goal.returns-clause-members
returns-clause-members c =
    ap (λ z. members_of z c.self.inside.width) (with_items_is c.self.inside.words c.take.new.words (omega arith))
    ∙ take-members (record { kept = c.self.invariant; view = c.self.view_is }) c.take.new.words c.args.i c.take.ensures.gone
    (λ k n. rw c.deref_mut.ensures.value at c.take.ensures.others k n)
