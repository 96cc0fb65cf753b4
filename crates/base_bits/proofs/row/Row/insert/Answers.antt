use Rattle.std.proofs.Common.{ap, ◌∙◌, arith}
use Rattle.std.proofs.lemmas.List.{with_items_is}
use Rattle.base_bits.specs.Words.{members_of}
use Rattle.base_bits.proofs.Rows.{put-members, has-is_in}
use Rattle.std.proofs.Common.{not}
use Rattle.base_bits.proofs.row.Row.insert.Goals as goal

pub returns-clause-fresh : goal.returns-clause-fresh
returns-clause-fresh c = ap not (rw c.deref.ensures.value at c.has-had.ensures ∙ has-is_in (record { kept = c.self.invariant; view = c.self.view_is }) c.args.i)

pub returns-clause-members : goal.returns-clause-members
returns-clause-members c =
    ap (λ z. members_of z c.self.inside.width) (with_items_is c.self.inside.words c.put.new.words (omega arith))
    ∙ put-members (record { kept = c.self.invariant; view = c.self.view_is }) c.put.new.words c.args.i c.requires c.put.ensures.there
    (λ k n. rw c.deref_mut.ensures.value at c.put.ensures.others k n)
