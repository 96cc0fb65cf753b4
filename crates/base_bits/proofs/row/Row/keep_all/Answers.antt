use Rattle.std.proofs.Common.{ap, ◌∙◌, arith}
use Rattle.std.proofs.lemmas.List.{with_items_is}
use Rattle.base_bits.specs.Words.{members_of}
use Rattle.base_bits.proofs.Rows.{common-members}
use Rattle.base_bits.proofs.row.Row.keep_all.Goals as goal

pub returns-clause-members : goal.returns-clause-members
returns-clause-members c =
    ap (λ z. members_of z c.self.inside.width) (with_items_is c.self.inside.words c.keep_all.new.into (omega arith))
    ∙ common-members (record { kept = c.self.invariant; view = c.self.view_is }) (record { kept = c.other.invariant; view = c.other.view_is }) c.requires c.keep_all.new.into
    (λ k. rw (c.deref_mut.ensures.value, c.deref.ensures.value) at c.keep_all.ensures.bits k)
